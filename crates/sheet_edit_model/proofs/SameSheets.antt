-- For is_marked_by_sheets: sheets that test equal are, and an edit that leaves them as they are marks nothing.
use Rattle.std.proofs.Common.{◌≡◌, ℕ, ◌==◌, true, false, not, ◌&&◌, List, [], ◌∷◌, refl, ap, ◌∙◌}
use Rattle.std.specs.Bool.{beq}
use Rattle.std.specs.Cmp.{booleans_Decides}
use Rattle.std.proofs.lemmas.Bool.{and_parts, eqb-true, eq-eqb, false≢true, and_from, and_right, and_left}
use Rattle.std.proofs.lemmas.Slice.Eq.{bytes_eq-Decides}
use Rattle.base_model.specs.Origin.{origin_rank}
use Rattle.base_model.specs.Sheet.{Sheet}
use Rattle.base_model.specs.Text.{same_text}
use Rattle.base_model.proofs.Origins.{rank-exact}
use Rattle.scene_model.specs.Element.{Element}
use Rattle.scene_model.specs.Lookups.{is_element}
use Rattle.sheet_edit_model.specs.SheetMarks.{same_sheet, same_sheets, is_marked_by_sheets}

same_sheet-true : (a b : Sheet) → same_sheet a b ≡ true → a ≡ b
same_sheet-true a b h =
    let parts = and_parts ((a.number == b.number) && (origin_rank a.origin == origin_rank b.origin)) _ h in
    let first = and_parts (a.number == b.number) _ parts.0 in
    let rest = and_parts (beq a.enabled b.enabled) _ parts.1 in
    let last = and_parts (same_text a.text b.text) (a.edition == b.edition) rest.1 in
    ap (λ n. record a { number = n }) (eqb-true a.number b.number first.0)
    ∙ (ap (λ o. record a { number = b.number; origin = o }) (rank-exact a.origin b.origin (eqb-true (origin_rank a.origin) (origin_rank b.origin) first.1))
    ∙ (ap (λ e. record b { enabled = e; text = a.text; edition = a.edition }) ((booleans_Decides a.enabled b.enabled).0 rest.0)
    ∙ (ap (λ t. record b { text = t; edition = a.edition }) ((bytes_eq-Decides a.text b.text).0 last.0)
    ∙ ap (λ n. record b { edition = n }) (eqb-true a.edition b.edition last.1))))

pub same_sheets-true : (as_ bs : List Sheet) → same_sheets as_ bs ≡ true → as_ ≡ bs
same_sheets-true [] [] h = refl
same_sheets-true [] (b ∷ bs) h = absurd (false≢true h)
same_sheets-true (a ∷ as_) [] h = absurd (false≢true h)
same_sheets-true (a ∷ as_) (b ∷ bs) h =
    let parts = and_parts (same_sheet a b) (same_sheets as_ bs) h in
    ap (λ s. s ∷ as_) (same_sheet-true a b parts.0) ∙ ap (λ l. b ∷ l) (same_sheets-true as_ bs parts.1)

-- and equal sheets test equal, so an edit that leaves them as they are marks nothing

same_sheet-itself : (a : Sheet) → same_sheet a a ≡ true
same_sheet-itself a =
    and_from ((a.number == a.number) && (origin_rank a.origin == origin_rank a.origin)) _ (and_from (a.number == a.number) (origin_rank a.origin == origin_rank a.origin) (eq-eqb a.number a.number refl) (eq-eqb (origin_rank a.origin) (origin_rank a.origin) refl))
    (and_from (beq a.enabled a.enabled) _ ((booleans_Decides a.enabled a.enabled).1 refl)
    (and_from (same_text a.text a.text) (a.edition == a.edition) ((bytes_eq-Decides a.text a.text).1 refl) (eq-eqb a.edition a.edition refl)))

same_sheets-itself : (sheets : List Sheet) → same_sheets sheets sheets ≡ true
same_sheets-itself [] = refl
same_sheets-itself (a ∷ sheets) =
    and_from (same_sheet a a) (same_sheets sheets sheets) (same_sheet-itself a) (same_sheets-itself sheets)

pub sheets_mark_nothing : (doc : List Element) (sheets : List Sheet) (n x : ℕ) → is_marked_by_sheets doc sheets sheets n x ≡ false
sheets_mark_nothing doc sheets n x =
    and_right (is_element doc x) _ (and_left (not (same_sheets sheets sheets)) _ (ap not (same_sheets-itself sheets)))
