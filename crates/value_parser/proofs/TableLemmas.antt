-- Tables of the code, looked through row by row.
use Rattle.std.proofs.Common.{◌≡◌, ℕ, ◌+◌, ◌<◌, ◌≤◌, List, Bool, if◌then◌else◌, true, Option, Some, None, find, length, map, get_or, drop, slice_get, option_map, refl, sym, ap, ◌∙◌, arith}
use Rattle.std.specs.List.{list_all}
use Rattle.std.proofs.lemmas.List.{length-map, at_drop_all}
use Rattle.std.proofs.lemmas.List.Elements.{All-get_or}
use Rattle.std.proofs.lemmas.List.Sums.{AllPass-from_list_all}
use Rattle.std.proofs.lemmas.Option.{slice_get-map, slice_get-get_or}
use Rattle.base_model.specs.Lists.{first_some}
use Rattle.base_model.specs.Text.{Characters, same_text, ascii_lower, is_word}
use Rattle.value_model.specs.Color.{NamedColor, named_colors}
use Rattle.sheet_model.specs.ValueIn.{LengthUnit, units}
use Rattle.property_table.proofs.RowLemmas.{drop_at, alike_at}

-- what passes for all of a list passes for the item at an index
pub passes_at : {X : Type 0} (passes : X → Bool) (xs : List X) (i : ℕ) (d : X) → i < length xs → list_all passes xs ≡ true → passes (get_or xs i d) ≡ true
passes_at passes xs i d lt h =
    All-get_or (λ x. passes x ≡ true) xs i d lt (AllPass-from_list_all passes xs h)

-- what a list gives at an index, as its image
image_at : {X Y : Type 0} (f : X → Y) (xs : List X) (i : ℕ) (d : X) → i < length xs → slice_get (map f xs) i ≡ Some (f (get_or xs i d))
image_at f xs i d lt = slice_get-map f xs i ∙ ap (option_map f) (slice_get-get_or xs i d lt)

-- the first answer from an index on
module _ {X Y Z : Type 0} (seen : X → Y) (answer : Y → Option Z) (xs : List X) where
  abbrev pub answer_from : ℕ → Option Z
  answer_from i = first_some answer (drop i (map seen xs))

  answer_next : (i : ℕ) (d : X) (found : Option Z) → i < length xs → found ≡ answer (seen (get_or xs i d)) → answer_from i ≡ (elim found [ Some z ↦ Some z | None ↦ answer_from (i + 1) ])
  answer_next i d found lt is =
      ap (first_some answer) (drop_at (map seen xs) i (seen (get_or xs i d)) (image_at seen xs i d lt))
      ∙ ap (λ o. elim o [ Some z ↦ Some z | None ↦ answer_from (i + 1) ]) (sym is)

  pub answer_here : (i : ℕ) (d : X) (found : Option Z) (z : Z) → i < length xs → found ≡ answer (seen (get_or xs i d)) → found ≡ Some z → answer_from i ≡ Some z
  answer_here i d found z lt is there =
      answer_next i d found lt is ∙ ap (λ o. elim o [ Some z ↦ Some z | None ↦ answer_from (i + 1) ]) there

  pub answer_later : (i : ℕ) (d : X) (found : Option Z) → i < length xs → found ≡ answer (seen (get_or xs i d)) → found ≡ None → answer_from i ≡ answer_from (i + 1)
  answer_later i d found lt is none =
      answer_next i d found lt is ∙ ap (λ o. elim o [ Some z ↦ Some z | None ↦ answer_from (i + 1) ]) none

  pub no_answer : (i : ℕ) → length xs ≤ i → answer_from i ≡ None
  no_answer i past = at_drop_all (first_some answer) (map seen xs) i (omega (arith, length-map xs seen))

-- the row of that name among those of a table from an index on
abbrev pub named_from : {Y : Type 0} → (Y → Characters) → List Y → Characters → ℕ → Option Y
named_from name_of table text i = find (λ row. is_word (name_of row) text) (drop i table)

-- rows of the code for those of a table, whose names are in lower case
module _ {X Y : Type 0} (seen : X → Y) (name_of : Y → Characters) (table : List Y) (lower : map (λ row. ascii_lower (name_of row)) table ≡ map name_of table) where
  abbrev lower_name_of : Y → Characters
  lower_name_of row = ascii_lower (name_of row)

  abbrev is_named : Characters → Y → Bool
  is_named text row = is_word (name_of row) text

  -- the row at an index has the name, or a later one has
  pub named_row : (rows : List X) (text : Characters) (i : ℕ) (d : X) (test : Bool) → map seen rows ≡ table → i < length rows → test ≡ same_text (ascii_lower text) (ascii_lower (name_of (seen (get_or rows i d)))) → named_from name_of table text i ≡ (if test then Some (seen (get_or rows i d)) else named_from name_of table text (i + 1))
  named_row rows text i d test h lt is =
      let row : Y = seen (get_or rows i d) in
      let at : slice_get table i ≡ Some row = ap (λ l. slice_get l i) (sym h) ∙ image_at seen rows i d lt in
      let same : is_named text row ≡ test = ap (same_text (ascii_lower text)) (sym (alike_at lower_name_of name_of table i row lower at)) ∙ sym is in
      ap (find (is_named text)) (drop_at table i row at)
      ∙ ap (λ b. if b then Some row else named_from name_of table text (i + 1)) same

  pub named_end : (rows : List X) (text : Characters) (i : ℕ) → map seen rows ≡ table → length rows ≤ i → named_from name_of table text i ≡ None
  named_end rows text i h past =
      at_drop_all (find (is_named text)) table i (omega (arith, length-map rows seen, ap length h))

abbrev pub color_name : NamedColor → Characters
color_name row = row.name

abbrev pub unit_name : LengthUnit → Characters
unit_name unit = unit.name

-- the names of colours and units are in lower case

pub colors_lower : map (λ row. ascii_lower (color_name row)) named_colors ≡ map color_name named_colors
unfolding named_colors
colors_lower = refl

pub units_lower : map (λ unit. ascii_lower (unit_name unit)) units ≡ map unit_name units
unfolding units
units_lower = refl
