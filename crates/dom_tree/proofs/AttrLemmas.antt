-- The rows of the attributes of a node: what one more makes of them, and of the map that they stand for.
use Rattle.std.proofs.Common.{◌≡◌, ◌≢◌, ℕ, ◌+◌, ◌<◌, ◌≤◌, ◌==◌, ◌&&◌, ◌||◌, not, Bool, true, false, cond, nat_lt, refl, sym, ap, ◌∙◌, subst, arith, inl, inr}
use Rattle.std.proofs.Common.{List, [], ◌∷◌, ◌++◌, map, length, find, drop, get_or, Option, Some, None, IfSome, option_map, is_some, slice_get}
use Rattle.std.specs.Cmp.Lexicographic.{slice_cmp}
use Rattle.std.specs.FinMap as finmap
use Rattle.std.specs.Bool.{Decides}
use Rattle.std.specs.List.{AllByRecursion, list_all, list_any, IsDistinct}
use Rattle.std.specs.Ordering.{nat_cmp, eq_by_cmp, is_eq}
use Rattle.std.specs.declared.cmp.Ordering.{Ordering}
use Rattle.std.specs.declared.cmp.Ordering.TheVariants.{Less, Equal, Greater}
use Rattle.std.proofs.lemmas.Bool.{and_from, and_parts, false≢true, false_from_ne_true, not-false, not-true, cond-false, cond_both, eqb-true, ltb-true, ltb-false, eqb-false, eq-eqb, cases_lt}
use Rattle.std.proofs.lemmas.Cmp.{nat_list_cmp_total}
use Rattle.std.proofs.lemmas.List.{map-append}
use Rattle.std.proofs.lemmas.Option.{none-some, slice_get_within, get_or_from_slice_get, same_Some}
use Rattle.base_model.specs.Text.{same_text}
use Rattle.stylo_base.specs.NameList.{StandOnce, is_among}
use Rattle.stylo_base.proofs.NameLemmas.{is_among-Decides}
use Rattle.scene_model.specs.Element.{Characters, Attributes}
use Rattle.scene_model.proofs.Found.{found_any}
use Rattle.scene_model.proofs.Lists.{each_weaker, each-filter}
use Rattle.dom_tree.specs.declared.node_columns.AttrRow.{AttrRow}
use Rattle.dom_tree.specs.ElementNames.{AreNamesOf}
use Rattle.dom_tree.specs.Kept.{text_of, named_pair, named_attributes, name_text, put_row, without_row, AreAttrs, HaveNames, KeepsTexts, IsNamed}
use Rattle.dom_tree.proofs.NameLemmas.{tied, tied-Decides, tied_turned, text_at, same_name, same_names, below_more_names, still_named, text_kept, text_is, KeepsTexts-more}
use Rattle.dom_tree.proofs.Places.{rest_at}

abbrev ties : Characters → Characters → Bool
ties q text = eq_by_cmp (slice_cmp nat_cmp) q text

-- the value of a text among rows
abbrev pub found : List Characters → Characters → List AttrRow → Option Characters
found names q rows = finmap.find (slice_cmp nat_cmp) q (map (named_pair names) rows)

-- the value of a name, by its number
abbrev pub value_at : ℕ → List AttrRow → Option ℕ
value_at name rows = option_map (λ row. row.value) (find (λ row. row.name == name) rows)

-- a name is before those of all rows
abbrev Before : ℕ → List AttrRow → Type 0
Before name rows = AllByRecursion (λ row. name < row.name) rows

lower : (a b : ℕ) (rows : List AttrRow) → a ≤ b → Before b rows → Before a rows
lower a b rows l each = each_weaker (λ (row : AttrRow). b < row.name) (λ row. a < row.name) (λ row h. omega arith) rows each

-- maps are equal where each text has the same value in both
same_attributes : (m n : Attributes) → ((q : Characters) → finmap.get m q ≡ finmap.get n q) → m ≡ n
same_attributes m n same =
    finmap.same_map nat_list_cmp_total (finmap.slice_cmp-IsAntisymmetric finmap.nat_cmp-IsAntisymmetric) m n same

pub found_is : (names : List Characters) (q : Characters) (rows : List AttrRow) → finmap.get (named_attributes names rows) q ≡ found names q rows
found_is names q rows = finmap.get-from_entries nat_list_cmp_total (map (named_pair names) rows) q

-- other rows: where a name is given a value or left out

swapped : {X : Type 0} (a b : Bool) (x y z : X) → (a ≡ true → b ≡ true → ⊥) → cond a x (cond b y z) ≡ cond b y (cond a x z)
swapped true true x y z apart = absurd (apart refl refl)
swapped true false x y z apart = refl
swapped false b x y z apart = refl

hidden : {X : Type 0} (b : Bool) (x y z : X) → cond b x z ≡ cond b x (cond b y z)
hidden true x y z = refl
hidden false x y z = refl

module _ (names : List Characters) (once : StandOnce names) (name : ℕ) (l : name < length names) where
  module _ (q : Characters) where
    -- the text finds o under the name, and else what it found before
    abbrev Finds : Option Characters → List AttrRow → List AttrRow → Type 0
    Finds o rows later = found names q later ≡ cond (ties q (text_of names name)) o (found names q rows)

    past : (o : Option Characters) (row : AttrRow) (rows later : List AttrRow) → row.name < length names → row.name ≢ name → Finds o rows later → Finds o (row ∷ rows) (row ∷ later)
    past o row rows later m other finds =
        ap (cond (ties q (text_of names row.name)) (Some (text_of names row.value))) finds
        ∙ swapped (ties q (text_of names row.name)) (ties q (text_of names name)) _ o _
        (λ e f. other (same_name names row.name name once m l (sym ((tied-Decides q (text_of names row.name)).0 e) ∙ (tied-Decides q (text_of names name)).0 f)))

    instead : (o : Option Characters) (row : AttrRow) (rows later : List AttrRow) → row.name ≡ name → Finds o rows later → Finds o (row ∷ rows) later
    instead o row rows later same finds =
        finds ∙ (hidden (ties q (text_of names name)) o (Some (text_of names row.value)) (found names q rows)
        ∙ ap (λ n. cond (ties q (text_of names name)) o (cond (ties q (text_of names n)) (Some (text_of names row.value)) (found names q rows))) (sym same))

    put_found : (value : ℕ) (rows : List AttrRow) → AreAttrs names rows → Finds (Some (text_of names value)) rows (put_row name value rows)
    put_found value [] are = refl
    put_found value (row ∷ rows) are =
        let P = Finds (Some (text_of names value)) (row ∷ rows) in
        cond_both (nat_lt row.name name) _ _ P (λ below. past _ row rows _ are.0.0 (λ e. omega (arith, ltb-true row.name name below)) (put_found value rows are.2))
        (λ _. cond_both (row.name == name) _ _ P (λ same. instead _ row rows (record { name = name; value = value } ∷ rows) (eqb-true row.name name same) refl) (λ _. refl))

    out_found : (rows : List AttrRow) → AreAttrs names rows → Finds None rows (without_row name rows)
    out_found [] are = cond_both (ties q (text_of names name)) None None (λ o. None ≡ o) (λ _. refl) (λ _. refl)
    out_found (row ∷ rows) are =
        cond_both (not (row.name == name)) _ _ (Finds None (row ∷ rows))
        (λ other. past _ row rows _ are.0.0 (eqb-false row.name name (not-true _ other)) (out_found rows are.2))
        (λ same. instead _ row rows _ (eqb-true row.name name (not-false _ same)) (out_found rows are.2))

  changed : (o : Option Characters) (rows later : List AttrRow) (m : Attributes) → ((q : Characters) → Finds q o rows later)
      → ((q : Characters) → finmap.get m q ≡ cond (ties q (text_of names name)) o (finmap.get (named_attributes names rows) q)) → named_attributes names later ≡ m
  changed o rows later m finds is = same_attributes _ m
      (λ q. found_is names q later ∙ (finds q ∙ sym (is q ∙ ap (cond (ties q (text_of names name)) o) (found_is names q rows))))

  pub named_put : (value : ℕ) (rows : List AttrRow) → AreAttrs names rows
      → named_attributes names (put_row name value rows) ≡ finmap.insert (named_attributes names rows) (text_of names name) (text_of names value)
  named_put value rows are =
      changed _ rows _ _ (λ q. put_found q value rows are) (finmap.get-insert nat_list_cmp_total (named_attributes names rows) (text_of names name) (text_of names value))

  pub named_out : (rows : List AttrRow) → AreAttrs names rows → named_attributes names (without_row name rows) ≡ finmap.remove (named_attributes names rows) (text_of names name)
  named_out rows are =
      changed _ rows _ _ (λ q. out_found q rows are) (finmap.get-remove nat_list_cmp_total (named_attributes names rows) (text_of names name))

-- the rows stay sorted

before_put : (low name value : ℕ) (rows : List AttrRow) → low < name → Before low rows → Before low (put_row name value rows)
before_put low name value [] l each = (l, tt)
before_put low name value (row ∷ rows) l each =
    cond_both (nat_lt row.name name) _ _ (Before low) (λ _. (each.0, before_put low name value rows l each.1))
    (λ _. cond_both (row.name == name) _ _ (Before low) (λ _. (l, each.1)) (λ _. (l, each)))

pub AreAttrs-put : (names : List Characters) (name value : ℕ) (rows : List AttrRow) → name < length names → value < length names → AreAttrs names rows → AreAttrs names (put_row name value rows)
AreAttrs-put names name value [] l m are = ((l, m), tt, tt)
AreAttrs-put names name value (row ∷ rows) l m are =
    cond_both (nat_lt row.name name) _ _ (AreAttrs names)
    (λ below. (are.0, before_put row.name name value rows (ltb-true row.name name below) are.1, AreAttrs-put names name value rows l m are.2))
    (λ above. cond_both (row.name == name) _ _ (AreAttrs names) (λ same. ((l, m), subst (λ n. Before n rows) (eqb-true row.name name same) are.1, are.2))
    (λ other. (let less : name < row.name = omega (arith, ltb-false row.name name above, eqb-false row.name name other) in
    ((l, m), (less, lower name row.name rows (omega (arith, less)) are.1), are))))

pub AreAttrs-out : (names : List Characters) (name : ℕ) (rows : List AttrRow) → AreAttrs names rows → AreAttrs names (without_row name rows)
AreAttrs-out names name [] are = tt
AreAttrs-out names name (row ∷ rows) are =
    let above = each-filter (λ (r : AttrRow). row.name < r.name) (λ r. row.name < r.name) (λ r. not (r.name == name)) (λ r _ h. h) rows are.1 in
    cond_both (not (row.name == name)) _ _ (AreAttrs names) (λ _. (are.0, above, AreAttrs-out names name rows are.2)) (λ _. AreAttrs-out names name rows are.2)

-- a name that a map does not have
pub remove_absent : (attrs : Attributes) (name : Characters) → finmap.get attrs name ≡ None → finmap.remove attrs name ≡ attrs
remove_absent attrs name absent = same_attributes _ attrs (λ q. finmap.get-remove nat_list_cmp_total attrs name q
    ∙ cond_both (ties q name) None (finmap.get attrs q) (λ o. o ≡ finmap.get attrs q) (λ e. sym (ap (finmap.get attrs) ((tied-Decides q name).0 e) ∙ absent)) (λ _. refl))

-- more names

pub AreAttrs-more : (old new : List Characters) (rows : List AttrRow) → KeepsTexts old new → AreAttrs old rows → AreAttrs new rows
AreAttrs-more old new [] kept are = tt
AreAttrs-more old new (row ∷ rows) kept are =
    ((below_more_names old new row.name kept are.0.0, below_more_names old new row.value kept are.0.1), are.1, AreAttrs-more old new rows kept are.2)

pub attributes_kept : (old new : List Characters) (rows : List AttrRow) → KeepsTexts old new → AreAttrs old rows → named_attributes new rows ≡ named_attributes old rows
attributes_kept old new rows kept are = ap (λ pairs. finmap.from_entries pairs) (pairs_kept rows are)
  where
    pairs_kept : (rows : List AttrRow) → AreAttrs old rows → map (named_pair new) rows ≡ map (named_pair old) rows
    pairs_kept [] are = refl
    pairs_kept (row ∷ rows) are = λ i. (text_kept old new row.name kept are.0.0 i, text_kept old new row.value kept are.0.1 i) ∷ pairs_kept rows are.2 i

-- a list of attributes that is read from its end

abbrev over : List (Characters × Characters) → Attributes → Attributes
over [] found = found
over (pair ∷ pairs) found = finmap.insert (over pairs found) pair.0 pair.1

over-empty : (pairs : List (Characters × Characters)) → over pairs finmap.empty ≡ finmap.from_entries pairs
over-empty [] = refl
over-empty (pair ∷ pairs) = ap (λ m. finmap.insert m pair.0 pair.1) (over-empty pairs)

over-last : (pairs : List (Characters × Characters)) (pair : Characters × Characters) (found : Attributes) → over (pairs ++ pair ∷ []) found ≡ over pairs (finmap.insert found pair.0 pair.1)
over-last [] pair found = refl
over-last (first ∷ pairs) pair found = ap (λ m. finmap.insert m first.0 first.1) (over-last pairs pair found)

-- what holds of each of a list holds of each before the last
pub each_front : {X : Type 0} (P : X → Type 0) (xs : List X) (x : X) → AllByRecursion P (xs ++ x ∷ []) → AllByRecursion P xs
each_front P [] x h = tt
each_front P (y ∷ ys) x h = (h.0, each_front P ys x h.1)

-- the rows of the attributes so far, and those that are left
pub record AreRowsSoFar {X : Type 0} (pair : X → Characters × Characters) (attrs : List X) (first : List Characters) (rest : List X) (names : List Characters) (rows : List AttrRow)
    : Type 0 where
  pub whole : over (map pair rest) (named_attributes names rows) ≡ finmap.from_entries (map pair attrs)
  pub are : AreAttrs names rows
  pub kept : KeepsTexts first names

-- no rows yet, and all attributes ahead
pub no_rows : {X : Type 0} {pair : X → Characters × Characters} {attrs rest : List X} {names : List Characters} {rows : List AttrRow} → rows ≡ [] → rest ≡ attrs
    → AreRowsSoFar pair attrs names rest names rows
no_rows {pair = pair} {rest = rest} {names = names} e f = record {
  whole = ap (λ l. over (map pair rest) (named_attributes names l)) e ∙ (over-empty (map pair rest) ∙ ap (λ l. finmap.from_entries (map pair l)) f);
  are = subst (AreAttrs names) (sym e) tt;
  kept = λ name l. refl;
}

-- the rows after one more attribute, whose name and value got names
module _ {X : Type 0} {pair : X → Characters × Characters} {attrs rest : List X} {first old : List Characters} {rows : List AttrRow} (so_far : AreRowsSoFar pair attrs first rest old rows) where
  module _ (mid new : List Characters) (kept : KeepsTexts old mid) (also : KeepsTexts mid new) (once : StandOnce new) where
    grown : KeepsTexts old new
    grown = KeepsTexts-more old mid new kept also

    are_now : AreAttrs new rows
    are_now = AreAttrs-more old new rows grown so_far.are

    module _ (attr : X) (name value : ℕ) (is_name : slice_get mid name ≡ Some (pair attr).0) (is_value : slice_get new value ≡ Some (pair attr).1) where
      named : slice_get new name ≡ Some (pair attr).0
      named = still_named mid new name is_name also

      within : name < length new
      within = slice_get_within new name _ named

      next_map : named_attributes new (put_row name value rows) ≡ finmap.insert (named_attributes old rows) (pair attr).0 (pair attr).1
      next_map =
          named_put new once name within value rows are_now
          ∙ λ i. finmap.insert (attributes_kept old new rows grown so_far.are i) (text_is new name _ named i) (text_is new value _ is_value i)

      pub next_row : {shorter : List X} {later : List AttrRow} → rest ≡ shorter ++ attr ∷ [] → later ≡ put_row name value rows → AreRowsSoFar pair attrs first shorter new later
      next_row {shorter} shown e = record {
        whole = ap (over (map pair shorter)) (ap (named_attributes new) e ∙ next_map) ∙ (sym (over-last (map pair shorter) (pair attr) (named_attributes old rows))
            ∙ (ap (λ l. over l (named_attributes old rows)) (sym (map-append pair shorter (attr ∷ [])) ∙ ap (map pair) (sym shown)) ∙ so_far.whole));
        are = subst (AreAttrs new) (sym e) (AreAttrs-put new name value rows within (slice_get_within new value _ is_value) are_now);
        kept = KeepsTexts-more first old new so_far.kept grown;
      }

-- look-ups

-- the value of a name, by its text
module _ (names : List Characters) (name : ℕ) (once : StandOnce names) (l : name < length names) where
  tie : (other : ℕ) → other < length names → ties (text_of names name) (text_of names other) ≡ (other == name)
  tie other m = tied_turned (text_of names name) (text_of names other) ∙ same_names names other name once m l

  abbrev seen : Option AttrRow → Option Characters
  seen row = option_map (text_of names) (option_map (λ r. r.value) row)

  or_first : (row : AttrRow) (b : Bool) (o : Option Characters) (rest : Option AttrRow) → o ≡ seen rest → cond b (Some (text_of names row.value)) o ≡ seen (cond b (Some row) rest)
  or_first row true o rest e = refl
  or_first row false o rest e = e

  found_named : (rows : List AttrRow) → AreAttrs names rows → found names (text_of names name) rows ≡ option_map (text_of names) (value_at name rows)
  found_named [] are = refl
  found_named (row ∷ rows) are =
      ap (λ b. cond b (Some (text_of names row.value)) (found names (text_of names name) rows)) (tie row.name are.0.0)
      ∙ or_first row (row.name == name) _ (find (λ row. row.name == name) rows) (found_named rows are.2)

  pub keyed : (rows : List AttrRow) → AreAttrs names rows → finmap.get (named_attributes names rows) (text_of names name) ≡ option_map (text_of names) (value_at name rows)
  keyed rows are = found_is names (text_of names name) rows ∙ found_named rows are

-- each value has a text
pub found_within : (names : List Characters) (rows : List AttrRow) (name : ℕ) → AreAttrs names rows → IfSome (value_at name rows) (λ value. value < length names)
found_within names [] name are = tt
found_within names (row ∷ rows) name are =
    cond_both (row.name == name) _ _ (λ o. IfSome (option_map (λ (r : AttrRow). r.value) o) (λ value. value < length names)) (λ _. are.0.1) (λ _. found_within names rows name are.2)

-- the value of the name of an atom, row by row: the rows before k are of other names
pub record ArePassed (names : List Characters) (atom : Characters) (rows : List AttrRow) (k : ℕ) : Type 0 where
  pub are : AreAttrs names (drop k rows)
  pub left : found names atom (drop k rows) ≡ found names atom rows

module _ {names : List Characters} {atom : Characters} {rows : List AttrRow} {k : ℕ} {row : AttrRow} (passed : ArePassed names atom rows k) (l : k < length rows) (is : row ≡ get_or rows k row) where
  stepped : (b : Bool) → same_text (text_of names row.name) atom ≡ b → cond b (Some (text_of names row.value)) (found names atom (drop (k + 1) rows)) ≡ found names atom rows
  stepped b h =
      ap (λ c. cond c (Some (text_of names row.value)) (found names atom (drop (k + 1) rows))) (sym (tied_turned atom (text_of names row.name) ∙ h))
      ∙ rest_at (λ rest. found names atom rest ≡ found names atom rows) rows l is passed.left

  pub by_atom-found : same_text (text_of names row.name) atom ≡ true → Some (text_of names row.value) ≡ found names atom rows
  by_atom-found h = stepped true h

  pub by_atom-passed : same_text (text_of names row.name) atom ≡ false → ArePassed names atom rows (k + 1)
  by_atom-passed h = record { are = (rest_at (AreAttrs names) rows l is passed.are).2; left = stepped false h }

-- a text without a name is no attribute's
pub unkeyed : (names : List Characters) (rows : List AttrRow) (text : Characters) → is_among text names ≡ false → AreAttrs names rows → finmap.get (named_attributes names rows) text ≡ None
unkeyed names rows text absent are = found_is names text rows ∙ from rows are
  where
    other : (name : ℕ) → name < length names → ties text (text_of names name) ≡ true → ⊥
    other name l e =
        let at : slice_get names name ≡ Some text = text_at names name l ∙ ap Some (sym ((tied-Decides text (text_of names name)).0 e)) in
        false≢true (sym absent ∙ (is_among-Decides text names).1 (name, l, get_or_from_slice_get names name text text at))

    from : (rows : List AttrRow) → AreAttrs names rows → found names text rows ≡ None
    from [] are = refl
    from (row ∷ rows) are =
        cond-false (ties text (text_of names row.name)) (Some (text_of names row.value)) (found names text rows) (false_from_ne_true _ (other row.name are.0.0)) ∙ from rows are.2

-- equal maps

pub same_row : (a b : AttrRow) → Decides (a.name == b.name && a.value == b.value) (a ≡ b)
same_row a b = (
  λ h. (let parts = and_parts (a.name == b.name) (a.value == b.value) h in
      let name = eqb-true a.name b.name parts.0 in
      let value = eqb-true a.value b.value parts.1 in
      λ i. record { name = name i; value = value i }),
  λ e. and_from (a.name == b.name) (a.value == b.value) (eq-eqb a.name b.name (ap (λ (r : AttrRow). r.name) e)) (eq-eqb a.value b.value (ap (λ (r : AttrRow). r.value) e)),
)

-- the value of a name at the first row, or after it
valued : (name : ℕ) (row : AttrRow) (rows : List AttrRow) (b : Bool) → (row.name == name) ≡ b
    → value_at name (row ∷ rows) ≡ option_map (λ r. r.value) (cond b (Some row) (find (λ r. r.name == name) rows))
valued name row rows b e = ap (λ c. option_map (λ (r : AttrRow). r.value) (cond c (Some row) (find (λ r. r.name == name) rows))) e

front : (row : AttrRow) (rows : List AttrRow) → value_at row.name (row ∷ rows) ≡ Some row.value
front row rows = valued row.name row rows true (eq-eqb row.name row.name refl)

passed : (name : ℕ) (row : AttrRow) (rows : List AttrRow) → row.name ≢ name → value_at name (row ∷ rows) ≡ value_at name rows
passed name row rows other = valued name row rows false (false_from_ne_true _ (λ e. other (eqb-true row.name name e)))

-- a name before those of all rows has no value
before_all : (name : ℕ) (rows : List AttrRow) → Before name rows → value_at name rows ≡ None
before_all name [] above = refl
before_all name (row ∷ rows) above = passed name row rows (λ e. omega (arith, above.0, e)) ∙ before_all name rows above.1

module _ (row : AttrRow) (rows : List AttrRow) (above : Before row.name rows) where
  none_up_to : (name : ℕ) → name ≤ row.name → value_at name rows ≡ None
  none_up_to name l = before_all name rows (lower name row.name rows l above)

  -- the first name of two sorted lists is that of both
  not_before : (name : ℕ) (value : ℕ) → value_at name (row ∷ rows) ≡ Some value → row.name ≤ name
  not_before name value e = elim (cases_lt name row.name) [
    | inl l ↦
        let none = passed name row rows (λ f. omega (arith, l, f)) ∙ none_up_to name (omega (arith, l)) in
        absurd (cc)
    | inr h ↦ h
  ]

  -- the others are the rows after the first name
  after_first : (name : ℕ) → value_at name rows ≡ cond (nat_lt row.name name) (value_at name (row ∷ rows)) None
  after_first name =
      cond_both (nat_lt row.name name) (value_at name (row ∷ rows)) None (λ o. value_at name rows ≡ o)
      (λ h. sym (passed name row rows (λ e. omega (arith, ltb-true row.name name h, e)))) (λ h. none_up_to name (ltb-false row.name name h))

-- sorted rows are equal where each name has the same value in both
same_values : (names : List Characters) (xs ys : List AttrRow) → AreAttrs names xs → AreAttrs names ys → ((name : ℕ) → name < length names → value_at name xs ≡ value_at name ys) → xs ≡ ys
same_values names [] [] are also same = refl
same_values names [] (y ∷ ys) are also same = absurd (let e = same y.name also.0.0 ∙ front y ys in cc)
same_values names (x ∷ xs) [] are also same = absurd (let e = sym (front x xs) ∙ same x.name are.0.0 in cc)
same_values names (x ∷ xs) (y ∷ ys) are also same =
    let here : value_at x.name (y ∷ ys) ≡ Some x.value = sym (same x.name are.0.0) ∙ front x xs in
    let there : value_at y.name (x ∷ xs) ≡ Some y.value = same y.name also.0.0 ∙ front y ys in
    let name : x.name ≡ y.name = omega (arith, not_before y ys also.1 x.name x.value here, not_before x xs are.1 y.name y.value there) in
    let value : x.value ≡ y.value = same_Some x.value y.value (sym here ∙ (ap (λ n. value_at n (y ∷ ys)) name ∙ front y ys)) in
    let rest = same_values names xs ys are.2 also.2 (λ n l. after_first x xs are.1 n ∙ ((λ i. cond (nat_lt (name i) n) (same n l i) None) ∙ sym (after_first y ys also.1 n))) in
    λ i. record { name = name i; value = value i } ∷ rest i

-- rows are equal where their maps are
pub same_map-rows : (names : List Characters) (xs ys : List AttrRow) → StandOnce names → AreAttrs names xs → AreAttrs names ys → named_attributes names xs ≡ named_attributes names ys → xs ≡ ys
same_map-rows names xs ys once are also e =
    same_values names xs ys are also
    (λ name l. same_texts (value_at name xs) (value_at name ys) (found_within names xs name are) (found_within names ys name also)
    (sym (keyed names name once l xs are) ∙ (ap (λ m. finmap.get m (text_of names name)) e ∙ keyed names name once l ys also)))
  where
    same_texts : (a b : Option ℕ) → IfSome a (λ v. v < length names) → IfSome b (λ v. v < length names) → option_map (text_of names) a ≡ option_map (text_of names) b → a ≡ b
    same_texts None None l m e = refl
    same_texts None (Some b) l m e = absurd (cc)
    same_texts (Some a) None l m e = absurd (cc)
    same_texts (Some a) (Some b) l m e = ap Some (same_name names a b once l m (same_Some (text_of names a) (text_of names b) e))

-- the names of the rows

-- each row is of names that have texts
pub rows_are_named : (names : List Characters) (rows : List AttrRow) → AreAttrs names rows → AllByRecursion (IsNamed names) rows
rows_are_named names [] are = tt
rows_are_named names (row ∷ rows) are = (are.0, rows_are_named names rows are.2)

pub have_names : (names : List Characters) (rows : List AttrRow) → AreAttrs names rows → HaveNames names rows
have_names names [] are = tt
have_names names (row ∷ rows) are = (are.0.0, have_names names rows are.2)

-- they are the names that have a value
found_there : (names : List Characters) (q : Characters) (rows : List AttrRow) → list_any (same_text q) (map (name_text names) rows) ≡ is_some (found names q rows)
found_there names q [] = refl
found_there names q (row ∷ rows) =
    ap (λ b. same_text q (text_of names row.name) || b) (found_there names q rows)
    ∙ (ap (λ b. b || is_some (found names q rows)) (sym (tied q (text_of names row.name)))
    ∙ found_any (ties q (text_of names row.name)) (text_of names row.value) (found names q rows))

-- and each of them is another
module _ (names : List Characters) (once : StandOnce names) where
  others : (row : AttrRow) (rows : List AttrRow) → row.name < length names → Before row.name rows → AreAttrs names rows
      → AllByRecursion (λ text. same_text (text_of names row.name) text ≡ false) (map (name_text names) rows)
  others row [] l above are = tt
  others row (other ∷ rows) l above are =
      let apart = false_from_ne_true (row.name == other.name) (λ e. omega (arith, above.0, eqb-true row.name other.name e)) in
      (same_names names row.name other.name once l are.0.0 ∙ apart, others row rows l above.1 are.2)

  distinct_rows : (rows : List AttrRow) → AreAttrs names rows → IsDistinct same_text (map (name_text names) rows)
  unfolding IsDistinct
  distinct_rows [] are = tt
  distinct_rows (row ∷ rows) are = (others row rows are.0.0 are.1 are.2, distinct_rows rows are.2)

  pub row_names : (rows : List AttrRow) → AreAttrs names rows → AreNamesOf (finmap.get (named_attributes names rows)) (map (name_text names) rows)
  row_names rows are = record {
    exact = λ q. found_there names q rows ∙ ap is_some (sym (found_is names q rows));
    once = distinct_rows rows are;
  }

  -- how many rows there are
  pub rows_counted : (rows : List AttrRow) → AreAttrs names rows → length rows ≡ finmap.len (named_attributes names rows)
  rows_counted [] are = sym (finmap.len-empty (slice_cmp nat_cmp) Characters)
  rows_counted (row ∷ rows) are =
      let m = named_attributes names rows in
      let new = keyed names row.name once are.0.0 rows are.2 ∙ ap (option_map (text_of names)) (before_all row.name rows are.1) in
      let more = finmap.len-insert nat_list_cmp_total m (text_of names row.name) (text_of names row.value) ∙ ap (λ o. cond (is_some o) (finmap.len m) (finmap.len m + 1)) new in
      omega (arith, rows_counted rows are.2, more)

  -- their values: one whose key is not there comes to the others

  and_turned : (a b c : Bool) → (a && (b && c)) ≡ (b && (a && c))
  and_turned true true c = refl
  and_turned true false c = refl
  and_turned false true c = refl
  and_turned false false c = refl

  put_first : (p : Characters → Bool) (k v : Characters) (e : Characters × Characters) (es : List (Characters × Characters)) (r : Ordering) → slice_cmp nat_cmp k e.0 ≡ r
      → finmap.find (slice_cmp nat_cmp) k (e ∷ es) ≡ None
      → (finmap.find (slice_cmp nat_cmp) k es ≡ None → list_all p (map (λ (f : Characters × Characters). f.1) (finmap.put (slice_cmp nat_cmp) k v es))
      ≡ (p v && list_all p (map (λ (f : Characters × Characters). f.1) es)))
      → list_all p (map (λ (f : Characters × Characters). f.1) (finmap.put (slice_cmp nat_cmp) k v (e ∷ es))) ≡ (p v && (p e.1 && list_all p (map (λ (f : Characters × Characters). f.1) es)))
  put_first p k v e es Less h none step = rw h refl
  put_first p k v e es Equal h none step =
      let found : cond (is_eq (slice_cmp nat_cmp k e.0)) (Some e.1) (finmap.find (slice_cmp nat_cmp) k es) ≡ Some e.1 = ap (λ r. cond (is_eq r) (Some e.1) (finmap.find (slice_cmp nat_cmp) k es)) h in
      absurd (none-some e.1 (sym none ∙ found))
  put_first p k v e es Greater h none step =
      let passed : finmap.find (slice_cmp nat_cmp) k es ≡ None = sym (ap (λ r. cond (is_eq r) (Some e.1) (finmap.find (slice_cmp nat_cmp) k es)) h) ∙ none in
      rw h (ap (λ b. p e.1 && b) (step passed) ∙ and_turned (p e.1) (p v) (list_all p (map (λ (f : Characters × Characters). f.1) es)))

  put_all : (p : Characters → Bool) (k v : Characters) (es : List (Characters × Characters)) → finmap.find (slice_cmp nat_cmp) k es ≡ None
      → list_all p (map (λ (e : Characters × Characters). e.1) (finmap.put (slice_cmp nat_cmp) k v es)) ≡ (p v && list_all p (map (λ (e : Characters × Characters). e.1) es))
  put_all p k v [] none = refl
  put_all p k v (e ∷ es) none = put_first p k v e es (slice_cmp nat_cmp k e.0) refl none (put_all p k v es)

  no_values : (p : Characters → Bool) → list_all p (finmap.values {X = Characters} {R = slice_cmp nat_cmp} finmap.empty) ≡ true
  no_values p = by (finmap.entries {X = Characters} {R = slice_cmp nat_cmp} finmap.empty)
      (sym (finmap.len-entries {X = Characters} {R = slice_cmp nat_cmp} finmap.empty) ∙ finmap.len-empty (slice_cmp nat_cmp) Characters)
    where
      by : (es : List (Characters × Characters)) → length es ≡ 0 → list_all p (map (λ (e : Characters × Characters). e.1) es) ≡ true
      by [] h = refl
      by (e ∷ es) h = absurd (omega (arith, h))

  pub row_values : (p : Characters → Bool) (rows : List AttrRow) → AreAttrs names rows → list_all p (finmap.values (named_attributes names rows)) ≡ list_all (λ row. p (text_of names row.value)) rows
  row_values p [] are = no_values p
  row_values p (row ∷ rows) are =
      let m = named_attributes names rows in
      let new = keyed names row.name once are.0.0 rows are.2 ∙ ap (option_map (text_of names)) (before_all row.name rows are.1) in
      ap (λ (es : List (Characters × Characters)). list_all p (map (λ (e : Characters × Characters). e.1) es))
      (finmap.entries-insert nat_list_cmp_total m (text_of names row.name) (text_of names row.value))
      ∙ (put_all p (text_of names row.name) (text_of names row.value) (finmap.entries m) (sym (finmap.get-entries m (text_of names row.name)) ∙ new)
      ∙ ap (λ b. p (text_of names row.value) && b) (row_values p rows are.2))
