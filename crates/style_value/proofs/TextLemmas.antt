-- The declarations of a style, printed one by one.
use Rattle.std.proofs.Common.{◌≡◌, ℕ, suc, ◌<◌, ◌≤◌, ◌+◌, List, [], ◌∷◌, ◌++◌, Bool, true, false, if◌then◌else◌, Some, length, map, get_or, set, take, drop, slice_get, sym, ap, subst, ◌∙◌, refl, arith, append_assoc, append-nil, codes}
use Rattle.std.proofs.lemmas.List.{drop_all, drop_more, length-set, map-append, take_more_set}
use Rattle.std.proofs.lemmas.Option.{get_or_from_slice_get, slice_get-get_or}
use Rattle.std.specs.Str.{IsUtf8}
use lib.Utf8.{encode}
use Rattle.stylo_base.specs.Ascii.{is_all_ascii}
use Rattle.base_model.specs.Text.{Characters}
use Rattle.value_model.specs.Value.{Value, keyword, same_value}
use Rattle.value_model.specs.Table as model
use Rattle.value_model.specs.Table.{color_row, table}
use Rattle.value_model.specs.Printed.{declaration_text, declaration_texts}
use Rattle.property_table.specs.View.{property_of, row_of}
use Rattle.property_table.specs.declared.property.PropId.{PropId}
use Rattle.property_table.proofs.RowLemmas.{drop_at}
use Rattle.custom_model.specs.Printed.{each_after, joined}
use Rattle.style_value.specs.StyleText.{printed_from, printed_properties, property_text, values_text}

-- what the test of a row tells
abbrev pub Tests : List Value → ℕ → Bool → Type 0
Tests values row standing =
    (r : model.PropertyRow) (v : Value) → slice_get table row ≡ Some r → slice_get values row ≡ Some v → standing ≡ same_value v r.standing

-- the properties of the rows from an index on
abbrev pub printed_after : List Value → ℕ → List ℕ
printed_after values i = printed_from i (drop i table) (drop i values)

-- the first of a list are the properties so far, and with those that come later they are all
pub record IsFound (values : List Value) (list : List PropId) (count i : ℕ) : Type 0 where
  pub within : count ≤ i
  pub found : map property_of (take count list) ++ printed_after values i ≡ printed_properties values

pub found_first : (values : List Value) (list : List PropId) → IsFound values list 0 0
found_first values list = record { within = omega arith; found = refl }

next_row : (values : List Value) (i : ℕ) (standing : Bool) → i < length table → length values ≡ length table → Tests values i standing → printed_after values i ≡ (if standing then printed_after values (i + 1) else i ∷ printed_after values (i + 1))
next_row values i standing lt long test =
    let value : Value = get_or values i (keyword []) in
    let row : model.PropertyRow = get_or table i color_row in
    let in_table : slice_get table i ≡ Some row = slice_get-get_or table i color_row lt in
    let here : slice_get values i ≡ Some value = slice_get-get_or values i (keyword []) (omega (arith, lt, long)) in
    ap (λ rows. printed_from i rows (drop i values)) (drop_at table i row in_table)
    ∙ (ap (printed_from i (row ∷ drop (i + 1) table)) (drop_at values i value here)
    ∙ ap (λ b. if b then printed_after values (i + 1) else i ∷ printed_after values (i + 1)) (sym (test row value in_table here)))

-- a standing value is not printed
pub found_not : (values : List Value) (list new : List PropId) (count next i : ℕ) (standing : Bool) → i < length table → length values ≡ length table → Tests values i standing → standing ≡ true → new ≡ list → next ≡ count → IsFound values list count i → IsFound values new next (i + 1)
found_not values list new count next i standing lt long test is as_before same old =
    let rest : printed_after values i ≡ printed_after values (i + 1) =
    next_row values i standing lt long test
    ∙ ap (λ b. if b then printed_after values (i + 1) else i ∷ printed_after values (i + 1)) is in record {
      within = omega (arith, same, old.within);
      found =
          ap (λ l. map property_of (take next l) ++ printed_after values (i + 1)) as_before
          ∙ (ap (λ n. map property_of (take n list) ++ printed_after values (i + 1)) same
          ∙ (ap (λ l. map property_of (take count list) ++ l) (sym rest) ∙ old.found));
    }

-- another one is
pub found_one : (values : List Value) (list new : List PropId) (count next i : ℕ) (standing : Bool) (id : PropId) → i < length table → length values ≡ length table → length new ≡ length table → Tests values i standing → standing ≡ false → property_of id ≡ i → new ≡ set list count id → next ≡ count + 1 → IsFound values list count i → IsFound values new next (i + 1)
found_one values list new count next i standing id lt long new_long test not at put more old =
    let room : count < length list =
    omega (arith, old.within, lt, new_long, ap length put, length-set list count id) in
    let rest : printed_after values i ≡ i ∷ printed_after values (i + 1) =
    next_row values i standing lt long test
    ∙ ap (λ b. if b then printed_after values (i + 1) else i ∷ printed_after values (i + 1)) not in
    let front : map property_of (take next new) ≡ map property_of (take count list) ++ i ∷ [] =
    ap (λ l. map property_of (take next l)) put
    ∙ (ap (λ n. map property_of (take n (set list count id))) more
    ∙ (ap (map property_of) (take_more_set list count id room)
    ∙ (map-append property_of (take count list) (id ∷ []) ∙ ap (λ p. map property_of (take count list) ++ p ∷ []) at))) in record {
      within = omega (arith, more, old.within);
      found =
          ap (λ l. l ++ printed_after values (i + 1)) front
          ∙ (append_assoc (map property_of (take count list)) (i ∷ []) (printed_after values (i + 1))
          ∙ (ap (λ l. map property_of (take count list) ++ l) (sym rest) ∙ old.found));
    }

-- after the last row all are found
pub found_all : (values : List Value) (list : List PropId) (count i : ℕ) → length table ≤ i → IsFound values list count i → map property_of (take count list) ≡ printed_properties values
found_all values list count i past old =
    sym (append-nil (map property_of (take count list)))
    ∙ (ap (λ rows. map property_of (take count list) ++ printed_from i rows (drop i values)) (sym (drop_all i table past)) ∙ old.found)

module _ (values : List Value) where
  -- each property that is printed gives its declaration
  texts_are : (rows : List model.PropertyRow) (rest : List Value) (i : ℕ) → ((k : ℕ) (r : model.PropertyRow) (v : Value) → slice_get rows k ≡ Some r → slice_get rest k ≡ Some v → property_text values (i + k) ≡ declaration_text r v) → map (property_text values) (printed_from i rows rest) ≡ declaration_texts rows rest
  texts_are [] rest i each = refl
  texts_are (row ∷ rows) [] i each = refl
  texts_are (row ∷ rows) (value ∷ rest) i each =
      let first : property_text values i ≡ declaration_text row value =
      ap (property_text values) (omega arith) ∙ each 0 row value refl refl in
      let later = texts_are rows rest (i + 1) (λ k r v there here.
      ap (property_text values) (omega arith) ∙ each (suc k) r v there here) in
      one_more rows rest i row value (same_value value row.standing) first later
    where
      one_more : (rows : List model.PropertyRow) (rest : List Value) (i : ℕ) (row : model.PropertyRow) (value : Value) (standing : Bool) → property_text values i ≡ declaration_text row value → map (property_text values) (printed_from (i + 1) rows rest) ≡ declaration_texts rows rest → map (property_text values) (if standing then printed_from (i + 1) rows rest else i ∷ printed_from (i + 1) rows rest) ≡ (if standing then declaration_texts rows rest else declaration_text row value ∷ declaration_texts rows rest)
      one_more rows rest i row value true first later = later
      one_more rows rest i row value false first later =
          ap (λ t. t ∷ map (property_text values) (printed_from (i + 1) rows rest)) first
          ∙ ap (λ l. declaration_text row value ∷ l) later

pub all_texts : (values : List Value) → length values ≡ length table → map (property_text values) (printed_properties values) ≡ declaration_texts table values
all_texts values long =
    texts_are values table values 0 (λ k r v there here.
    ap (λ n. property_text values n) (omega arith)
    ∙ (ap (λ row. declaration_text row (get_or values k (keyword []))) (get_or_from_slice_get table k r color_row there)
    ∙ ap (declaration_text r) (get_or_from_slice_get values k v (keyword []) here)))

-- the whole text
pub text_of_all : (values : List Value) (properties : List ℕ) → length values ≡ length table → properties ≡ printed_properties values → joined (codes "; ") (map (property_text values) properties) ≡ values_text values
text_of_all values properties long are =
    ap (λ l. joined (codes "; ") (map (property_text values) l)) are
    ∙ ap (joined (codes "; ")) (all_texts values long)

abbrev pub between : Characters
between = codes "; "

between-IsUtf8 : IsUtf8 between
unfolding encode
between-IsUtf8 = (between, (refl, refl))

-- what is still to print: the first text after a separator of its own, the rest after the usual one
abbrev pub led_by : Characters → List Characters → Characters
led_by separator [] = []
led_by separator (text ∷ texts) = separator ++ (text ++ each_after between texts)

after-led_by : (texts : List Characters) → led_by between texts ≡ each_after between texts
after-led_by [] = refl
after-led_by (text ∷ texts) = refl

led-none : (texts : List Characters) → led_by [] texts ≡ joined between texts
led-none [] = refl
led-none (text ∷ texts) = refl

abbrev pub texts_of : List Value → List PropId → List Characters
texts_of values ids = map (property_text values) (map property_of ids)

-- the text and what is still to print make the whole
pub record IsPrinted (values : List Value) (ids : List PropId) (text separator : Characters) (i : ℕ) : Type 0 where
  pub utf8 : IsUtf8 separator
  pub ascii : is_all_ascii separator ≡ true
  pub printed : text ++ led_by separator (texts_of values (drop i ids)) ≡ joined between (texts_of values ids)

-- at first nothing is printed
pub printed_first : (values : List Value) (ids : List PropId) (text : Characters) → text ≡ [] → IsPrinted values ids text [] 0
unfolding encode
printed_first values ids text empty = record {
  utf8 = ([], (refl, refl));
  ascii = refl;
  printed = ap (λ t. t ++ led_by [] (texts_of values ids)) empty ∙ led-none (texts_of values ids);
}

-- a declaration is that of its property
declared : (values : List Value) (id : PropId) (row : model.PropertyRow) (value : Value) → row ≡ row_of id → slice_get values (property_of id) ≡ Some value → declaration_text row value ≡ property_text values (property_of id)
declared values id row value is here =
    ap (λ r. declaration_text r value) is
    ∙ ap (declaration_text (row_of id)) (sym (get_or_from_slice_get values (property_of id) value (keyword []) here))

-- the next one is printed after the separator
pub printed_next : (values : List Value) (ids : List PropId) (text led new separator next : Characters) (i : ℕ) (d : PropId) (row : model.PropertyRow) (value : Value) → i < length ids → row ≡ row_of (get_or ids i d) → slice_get values (property_of (get_or ids i d)) ≡ Some value → led ≡ text ++ separator → new ≡ led ++ declaration_text row value → next ≡ between → IsPrinted values ids text separator i → IsPrinted values ids new next (i + 1)
printed_next values ids text led new separator next i d row value lt row_is here after_text after_led is old =
    let id : PropId = get_or ids i d in
    let one : Characters = property_text values (property_of id) in
    let rest : List Characters = texts_of values (drop (i + 1) ids) in
    let first : texts_of values (drop i ids) ≡ one ∷ rest = ap (texts_of values) (drop_more ids i d lt) in
    let pushed : new ≡ (text ++ separator) ++ one =
    after_led ∙ (ap (λ start. start ++ declaration_text row value) after_text ∙ ap (λ t. (text ++ separator) ++ t) (declared values id row value row_is here)) in record {
      utf8 = subst IsUtf8 (sym is) between-IsUtf8;
      ascii = ap is_all_ascii is;
      printed =
          ap (λ start. start ++ led_by next rest) pushed
          ∙ (ap (λ lead. ((text ++ separator) ++ one) ++ led_by lead rest) is
          ∙ (ap (λ more. ((text ++ separator) ++ one) ++ more) (after-led_by rest)
          ∙ (append_assoc (text ++ separator) one (each_after between rest)
          ∙ (append_assoc text separator (one ++ each_after between rest)
          ∙ (ap (λ texts. text ++ led_by separator texts) (sym first) ∙ old.printed)))));
    }

-- after the last one all are
pub printed_all : (values : List Value) (ids : List PropId) (text separator : Characters) (i : ℕ) → length ids ≤ i → IsPrinted values ids text separator i → text ≡ joined between (texts_of values ids)
printed_all values ids text separator i past old =
    sym (append-nil text)
    ∙ (ap (λ l. text ++ led_by separator (texts_of values l)) (sym (drop_all i ids past)) ∙ old.printed)
