-- ValueColumns, and the values that they stand for.
use Rattle.std.proofs.Common.{◌≡◌, ℕ, zero, suc, ◌<◌, ℤ, List, [], ◌∷◌, Some, length, map, set, get_or, slice_get, option_map, sym, ap, ◌∙◌, arith}
use Rattle.std.specs.List.{AllByRecursion}
use Rattle.std.proofs.lemmas.List.{length-map, length-set, map-set, get_or-map}
use Rattle.std.proofs.lemmas.Option.{slice_get-map, slice_get-get_or}
use Rattle.value_model.specs.Value as model
use Rattle.value_model.specs.Table.{table}
use Rattle.property_table.specs.ValueParts.{HasByteParts, value_of_word, values_of_words, value_amount, value_word}
use Rattle.property_table.specs.View.{value_seen}
use Rattle.property_table.specs.declared.property.TheConstants.{COUNT}
use Rattle.property_table.specs.declared.keyword.Keyword.TheVariants.{Inline}
use Rattle.property_table.specs.declared.value.Value.{Value}
use Rattle.property_table.specs.declared.value.Value.TheVariants.{Keyword}
use Rattle.property_table.proofs.ColumnLemmas.{column_back, columns_back}
use Rattle.property_table.proofs.RowLemmas.{length-table}
use Rattle.style_value.specs.ColumnView.{AreColumns, replaced, with_value_in}

-- what holds of each value still does where one is replaced by another of which it holds
all_set : (values : List Value) (i : ℕ) (v : Value) → HasByteParts v → AllByRecursion HasByteParts values → AllByRecursion HasByteParts (set values i v)
all_set [] i v one all = all
all_set (first ∷ rest) zero v one all = (one, all.1)
all_set (first ∷ rest) (suc i) v one all = (all.0, all_set rest i v one all.1)

all_at : (values : List Value) (i : ℕ) (d : Value) → i < length values → AllByRecursion HasByteParts values → HasByteParts (get_or values i d)
all_at [] i d lt all = absurd (omega (arith, lt))
all_at (first ∷ rest) zero d lt all = all.0
all_at (first ∷ rest) (suc i) d lt all = all_at rest i d (omega (arith, lt)) all.1

module _ (words : List ℕ) (amounts : List ℤ) (columns : AreColumns words amounts) where
  -- what columns stand for
  pub values_seen : values_of_words words amounts ≡ map value_seen columns.values
  values_seen =
      ap (λ ws. values_of_words ws amounts) columns.words_of
      ∙ (ap (values_of_words (map value_word columns.values)) columns.amounts_of ∙ columns_back columns.values columns.bytes)

  pub length_seen : (seen : List model.Value) → values_of_words words amounts ≡ seen → length seen ≡ length table
  length_seen seen is =
      ap length (sym is) ∙ (ap length values_seen ∙ (length-map columns.values value_seen ∙ columns.long))

  -- a value is replaced
  pub are_set : (i word : ℕ) (amount : ℤ) (v : Value) → HasByteParts v → word ≡ value_word v → amount ≡ value_amount v → AreColumns (set words i word) (set amounts i amount)
  are_set i word amount v one w a = record {
    values = set columns.values i v;
    words_of = ap (λ ws. set ws i word) columns.words_of ∙ (ap (set (map value_word columns.values) i) w ∙ sym (map-set value_word columns.values i v));
    amounts_of = ap (λ zs. set zs i amount) columns.amounts_of ∙ (ap (set (map value_amount columns.values) i) a ∙ sym (map-set value_amount columns.values i v));
    bytes = all_set columns.values i v one columns.bytes;
    long = length-set columns.values i v ∙ columns.long;
  }

-- what they stand for then
pub seen_set : (words : List ℕ) (amounts : List ℤ) (columns : AreColumns words amounts) (seen : List model.Value) (i property word : ℕ) (amount : ℤ) (v : Value) → HasByteParts v → values_of_words words amounts ≡ seen → i ≡ property → word ≡ value_word v → amount ≡ value_amount v → values_of_words (set words i word) (set amounts i amount) ≡ set seen property (value_seen v)
unfolding are_set
seen_set words amounts columns seen i property word amount v one is at w a =
    values_seen (set words i word) (set amounts i amount) (are_set words amounts columns i word amount v one w a)
    ∙ (map-set value_seen columns.values i v
    ∙ (ap (λ vs. set vs i (value_seen v)) (sym (values_seen words amounts columns) ∙ is)
    ∙ ap (λ k. set seen k (value_seen v)) at))

-- a row of columns
pub record IsAt (words : List ℕ) (amounts : List ℤ) (row : ℕ) (d : ℤ) : Type 0 where
  pub value : Value
  pub bytes : HasByteParts value
  pub word_is : get_or words row 0 ≡ value_word value
  pub amount_is : get_or amounts row d ≡ value_amount value
  pub seen : slice_get (values_of_words words amounts) row ≡ Some (value_seen value)

pub at_row : (words : List ℕ) (amounts : List ℤ) → AreColumns words amounts → (row : ℕ) (d : ℤ) → row < COUNT → IsAt words amounts row d
at_row words amounts columns row d lt =
    let any : Value = Keyword Inline in
    let within : row < length columns.values = omega (arith, lt, length-table, columns.long) in record {
      value = get_or columns.values row any;
      bytes = all_at columns.values row any within columns.bytes;
      word_is = ap (λ ws. get_or ws row 0) columns.words_of ∙ get_or-map value_word columns.values row any 0 within;
      amount_is = ap (λ zs. get_or zs row d) columns.amounts_of ∙ get_or-map value_amount columns.values row any d within;
      seen =
          ap (λ vs. slice_get vs row) (values_seen words amounts columns)
          ∙ (slice_get-map value_seen columns.values row ∙ ap (option_map value_seen) (slice_get-get_or columns.values row any within));
    }

-- the value that is made of a row
pub seen_at : (words : List ℕ) (amounts : List ℤ) → AreColumns words amounts → (seen : List model.Value) (row property : ℕ) (d : ℤ) (found : Value) → values_of_words words amounts ≡ seen → row ≡ property → row < COUNT → value_seen found ≡ value_of_word (get_or words row 0) (get_or amounts row d) → slice_get seen property ≡ Some (value_seen found)
seen_at words amounts columns seen row property d found is at lt made =
    let one : IsAt words amounts row d = at_row words amounts columns row d lt in
    let back : value_seen one.value ≡ value_seen found =
    sym (column_back one.value one.bytes)
    ∙ (ap (λ w. value_of_word w (value_amount one.value)) (sym one.word_is)
    ∙ (ap (value_of_word (get_or words row 0)) (sym one.amount_is) ∙ sym made)) in
    ap (λ vs. slice_get vs property) (sym is)
    ∙ (ap (slice_get (values_of_words words amounts)) (sym at) ∙ (one.seen ∙ ap Some back))

-- a value that is copied from other columns
pub are_copied : (words from_words : List ℕ) (amounts from_amounts : List ℤ) → AreColumns words amounts → AreColumns from_words from_amounts → (row : ℕ) (d : ℤ) → row < COUNT → AreColumns (set words row (get_or from_words row 0)) (set amounts row (get_or from_amounts row d))
are_copied words from_words amounts from_amounts columns from row d lt =
    let one : IsAt from_words from_amounts row d = at_row from_words from_amounts from row d lt in
    are_set words amounts columns row (get_or from_words row 0) (get_or from_amounts row d) one.value one.bytes one.word_is one.amount_is

pub seen_copied : (words from_words : List ℕ) (amounts from_amounts : List ℤ) → AreColumns words amounts → AreColumns from_words from_amounts → (seen parents : List model.Value) (row property : ℕ) (d : ℤ) → values_of_words words amounts ≡ seen → values_of_words from_words from_amounts ≡ parents → row ≡ property → row < COUNT → values_of_words (set words row (get_or from_words row 0)) (set amounts row (get_or from_amounts row d)) ≡ with_value_in parents property seen
seen_copied words from_words amounts from_amounts columns from seen parents row property d is parents_are at lt =
    let one : IsAt from_words from_amounts row d = at_row from_words from_amounts from row d lt in
    let there : slice_get parents property ≡ Some (value_seen one.value) =
    ap (λ vs. slice_get vs property) (sym parents_are)
    ∙ (ap (slice_get (values_of_words from_words from_amounts)) (sym at) ∙ one.seen) in
    seen_set words amounts columns seen row property (get_or from_words row 0) (get_or from_amounts row d) one.value one.bytes is at one.word_is one.amount_is
    ∙ ap (λ found. replaced found property seen) (sym there)
