-- The values of an element, on the way from those that nothing sets to those by the declarations.
use Rattle.std.proofs.Common.{◌≡◌, ◌≢◌, ◌==◌, ◌&&◌, not, ℕ, ◌<◌, ℤ, Bool, true, false, if◌then◌else◌, List, [], ◌∷◌, Some, slice_get, length, set, get_or, sym, ap, ◌∙◌, ⊎_elim, arith, refl}
use Rattle.std.specs.FinMap as finmap
use Rattle.std.proofs.Math.Bool.{and-true}
use Rattle.std.proofs.lemmas.Bool.{and_right, cases_eq, eq-eqb, eqb-false, eqb-true, false_from_ne_true, ne_eqb, or_parts}
use Rattle.std.proofs.lemmas.List.{length-set, same_lists}
use Rattle.std.proofs.lemmas.Option.{unwrap_or-slice_get}
use Rattle.base_model.proofs.Lists.{slice_get_some}
use Rattle.custom_model.specs.Value.{CustomValues}
use Rattle.custom_model.specs.Expand.{Lookup}
use Rattle.value_model.specs.Value.{Value, pixels}
use Rattle.value_model.specs.Table.{PropertyRow, table, font_size_property}
use Rattle.value_model.specs.Style.{Style, inherited_values, font_size_of, font_weight_of}
use Rattle.value_model.proofs.ByRow.{inherited-at, length-inherited}
use Rattle.cascade_model.specs.Key.{Matched}
use Rattle.cascade_model.specs.Ending.{unsets, ending}
use Rattle.cascade_model.specs.Cascade.{Sizes, sizes, own_size, value_at, property_value, values_over}
use Rattle.cascade_model.proofs.ValuesLemmas.{values_from-at, length-values_over, size_within}
use Rattle.property_table.specs.PropertySet.{has_row, without_row}
use Rattle.property_table.proofs.SetLemmas.{has_row-without}
use Rattle.style_value.specs.ColumnView.{replaced}
use Rattle.style_value.proofs.InheritedLemmas.{length-with_values, with_values_at, with_values_in}
use Rattle.cascade_core.proofs.WonLemmas.{get-set_other, get-set_same}

-- what is in a set without a row
taken_out : (row : ℕ) (rows : List ℕ) → has_row row (without_row row rows) ≡ false
taken_out row rows = rw (has_row-without row row rows, eq-eqb row row refl) (and_right (has_row row rows) false refl)

pub not_left : (row other : ℕ) (rows : List ℕ) → other ≢ row → has_row other (without_row row rows) ≡ false → has_row other rows ≡ false
not_left row other rows ne none =
    sym (and-true (has_row other rows))
    ∙ (ap (λ b. has_row other rows && not b) (sym (ne_eqb row other (λ e. ne (sym e))))
    ∙ (sym (has_row-without row other rows) ∙ none))

-- what the values of an element are made from
pub record Sources : Type 0 where
  pub custom : Lookup
  pub is_root : Bool
  pub parents : List Value
  pub root_size : ℤ
  pub ds : List Matched

abbrev pub sources : CustomValues → Bool → Style → ℤ → List Matched → Sources
sources custom is_root parent root_size ds = record {
  custom = finmap.get custom;
  is_root = is_root;
  parents = parent.values;
  root_size = root_size;
  ds = ds;
}

module _ (s : Sources) where
  abbrev pub own : ℤ
  own = own_size s.custom s.parents s.root_size s.ds

  abbrev pub the_sizes : Sizes
  the_sizes = sizes own (if s.is_root then own else s.root_size)

  -- the value of a property but for the font size, by the declarations
  abbrev pub value_of : ℕ → PropertyRow → Value → Value
  value_of p row v = value_at row v (font_size_of s.parents) (font_weight_of s.parents) the_sizes (ending s.custom p s.ds)

  abbrev value_by : ℕ → PropertyRow → Value → Value
  value_by = property_value s.custom s.parents the_sizes s.ds

  abbrev pub done : List Value
  done = values_over s.custom s.is_root s.parents s.root_size s.ds

  abbrev before : List Value
  before = inherited_values table s.parents

  -- once these properties too have their values, all are done; the font size is none of them
  pub record IsPartly (values : List Value) (rest : List ℕ) : Type 0 where
    pub ends : with_values_in done rest values ≡ done
    pub other_rows : has_row font_size_property rest ≡ false

  done-at : (p : ℕ) (row : PropertyRow) (v : Value) → slice_get table p ≡ Some row → slice_get s.parents p ≡ Some v → slice_get done p ≡ Some (value_by p row v)
  done-at p row v at here = rw (values_from-at value_by table s.parents p row at, here)

  of_other : (p : ℕ) (row : PropertyRow) (v : Value) → p ≢ font_size_property → value_by p row v ≡ value_of p row v
  of_other p row v other = rw (false_from_ne_true (p == font_size_property) (λ e. other (eqb-true p font_size_property e)))

  module _ (full : length s.parents ≡ length table) where
    length-before : length before ≡ length table
    length-before = length-inherited table s.parents full ∙ full

    length-done : length done ≡ length table
    length-done = length-values_over s.custom s.is_root s.parents s.root_size s.ds full

    -- at first the font size is done, and each property without a declaration
    module _ (declared : List ℕ) (others : (p : ℕ) → has_row p declared ≡ false → p < length table → ending s.custom p s.ds ≡ unsets) where
      abbrev first : List Value
      first = set before font_size_property (pixels own)

      abbrev left : List ℕ
      left = without_row font_size_property declared

      length-first : length first ≡ length table
      length-first = length-set before font_size_property (pixels own) ∙ length-before

      ready_row : (p : ℕ) (row : PropertyRow) (v : Value) → slice_get table p ≡ Some row → slice_get s.parents p ≡ Some v
          → p < length table → has_row p left ≡ false → slice_get first p ≡ slice_get done p
      ready_row p row v at here within is =
          ⊎_elim
          (λ (e : p ≡ font_size_property).
          let size = get-set_same before font_size_property (pixels own) (omega (arith, length-before, size_within)) in
          rw (e, size, done-at font_size_property row v (rw e at at) (rw e at here)))
          (λ (ne : p ≢ font_size_property).
          let ends = others p (not_left font_size_property p declared ne is) within in
          rw (get-set_other before font_size_property p (pixels own) ne, inherited-at table s.parents p row at, here, done-at p row v at here, of_other p row v ne, ends))
          (cases_eq p font_size_property)

      ready_first : (p : ℕ) → p < length table → has_row p left ≡ false → slice_get first p ≡ slice_get done p
      ready_first p within is =
          let (row, at) = slice_get_some table p within in
          let (v, here) = slice_get_some s.parents p (omega (arith, full)) in ready_row p row v at here within is

      value_first : (p : ℕ) (d : Value) (among : Bool) → has_row p left ≡ among → p < length table → (if among then get_or done p d else get_or first p d) ≡ get_or done p d
      value_first p d true is within = refl
      value_first p d false is within =
          rw (← unwrap_or-slice_get first p d, ← unwrap_or-slice_get done p d, ready_first p within is)

      pub partly_first : IsPartly first left
      partly_first = record {
        ends =
            same_lists (with_values_in done left first) done (length-with_values done left first ∙ (length-first ∙ sym length-done)) (λ p d within.
            let in_table : p < length table = omega (arith, length-with_values done left first, length-first) in
            with_values_at done left first p d (omega (arith, length-done)) (omega (arith, length-first))
            ∙ value_first p d (has_row p left) refl in_table);
        other_rows = taken_out font_size_property declared;
      }

    module _ (values : List Value) (q : ℕ) (rest : List ℕ) (partly : IsPartly values (q ∷ rest)) where
      others_left : ((font_size_property == q) ≡ false) × (has_row font_size_property rest ≡ false)
      others_left = or_parts (font_size_property == q) (has_row font_size_property rest) partly.other_rows

      -- then one more
      module _ (row : PropertyRow) (v : Value) (at : slice_get table q ≡ Some row) (here : slice_get s.parents q ≡ Some v) where
        abbrev x : Value
        x = value_of q row v

        x_done : slice_get done q ≡ Some x
        x_done =
            done-at q row v at here
            ∙ ap Some (of_other q row v (λ e. eqb-false font_size_property q others_left.0 (sym e)))

        pub partly_next : IsPartly (set values q x) rest
        partly_next = record {
          ends = ap (λ o. with_values_in done rest (replaced o q values)) (sym x_done) ∙ partly.ends;
          other_rows = others_left.1;
        }

    -- and at the end all are
    pub partly_all : (values : List Value) (rest : List ℕ) → IsPartly values rest → rest ≡ [] → values ≡ done
    partly_all values rest partly none = ap (λ l. with_values_in done l values) (sym none) ∙ partly.ends
