-- What is declared of custom properties, as a map.
use Rattle.std.proofs.Common.{◌≡◌, Bool, true, false, ◌||◌, cond, List, [], ◌∷◌, filter, Option, Some, None, is_some, option_map, refl, sym, ap, ◌∙◌}
use Rattle.std.specs.Cmp.Lexicographic.{nat_list_cmp_total}
use Rattle.std.specs.FinMap as finmap
use Rattle.std.specs.List.{list_any, filter_map, cons_option}
use Rattle.std.specs.Ordering.{eq_by_cmp}
use Rattle.std.proofs.lemmas.Cmp.{eq_by_cmp_equiv}
use Rattle.std.proofs.lemmas.Bool.{or_parts, true≢false}
use Rattle.std.proofs.lemmas.Map.Text.{is_eq-slice_cmp}
use Rattle.std.proofs.lemmas.Slice.Eq.{bytes_eq-Decides}
use Rattle.base_model.specs.Text.{Characters}
use Rattle.custom_model.specs.Value.{CustomValue, CustomValues}
use Rattle.custom_model.specs.Computed.{resolved}
use Rattle.custom_model.proofs.Maps.{resolved-empty}
use Rattle.css_tokens.proofs.PlaceLemmas.{order}
use Rattle.sheet_model.specs.Declared.{Target, longhand, custom, is_custom}
use Rattle.cascade_model.specs.Key.{Matched}
use Rattle.cascade_model.specs.Winner.{declares_custom}
use Rattle.cascade_model.specs.Ending.{ending_of, custom_meaning, custom_ending}
use Rattle.cascade_model.specs.Custom.{custom_name, custom_names, declared_value, declared_entry, declared_values, custom_values}

abbrev pub ties : Characters → Characters → Bool
ties q name = eq_by_cmp order q name

pub ties-same : (q name : Characters) → ties q name ≡ true → q ≡ name
ties-same q name h = (bytes_eq-Decides q name).0 (sym (is_eq-slice_cmp q name) ∙ h)

pub is_custom-ties : (name other : Characters) → is_custom name (custom other) ≡ ties name other
is_custom-ties name other =
    sym (is_eq-slice_cmp other name) ∙ (eq_by_cmp_equiv nat_list_cmp_total).symm other name

cond-same : {X : Type 0} (b : Bool) (x : X) → cond b x x ≡ x
cond-same true x = refl
cond-same false x = refl

-- the entries of those names that have a value
module _ {X : Type 0} (value : Characters → Option X) where
  abbrev entry : Characters → Option (Characters × X)
  entry name = option_map (λ x. (name, x)) (value name)

  abbrev found : Characters → List Characters → Option X
  found q names = finmap.find order q (filter_map entry names)

  module _ (q name : Characters) (names : List Characters) (rest : found q names ≡ cond (list_any (ties q) names) (value q) None) where
    abbrev found_with : Option X → Option X
    found_with o = finmap.find order q (cons_option (option_map (λ x. (name, x)) o) (filter_map entry names))

    found_step : (b : Bool) (o : Option X) → ties q name ≡ b → value name ≡ o → found_with o ≡ cond (b || list_any (ties q) names) (value q) None
    found_step true (Some x) tied is = rw (tied, ties-same q name tied, is)
    found_step true None tied is = rw (rest, ties-same q name tied, is) (cond-same (list_any (ties name) names) None)
    found_step false (Some x) other is = rw other rest
    found_step false None other is = rest

  pub found_value : (q : Characters) (names : List Characters) → found q names ≡ cond (list_any (ties q) names) (value q) None
  found_value q [] = refl
  found_value q (name ∷ names) = found_step q name names (found_value q names) (ties q name) (value name) refl refl

-- where no declaration is of a name, none is left of it
not_of : (name : Characters) (t : Target) (rest : List Characters) → list_any (ties name) (cons_option (custom_name t) rest) ≡ false → (is_custom name t ≡ false) × (list_any (ties name) rest ≡ false)
not_of name (longhand property) rest none = (refl, none)
not_of name (custom other) rest none =
    let parts = or_parts (ties name other) (list_any (ties name) rest) none in (is_custom-ties name other ∙ parts.0, parts.1)

undeclared : (name : Characters) (ds : List Matched) → list_any (ties name) (custom_names ds) ≡ false → filter (declares_custom name) ds ≡ []
undeclared name [] none = refl
undeclared name (d ∷ ds) none =
    let parts = not_of name d.target (custom_names ds) none in
    rw (parts.0, undeclared name ds parts.1)

-- what is declared of a name, by its declarations
abbrev pub declared_by : List Matched → Characters → Option (Option CustomValue)
declared_by ds name = declared_value (custom_ending name ds)

nothing_declared : (ds : List Matched) → ds ≡ [] → declared_value (ending_of custom_meaning ds) ≡ None
unfolding ending_of
nothing_declared ds none = ap (λ l. declared_value (ending_of custom_meaning l)) none

if_declared : (ds : List Matched) (name : Characters) (b : Bool) → list_any (ties name) (custom_names ds) ≡ b → cond b (declared_by ds name) None ≡ declared_by ds name
if_declared ds name true is = refl
if_declared ds name false is =
    sym (nothing_declared (filter (declares_custom name) ds) (undeclared name ds is))

pub get-declared_values : (ds : List Matched) (name : Characters) → finmap.get (declared_values ds) name ≡ declared_by ds name
unfolding declared_values
get-declared_values ds name =
    finmap.get-from_entries nat_list_cmp_total _ name
    ∙ (found_value (declared_by ds) name (custom_names ds)
    ∙ if_declared ds name (list_any (ties name) (custom_names ds)) refl)

no_name : (o : Option Characters) (rest : List Characters) → is_some o ≡ false → cons_option o rest ≡ rest
no_name None rest none = refl
no_name (Some name) rest none = absurd (true≢false none)

no_names : (ds : List Matched) → list_any (λ d. is_some (custom_name d.target)) ds ≡ false → custom_names ds ≡ []
no_names [] none = refl
no_names (d ∷ ds) none =
    let parts = or_parts (is_some (custom_name d.target)) (list_any (λ e. is_some (custom_name e.target)) ds) none in
    no_name (custom_name d.target) (custom_names ds) parts.0 ∙ no_names ds parts.1

-- where no custom property is declared, all are the parent's
pub none_declared : (parents : CustomValues) (ds : List Matched) → list_any (λ d. is_some (custom_name d.target)) ds ≡ false → custom_values parents ds ≡ parents
unfolding declared_values
none_declared parents ds none =
    ap (λ names. resolved (finmap.from_entries (filter_map (declared_entry ds) names)) parents) (no_names ds none)
    ∙ resolved-empty parents
