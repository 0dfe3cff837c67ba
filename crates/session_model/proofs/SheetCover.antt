-- An element that bears no key of the sheet that an edit changes has matchings that agree, where no layers are swapped.
use Rattle.std.proofs.Common.{◌≡◌, ℕ, ◌+◌, Bool, true, false, not, List, [], ◌∷◌, map, filter, flat_map, Option, Some, None, refl, sym, ap, ◌∙◌, subst}
use Rattle.std.specs.Prelude.{codes}
use Rattle.std.specs.List.{AllByRecursion}
use Rattle.std.specs.Ordering.{nat_cmp}
use Rattle.std.proofs.lemmas.Simd.{map-map}
use Rattle.base_model.specs.Origin.{author}
use Rattle.base_model.specs.Sheet.{Sheet}
use Rattle.base_model.specs.Specificity.{Specificity}
use Rattle.base_model.specs.Text.{Characters}
use Rattle.layer_model.specs.Name.{no_layer}
use Rattle.layer_model.specs.Order.{Layers}
use Rattle.scene_model.specs.Element.{Element}
use Rattle.scene_model.specs.Lookups.{is_element, attribute_of}
use Rattle.scene_model.proofs.Lists.{each_weaker, each_both, each-flat_map, each-filter, filter_comm}
use Rattle.selector_model.specs.Selector.{Selector}
use Rattle.selector_model.specs.Holds.{holds}
use Rattle.sheet_model.specs.Declared.{Declared, style_declared}
use Rattle.sheet_model.specs.Sources.{PlacedRule, rules_from, enabled_among, layers_of_sheets, sources_of}
use Rattle.cascade_model.specs.Matching.{greatest_by, matching}
use Rattle.session_model.specs.Agrees.{Pair, IsAlike, CompareAlike, Agrees}
use Rattle.layer_model.specs.Swapped.{swapped}
use Rattle.sheet_edit_model.specs.SheetMarks.{bears_some}
use Rattle.base_model.proofs.Lists.{each_any, each-map, each-append}
use Rattle.layer_model.proofs.Ranks.{IsThere}
use Rattle.session_model.proofs.OtherSheets.{HasLayers, LayerThere, enabled_has, rules_there, none_there}
use Rattle.session_model.proofs.Spots.{Spot, ranked_by, all_spots, spots_with, rule_spots, all_style_spots, style_spots, spots, position_of_kept, rises, matching-spots}
use Rattle.session_model.proofs.CompareLemmas.{SpotThere, both, spots_alike, rising_alike}

module _ (before after : Layers) (free : swapped before after ≡ false) (f g : ℕ → ℕ) (steady : (i j : ℕ) → nat_cmp (f i) (f j) ≡ nat_cmp (g i) (g j)) where
  abbrev There : Spot → Type 0
  There s = SpotThere before after free f g steady s

  abbrev sides : Spot → Pair
  sides s = both before after free f g steady s

  -- spots whose layers are there before and after
  agree_on : (ss : List Spot) → AllByRecursion There ss → Agrees (map (ranked_by before f) ss) (map (ranked_by after g) ss)
  agree_on ss h =
      let pairs : List Pair = map sides ss in
      let one : (s : Spot) → There s → AllByRecursion (CompareAlike (sides s)) pairs = λ s k. each-map (CompareAlike (sides s)) sides ss (each_weaker There (λ t. CompareAlike (sides s) (sides t)) (λ t l. spots_alike before after free f g steady s t k l) ss h) in
      record {
        pairs = pairs;
        left = sym (map-map (λ (p : Pair). p.0) sides ss);
        right = sym (map-map (λ (p : Pair). p.1) sides ss);
        alike = record {
          each = each-map IsAlike sides ss (each_any (λ s. IsAlike (sides s)) (λ s. refl) ss);
          any_two = each-map (λ p. AllByRecursion (CompareAlike p) pairs) sides ss (each_weaker There (λ s. AllByRecursion (CompareAlike (sides s)) pairs) one ss h);
        };
      }

  -- the layer of a rule is that of its declarations
  abbrev RuleThere : PlacedRule → Type 0
  RuleThere rule = IsThere before after free rule.origin rule.layer

  all_there : (rule : PlacedRule) (specificity : Specificity) → RuleThere rule → (index : ℕ) (ds : List Declared) → AllByRecursion There (all_spots rule specificity index ds)
  all_there rule specificity k index [] = tt
  all_there rule specificity k index (d ∷ ds) = (k, all_there rule specificity k (index + 1) ds)

  with_there : (rule : PlacedRule) → RuleThere rule → (o : Option Specificity) → AllByRecursion There (spots_with rule o)
  with_there rule k None = tt
  with_there rule k (Some s) = all_there rule s k rule.first_index rule.declarations

  style_there : IsThere before after free author no_layer → (index : ℕ) (ds : List Declared) → AllByRecursion There (all_style_spots index ds)
  style_there k index [] = tt
  style_there k index (d ∷ ds) = (k, style_there k (index + 1) ds)

  text_there : IsThere before after free author no_layer → (o : Option Characters) → AllByRecursion There (style_spots o)
  text_there k None = tt
  text_there k (Some text) = style_there k 0 (style_declared text)

  spots_there : (doc : List Element) (e : ℕ) (sheets : List Sheet) → IsThere before after free author no_layer → AllByRecursion RuleThere (rules_from 0 sheets) → AllByRecursion There (spots doc e sheets)
  spots_there doc e sheets none h =
      let passes : Selector → Bool = λ selector. holds doc selector e in
      each-append There (flat_map (rule_spots passes) (rules_from 0 sheets)) (style_spots (attribute_of doc e (codes "style")))
      (each-flat_map There (rule_spots passes) (rules_from 0 sheets) (each_weaker RuleThere (λ rule. AllByRecursion There (rule_spots passes rule)) (λ rule k. with_there rule k (greatest_by passes None rule.selectors)) (rules_from 0 sheets) h))
      (text_there none (attribute_of doc e (codes "style")))

-- the sheets that stay have their layers
stay_have : (keep : Sheet → Bool) (sheets : List Sheet) → AllByRecursion (HasLayers (layers_of_sheets sheets)) (enabled_among (filter keep sheets))
stay_have keep sheets =
    let P : Sheet → Type 0 = HasLayers (layers_of_sheets sheets) in
    subst (AllByRecursion P) (filter_comm keep (λ (sheet : Sheet). sheet.enabled) sheets) (each-filter P P keep (λ sheet e h. h) (enabled_among sheets) (enabled_has sheets))

-- The sheets that a test keeps are the same in the same order before and after, and of the others' keys the element
-- bears none.
pub sheets_agree : (doc : List Element) (e : ℕ) → is_element doc e ≡ true → (keep : Sheet → Bool) (before after : List Sheet) → filter keep before ≡ filter keep after → swapped (layers_of_sheets before) (layers_of_sheets after) ≡ false → bears_some doc e (filter (λ sheet. not (keep sheet)) before) ≡ false → bears_some doc e (filter (λ sheet. not (keep sheet)) after) ≡ false → Agrees (matching doc (sources_of before) e) (matching doc (sources_of after) e)
sheets_agree doc e there keep before after same free before_none after_none =
    let was : Layers = layers_of_sheets before in
    let now : Layers = layers_of_sheets after in
    let f : ℕ → ℕ = position_of_kept keep 0 (enabled_among before) in
    let g : ℕ → ℕ = position_of_kept keep 0 (enabled_among after) in
    let steady : (i j : ℕ) → nat_cmp (f i) (f j) ≡ nat_cmp (g i) (g j) = λ i j. rising_alike f (rises keep 0 (enabled_among before)) i j ∙ sym (rising_alike g (rises keep 0 (enabled_among after)) i j) in
    let stay : List Sheet = enabled_among (filter keep before) in
    let rules : List PlacedRule = rules_from 0 stay in
    let stay_now : AllByRecursion (HasLayers now) stay = subst (λ sheets. AllByRecursion (HasLayers now) (enabled_among sheets)) (sym same) (stay_have keep after) in
    let layers : AllByRecursion (λ rule. LayerThere was rule × LayerThere now rule) rules = each_both (LayerThere was) (LayerThere now) rules (rules_there was stay (stay_have keep before) 0) (rules_there now stay stay_now 0) in
    let in_both : AllByRecursion (λ (rule : PlacedRule). IsThere was now free rule.origin rule.layer) rules = each_weaker (λ rule. LayerThere was rule × LayerThere now rule) (λ (rule : PlacedRule). IsThere was now free rule.origin rule.layer) (λ rule k. record { was = k.0; now = k.1 }) rules layers in
    let none : IsThere was now free author no_layer = record { was = none_there before author; now = none_there after author } in
    let agree : Agrees (map (ranked_by was f) (spots doc e stay)) (map (ranked_by now g) (spots doc e stay)) = agree_on was now free f g steady (spots doc e stay) (spots_there was now free f g steady doc e stay none in_both) in
    record {
      pairs = agree.pairs;
      left = matching-spots doc e there keep before before_none ∙ agree.left;
      right = matching-spots doc e there keep after after_none ∙ (ap (λ sheets. map (ranked_by now g) (spots doc e (enabled_among sheets))) (sym same) ∙ agree.right);
      alike = agree.alike;
    }
