-- The keys of rules that are kept are those of their sheets.
use Rattle.std.proofs.Common.{◌≡◌, ℕ, ◌+◌, ◌<◌, ◌≤◌, List, [], ◌∷◌, ◌++◌, length, map, flat_map, take, drop, get_or, true, false, refl, sym, ap, ◌∙◌, arith}
use Rattle.std.proofs.Math.Logic.{∥∥₁_elim, ∥∥₁_map}
use Rattle.std.specs.Prelude.{Vec}
use Rattle.std.specs.Coded.{le_prop}
use Rattle.std.specs.declared.alloc.Global.{Global}
use Rattle.std.proofs.lemmas.Bool.{cond-true, cond-false}
use Rattle.std.proofs.lemmas.Simd.{map-map}
use Rattle.std.proofs.lemmas.List.{drop-map, length-map, map-append, take-map}
use Rattle.std.proofs.lemmas.List.Folds.{flat_map-map}
use Rattle.base_model.specs.Sheet.{Sheet}
use Rattle.selector_model.specs.Key.{key_of}
use Rattle.selector_model.specs.Selector as model
use Rattle.sheet_model.specs.StyleRules.{style_rules_in}
use Rattle.sheet_model.specs.Sources.{PlacedRule, edition_of}
use Rattle.edit_model.specs.SheetApply.{with_enabled}
use Rattle.sheet_edit_model.specs.SheetMarks.{keys_in, selectors_in}
use Rattle.selector_types.specs.View.{selector_of}
use Rattle.selector_types.specs.declared.selector.Selector.{Selector}
use Rattle.sheet_set.specs.declared.sheet_rule.SheetRule.{SheetRule}
use Rattle.sheet_set.specs.declared.kept_sheet.KeptSheet.{KeptSheet}
use Rattle.sheet_set.specs.Kept.{kept_seen, taking}
use Rattle.sheet_set.specs.Rules.{AreSame, rules_at, rules_with}
use Rattle.sheet_set.specs.StepOf.{AreSelectorsOf, keys_of}
use Rattle.sheet_set.proofs.MovedRules.{part_is, taking-on}
use Rattle.sheet_set.proofs.Placing.{selectors-placed}
use Rattle.sheet_set.proofs.Taking.{counted-within, part_count, rules_count}

abbrev in_list : Vec Selector Global → List model.Selector
in_list list = map selector_of list.items

abbrev of_rule : PlacedRule → List model.Selector
of_rule rule = rule.selectors

keys-joined : (lists : List (Vec Selector Global)) → keys_of lists ≡ map key_of (flat_map (λ (l : List model.Selector). l) (map in_list lists))
keys-joined [] = refl
keys-joined (list ∷ lists) =
    let rest : List model.Selector = flat_map (λ (l : List model.Selector). l) (map in_list lists) in
    ap (λ l. map (λ selector. key_of (selector_of selector)) list.items ++ l) (keys-joined lists)
    ∙ (ap (λ l. l ++ map key_of rest) (sym (map-map key_of selector_of list.items)) ∙ sym (map-append key_of (in_list list) rest))

-- the keys of rules that stand for those of a sheet's text
keys-of-text : (lists : List (Vec Selector Global)) (sheet : Sheet) → map in_list lists ≡ map of_rule (rules_at 0 sheet)
    → keys_of lists ≡ map key_of (selectors_in (style_rules_in (edition_of sheet) sheet.text))
keys-of-text lists sheet is =
    keys-joined lists
    ∙ (ap (λ l. map key_of (flat_map (λ (l : List model.Selector). l) l)) is
    ∙ ap (map key_of) (flat_map-map (λ (l : List model.Selector). l) of_rule (rules_at 0 sheet) ∙ selectors-placed sheet 0 0 (style_rules_in (edition_of sheet) sheet.text)))

keys-taking : (lists : List (Vec Selector Global)) (sheet : Sheet) → sheet.enabled ≡ true → map in_list lists ≡ map of_rule (rules_at 0 sheet) → keys_of lists ≡ keys_in sheet
keys-taking lists sheet on is =
    keys-of-text lists sheet is
    ∙ sym (cond-true sheet.enabled (map key_of (selectors_in (style_rules_in (edition_of sheet) sheet.text))) [] on)

-- the selectors of rules are those that stand beside them, wherever their sheets stand
with-selectors : (rules : List SheetRule) (lists : List (Vec Selector Global)) → length rules ≡ length lists → map of_rule (rules_with rules lists) ≡ map in_list lists
with-selectors [] [] same = refl
with-selectors [] (list ∷ lists) same = absurd (omega (arith, same))
with-selectors (rule ∷ rules) [] same = absurd (omega (arith, same))
with-selectors (rule ∷ rules) (list ∷ lists) same =
    ap (λ l. in_list list ∷ l) (with-selectors rules lists (omega (arith, same)))

-- of a sheet that waits
pub own-keys : (kept : KeptSheet) → kept.enabled ≡ false → ∥ keys_of kept.selectors.items ≡ keys_in (with_enabled true (kept_seen kept)) ∥₁
own-keys kept off =
    let same : length kept.rules.items ≡ length kept.selectors.items = omega (arith, kept.paired, kept.rules.ok, kept.selectors.ok) in
    ∥∥₁_map kept.own (λ own.
    keys-of-text kept.selectors.items (kept_seen kept)
    (sym (with-selectors kept.rules.items kept.selectors.items same) ∙ ap (map of_rule) (own ∙ cond-false kept.enabled [] (rules_at 0 (kept_seen kept)) off)))

-- of a sheet that takes part, where those of all stand
module _ (sheets : List KeptSheet) (place : ℕ) (it : KeptSheet) (within : place < length sheets) (is : it ≡ get_or sheets place it) (on : it.enabled ≡ true)
    (lists : List (Vec Selector Global)) (all : AreSelectorsOf sheets lists) where
  pub keys-at : (at : ℕ) → length (taking (take place sheets)) ≡ at → ∥ keys_of (take it.count (drop at lists)) ≡ keys_in (kept_seen it) ∥₁
  keys-at at before =
      let first : List PlacedRule = taking (take place sheets) in
      let its : List PlacedRule = rules_at 0 (kept_seen it) in
      let last : List PlacedRule = taking (drop (place + 1) sheets) in
      let parts : map of_rule (taking sheets) ≡ map of_rule first ++ (map of_rule its ++ map of_rule last) =
      ap (map of_rule) (taking-on sheets place it within is on)
      ∙ (map-append of_rule first (its ++ last) ∙ ap (λ l. map of_rule first ++ l) (map-append of_rule its last)) in
      ∥∥₁_map all (λ are.
      keys-taking (take it.count (drop at lists)) (kept_seen it) on
      (sym (take-map in_list it.count (drop at lists))
      ∙ (ap (take it.count) (sym (drop-map in_list at lists))
      ∙ part_is (map in_list lists) (map of_rule first) (map of_rule its) (map of_rule last) at it.count (are ∙ parts) (length-map first of_rule ∙ before) (length-map its of_rule ∙ rules_count it))))

  pub at-within : length (taking (take place sheets)) + it.count ≤ length lists
  at-within =
      ∥∥₁_elim all le_prop (λ are.
      let long : length lists ≡ length (taking sheets) = sym (length-map lists in_list) ∙ (ap length are ∙ length-map (taking sheets) of_rule) in
      omega (arith, long, counted-within sheets place it within is, part_count it on))

pub total-at : (sheets : List KeptSheet) (lists : List (Vec Selector Global)) → AreSelectorsOf sheets lists → length (taking sheets) ≤ length lists
total-at sheets lists all =
    ∥∥₁_elim all le_prop (λ are.
    let long : length lists ≡ length (taking sheets) = sym (length-map lists in_list) ∙ (ap length are ∙ length-map (taking sheets) of_rule) in
    omega (arith, long))

pub selectors-all : (sheets : List KeptSheet) (rules : List SheetRule) (lists : List (Vec Selector Global)) → length rules ≡ length lists
    → AreSame (rules_with rules lists) (taking sheets) → AreSelectorsOf sheets lists
selectors-all sheets rules lists same texts =
    ∥∥₁_map texts (λ are. sym (with-selectors rules lists same) ∙ ap (map of_rule) are)
