-- One rule, one declaration and one sheet more.
use Rattle.std.proofs.Common.{◌≡◌, ℕ, ◌+◌, List, [], ◌∷◌, ◌++◌, length, map, Option, Some, None, refl, sym, ap, ◌∙◌, arith, append_assoc, append-nil}
use Rattle.std.specs.Prelude.{Vec, flat_map, filter_map, option_and_then, option_map, option_to_list}
use Rattle.std.proofs.lemmas.List.{map-append}
use Rattle.std.specs.List.{cons_option}
use Rattle.std.specs.declared.alloc.Global.{Global}
use Rattle.base_model.specs.Origin.{Origin}
use Rattle.base_model.specs.Sheet.{Sheet}
use Rattle.layer_model.specs.Name.{LayerName}
use Rattle.syntax_model.specs.Rules.{Context, Rule, StyleBlock}
use Rattle.selector_model.specs.Selector as model_selector
use Rattle.sheet_model.specs.Declared as model
use Rattle.sheet_model.specs.SelectorsIn.{selectors_in}
use Rattle.sheet_model.specs.Declared.{block_declared}
use Rattle.sheet_model.specs.StyleRules.{StyleRule, style_rule_of, style_rule_in, layer_in}
use Rattle.sheet_model.specs.Sources.{PlacedRule, placed, all_placed}
use Rattle.layer_order.specs.View.{origin_of}
use Rattle.selector_types.specs.declared.selector.Selector.{Selector}
use Rattle.selector_types.specs.View.{selector_of}
use Rattle.sheet_set.specs.declared.sheet_rule.SheetRule.{SheetRule}
use Rattle.sheet_set.specs.Rules.{rule_count, placed_rule_of, rules_with}
use Rattle.shorthands.specs.View.{declared_of}

-- what is kept so far, and what each item that is left gives, is the whole: one item more
pub one_more : {A B : Type 0} (f : A → List B) (old new whole : List B) (left after : List A) (item : A) (given : List B) → left ≡ item ∷ after → f item ≡ given → new ≡ old ++ given → old ++ flat_map f left ≡ whole → new ++ flat_map f after ≡ whole
one_more f old new whole left after item given is gives added before =
    ap (λ l. l ++ flat_map f after) added ∙ append_assoc old given (flat_map f after) ∙ ap (λ m. old ++ (m ++ flat_map f after)) (sym gives) ∙ ap (λ l. old ++ flat_map f l) (sym is) ∙ before

pub none_left : {A B : Type 0} (f : A → List B) (found whole : List B) (left : List A) → left ≡ [] → found ++ flat_map f left ≡ whole → found ≡ whole
none_left f found whole left none all = sym (append-nil found) ∙ ap (λ l. found ++ flat_map f l) (sym none) ∙ all

pub rules_with-last : (rules : List SheetRule) (lists : List (Vec Selector Global)) (rule : SheetRule) (list : Vec Selector Global) → length rules ≡ length lists
    → rules_with (rules ++ rule ∷ []) (lists ++ list ∷ []) ≡ rules_with rules lists ++ placed_rule_of rule list.items ∷ []
rules_with-last [] [] rule list same = refl
rules_with-last [] (l ∷ lists) rule list same = absurd (omega (arith, same))
rules_with-last (r ∷ rules) [] rule list same = absurd (omega (arith, same))
rules_with-last (r ∷ rules) (l ∷ lists) rule list same =
    ap (λ rest. placed_rule_of r l.items ∷ rest) (rules_with-last rules lists rule list (omega (arith, same)))

-- a rule whose prelude is a list of selectors
pub style_is : (style : StyleBlock) (selectors : List model_selector.Selector) → selectors_in style.prelude ≡ Some selectors → style_rule_of style ≡ Some (record { selectors = selectors; declarations = block_declared style.block; context = style.context })
style_is style selectors is =
    ap (option_and_then (λ ss. Some (record { selectors = ss; declarations = block_declared style.block; context = style.context }))) is

pub rule_is : (rule : SheetRule) (list : List Selector) (kept : List model.Declared) (context : Context) (sheet : Sheet) (index : ℕ) → flat_map declared_of rule.body.value.declarations.items ≡ kept → origin_of rule.body.value.origin ≡ sheet.origin
    → rule.body.value.layer ≡ context.layer → rule.body.value.sheet ≡ sheet.number → rule.body.value.first_index ≡ index → placed_rule_of rule list ≡ placed sheet 0 index (record { selectors = map selector_of list; declarations = kept; context = context })
rule_is rule list kept context sheet index d o l n i = cc

-- rules after rules: those that come later are counted on
pub all_placed-append : (sheet : Sheet) (position index : ℕ) (rule : Option StyleRule) (rules : List StyleRule) → all_placed sheet position index (option_to_list rule ++ rules) ≡ all_placed sheet position index (option_to_list rule) ++ all_placed sheet position (index + rule_count rule) rules
all_placed-append sheet position index None rules = ap (λ n. all_placed sheet position n rules) (omega arith)
all_placed-append sheet position index (Some rule) rules = refl

-- the rules that are collected, and those that are left of a sheet, are the whole
module _ (sheet : Sheet) (position : ℕ) (whole : List PlacedRule) where
  abbrev pub Completes : List PlacedRule → ℕ → List Rule → Type 0
  Completes found index left = found ++ all_placed sheet position index (filter_map style_rule_in left) ≡ whole

  first_of : (kept : Option StyleRule) (rules : List StyleRule) → cons_option kept rules ≡ option_to_list kept ++ rules
  first_of None rules = refl
  first_of (Some rule) rules = refl

  -- one rule more
  pub style_added : (found new : List PlacedRule) (index next : ℕ) (left after : List Rule) (rule : Rule) → left ≡ rule ∷ after → new ≡ found ++ all_placed sheet position index (option_to_list (style_rule_in rule)) → next ≡ index + rule_count (style_rule_in rule) → Completes found index left → Completes new next after
  style_added found new index next left after rule is added counted before =
      let kept = style_rule_in rule in
      let rest = filter_map style_rule_in after in
      let all : found ++ all_placed sheet position index (option_to_list kept ++ rest) ≡ whole = ap (λ l. found ++ all_placed sheet position index l) (sym (ap (filter_map style_rule_in) is ∙ first_of kept rest)) ∙ before in
      ap (λ l. l ++ all_placed sheet position next rest) added
      ∙ (append_assoc found (all_placed sheet position index (option_to_list kept)) (all_placed sheet position next rest)
      ∙ (ap (λ n. found ++ (all_placed sheet position index (option_to_list kept) ++ all_placed sheet position n rest)) counted
      ∙ (ap (λ l. found ++ l) (sym (all_placed-append sheet position index kept rest)) ∙ all)))

  pub rules_done : (found : List PlacedRule) (index : ℕ) (left : List Rule) → left ≡ [] → Completes found index left → found ≡ whole
  rules_done found index left none before = sym (append-nil found) ∙ (rw none at before)

-- the layers that are collected, and those that are left, are the whole
module _ {A : Type 0} (whole : List A) (f : Rule → Option A) where
  abbrev pub Fills : List A → List Rule → Type 0
  Fills found left = found ++ filter_map f left ≡ whole

  given : (o : Option A) (rest : List A) (found : List A) → found ++ cons_option o rest ≡ (found ++ option_to_list o) ++ rest
  given None rest found = ap (λ l. l ++ rest) (sym (append-nil found))
  given (Some a) rest found = sym (append_assoc found (a ∷ []) rest)

  pub one_filled : (found new : List A) (left after : List Rule) (rule : Rule) → left ≡ rule ∷ after → new ≡ found ++ option_to_list (f rule) → Fills found left → Fills new after
  one_filled found new left after rule is added before =
      ap (λ l. l ++ filter_map f after) added
      ∙ (sym (given (f rule) (filter_map f after) found) ∙ (ap (λ l. found ++ filter_map f l) (sym is) ∙ before))

  pub all_filled : (found : List A) (left : List Rule) → left ≡ [] → Fills found left → found ≡ whole
  all_filled found left none before = sym (append-nil found) ∙ (rw none at before)

-- the rules that were there, and all of a sheet
abbrev pub collected : Sheet → ℕ → List PlacedRule → List Rule → List PlacedRule
collected sheet position found rules = found ++ all_placed sheet position 0 (filter_map style_rule_in rules)

-- a layer that a sheet declares, with its origin
abbrev pub layer_given : Sheet → Rule → Option (Origin × LayerName)
layer_given sheet rule = option_map (λ name. (sheet.origin, name)) (layer_in rule)

given_step : (sheet : Sheet) (o : Option LayerName) (rest : List LayerName) (given : List (Origin × LayerName)) → given ≡ map (λ name. (sheet.origin, name)) rest → cons_option (option_map (λ name. (sheet.origin, name)) o) given ≡ map (λ name. (sheet.origin, name)) (cons_option o rest)
given_step sheet None rest given h = h
given_step sheet (Some name) rest given h = ap (λ l. (sheet.origin, name) ∷ l) h

pub layers_given : (sheet : Sheet) (rules : List Rule) → filter_map (layer_given sheet) rules ≡ map (λ name. (sheet.origin, name)) (filter_map layer_in rules)
layers_given sheet [] = refl
layers_given sheet (rule ∷ rules) =
    given_step sheet (layer_in rule) (filter_map layer_in rules) (filter_map (layer_given sheet) rules) (layers_given sheet rules)

-- one item more of a list whose items stand for those of the whole
pub one_placed : {A C : Type 0} (f : A → C) (items new : List A) (item : A) (left after : List C) (first : C) (whole : List C) → new ≡ items ++ item ∷ [] → left ≡ first ∷ after → f item ≡ first → map f items ++ left ≡ whole → map f new ++ after ≡ whole
one_placed f items new item left after first whole added is same before =
    ap (λ l. map f l ++ after) added
    ∙ (ap (λ l. l ++ after) (map-append f items (item ∷ []))
    ∙ (append_assoc (map f items) (f item ∷ []) after
    ∙ (ap (λ c. map f items ++ c ∷ after) same ∙ (ap (λ l. map f items ++ l) (sym is) ∙ before))))

pub none_placed : {A : Type 0} (found left whole : List A) → left ≡ [] → found ++ left ≡ whole → found ≡ whole
none_placed found left whole none before = sym (append-nil found) ∙ ap (λ l. found ++ l) (sym none) ∙ before
