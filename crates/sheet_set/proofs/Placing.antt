-- The rules and layers of a list of sheets, from those of its parts.
use Rattle.std.proofs.Common.{◌≡◌, ℕ, zero, suc, ◌+◌, List, [], ◌∷◌, ◌++◌, length, map, flat_map, take, drop, sum_by, true, false, Bool, cond, refl, sym, ap, ◌∙◌, arith, append_assoc, length-append}
use Rattle.std.specs.Prelude.{Vec}
use Rattle.std.specs.declared.alloc.Global.{Global}
use Rattle.std.proofs.lemmas.Bool.{cond-true, cond-false}
use Rattle.std.proofs.lemmas.List.Concat.{flat_map-append}
use Rattle.std.proofs.lemmas.List.Elements.{filter-append}
use Rattle.std.proofs.lemmas.List.Sums.{sum_by-cons}
use Rattle.base_model.specs.Sheet.{Sheet}
use Rattle.layer_model.specs.Order.{layers_of}
use Rattle.sheet_model.specs.StyleRules.{StyleRule, style_rules_in}
use Rattle.sheet_model.specs.Sources.{PlacedRule, placed, all_placed, edition_of, enabled_among, rules_from, rules_of_sheets, layers_of_sheets, sheet_layers}
use Rattle.selector_types.specs.declared.selector.Selector.{Selector}
use Rattle.sheet_set.specs.declared.sheet_rule.SheetRule.{SheetRule}
use Rattle.sheet_set.specs.Rules.{count_in, placed_rule_of, put_at, rules_at, rules_with}

pub placed-put : (sheet : Sheet) (old new index : ℕ) (rules : List StyleRule) → map (put_at new) (all_placed sheet old index rules) ≡ all_placed sheet new index rules
placed-put sheet old new index [] = refl
placed-put sheet old new index (rule ∷ rules) =
    ap (λ l. placed sheet new index rule ∷ l) (placed-put sheet old new (index + length rule.declarations) rules)

pub length-placed : (sheet : Sheet) (position index : ℕ) (rules : List StyleRule) → length (all_placed sheet position index rules) ≡ length rules
length-placed sheet position index [] = refl
length-placed sheet position index (rule ∷ rules) =
    ap (λ n. suc n) (length-placed sheet position (index + length rule.declarations) rules)

-- the selectors of a sheet's rules are those of its text
pub selectors-placed : (sheet : Sheet) (position index : ℕ) (rules : List StyleRule) → flat_map (λ (rule : PlacedRule). rule.selectors) (all_placed sheet position index rules) ≡ flat_map (λ (rule : StyleRule). rule.selectors) rules
selectors-placed sheet position index [] = refl
selectors-placed sheet position index (rule ∷ rules) =
    ap (λ l. rule.selectors ++ l) (selectors-placed sheet position (index + length rule.declarations) rules)

-- sheets after sheets: the positions of those that come later are counted on
pub rules_from-append : (position : ℕ) (xs ys : List Sheet) → rules_from position (xs ++ ys) ≡ rules_from position xs ++ rules_from (position + length xs) ys
rules_from-append position [] ys = ap (λ p. rules_from p ys) (omega arith)
rules_from-append position (x ∷ xs) ys =
    let own = rules_at position x in
    let later = rules_from (position + 1) xs in
    let counted : position + 1 + length xs ≡ position + length (x ∷ xs) = omega arith in
    ap (λ l. own ++ l) (rules_from-append (position + 1) xs ys ∙ ap (λ p. later ++ rules_from p ys) counted)
    ∙ sym (append_assoc own later (rules_from (position + length (x ∷ xs)) ys))

-- so the rules of a sheet begin where those of the enabled ones before it end
pub length-rules : (position : ℕ) (sheets : List Sheet) → length (rules_from position sheets) ≡ sum_by count_in sheets
length-rules position [] = refl
length-rules position (sheet ∷ sheets) =
    let own = length-placed sheet position 0 (style_rules_in (edition_of sheet) sheet.text) in
    let rest = length-rules (position + 1) sheets in
    length-append (rules_at position sheet) (rules_from (position + 1) sheets)
    ∙ (ap (λ n. n + length (rules_from (position + 1) sheets)) own
    ∙ (ap (λ n. count_in sheet + n) rest ∙ sym (sum_by-cons count_in sheet sheets)))

module _ (xs : List Sheet) (sheet : Sheet) (ys : List Sheet) where
  -- the position of the sheet, if it is enabled
  abbrev pub position_after : ℕ
  position_after = length (enabled_among xs)

  counted_from : (sheets : List Sheet) → rules_from 0 (enabled_among xs ++ sheets) ≡ rules_from 0 (enabled_among xs) ++ rules_from position_after sheets
  counted_from sheets =
      let none : 0 + length (enabled_among xs) ≡ length (enabled_among xs) = omega arith in
      rules_from-append 0 (enabled_among xs) sheets ∙ ap (λ p. rules_from 0 (enabled_among xs) ++ rules_from p sheets) none

  -- the rules of all sheets where this one takes part, and where it doesn't
  pub rules-on : sheet.enabled ≡ true → rules_of_sheets (xs ++ sheet ∷ ys) ≡ rules_of_sheets xs ++ (rules_at position_after sheet ++ rules_from (position_after + 1) (enabled_among ys))
  unfolding rules_of_sheets
  rules-on on =
      let kept = filter-append (λ (s : Sheet). s.enabled) xs (sheet ∷ ys) ∙ ap (λ l. enabled_among xs ++ l) (cond-true sheet.enabled (sheet ∷ enabled_among ys) (enabled_among ys) on) in
      ap (rules_from 0) kept ∙ counted_from (sheet ∷ enabled_among ys)

  pub rules-off : sheet.enabled ≡ false → rules_of_sheets (xs ++ sheet ∷ ys) ≡ rules_of_sheets xs ++ rules_from position_after (enabled_among ys)
  unfolding rules_of_sheets
  rules-off off =
      let kept = filter-append (λ (s : Sheet). s.enabled) xs (sheet ∷ ys) ∙ ap (λ l. enabled_among xs ++ l) (cond-false sheet.enabled (sheet ∷ enabled_among ys) (enabled_among ys) off) in
      ap (rules_from 0) kept ∙ counted_from (enabled_among ys)

-- and where it isn't there
pub rules-without : (xs ys : List Sheet) → rules_of_sheets (xs ++ ys) ≡ rules_of_sheets xs ++ rules_from (length (enabled_among xs)) (enabled_among ys)
unfolding rules_of_sheets
rules-without xs ys =
    let none : 0 + length (enabled_among xs) ≡ length (enabled_among xs) = omega arith in
    ap (rules_from 0) (filter-append (λ (s : Sheet). s.enabled) xs ys)
    ∙ (rules_from-append 0 (enabled_among xs) (enabled_among ys)
    ∙ ap (λ p. rules_from 0 (enabled_among xs) ++ rules_from p (enabled_among ys)) none)

-- a sheet that declares no layer is not needed for those of all, enabled or not
pub layers-without : (xs : List Sheet) (sheet : Sheet) (ys : List Sheet) → sheet_layers sheet ≡ [] → layers_of_sheets (xs ++ sheet ∷ ys) ≡ layers_of_sheets (xs ++ ys)
unfolding layers_of_sheets
layers-without xs sheet ys none =
    let split = λ (sheets : List Sheet). ap (flat_map sheet_layers) (filter-append (λ (s : Sheet). s.enabled) xs sheets) ∙ flat_map-append sheet_layers (enabled_among xs) (enabled_among sheets) in
    ap layers_of (split (sheet ∷ ys) ∙ (ap (λ l. flat_map sheet_layers (enabled_among xs) ++ l) (by sheet.enabled) ∙ sym (split ys)))
  where
    by : (b : Bool) → flat_map sheet_layers (cond b (sheet ∷ enabled_among ys) (enabled_among ys)) ≡ flat_map sheet_layers (enabled_among ys)
    by true = ap (λ l. l ++ flat_map sheet_layers (enabled_among ys)) none
    by false = refl

-- rules with their selectors, part by part

pub rules_with-append : (rules more : List SheetRule) (lists others : List (Vec Selector Global)) → length rules ≡ length lists → rules_with (rules ++ more) (lists ++ others) ≡ rules_with rules lists ++ rules_with more others
rules_with-append [] more [] others same = refl
rules_with-append [] more (l ∷ lists) others same = absurd (omega (arith, same))
rules_with-append (r ∷ rules) more [] others same = absurd (omega (arith, same))
rules_with-append (r ∷ rules) more (l ∷ lists) others same =
    ap (λ rest. placed_rule_of r l.items ∷ rest) (rules_with-append rules more lists others (omega (arith, same)))

pub rules_with-take : (n : ℕ) (rules : List SheetRule) (lists : List (Vec Selector Global)) → rules_with (take n rules) (take n lists) ≡ take n (rules_with rules lists)
rules_with-take zero rules lists = refl
rules_with-take (suc n) [] lists = refl
rules_with-take (suc n) (r ∷ rules) [] = refl
rules_with-take (suc n) (r ∷ rules) (l ∷ lists) = ap (λ rest. placed_rule_of r l.items ∷ rest) (rules_with-take n rules lists)

pub rules_with-drop : (n : ℕ) (rules : List SheetRule) (lists : List (Vec Selector Global)) → rules_with (drop n rules) (drop n lists) ≡ drop n (rules_with rules lists)
rules_with-drop zero rules lists = refl
rules_with-drop (suc n) [] lists = refl
rules_with-drop (suc n) (r ∷ rules) [] = none_with (drop n rules)
  where
    none_with : (rules : List SheetRule) → rules_with rules [] ≡ []
    none_with [] = refl
    none_with (r ∷ rules) = refl
rules_with-drop (suc n) (r ∷ rules) (l ∷ lists) = rules_with-drop n rules lists
