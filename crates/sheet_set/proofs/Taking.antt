-- The rules of sheets that take part: of one more, and of one that comes or goes.
use Rattle.std.proofs.Common.{◌≡◌, ℕ, suc, ◌+◌, ◌-◌, ◌<◌, ◌≤◌, List, [], ◌∷◌, ◌++◌, length, map, flat_map, take, drop, get_or, true, false, Bool, refl, sym, ap, ◌∙◌, append-nil, arith, length-append, length-drop}
use Rattle.std.specs.Prelude.{Vec, min}
use Rattle.std.specs.declared.alloc.Global.{Global}
use Rattle.std.proofs.lemmas.Bool.{cond-true, cond-false}
use Rattle.std.proofs.lemmas.List.{map-append, length-take, length-take-le, take_more, take-append-drop}
use Rattle.std.proofs.lemmas.List.Concat.{flat_map-append}
use Rattle.std.proofs.lemmas.List.Elements.{filter-append}
use Rattle.base_model.specs.Origin.{Origin}
use Rattle.base_model.specs.Sheet.{Sheet}
use Rattle.layer_model.specs.Name.{LayerName}
use Rattle.sheet_model.specs.StyleRules.{StyleRule, style_rules_in}
use Rattle.sheet_model.specs.Sources.{placed, all_placed, edition_of, enabled_among, sheet_layers}
use Rattle.edit_model.specs.SheetApply.{with_enabled}
use Rattle.selector_types.specs.declared.selector.Selector.{Selector}
use Rattle.sheet_set.specs.declared.sheet_rule.SheetRule.{SheetRule}
use Rattle.sheet_set.specs.declared.kept_sheet.KeptSheet.{KeptSheet}
use Rattle.sheet_set.specs.Kept.{kept_seen, taking}
use Rattle.sheet_set.specs.Rules.{rules_at, rules_with, taking_part}
use Rattle.sheet_set.proofs.Placing.{length-placed, rules_with-append, rules_with-take, rules_with-drop}

-- lists of the same length, up to an index and from it on
pub same_front : {A B : Type 0} (at : ℕ) (xs : List A) (ys : List B) → length xs ≡ length ys → length (take at xs) ≡ length (take at ys)
same_front at xs ys same = length-take at xs ∙ (ap (min at) same ∙ sym (length-take at ys))

pub same_behind : {A B : Type 0} (at : ℕ) (xs : List A) (ys : List B) → length xs ≡ length ys → length (drop at xs) ≡ length (drop at ys)
same_behind at xs ys same = length-drop at xs ∙ (ap (λ n. n - at) same ∙ sym (length-drop at ys))

pub length-with : (rules : List SheetRule) (lists : List (Vec Selector Global)) → length rules ≡ length lists → length (rules_with rules lists) ≡ length rules
length-with [] lists same = refl
length-with (rule ∷ rules) [] same = absurd (omega (arith, same))
length-with (rule ∷ rules) (list ∷ lists) same = ap suc (length-with rules lists (omega (arith, same)))

-- so many items from an index on
pub length-part : {A : Type 0} (at count : ℕ) (xs : List A) → at + count ≤ length xs → length (take count (drop at xs)) ≡ count
length-part at count xs within = length-take-le count (drop at xs) (omega (arith, within, length-drop at xs))

-- the rules of a sheet are the same, whether it is enabled or not
placed-enabled : (sheet : Sheet) (on : Bool) (position index : ℕ) (rules : List StyleRule) → all_placed (with_enabled on sheet) position index rules ≡ all_placed sheet position index rules
placed-enabled sheet on position index [] = refl
placed-enabled sheet on position index (rule ∷ rules) =
    ap (λ l. placed sheet position index rule ∷ l) (placed-enabled sheet on position (index + length rule.declarations) rules)

pub at-enabled : (sheet : Sheet) (on : Bool) (position : ℕ) → rules_at position (with_enabled on sheet) ≡ rules_at position sheet
at-enabled sheet on position = placed-enabled sheet on position 0 (style_rules_in (edition_of sheet) sheet.text)

-- Rules that are put among others, and some that are taken from them, each with its own list of selectors.
module _ (at : ℕ) (rules : List SheetRule) (lists : List (Vec Selector Global)) (same : length rules ≡ length lists) where
  pub put_in : (its : List SheetRule) (their : List (Vec Selector Global)) → length its ≡ length their
      → rules_with (take at rules ++ (its ++ drop at rules)) (take at lists ++ (their ++ drop at lists)) ≡ take at (rules_with rules lists) ++ (rules_with its their ++ drop at (rules_with rules lists))
  put_in its their paired =
      rules_with-append (take at rules) (its ++ drop at rules) (take at lists) (their ++ drop at lists) (same_front at rules lists same)
      ∙ (ap (λ l. l ++ rules_with (its ++ drop at rules) (their ++ drop at lists)) (rules_with-take at rules lists)
      ∙ ap (λ l. take at (rules_with rules lists) ++ l) (rules_with-append its (drop at rules) their (drop at lists) paired
      ∙ ap (λ l. rules_with its their ++ l) (rules_with-drop at rules lists)))

  pub taken_out : (count : ℕ) → rules_with (take at rules ++ drop count (drop at rules)) (take at lists ++ drop count (drop at lists)) ≡ take at (rules_with rules lists) ++ drop count (drop at (rules_with rules lists))
  taken_out count =
      rules_with-append (take at rules) (drop count (drop at rules)) (take at lists) (drop count (drop at lists)) (same_front at rules lists same)
      ∙ (ap (λ l. l ++ rules_with (drop count (drop at rules)) (drop count (drop at lists))) (rules_with-take at rules lists)
      ∙ ap (λ l. take at (rules_with rules lists) ++ l) (rules_with-drop count (drop at rules) (drop at lists) ∙ ap (drop count) (rules_with-drop at rules lists)))

  pub part_of : (count : ℕ) → rules_with (take count (drop at rules)) (take count (drop at lists)) ≡ take count (drop at (rules_with rules lists))
  part_of count = rules_with-take count (drop at rules) (drop at lists) ∙ ap (take count) (rules_with-drop at rules lists)

-- the rules of a list of sheets, part by part
pub taking-append : (xs ys : List KeptSheet) → taking (xs ++ ys) ≡ taking xs ++ taking ys
taking-append xs ys =
    ap (flat_map taking_part) (map-append kept_seen xs ys) ∙ flat_map-append taking_part (map kept_seen xs) (map kept_seen ys)

pub taking-more : (sheets : List KeptSheet) (i : ℕ) (kept : KeptSheet) → i < length sheets → kept ≡ get_or sheets i kept → taking (take (i + 1) sheets) ≡ taking (take i sheets) ++ taking_part (kept_seen kept)
taking-more sheets i kept below is =
    ap taking (take_more sheets i kept below)
    ∙ (taking-append (take i sheets) (get_or sheets i kept ∷ [])
    ∙ (ap (λ k. taking (take i sheets) ++ taking (k ∷ [])) (sym is)
    ∙ ap (λ l. taking (take i sheets) ++ l) (append-nil (taking_part (kept_seen kept)))))

-- how many rules a sheet has, and how many of them take part
pub rules_count : (kept : KeptSheet) → length (rules_at 0 (kept_seen kept)) ≡ kept.count
rules_count kept =
    length-placed (kept_seen kept) 0 0 (style_rules_in (edition_of (kept_seen kept)) kept.text) ∙ sym kept.counted

pub part_count : (kept : KeptSheet) → kept.enabled ≡ true → length (taking_part (kept_seen kept)) ≡ kept.count
part_count kept on =
    ap length (cond-true kept.enabled (rules_at 0 (kept_seen kept)) [] on)
    ∙ (length-placed (kept_seen kept) 0 0 (style_rules_in (edition_of (kept_seen kept)) kept.text) ∙ sym kept.counted)

pub none_count : (kept : KeptSheet) → kept.enabled ≡ false → length (taking_part (kept_seen kept)) ≡ 0
none_count kept off = ap length (cond-false kept.enabled (rules_at 0 (kept_seen kept)) [] off)

pub counted-more : (sheets : List KeptSheet) (i : ℕ) (kept : KeptSheet) → i < length sheets → kept ≡ get_or sheets i kept → length (taking (take (i + 1) sheets)) ≡ length (taking (take i sheets)) + length (taking_part (kept_seen kept))
counted-more sheets i kept below is =
    ap length (taking-more sheets i kept below is) ∙ length-append (taking (take i sheets)) (taking_part (kept_seen kept))

pub counted-within : (sheets : List KeptSheet) (i : ℕ) (kept : KeptSheet) → i < length sheets → kept ≡ get_or sheets i kept → length (taking (take i sheets)) + length (taking_part (kept_seen kept)) ≤ length (taking sheets)
counted-within sheets i kept below is =
    let whole = ap taking (take-append-drop (i + 1) sheets) in
    let parts = ap length (taking-append (take (i + 1) sheets) (drop (i + 1) sheets)) in
    let both = length-append (taking (take (i + 1) sheets)) (taking (drop (i + 1) sheets)) in
    omega (arith, ap length whole, parts, both, counted-more sheets i kept below is)

-- The layers that sheets declare, one sheet more.
abbrev pub layers_in : List KeptSheet → List (Origin × LayerName)
layers_in sheets = flat_map sheet_layers (enabled_among (map kept_seen sheets))

pub layers-append : (xs ys : List KeptSheet) → layers_in (xs ++ ys) ≡ layers_in xs ++ layers_in ys
layers-append xs ys =
    ap (λ l. flat_map sheet_layers (enabled_among l)) (map-append kept_seen xs ys)
    ∙ (ap (flat_map sheet_layers) (filter-append (λ (s : Sheet). s.enabled) (map kept_seen xs) (map kept_seen ys))
    ∙ flat_map-append sheet_layers (enabled_among (map kept_seen xs)) (enabled_among (map kept_seen ys)))

pub layers-on : (kept : KeptSheet) → kept.enabled ≡ true → layers_in (kept ∷ []) ≡ sheet_layers (kept_seen kept)
layers-on kept on =
    ap (flat_map sheet_layers) (cond-true kept.enabled (kept_seen kept ∷ []) [] on) ∙ append-nil (sheet_layers (kept_seen kept))

pub layers-off : (kept : KeptSheet) → kept.enabled ≡ false → layers_in (kept ∷ []) ≡ []
layers-off kept off = ap (flat_map sheet_layers) (cond-false kept.enabled (kept_seen kept ∷ []) [] off)

pub layers-more : (sheets : List KeptSheet) (i : ℕ) (kept : KeptSheet) → i < length sheets → kept ≡ get_or sheets i kept → layers_in (take (i + 1) sheets) ≡ layers_in (take i sheets) ++ layers_in (kept ∷ [])
layers-more sheets i kept below is =
    ap layers_in (take_more sheets i kept below)
    ∙ (layers-append (take i sheets) (get_or sheets i kept ∷ []) ∙ ap (λ k. layers_in (take i sheets) ++ layers_in (k ∷ [])) (sym is))
