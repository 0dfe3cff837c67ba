-- For `Session::edit`: the rules and selectors of the sheets of a session, and sheets that are seen as before.
use Rattle.std.proofs.Common.{◌≡◌, ℕ, List, [], ◌∷◌, ◌++◌, map, flat_map, length, refl, ap, ◌∙◌, arith}
use Rattle.std.proofs.Math.Logic.{∥∥₁_map}
use Rattle.std.specs.Prelude.{Vec}
use Rattle.std.specs.declared.alloc.Global.{Global}
use Rattle.scene_model.specs.Document.{Document}
use Rattle.layer_model.specs.Order.{Layers}
use Rattle.sheet_model.specs.Sources.{PlacedRule, Sources, rules_of_sheets, sources_of}
use Rattle.selector_types.specs.View.{selectors_of}
use Rattle.selector_types.specs.declared.selector.Selector.{Selector}
use Rattle.sheet_set.specs.Fits.{AreSameSheets}
use Rattle.sheet_set.specs.View.{kept_seen, listed_seen, placed_at, rules_of, rules_with, sources_seen}
use Rattle.sheet_set.specs.declared.sheet_rule.SheetRule.{SheetRule}
use Rattle.sheet_set.specs.declared.sheets.Sheets.{Sheets}
use Rattle.sheet_set.proofs.Taking.{length-with}
use Rattle.style_session.specs.SessionView.{scene_seen}

-- the selectors of rules are those of their lists, wherever the sheets stand
with-lists : (rules : List SheetRule) (lists : List (Vec Selector Global)) → length rules ≡ length lists
    → flat_map (λ (rule : PlacedRule). rule.selectors) (rules_with rules lists) ≡ flat_map (λ (list : Vec Selector Global). selectors_of list.items) lists
with-lists [] [] h = refl
with-lists [] (list ∷ lists) h = absurd (omega arith)
with-lists (rule ∷ rules) [] h = absurd (omega arith)
with-lists (rule ∷ rules) (list ∷ lists) h =
    ap (λ rest. selectors_of list.items ++ rest) (with-lists rules lists (omega arith))

wherever : (positions : List ℕ) (rules : List PlacedRule) → length positions ≡ length rules
    → flat_map (λ (rule : PlacedRule). rule.selectors) (placed_at positions rules) ≡ flat_map (λ (rule : PlacedRule). rule.selectors) rules
wherever [] [] h = refl
wherever [] (rule ∷ rules) h = absurd (omega arith)
wherever (position ∷ positions) [] h = absurd (omega arith)
wherever (position ∷ positions) (rule ∷ rules) h = ap (λ rest. rule.selectors ++ rest) (wherever positions rules (omega arith))

pub selectors-with : (sheets : Sheets) → flat_map (λ (rule : PlacedRule). rule.selectors) (rules_of sheets) ≡ flat_map (λ (list : Vec Selector Global). selectors_of list.items) sheets.selectors.items
selectors-with sheets =
    let rules : List SheetRule = sheets.rules.items in
    let lists : List (Vec Selector Global) = sheets.selectors.items in
    let same : length rules ≡ length lists = omega (arith, sheets.paired, sheets.rules.ok, sheets.selectors.ok) in
    wherever sheets.positions.items (rules_with rules lists) (omega (arith, length-with rules lists same, sheets.placed, sheets.rules.ok, sheets.positions.ok))
    ∙ with-lists rules lists same

-- what the sheets have made of themselves is what their texts say
pub sources-texts : (sheets : Sheets) → ∥ sources_seen sheets ≡ sources_of (map kept_seen sheets.sheets.items) ∥₁
sources-texts sheets =
    ∥∥₁_map sheets.of_texts (λ rules.
    ap (λ (l : List PlacedRule). sources l sheets.layers) rules ∙ ap (sources (rules_of_sheets (map kept_seen sheets.sheets.items))) sheets.layered)
  where
    sources : List PlacedRule → Layers → Sources
    sources rules layers = record { rules = rules; layers = layers }

-- what is seen of a session whose sheets are seen as before
pub same-scene : (document : Document) (old new : Sheets) → AreSameSheets old new → scene_seen document new ≡ scene_seen document old
same-scene document old new same = scenes (same.sheets) same.last
  where
    scenes : new.sheets.items ≡ old.sheets.items → new.last ≡ old.last → scene_seen document new ≡ scene_seen document old
    scenes items last = cc

pub same-listed : (old new : Sheets) → AreSameSheets old new → listed_seen new ≡ listed_seen old
same-listed old new same = lists same.sheets same.last
  where
    lists : new.sheets.items ≡ old.sheets.items → new.last ≡ old.last → listed_seen new ≡ listed_seen old
    lists items last = cc

pub same-sources : (old new : Sheets) → AreSameSheets old new → sources_seen new ≡ sources_seen old
same-sources old new same = sources same.positions same.rules same.selectors same.layers
  where
    sources : new.positions.items ≡ old.positions.items → new.rules.items ≡ old.rules.items → new.selectors.items ≡ old.selectors.items → new.layers ≡ old.layers → sources_seen new ≡ sources_seen old
    sources positions rules selectors layers = cc
