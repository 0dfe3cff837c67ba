-- Rules that are given the positions of their sheets.
use Rattle.std.proofs.Common.{◌≡◌, ℕ, zero, suc, ◌+◌, ◌<◌, List, [], ◌∷◌, ◌++◌, length, map, drop, get_or, replicate, true, false, Bool, cond, refl, sym, ap, subst, ◌∙◌, arith, append_assoc, length-append}
use Rattle.std.specs.Prelude.{Vec}
use Rattle.std.specs.declared.alloc.Global.{Global}
use Rattle.std.proofs.lemmas.Bool.{cond-true, cond-false}
use Rattle.std.proofs.lemmas.List.{length-replicate}
use Rattle.base_model.specs.Sheet.{Sheet}
use Rattle.sheet_model.specs.StyleRules.{style_rules_in}
use Rattle.sheet_model.specs.Sources.{PlacedRule, edition_of, enabled_among, rules_from, rules_of_sheets}
use Rattle.sheet_set.specs.declared.sheet_rule.SheetRule.{SheetRule}
use Rattle.sheet_set.specs.declared.kept_sheet.KeptSheet.{KeptSheet}
use Rattle.selector_types.specs.declared.selector.Selector.{Selector}
use Rattle.sheet_set.specs.Kept.{kept_seen, taking}
use Rattle.sheet_set.specs.Positions.{AreRulesOf, positions_from}
use Rattle.sheet_set.specs.Rules.{AreSame, placed_at, put_at, rules_at, rules_with}
use Rattle.sheet_set.proofs.Left.{item_at}
use Rattle.sheet_set.proofs.MovedRules.{total-least, total-within}
use Rattle.sheet_set.proofs.Placing.{placed-put}
use Rattle.sheet_set.proofs.Taking.{rules_count}

placed-append : (first others : List ℕ) (rules more : List PlacedRule) → length first ≡ length rules → placed_at (first ++ others) (rules ++ more) ≡ placed_at first rules ++ placed_at others more
placed-append [] others [] more same = refl
placed-append [] others (rule ∷ rules) more same = absurd (omega (arith, same))
placed-append (p ∷ first) others [] more same = absurd (omega (arith, same))
placed-append (p ∷ first) others (rule ∷ rules) more same =
    ap (λ l. put_at p rule ∷ l) (placed-append first others rules more (omega (arith, same)))

placed-alike : (n position : ℕ) (rules : List PlacedRule) → length rules ≡ n → placed_at (replicate n position) rules ≡ map (put_at position) rules
placed-alike zero position [] same = refl
placed-alike zero position (rule ∷ rules) same = absurd (omega (arith, same))
placed-alike (suc n) position [] same = absurd (omega (arith, same))
placed-alike (suc n) position (rule ∷ rules) same =
    ap (λ l. put_at position rule ∷ l) (placed-alike n position rules (omega (arith, same)))

-- with the positions of their sheets the rules that take part are those of all
pub positions-right : (position : ℕ) (sheets : List KeptSheet) → placed_at (positions_from position sheets) (taking sheets) ≡ rules_from position (enabled_among (map kept_seen sheets))
positions-right position [] = refl
positions-right position (kept ∷ sheets) = by kept.enabled (λ p. positions-right p sheets)
  where
    by : (b : Bool) → ((p : ℕ) → placed_at (positions_from p sheets) (taking sheets) ≡ rules_from p (enabled_among (map kept_seen sheets)))
        → placed_at (cond b (replicate kept.count position ++ positions_from (position + 1) sheets) (positions_from position sheets)) (cond b (rules_at 0 (kept_seen kept)) [] ++ taking sheets)
        ≡ rules_from position (cond b (kept_seen kept ∷ enabled_among (map kept_seen sheets)) (enabled_among (map kept_seen sheets)))
    by true again =
        let sheet : Sheet = kept_seen kept in
        let its : List ℕ = replicate kept.count position in
        let rest : List ℕ = positions_from (position + 1) sheets in
        placed-append its rest (rules_at 0 sheet) (taking sheets) (length-replicate kept.count position ∙ sym (rules_count kept))
        ∙ (ap (λ l. l ++ placed_at rest (taking sheets)) (placed-alike kept.count position (rules_at 0 sheet) (rules_count kept) ∙ placed-put sheet 0 position 0 (style_rules_in (edition_of sheet) sheet.text))
        ∙ ap (λ l. rules_at position sheet ++ l) (again (position + 1)))
    by false again = again position

-- there are as many
length-positions : (position : ℕ) (sheets : List KeptSheet) → length (positions_from position sheets) ≡ length (taking sheets)
length-positions position [] = refl
length-positions position (kept ∷ sheets) = by kept.enabled (λ p. length-positions p sheets)
  where
    by : (b : Bool) → ((p : ℕ) → length (positions_from p sheets) ≡ length (taking sheets))
        → length (cond b (replicate kept.count position ++ positions_from (position + 1) sheets) (positions_from position sheets)) ≡ length (cond b (rules_at 0 (kept_seen kept)) [] ++ taking sheets)
    by true again =
        let both = length-append (replicate kept.count position) (positions_from (position + 1) sheets) in
        let all = length-append (rules_at 0 (kept_seen kept)) (taking sheets) in
        omega (arith, both, all, length-replicate kept.count position, rules_count kept, again (position + 1))
    by false again = again position

pub positions-long : (rules : List SheetRule) (lists : List (Vec Selector Global)) (sheets : List KeptSheet) → length rules ≡ length lists → AreSame (rules_with rules lists) (taking sheets)
    → (positions : List ℕ) → positions ≡ positions_from 0 sheets → length positions ≡ length rules
positions-long rules lists sheets same texts positions are =
    let most = total-within rules lists sheets same texts in
    let least = total-least rules lists sheets same texts in
    omega (arith, most, least, ap length are, length-positions 0 sheets)

-- the positions of one sheet more
module _ (sheets : List KeptSheet) (i : ℕ) (kept : KeptSheet) (below : i < length sheets) (is : kept ≡ get_or sheets i kept) where
  pub positions-on : kept.enabled ≡ true → (position : ℕ) (old new : List ℕ) → new ≡ old ++ replicate kept.count position
      → new ++ positions_from (position + 1) (drop (i + 1) sheets) ≡ old ++ positions_from position (drop i sheets)
  positions-on on position old new added =
      let its : List ℕ = replicate kept.count position in
      let rest : List KeptSheet = drop (i + 1) sheets in
      ap (λ l. l ++ positions_from (position + 1) rest) added
      ∙ (append_assoc old its (positions_from (position + 1) rest)
      ∙ (ap (λ l. old ++ l) (sym (cond-true kept.enabled (its ++ positions_from (position + 1) rest) (positions_from position rest) on))
      ∙ ap (λ l. old ++ positions_from position l) (sym (item_at sheets i kept below is))))

  pub positions-off : kept.enabled ≡ false → (position : ℕ) (old : List ℕ) → old ++ positions_from position (drop (i + 1) sheets) ≡ old ++ positions_from position (drop i sheets)
  positions-off off position old =
      let its : List ℕ = replicate kept.count position in
      let rest : List KeptSheet = drop (i + 1) sheets in
      ap (λ l. old ++ l) (sym (cond-false kept.enabled (its ++ positions_from (position + 1) rest) (positions_from position rest) off))
      ∙ ap (λ l. old ++ positions_from position l) (sym (item_at sheets i kept below is))

-- and so they are the rules of the sheets
pub rules-of : (positions : List ℕ) (sheets : List KeptSheet) (rules : List SheetRule) (lists : List (Vec Selector Global)) → positions ≡ positions_from 0 sheets
    → AreSame (placed_at positions (rules_with rules lists)) (rules_of_sheets (map kept_seen sheets)) → AreRulesOf sheets rules lists
rules-of positions sheets rules lists are texts =
    subst (λ ps. AreSame (placed_at ps (rules_with rules lists)) (rules_of_sheets (map kept_seen sheets))) are texts
