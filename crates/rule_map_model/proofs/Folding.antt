-- For `folded`: rising hits, folded, rule by rule.
use Rattle.std.proofs.Common.{◌≡◌, ℕ, zero, suc, ◌+◌, ◌<◌, ◌≤◌, ◌==◌, List, [], ◌∷◌, ◌++◌, map, filter, flat_map, refl, sym, ap, ◌∙◌, arith, inl, inr}
use Rattle.std.specs.List.{AllByRecursion}
use Rattle.std.specs.Option.{option_map_or}
use Rattle.std.proofs.lemmas.Bool.{cases_eq, cases_lt, eq-eqb, ne_eqb, cond-true, cond-false}
use Rattle.base_model.proofs.Lists.{each_weaker}
use Rattle.scene_model.proofs.Lists.{each_both}
use Rattle.base_model.specs.Specificity.{Specificity, greater}
use Rattle.rule_map_model.specs.Hits.{Hit, hit, IsRising, folded_after, folded}
use Rattle.rule_map_model.proofs.Greatest.{greatest_after, greatest_in}

-- the specificities of the hits of a rule
abbrev pub of_rule : ℕ → List Hit → List Specificity
of_rule i hits = map (λ h. h.specificity) (filter (λ h. h.rule == i) hits)

of_rule_here : (i : ℕ) (h : Hit) (hits : List Hit) → h.rule ≡ i → of_rule i (h ∷ hits) ≡ h.specificity ∷ of_rule i hits
of_rule_here i h hits e =
    ap (map (λ g. g.specificity)) (cond-true (h.rule == i) (h ∷ filter (λ g. g.rule == i) hits) (filter (λ g. g.rule == i) hits) (eq-eqb h.rule i e))

of_rule_other : (i : ℕ) (h : Hit) (hits : List Hit) → (h.rule ≡ i → ⊥) → of_rule i (h ∷ hits) ≡ of_rule i hits
of_rule_other i h hits e =
    ap (map (λ g. g.specificity)) (cond-false (h.rule == i) (h ∷ filter (λ g. g.rule == i) hits) (filter (λ g. g.rule == i) hits) (ne_eqb h.rule i e))

of_rule_none : (i : ℕ) (hits : List Hit) → AllByRecursion (λ h. i < h.rule) hits → of_rule i hits ≡ []
of_rule_none i [] k = refl
of_rule_none i (h ∷ hits) k =
    of_rule_other i h hits (λ e. let l : i < h.rule = k.0 in absurd (omega (arith, e, l))) ∙ of_rule_none i hits k.1

above : (a b : ℕ) → a ≤ b → (b ≡ a → ⊥) → a < b
above a b h other = elim (cases_lt a b) [ inl l ↦ l | inr k ↦ absurd (other (omega (arith, h, k))) ]

module _ {Y : Type 0} (f : ℕ → Specificity → List Y) where
  abbrev shown : Hit → List Y
  shown h = f h.rule h.specificity

  -- for each of so many rules what its greatest specificity gives
  abbrev pub by_rules : ℕ → ℕ → List Hit → List Y
  by_rules i zero hits = []
  by_rules i (suc n) hits = option_map_or (f i) (greatest_in (of_rule i hits)) [] ++ by_rules (i + 1) n hits

  -- hits of an earlier rule make no difference
  rules_after : (i n : ℕ) (h : Hit) (hits : List Hit) → h.rule < i → by_rules i n (h ∷ hits) ≡ by_rules i n hits
  rules_after i zero h hits l = refl
  rules_after i (suc n) h hits l =
      ap (λ ss. option_map_or (f i) (greatest_in ss) [] ++ by_rules (i + 1) n (h ∷ hits)) (of_rule_other i h hits (λ e. absurd (omega (arith, e, l))))
      ∙ ap (λ ys. option_map_or (f i) (greatest_in (of_rule i hits)) [] ++ ys) (rules_after (i + 1) n h hits (omega (arith, l)))

  rules_nothing : (i n : ℕ) → by_rules i n [] ≡ []
  rules_nothing i zero = refl
  rules_nothing i (suc n) = rules_nothing (i + 1) n

  -- they are of these rules
  abbrev Within : ℕ → ℕ → Hit → Type 0
  Within i n h = (i ≤ h.rule) × (h.rule < i + n)

  -- what holds of the rules beyond the first
  abbrev Beyond : ℕ → ℕ → Type 0
  Beyond i n = (hits : List Hit) → IsRising hits → AllByRecursion (Within i n) hits → flat_map shown (folded hits) ≡ by_rules i n hits

  abbrev rule_part : ℕ → Specificity → List Specificity → List Y
  rule_part i best ss = f i (greatest_after best ss)

  each_later : (i n : ℕ) (g : Hit) (hits : List Hit) → i < g.rule → AllByRecursion (λ h. g.rule ≤ h.rule) hits → AllByRecursion (Within i (suc n)) (g ∷ hits)
      → AllByRecursion (Within (i + 1) n) (g ∷ hits)
  each_later i n g hits l up w = (
    (omega (arith, l), omega (arith, w.0.1)),
    each_weaker (λ h. (g.rule ≤ h.rule) × Within i (suc n) h) (Within (i + 1) n) (λ h k. (omega (arith, l, k.0), omega (arith, k.1.1))) hits
        (each_both (λ h. g.rule ≤ h.rule) (Within i (suc n)) hits up w.1),
  )

  none_before : (i : ℕ) (g : Hit) (hits : List Hit) → i < g.rule → AllByRecursion (λ h. g.rule ≤ h.rule) hits → of_rule i (g ∷ hits) ≡ []
  none_before i g hits l up =
      of_rule_none i (g ∷ hits) (l, each_weaker (λ h. g.rule ≤ h.rule) (λ h. i < h.rule) (λ h k. omega (arith, l, k)) hits up)

  after : (i n : ℕ) (beyond : Beyond (i + 1) n) (last : Hit) (hits : List Hit) → last.rule ≡ i → IsRising hits → AllByRecursion (Within i (suc n)) hits
      → flat_map shown (folded_after last hits) ≡ rule_part i last.specificity (of_rule i hits) ++ by_rules (i + 1) n hits
  after i n beyond last [] e up w =
      ap (λ j. f j last.specificity ++ []) e ∙ ap (λ ys. f i last.specificity ++ ys) (sym (rules_nothing (i + 1) n))
  after i n beyond last (g ∷ hits) e up w = elim (cases_eq g.rule last.rule) [
    | inl same ↦
        ap (flat_map shown)
        (cond-true (g.rule == last.rule) (folded_after (hit last.rule (greater last.specificity g.specificity)) hits) (last ∷ folded_after g hits) (eq-eqb g.rule last.rule same))
        ∙ (after i n beyond (hit last.rule (greater last.specificity g.specificity)) hits e up.1 w.1
        ∙ (ap (λ ss. rule_part i last.specificity ss ++ by_rules (i + 1) n hits) (sym (of_rule_here i g hits (same ∙ e)))
        ∙ ap (λ ys. rule_part i last.specificity (of_rule i (g ∷ hits)) ++ ys) (sym (rules_after (i + 1) n g hits (omega (arith, same, e))))))
    | inr other ↦
        let l : i < g.rule = above i g.rule w.0.0 (λ k. other (k ∙ sym e)) in
        ap (flat_map shown) (cond-false (g.rule == last.rule) (folded_after (hit last.rule (greater last.specificity g.specificity)) hits) (last ∷ folded_after g hits)
        (ne_eqb g.rule last.rule other))
        ∙ (ap (λ ys. f last.rule last.specificity ++ ys) (beyond (g ∷ hits) up (each_later i n g hits l up.0 w))
        ∙ (ap (λ j. f j last.specificity ++ by_rules (i + 1) n (g ∷ hits)) e
        ∙ ap (λ ss. rule_part i last.specificity ss ++ by_rules (i + 1) n (g ∷ hits)) (sym (none_before i g hits l up.0))))
  ]

  -- folded, rising hits are those of each rule in turn
  pub folded_by_rules : (i n : ℕ) → Beyond i n
  folded_by_rules i zero [] up w = refl
  folded_by_rules i zero (h ∷ hits) up w =
      let (k, l) : (i ≤ h.rule) × (h.rule < i + 0) = w.0 in absurd (omega (arith, k, l))
  folded_by_rules i (suc n) [] up w = sym (rules_nothing i (suc n))
  folded_by_rules i (suc n) (h ∷ hits) up w = elim (cases_eq h.rule i) [
    | inl e ↦
        after i n (folded_by_rules (i + 1) n) h hits e up.1 w.1
        ∙ (ap (λ ss. option_map_or (f i) (greatest_in ss) [] ++ by_rules (i + 1) n hits) (sym (of_rule_here i h hits e))
        ∙ ap (λ ys. option_map_or (f i) (greatest_in (of_rule i (h ∷ hits))) [] ++ ys) (sym (rules_after (i + 1) n h hits (omega (arith, e)))))
    | inr other ↦
        let l : i < h.rule = above i h.rule w.0.0 other in
        folded_by_rules (i + 1) n (h ∷ hits) up (each_later i n h hits l up.0 w)
        ∙ ap (λ ss. option_map_or (f i) (greatest_in ss) [] ++ by_rules (i + 1) n (h ∷ hits)) (sym (none_before i h hits l up.0))
  ]
