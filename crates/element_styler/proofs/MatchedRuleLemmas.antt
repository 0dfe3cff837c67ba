-- The test of two rules that were found is that of equality.
use Rattle.std.proofs.Common.{◌≡◌, ℕ, ap, ◌∙◌}
use Rattle.std.specs.Bool.{Decides}
use Rattle.std.proofs.lemmas.Bool.Decides.{Decides-eqb, Decides-and, Decides-like}
use Rattle.base_model.specs.Specificity.{Specificity}
use Rattle.element_styler.specs.declared.matched_rules.MatchedRule.{MatchedRule}
use Rattle.element_styler.specs.contracts.matched_rules.MatchedRulePartialEq.TheImpl.{ghosts}
use Rattle.base_model.proofs.Specificities.{same_counts}

abbrev counted : ℕ → ℕ → ℕ → Specificity
counted ids classes types = record { ids = ids; classes = classes; types = types }

abbrev found_of : ℕ → Specificity → MatchedRule
found_of rule specificity = record { rule = rule; specificity = specificity }

parts_same : (a b : MatchedRule) → a.rule ≡ b.rule → a.specificity ≡ b.specificity → a ≡ b
parts_same a b rule specificity = ap (λ x. found_of x a.specificity) rule ∙ ap (found_of b.rule) specificity

pub rule_eq-Decides : (a b : MatchedRule) → Decides (ghosts.eq a b) (a ≡ b)
rule_eq-Decides a b =
    Decides-like (ghosts.eq a b) (λ p. parts_same a b p.0 (same_counts a.specificity b.specificity p.1.0 p.1.1.0 p.1.1.1)) (λ e. (
      ap (λ (m : MatchedRule). m.rule) e,
      (
        ap (λ (m : MatchedRule). m.specificity.ids) e,
        (ap (λ (m : MatchedRule). m.specificity.classes) e, ap (λ (m : MatchedRule). m.specificity.types) e),
      ),
    )) (Decides-and _ _ (Decides-eqb a.rule b.rule) (Decides-and _ _ (Decides-eqb a.specificity.ids b.specificity.ids) (Decides-and _ _ (Decides-eqb a.specificity.classes b.specificity.classes) (Decides-eqb a.specificity.types b.specificity.types))))
