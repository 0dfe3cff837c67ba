use Rattle.std.proofs.Common.{sym, ap, ◌∙◌}
use Rattle.std.proofs.lemmas.Bool.{false≢true}
use Rattle.std.proofs.lemmas.Bool.Decides.{Decides-eqb}
use Rattle.std.proofs.lemmas.Slice.Eq.{slice_eq-Decides}
use Rattle.syntax_model.specs.Token.{Said}
use Rattle.css_tokens.proofs.KindLemmas.{eq-Decides}
use Rattle.css_tokens.proofs.token.Token.says_same.Goals as goal
use Rattle.css_tokens.proofs.token.Token.says_same.Goals.{then-eq, else-eq}

pub returns-then-is_same : goal.returns-then-is_same
returns-then-is_same c = elim c.if-eq.branch [
  | then-eq w ↦
      let kinds = (eq-Decides c.self.inside.kind c.other.inside.kind).0 (sym c.eq.ensures ∙ w.if-eq.true) in
      let names = w.is_same.ensures.0 (sym w.value-is ∙ c.if-is_same.true) in
      let spellings = slice_eq-Decides Decides-eqb _ _ _ c.eq-then-is_same.ensures in
      rw (← c.self.view_is, ← c.other.view_is) (
        λ h. (let texts = sym c.as_slice.ensures ∙ (spellings.0 h ∙ c.as_slice-then-is_same.ensures) in λ i. record { kind = kinds i; name = names i; spelling = texts i }),
        λ e. spellings.1 (c.as_slice.ensures ∙ (ap (λ (s : Said). s.spelling) e ∙ sym c.as_slice-then-is_same.ensures)),
      )
  | else-eq w ↦ absurd (false≢true (sym w.if-eq.false ∙ (sym w.value-is ∙ c.if-is_same.true)))
]

pub returns-else-is_same : goal.returns-else-is_same
returns-else-is_same c = elim c.if-eq.branch [
  | then-eq w ↦ rw (← c.self.view_is, ← c.other.view_is) (
    λ h. absurd (false≢true (sym c.if-is_same.false ∙ h)),
    λ e. w.value-is ∙ w.is_same.ensures.1 (ap (λ (s : Said). s.name) e),
  )
  | else-eq w ↦ rw (← c.self.view_is, ← c.other.view_is) (
    λ h. absurd (false≢true (sym c.if-is_same.false ∙ h)),
    λ e. w.value-is ∙ (c.eq.ensures ∙ (eq-Decides c.self.inside.kind c.other.inside.kind).1 (ap (λ (s : Said). s.kind) e)),
  )
]
