use Rattle.std.proofs.Common.{◌≡◌, ◌∷◌, sym, ap, refl, ◌∙◌}
use Rattle.std.specs.Prelude.{option_copied}
use Rattle.syntax_model.specs.Outside.{parts_between}
use Rattle.syntax_model.specs.TokenKinds.{is_comma}
use Rattle.syntax_model.proofs.OutsideLemmas.{parts_after}
use Rattle.css_tokens.specs.Separated.{parts_left}
use Rattle.css_tokens.proofs.SeparatedLemmas.{next_part}
use Rattle.css_tokens.proofs.comma_separated.CommaSeparated.next.Goals as goal
use Rattle.css_tokens.proofs.comma_separated.CommaSeparated.next.Goals.{in-Some-next, in-None}

pub returns : goal.returns
returns c =
    let after : parts_after is_comma c.until.new.self ≡ parts_left (option_copied c.match-next.self) = elim c.match-next.branch [
      | in-Some-next w ↦ rw (w.self-is, w.in-Some-next.ensures.first, w.rest.ensures) refl
      | in-None w ↦ rw (w.self-is, w.in-None.ensures.first) refl
    ] in
    sym c.self.view_is
    ∙ (ap (λ rest. parts_left (option_copied rest)) c.in-Some.is
    ∙ (ap (parts_between is_comma) (sym c.new-left.ensures)
    ∙ (next_part c.new-left.result _ _ c.in_ok-part.ensures.tokens c.in_ok-part.ensures.rest
    ∙ ap (λ parts. c.in_ok-part.part.tokens.now ∷ parts) after)))
