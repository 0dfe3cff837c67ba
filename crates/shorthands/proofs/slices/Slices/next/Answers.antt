use Rattle.std.proofs.Common.{sym, ◌∙◌}
use Rattle.shorthands.proofs.SliceLemmas.{next_slice, no_slice}
use Rattle.shorthands.proofs.slices.Slices.next.Goals as goal

pub returns-then-is_empty : goal.returns-then-is_empty
returns-then-is_empty c =
    sym c.self.view_is
    ∙ no_slice c.self.inside.rest.now _ c.without_white-tokens.ensures (sym c.is_empty.ensures ∙ c.if-is_empty.true)

pub returns : goal.returns
returns c =
    sym c.self.view_is
    ∙ next_slice c.self.inside.rest.now _ _ c.without_white-tokens.ensures (sym c.is_empty.ensures ∙ c.if-is_empty.false) c.from_white-rest.ensures.rest
