use Rattle.std.proofs.Common.{◌≡◌, take}
use Rattle.std.specs.List.{count_by}
use Rattle.style_session.specs.declared.styled.Styled.{Styled}
use Rattle.style_session.proofs.counts.Counts.of.Given as goal

abbrev pub invariant-loop-one : goal.invariant-loop-one
invariant-loop-one l = l.matched ≡ count_by (λ (one : Styled). one.matched) (take l.one-index l.list)
