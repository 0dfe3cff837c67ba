use Rattle.std.proofs.Common.{◌≡◌, map, take}
use Rattle.style_session.specs.declared.styled.Styled.{Styled}
use Rattle.style_session.proofs.restyle.numbers_of.Given as goal

abbrev pub invariant-loop-one : goal.invariant-loop-one
invariant-loop-one l = l.numbers.items ≡ map (λ (one : Styled). one.number) (take l.one-index l.list)
