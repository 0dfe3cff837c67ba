-- What `==` says of the steps of paths.
use Rattle.std.proofs.Common.{◌≡◌, ap}
use Rattle.std.specs.Bool.{Decides}
use denote.Enum.Bare.{same_true, true_same}
use Rattle.selector_types.specs.contracts.complex.Combinator.{the_type}
use Rattle.dependency_map.specs.declared.dep.PathStep.{PathStep}
use Rattle.dependency_map.specs.declared.dep.PathStep.TheVariants.{Forwards}
use Rattle.dependency_map.specs.contracts.dep.PathStepPartialEq.TheImpl.{ghosts}

pub same_step : (a b : PathStep) → Decides (ghosts.eq a b) (a ≡ b)
same_step (Forwards a) (Forwards b) = (λ e. ap Forwards (same_true the_type tt a b e), λ e. true_same the_type a b cc)
