use Rattle.std.proofs.Common.{List, [], ◌∷◌, ◌++◌, Vec, ap, subst, sym}
use Rattle.std.specs.declared.alloc.Global.{Global}
use Rattle.dependency_map.specs.declared.dep.PathStep.{PathStep}
use Rattle.dependency_map.specs.DepView.{path_of}
use Rattle.invalidation_map.specs.Shared.{EndsWith, paths_seen}
use Rattle.invalidation_map.proofs.SharedLemmas.{ends_pushed}
use Rattle.invalidation_map.proofs.shared.end_with_path.Goals as goal

pub returns-in_ok-push-clause-last : goal.returns-in_ok-push-clause-last
returns-in_ok-push-clause-last c =
    subst (λ (list : List (Vec PathStep Global)). EndsWith (paths_seen list) (path_of c.args.path.now)) (sym c.in_ok-push.ensures.items)
    (subst (EndsWith (paths_seen (c.args.paths.now.items ++ c.in_ok-from_slice.field-0 ∷ []))) (ap path_of c.in_ok-from_slice.ensures.items)
    (ends_pushed (λ (path : Vec PathStep Global). path_of path.items) c.args.paths.now.items c.in_ok-from_slice.field-0))
