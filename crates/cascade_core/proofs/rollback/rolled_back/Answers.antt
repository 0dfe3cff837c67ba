use Rattle.std.proofs.Common.{◌≡◌, filter, map, refl}
use Rattle.std.specs.FinMap as finmap
use Rattle.cascade_model.specs.Ending.{ending_of, meaning_of}
use Rattle.cascade_model.specs.Winner.{declares_longhand}
use Rattle.cascade_core.specs.Declarations.{all_matched}
use Rattle.cascade_core.specs.Rollback.{unbounded, walked}
use Rattle.cascade_core.specs.View.{entry_of, head_of}
use Rattle.cascade_core.proofs.AlikeLemmas.{walked_alike}
use Rattle.cascade_core.proofs.RollbackLemmas.{walked_down}
use Rattle.cascade_core.proofs.rollback.rolled_back.Goals as goal

pub returns-clause-value : goal.returns-clause-value
returns-clause-value c =
    let p = c.args.longhands.now.property in
    let means = meaning_of (finmap.get c.args.longhands.now.custom) p in
    let ds = filter (declares_longhand p) (all_matched c.args.declarations) in
    let list = c.in_ok-list.list.items in
    let alike = walked_alike means (entry_of p) head_of (λ x. record { given = refl; origin = refl; level = refl }) unbounded list in
    let ends : walked means unbounded (map head_of c.deref.result.now) ≡ ending_of means ds = rw (c.deref.ensures.value, ← alike) (walked_down means ds _ (rw c.id.ensures at c.in_ok-list.ensures)) in
    rw ends at c.walk.ensures.value
