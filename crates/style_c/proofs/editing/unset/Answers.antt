use Rattle.std.proofs.Common.{[], inr}
use Rattle.std.specs.Prelude.{Some}
use Rattle.style_c.proofs.ToldLemmas.{gives, no_name_unset}
use Rattle.style_c.proofs.editing.unset.Goals as goal

pub returns-in_default : goal.returns-in_default
returns-in_default c =
    let st = c.args.session.now in
    gives _ _ (Some st) (Some st) _ _ [] 0 (no_name_unset c.args.node c.args.name.now st c.in_default.ensures) (c.tell.ensures (Some st) [])

pub returns-in-Err : goal.returns-in-Err
returns-in-Err c = inr (c.tell-in-Err.ensures (Some c.args.session.now) [])
