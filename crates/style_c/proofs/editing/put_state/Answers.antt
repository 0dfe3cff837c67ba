use Rattle.std.proofs.Common.{[]}
use Rattle.std.specs.Prelude.{Some}
use Rattle.style_c.proofs.ToldLemmas.{gives, no_state}
use Rattle.style_c.proofs.editing.put_state.Goals as goal

pub returns-then-which-gt2 : goal.returns-then-which-gt2
returns-then-which-gt2 c =
    let st = c.args.session.now in
    gives _ _ (Some st) (Some st) _ _ [] 0 (no_state c.args.node c.args.which c.args.on st c.then-which-gt2.either) (c.tell.ensures (Some st) [])
