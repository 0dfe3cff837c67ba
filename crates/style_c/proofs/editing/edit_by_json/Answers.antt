use Rattle.std.specs.Prelude.{Some}
use Rattle.style_c.proofs.ToldLemmas.{gives, not_read}
use Rattle.style_c.proofs.editing.edit_by_json.Goals as goal

pub returns-then-json-gt-INPUT_LIMIT : goal.returns-then-json-gt-INPUT_LIMIT
returns-then-json-gt-INPUT_LIMIT c =
    let st = c.args.session.now in
    gives _ _ (Some st) (Some st) _ _ _ _ (not_read c.args.json.now (Some st) _ c.if-json-gt-INPUT_LIMIT.true) (c.tell_fault.ensures (Some st))
