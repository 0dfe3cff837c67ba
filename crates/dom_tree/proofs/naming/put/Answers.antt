use Rattle.std.proofs.Common.{rules, sym, ◌∙◌}
use Rattle.dom_tree.proofs.PutLemmas.{put_set, put_insert, there_read, there_past}
use Rattle.dom_tree.proofs.naming.put.Goals as goal
use Rattle.dom_tree.proofs.naming.put.Goals.{else-place-len-via-then-place-len+else-eq, else-place-len-via-else-place-len}

pub returns-then-eq : goal.returns-then-eq
returns-then-eq c = record {
  ok = put_set _ _ c.args.rows.now.items c.place_of-place.ensures.place c.deref.ensures.value (search rules) c.index.ensures c.index_mut.ensures.value (sym c.eq.ensures ∙ c.if-eq.true);
}

pub returns-in_ok-insert : goal.returns-in_ok-insert
returns-in_ok-insert c = record {
  ok = c.in_ok-insert.ensures.items ∙ put_insert _ _ c.args.rows.now.items c.place_of-place.ensures.place c.deref.ensures.value
      (elim c.else-place-len.branch [
        | else-place-len-via-then-place-len+else-eq w ↦ there_read c.args.name c.args.rows.now.items (search rules) w.index.ensures (sym w.eq.ensures ∙ w.if-eq.false)
        | else-place-len-via-else-place-len w ↦ there_past c.args.name c.args.rows.now.items c.place_of-place.result (search rules)
      ]);
}
