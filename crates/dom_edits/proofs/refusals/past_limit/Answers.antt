use Rattle.std.proofs.Common.{◌≡◌, cond, length, is_some, option_map, true, false, ap, sym, refl, arith}
use Rattle.std.specs.Str.{chars}
use Rattle.stylo_base.proofs.TextLemmas.{bytes_from_chars}
use Rattle.scene_model.specs.Lookups.{attribute_of}
use Rattle.dom_edits.specs.EditView.{refusal_answered}
use Rattle.dom_edits.proofs.LimitLemmas.{attributes_past, most_found, none_past, value_past}
use Rattle.dom_edits.proofs.refusals.past_limit.Goals as goal
use Rattle.dom_edits.proofs.refusals.past_limit.Goals.{in-Some, in-None}

pub returns-then-attribute_count-most : goal.returns-then-attribute_count-most
returns-then-attribute_count-most c =
    let is_most : c.match-attribute.most ≡ cond (is_some (attribute_of c.args.doc.now.elements c.args.x (chars c.args.name.now))) 64 63 = elim c.match-attribute.branch [
      | in-Some w ↦ most_found c.attribute.result _ _ true c.attribute.ensures (ap is_some w.in-Some.is) c.match-attribute.most w.most-is
      | in-None w ↦ most_found c.attribute.result _ _ false c.attribute.ensures (ap is_some w.in-None.is) c.match-attribute.most w.most-is
    ] in
    sym (ap (option_map refusal_answered) (attributes_past c.args.doc.now c.args.x (chars c.args.name.now) (chars c.args.value.now) c.requires c.attribute_count.result c.match-attribute.most c.attribute_count.ensures is_most c.if-attribute_count-most.true))

pub returns-then-value-gt-VALUE_LIMIT : goal.returns-then-value-gt-VALUE_LIMIT
returns-then-value-gt-VALUE_LIMIT c =
    let is_most : c.match-attribute.most ≡ cond (is_some (attribute_of c.args.doc.now.elements c.args.x (chars c.args.name.now))) 64 63 = elim c.match-attribute.branch [
      | in-Some w ↦ most_found c.attribute.result _ _ true c.attribute.ensures (ap is_some w.in-Some.is) c.match-attribute.most w.most-is
      | in-None w ↦ most_found c.attribute.result _ _ false c.attribute.ensures (ap is_some w.in-None.is) c.match-attribute.most w.most-is
    ] in
    sym (ap (option_map refusal_answered) (value_past c.args.doc.now c.args.x (chars c.args.name.now) (chars c.args.value.now) c.requires c.attribute_count.result c.match-attribute.most c.attribute_count.ensures is_most c.if-attribute_count-most.false (omega (arith, c.if-value-gt-VALUE_LIMIT.true, ap length (bytes_from_chars c.args.value.now (chars c.args.value.now) c.utf8.value refl)))))

pub returns : goal.returns
returns c =
    let is_most : c.match-attribute.most ≡ cond (is_some (attribute_of c.args.doc.now.elements c.args.x (chars c.args.name.now))) 64 63 = elim c.match-attribute.branch [
      | in-Some w ↦ most_found c.attribute.result _ _ true c.attribute.ensures (ap is_some w.in-Some.is) c.match-attribute.most w.most-is
      | in-None w ↦ most_found c.attribute.result _ _ false c.attribute.ensures (ap is_some w.in-None.is) c.match-attribute.most w.most-is
    ] in
    sym (ap (option_map refusal_answered) (none_past c.args.doc.now c.args.x (chars c.args.name.now) (chars c.args.value.now) c.requires c.attribute_count.result c.match-attribute.most c.attribute_count.ensures is_most c.if-attribute_count-most.false (omega (arith, c.if-value-gt-VALUE_LIMIT.false, ap length (bytes_from_chars c.args.value.now (chars c.args.value.now) c.utf8.value refl)))))
