use Rattle.std.proofs.Common.{◌≡◌, ◌<◌, ℕ, map, take, length, get_or, Some, true}
use Rattle.std.specs.Arc.{arc_value}
use Rattle.scene_model.proofs.Numbers.{is_in}
use Rattle.cascade_model.specs.StyleOf.{style_of}
use Rattle.sheet_set.specs.View.{sources_seen}
use Rattle.element_styler.specs.Follows.{Serves}
use Rattle.plain_style.specs.Known.{KnowsRoot, style_at}
use Rattle.plain_style.proofs.all_styles.styles_in_order.Given as goal

abbrev pub invariant-loop-number : goal.invariant-loop-number
invariant-loop-number l = record {
  room : (k : ℕ) → k < length l.order → get_or l.order k 0 < length l.known.items;
  styled : map arc_value l.styles.items ≡ map (style_of l.inputs.doc.now.elements (sources_seen l.inputs.sheets.now)) (take l.number-index l.order);
  known : (q : ℕ) → is_in q (take l.number-index l.order) ≡ true → style_at l.styler.table l.known.items q ≡ Some (style_of l.inputs.doc.now.elements (sources_seen l.inputs.sheets.now) q);
  serves : Serves l.inputs l.root.size l.styler;
  root : KnowsRoot l.inputs.doc.now.elements (sources_seen l.inputs.sheets.now) l.styler.table l.root;
}
