use Rattle.std.proofs.Common.{sym, subst}
use Rattle.scene_model.specs.Ancestors.{ancestors}
use Rattle.ancestor_filter.specs.Names.{StandsFor}
use Rattle.element_styler.proofs.FindLemmas.{is_ready}
use Rattle.element_styler.proofs.styler.Styler.match_rules.Goals as goal

pub matching_rules-requires : goal.matching_rules-requires
matching_rules-requires c = record {
  element = c.requires.element;
  map = is_ready c.args.inputs.now.sheets.now c.args.inputs.now.prepared.now c.requires.ready.prepared;
  above = subst (StandsFor c.args.inputs.now.doc.now.elements (ancestors c.args.inputs.now.doc.now.elements c.args.number))
      (sym c.filter.ensures) c.in_ok-reach.ensures.above;
}
