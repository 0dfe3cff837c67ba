use Rattle.std.proofs.Common.{not, ap, ◌∙◌}
use Rattle.sheet_set.specs.View.{sources_seen}
use Rattle.style_session.proofs.SessionRestyles.{none-ready}
use Rattle.style_session.proofs.derived.Derived.prepare.Goals as goal

pub returns-in_ok-of-clause-ready : goal.returns-in_ok-of-clause-ready
returns-in_ok-of-clause-ready c = record {
  styles = none-ready (sources_seen c.args.sheets.now) c.args.self.now.prepared c.in_ok-of.field-0 c.args.self.now.cache
      (c.is_none.ensures ∙ ap not c.if-is_none.true) c.in_ok-of.ensures c.requires.styles;
  map = c.requires.map;
}
