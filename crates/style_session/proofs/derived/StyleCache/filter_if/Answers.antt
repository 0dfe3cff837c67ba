use Rattle.sheet_set.specs.View.{sources_seen}
use Rattle.style_session.proofs.derived.StyleCache.filter_if.Goals as goal

pub returns-then-is_time-clause-serves : goal.returns-then-is_time-clause-serves
returns-then-is_time-clause-serves c =
    let inputs = c.args.inputs.now in
    record {
      fits = c.begin.ensures.fits (sources_seen inputs.sheets.now) c.args.self.now.size inputs.prepared.now c.requires.fits;
      follows = c.begin.ensures.follows inputs.doc.now;
    }
