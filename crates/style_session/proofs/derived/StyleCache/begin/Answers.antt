use Rattle.sheet_set.specs.View.{sources_seen}
use Rattle.style_session.proofs.derived.StyleCache.begin.Goals as goal

pub returns : goal.returns
returns c =
    let inputs = c.args.inputs.now in
    let sources = sources_seen inputs.sheets.now in
    let prepared = inputs.prepared.now in
    record {
      fits = c.begin.ensures.fits sources c.limit.new.self.size prepared (c.limit.ensures sources prepared c.requires);
      follows = c.begin.ensures.follows inputs.doc.now;
    }
