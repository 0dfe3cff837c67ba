use Rattle.std.proofs.Common.{arith, ◌∙◌}
use Rattle.dom_edits.specs.WordSets.{texts_of}
use Rattle.dom_edits.proofs.ClassNameLemmas.{class-added}
use Rattle.dom_edits.proofs.word_set.WordSet.of_classes.Goals as goal

pub loop-index-preserved : goal.loop-index-preserved
loop-index-preserved c = record {
  words = class-added (texts_of c.loop-index.set) (texts_of c.add_class.new.self) c.args.names.now c.loop-index.index (omega (arith, c.loop-index-test.true, c.len-index-end.ensures)) c.in_ok-add_class.ensures.words ∙ c.loop-index.invariant.words;
  set = c.in_ok-add_class.ensures.set;
}
