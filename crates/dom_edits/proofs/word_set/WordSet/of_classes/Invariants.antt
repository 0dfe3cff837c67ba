use Rattle.std.proofs.Common.{◌≡◌, [], drop}
use Rattle.dom_tree.specs.Classes.{distinct_from}
use Rattle.dom_edits.specs.ClassNames.{class_texts}
use Rattle.dom_edits.specs.WordSets.{IsWordSet, texts_of}
use Rattle.dom_edits.proofs.word_set.WordSet.of_classes.Given as goal

abbrev pub invariant-loop-index : goal.invariant-loop-index
invariant-loop-index l = record {
  words : distinct_from (texts_of l.set) (class_texts (drop l.index l.names)) ≡ distinct_from [] (class_texts l.names);
  set : IsWordSet l.set;
}
