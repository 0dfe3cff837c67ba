use Rattle.std.proofs.Common.{◌≡◌}
use Rattle.std.specs.Str.{chars, IsUtf8}
use Rattle.std.specs.Str.Iter.{split_ascii_whitespace_text}
use Rattle.scene_model.specs.Words.{words}
use Rattle.dom_tree.specs.Classes.{distinct_from}
use Rattle.dom_edits.specs.WordSets.{IsWordSet, texts_of}
use Rattle.dom_edits.proofs.word_set.WordSet.add_words.Given as goal

abbrev pub invariant-loop-word : goal.invariant-loop-word
invariant-loop-word l = record {
  text : IsUtf8 (split_ascii_whitespace_text l.word-iterator);
  words : distinct_from (texts_of l.self) (words (chars (split_ascii_whitespace_text l.word-iterator))) ≡ distinct_from (texts_of l.initial.self) (words (chars l.value));
  set : IsWordSet l.self;
}
