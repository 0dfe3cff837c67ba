use Rattle.std.proofs.Common.{◌≡◌}
use Rattle.std.specs.Str.{chars, IsUtf8}
use Rattle.std.specs.Str.Iter.{split_ascii_whitespace_text}
use Rattle.scene_model.specs.Words.{has_word}
use Rattle.dom_tree.proofs.words.has_word.Given as goal

abbrev pub invariant-loop-piece : goal.invariant-loop-piece
invariant-loop-piece l = record {
  text : IsUtf8 (split_ascii_whitespace_text l.piece-iterator);
  left : has_word (chars l.word) (chars (split_ascii_whitespace_text l.piece-iterator)) ≡ has_word (chars l.word) (chars l.text);
}
