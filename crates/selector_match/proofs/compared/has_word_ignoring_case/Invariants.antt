use Rattle.std.proofs.Common.{◌≡◌}
use Rattle.std.specs.List.{list_any}
use Rattle.std.specs.Str.{chars, IsUtf8}
use Rattle.std.specs.Str.Iter.{split_ascii_whitespace_text}
use Rattle.scene_model.specs.Words.{words}
use Rattle.selector_match.proofs.WordLemmas.{is_same_word}
use Rattle.selector_match.proofs.compared.has_word_ignoring_case.Given as goal

-- what is left decides
abbrev pub invariant-loop-piece : goal.invariant-loop-piece
invariant-loop-piece l = record {
  text : IsUtf8 (split_ascii_whitespace_text l.piece-iterator);
  left : list_any (is_same_word (chars l.word)) (words (chars (split_ascii_whitespace_text l.piece-iterator))) ≡ list_any (is_same_word (chars l.word)) (words (chars l.text));
}
