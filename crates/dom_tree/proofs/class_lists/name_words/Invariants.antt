use Rattle.std.specs.Str.{chars}
use Rattle.std.specs.Str.Iter.{split_ascii_whitespace_text}
use Rattle.dom_tree.proofs.ClassLemmas.{AreWordsSoFar}
use Rattle.dom_tree.proofs.class_lists.name_words.Given as goal

abbrev pub invariant-loop-word : goal.invariant-loop-word
invariant-loop-word l = AreWordsSoFar l.initial.names l.names l.found.keys (split_ascii_whitespace_text l.word-iterator) (chars l.text)
