use Rattle.std.proofs.Common.{◌≡◌, map, drop}
use Rattle.std.specs.Str.{chars}
use Rattle.dom_tree.specs.Classes.{distinct_from}
use Rattle.dom_edits.proofs.word_set.name_all.Given as goal

abbrev pub invariant-loop-word : goal.invariant-loop-word
invariant-loop-word l =
    distinct_from l.names (map (λ word. chars word.text.now) (drop l.word-index l.words)) ≡ distinct_from l.initial.names (map (λ word. chars word.text.now) l.words)
