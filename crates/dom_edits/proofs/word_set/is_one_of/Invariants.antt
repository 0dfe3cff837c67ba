use Rattle.std.proofs.Common.{◌≡◌, map, drop}
use Rattle.std.specs.Str.{chars}
use Rattle.stylo_base.specs.NameList.{is_among}
use Rattle.dom_edits.proofs.word_set.is_one_of.Given as goal

abbrev pub invariant-loop-other : goal.invariant-loop-other
invariant-loop-other l =
    is_among (chars l.word.text.now) (map (λ word. chars word.text.now) (drop l.other-index l.words)) ≡ is_among (chars l.word.text.now) (map (λ word. chars word.text.now) l.words)
