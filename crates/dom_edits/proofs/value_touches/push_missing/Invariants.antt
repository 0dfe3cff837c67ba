use Rattle.std.proofs.Common.{◌≡◌, ◌++◌, map, filter, not, drop}
use Rattle.std.specs.Str.{chars}
use Rattle.stylo_base.specs.NameList.{is_among}
use Rattle.edit_model.specs.Touched.{class}
use Rattle.dom_edits.specs.TouchView.{touch_seen}
use Rattle.dom_edits.specs.WordSets.{texts_of}
use Rattle.dom_edits.proofs.value_touches.push_missing.Given as goal

abbrev pub invariant-loop-word : goal.invariant-loop-word
invariant-loop-word l =
    map touch_seen l.touches.items ++ map class (filter (λ word. not (is_among word (texts_of l.other))) (map (λ word. chars word.text.now) (drop l.word-index l.word-items)))
    ≡ map touch_seen l.initial.touches.items ++ map class (filter (λ word. not (is_among word (texts_of l.other))) (texts_of l.from))
