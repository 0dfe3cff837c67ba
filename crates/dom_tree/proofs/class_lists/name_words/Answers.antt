use Rattle.dom_tree.proofs.NameLemmas.{KeepsTexts-more}
use Rattle.dom_tree.proofs.ClassLemmas.{all_words, next_word}
use Rattle.dom_tree.proofs.WordLemmas.{no_words, word_off}
use Rattle.dom_tree.proofs.class_lists.name_words.Goals as goal

pub loop-word-preserved : goal.loop-word-preserved
loop-word-preserved c =
    let h = c.in-Some.ensures.steps in
    let off = word_off _ _ _ h.3.0 h.3.1 c.loop-word.invariant.text h.0 h.1 h.3.2 h.3.3 h.3.4 in
    next_word c.loop-word.invariant _ _ off c.intern.ensures.distinct c.intern.ensures.kept c.in_ok-name.ensures.index c.in_ok-insert.ensures.keys

pub returns-in_err-insert-clause-kept : goal.returns-in_err-insert-clause-kept
returns-in_err-insert-clause-kept c = KeepsTexts-more _ _ _ c.loop-word.invariant.kept c.intern.ensures.kept

pub returns-clause-words : goal.returns-clause-words
returns-clause-words c = all_words c.loop-word.invariant (no_words _ c.in-None.ensures.steps.0)
