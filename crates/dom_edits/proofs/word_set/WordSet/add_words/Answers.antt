use Rattle.std.proofs.Common.{ap, sym, ◌∙◌}
use Rattle.std.specs.Str.{chars}
use Rattle.std.specs.Str.Iter.{split_ascii_whitespace_text}
use Rattle.stylo_base.specs.NameList.{interned}
use Rattle.scene_model.specs.Words.{words}
use Rattle.dom_tree.specs.Classes.{distinct_from}
use Rattle.dom_tree.proofs.WordLemmas.{no_words, word_off}
use Rattle.dom_edits.specs.WordSets.{texts_of}
use Rattle.dom_edits.proofs.word_set.WordSet.add_words.Goals as goal

pub loop-word-preserved : goal.loop-word-preserved
loop-word-preserved c =
    let h = c.in-Some.ensures.steps in
    let off = word_off _ _ _ h.3.0 h.3.1 c.loop-word.invariant.text h.0 h.1 h.3.2 h.3.3 h.3.4 in
    record {
      text = off.rest_text;
      words = ap (λ t. distinct_from t (words (chars (split_ascii_whitespace_text c.next.new.self)))) (c.in_ok-add.ensures.words ∙ ap (λ text. interned (texts_of c.loop-word.self) (chars text.now)) c.of.ensures) ∙ (ap (distinct_from (texts_of c.loop-word.self)) (sym off.first) ∙ c.loop-word.invariant.words);
      set = c.in_ok-add.ensures.set;
    }

pub returns-clause-words : goal.returns-clause-words
returns-clause-words c = ap (distinct_from (texts_of c.loop-word.self)) (sym (no_words _ c.in-None.ensures.steps.0)) ∙ c.loop-word.invariant.words
