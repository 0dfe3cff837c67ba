use Rattle.std.proofs.Common.{sym, ◌∙◌}
use Rattle.std.specs.Str.{chars}
use Rattle.base_model.specs.Text.{same_text}
use Rattle.stylo_base.proofs.TextLemmas.{same_test}
use Rattle.dom_tree.proofs.WordLemmas.{word_off, any_word-found, any_word-passed, any_word-none}
use Rattle.dom_tree.proofs.words.has_word.Goals as goal

pub returns-then-eq : goal.returns-then-eq
returns-then-eq c =
    let h = c.in-Some.ensures.steps in
    let off = word_off _ _ _ h.3.0 h.3.1 c.loop-piece.invariant.text h.0 h.1 h.3.2 h.3.3 h.3.4 in
    any_word-found (same_text (chars c.args.word.now)) _ _ _ _ off c.loop-piece.invariant.left (sym (same_test _ _ c.utf8.word off.word_text) ∙ (sym c.eq.ensures ∙ c.if-eq.true))

pub loop-piece-preserved : goal.loop-piece-preserved
loop-piece-preserved c =
    let h = c.in-Some.ensures.steps in
    let off = word_off _ _ _ h.3.0 h.3.1 c.loop-piece.invariant.text h.0 h.1 h.3.2 h.3.3 h.3.4 in
    record {
      text = off.rest_text;
      left = any_word-passed (same_text (chars c.args.word.now)) _ _ _ _ off c.loop-piece.invariant.left (sym (same_test _ _ c.utf8.word off.word_text) ∙ (sym c.eq.ensures ∙ c.if-eq.false));
    }

pub returns : goal.returns
returns c = any_word-none (same_text (chars c.args.word.now)) _ _ c.in-None.ensures.steps.0 c.loop-piece.invariant.left
