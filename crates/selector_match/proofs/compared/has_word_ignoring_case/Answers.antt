use Rattle.std.proofs.Common.{sym, ◌∙◌}
use Rattle.std.specs.Str.{chars}
use Rattle.dom_tree.proofs.WordLemmas.{word_off, any_word-found, any_word-passed, any_word-none}
use Rattle.selector_match.proofs.WordLemmas.{is_same_word, has_word-lower}
use Rattle.selector_match.proofs.compared.has_word_ignoring_case.Goals as goal

pub returns-then-eq_ascii_case : goal.returns-then-eq_ascii_case
returns-then-eq_ascii_case c =
    let h = c.in-Some.ensures.steps in
    let off = word_off _ _ _ h.3.0 h.3.1 c.loop-piece.invariant.text h.0 h.1 h.3.2 h.3.3 h.3.4 in
    any_word-found (is_same_word (chars c.args.word.now)) _ _ _ _ off c.loop-piece.invariant.left (sym c.eq_ascii_case.ensures.value ∙ c.if-eq_ascii_case.true)
    ∙ sym (has_word-lower (chars c.args.word.now) (chars c.args.text.now))

pub loop-piece-preserved : goal.loop-piece-preserved
loop-piece-preserved c =
    let h = c.in-Some.ensures.steps in
    let off = word_off _ _ _ h.3.0 h.3.1 c.loop-piece.invariant.text h.0 h.1 h.3.2 h.3.3 h.3.4 in
    record {
      text = off.rest_text;
      left = any_word-passed (is_same_word (chars c.args.word.now)) _ _ _ _ off c.loop-piece.invariant.left (sym c.eq_ascii_case.ensures.value ∙ c.if-eq_ascii_case.false);
    }

pub returns : goal.returns
returns c =
    any_word-none (is_same_word (chars c.args.word.now)) _ _ c.in-None.ensures.steps.0 c.loop-piece.invariant.left
    ∙ sym (has_word-lower (chars c.args.word.now) (chars c.args.text.now))
