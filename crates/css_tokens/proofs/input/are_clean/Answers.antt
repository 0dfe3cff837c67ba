use Rattle.std.proofs.Common.{ap, sym, ◌∙◌, eqb, ◌&&◌}
use Rattle.std.specs.Prelude.{max, take}
use Rattle.std.proofs.lemmas.List.{take_all}
use Rattle.std.proofs.lemmas.List.Folds.{list_all_more}
use Rattle.syntax_model.specs.Preprocess.{is_clean, is_preprocessed}
use Rattle.css_tokens.proofs.InputLemmas.{clean_more}
use Rattle.css_tokens.proofs.input.are_clean.Goals as goal

pub loop-byte-preserved : goal.loop-byte-preserved
loop-byte-preserved c =
    ap (λ k. eqb k 0) (c.max-unclean.ensures ∙ ap (max c.loop-byte.unclean) c.from.ensures)
    ∙ (clean_more c.loop-byte.unclean c.is_clean.result
    ∙ (ap (λ b. b && c.is_clean.result) c.loop-byte.invariant
    ∙ (ap (λ b. is_preprocessed (take c.loop-byte.byte-index c.args.bytes.now) && b) c.is_clean.ensures
    ∙ sym (list_all_more is_clean c.args.bytes.now c.loop-byte.byte-index 0 c.loop-byte-test.true))))

pub returns : goal.returns
returns c = c.loop-byte.invariant ∙ ap is_preprocessed (take_all c.loop-byte.byte-index c.args.bytes.now c.loop-byte-test.false)
