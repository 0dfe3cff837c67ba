use Rattle.std.proofs.Common.{◌≡◌, eqb}
use Rattle.std.specs.Prelude.{take}
use Rattle.syntax_model.specs.Preprocess.{is_preprocessed}
use Rattle.css_tokens.proofs.input.are_clean.Given as goal

abbrev pub invariant-loop-byte : goal.invariant-loop-byte
invariant-loop-byte l = eqb l.unclean 0 ≡ is_preprocessed (take l.byte-index l.bytes)
