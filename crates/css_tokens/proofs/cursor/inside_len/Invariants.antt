use Rattle.std.proofs.Common.{[], ◌∷◌}
use Rattle.css_tokens.specs.View.{bracket_of}
use Rattle.css_tokens.proofs.InsideLemmas.{IsCounted}
use Rattle.css_tokens.proofs.cursor.inside_len.Given as goal

abbrev pub invariant-loop-len : goal.invariant-loop-len
invariant-loop-len l = IsCounted (bracket_of l.fn.bracket ∷ []) l.tokens l.len l.brackets
