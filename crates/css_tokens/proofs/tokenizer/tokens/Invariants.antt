use Rattle.std.proofs.Common.{◌≡◌, ◌++◌, length}
use Rattle.std.specs.Str.{chars}
use Rattle.syntax_model.specs.TokensIn.{tokens_in}
use Rattle.css_tokens.proofs.tokenizer.tokens.Given as goal

-- the tokens so far and those that are left are all of them
abbrev pub invariant-loop-list : goal.invariant-loop-list
invariant-loop-list l = l.list.items ++ l.reader ≡ tokens_in (chars l.fn.text)

abbrev pub decreases-loop-list : goal.decreases-loop-list
decreases-loop-list l = length l.reader
