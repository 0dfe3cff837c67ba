use Rattle.std.proofs.Common.{◌≡◌, ◌∷◌, ◌≤◌, [], length, ◌+◌, ◌*◌}
use Rattle.css_tokens.specs.View.{bracket_of}
use Rattle.shorthands.specs.Blocks.{after_closer}
use Rattle.shorthands.proofs.word.+block.Given as goal

abbrev pub decreases-after_block : goal.decreases-after_block
decreases-after_block l = 2 * length l.tokens.now

abbrev pub decreases-opened : goal.decreases-opened
decreases-opened l = 2 * length l.tokens.now + 1

-- what is left has the same end
abbrev pub invariant-after_block-tokens : goal.invariant-after_block-tokens
invariant-after_block-tokens l = record {
  rest : after_closer l.nested l.rest ≡ after_closer (bracket_of l.fn.bracket ∷ []) l.tokens;
  within : length l.rest ≤ length l.tokens;
}

abbrev pub decreases-after_block-tokens : goal.decreases-after_block-tokens
decreases-after_block-tokens l = length l.rest
