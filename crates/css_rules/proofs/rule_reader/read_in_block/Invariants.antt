use Rattle.std.proofs.Common.{◌≡◌, [], length}
use Rattle.css_rules.specs.Left.{IsReadTo}
use Rattle.css_rules.specs.Parser.{walk_of}
use Rattle.css_rules.specs.declared.rule_parser.ParserState.TheVariants.{Block}
use Rattle.css_rules.proofs.rule_reader.read_in_block.Given as goal

-- tokens were read that stay in the block
abbrev pub invariant-loop-kind : goal.invariant-loop-kind
invariant-loop-kind l =
    IsReadTo (walk_of l.initial.parser) l.initial.tokens (walk_of l.parser) l.tokens
    × (l.parser.state ≡ Block) × (l.parser.layers.items ≡ [])

abbrev pub decreases-loop-kind : goal.decreases-loop-kind
decreases-loop-kind l = length l.tokens
