-- What a parser of rules knows.
use Rattle.std.specs.Prelude.{◌≡◌, List, [], ◌∷◌, map, Bool, true, false, Option, Some, None}
use Rattle.syntax_model.specs.Token.{Token}
use Rattle.syntax_model.specs.Rules as model
use Rattle.css_rules.specs.Left.{IsReadOn, IsReadTo, with_rules}
use Rattle.css_rules.specs.View.{context_of, contexts_of, edition_of}
use Rattle.css_rules.specs.Walk.{Walk}
use Rattle.css_rules.specs.declared.rule.Context.{Context}
use Rattle.css_rules.specs.declared.rule_parser.RuleParser.{RuleParser}

-- layers that are declared
abbrev pub layers_of : List Context → List model.Rule
layers_of contexts = map model.layer (contexts_of contexts)

-- the rules are the layers that were found, and not yet given out
abbrev pub walk_of : RuleParser → Walk
walk_of parser = record {
  edition = edition_of parser.edition;
  rules = layers_of parser.layers.items;
  anonymous = parser.anonymous;
  outer = contexts_of parser.outer.items;
  context = context_of parser.context;
  state = parser.state;
  prelude = parser.prelude.items;
  block = parser.block.items;
  pending = parser.pending;
}

-- the qualified rule that ended last, where it is kept
abbrev pub ended_of : RuleParser → model.Rule
ended_of parser = model.style (record {
  prelude = parser.ended_prelude.items;
  block = parser.ended_block.items;
  context = context_of parser.context;
})

-- and whether it ended with the last token
abbrev pub walk_after : Bool → RuleParser → Walk
walk_after false parser = walk_of parser
walk_after true parser = with_rules (ended_of parser ∷ []) (walk_of parser)

-- tokens were read, up to one with which a qualified rule ended or not; or all that were left
abbrev pub IsRead : Option Bool → RuleParser → List Token → RuleParser → List Token → Type 0
IsRead None old left new rest =
    IsReadTo (walk_of old) left (walk_of new) rest × (rest ≡ []) × (new.layers.items ≡ [])
IsRead (Some ended) old left new rest = IsReadOn (walk_of old) left (walk_after ended new) rest
