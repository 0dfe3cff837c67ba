-- The rules of a sheet, token by token: what is known after some tokens, and one token more.
use Rattle.std.specs.Prelude.{ℕ, List, [], ◌∷◌, ◌++◌, map, Bool, true, false, not, ◌&&◌, if◌then◌else◌}
use Rattle.std.specs.Prelude.{Option, Some, None, unwrap_or}
use Rattle.base_model.specs.Lists.{is_nil}
use Rattle.base_model.specs.Text.{Characters}
use Rattle.syntax_model.specs.Token.{Token, TokenKind}
use Rattle.syntax_model.specs.TokenKinds.{is_at_keyword, is_semicolon, is_open_curly, is_close_curly}
use Rattle.syntax_model.specs.Brackets.{Bracket, closed_by, open_past, opened_by, with_opened, without_closed}
use Rattle.syntax_model.specs.Rules.{Rule, layer, Context, SheetEdition}
use Rattle.syntax_model.specs.RulesIn.{is_between_rules}
use Rattle.syntax_model.specs.LayersIn.{layers_declared, block_layer}
use Rattle.syntax_model.specs.SheetRules.{qualified_found, is_layer_name, counted, no_context}
use Rattle.css_rules.specs.declared.rule_parser.ParserState.{ParserState}
use Rattle.css_rules.specs.declared.rule_parser.ParserState.TheVariants.{Between, Prelude, Block, Dropped}
use Rattle.css_rules.specs.declared.rule_parser.Head.{Head}
use Rattle.css_rules.specs.declared.rule_parser.Head.TheVariants.{Qualified, Layer, Other}

-- The rules so far and how many anonymous layers there were; what the layers whose blocks are open are in, innermost
-- first, and what the next rule is in; and what was read of that rule: its prelude and its block, as far as they are
-- kept, and the brackets that are open.
pub record Walk : Type 0 where
  pub edition : SheetEdition
  pub rules : List Rule
  pub anonymous : ℕ
  pub outer : List Context
  pub context : Context
  pub state : ParserState
  pub prelude : List Token
  pub block : List Token
  pub pending : List Bracket

-- between rules
abbrev pub between : SheetEdition → List Rule → ℕ → List Context → Context → Walk
between edition rules anonymous outer context = record {
  edition = edition;
  rules = rules;
  anonymous = anonymous;
  outer = outer;
  context = context;
  state = Between;
  prelude = [];
  block = [];
  pending = [];
}

-- before the first token
abbrev pub start : SheetEdition → Walk
start edition = between edition [] 0 [] no_context

-- an at-rule is `@layer`, or some other
abbrev pub head_named : Characters → Head
head_named name = if is_layer_name name then Layer else Other

-- an at-rule may end with a semicolon
abbrev pub ends_statement : Head → TokenKind → Bool
ends_statement Qualified kind = false
ends_statement Layer kind = is_semicolon kind
ends_statement Other kind = is_semicolon kind

-- of other at-rules nothing is kept
abbrev pub kept : Head → List Token → Token → List Token
kept Qualified prelude token = prelude ++ token ∷ []
kept Layer prelude token = prelude ++ token ∷ []
kept Other prelude token = prelude

-- a rule that ends without a block: `@layer` declares each of its names
abbrev pub ended_rules : Head → Context → List Token → List Rule
ended_rules Qualified context prelude = []
ended_rules Layer context prelude = map layer (unwrap_or (layers_declared context prelude) [])
ended_rules Other context prelude = []

abbrev pub ended : Head → Walk → Walk
ended head walk = record walk {
  rules = walk.rules ++ ended_rules head walk.context walk.prelude;
  state = Between;
  prelude = [];
}

-- outside the brackets of a rule a `}` ends the block of a layer
abbrev pub ends_layer : Walk → TokenKind → Bool
ends_layer walk kind = not (is_nil walk.outer) && (is_nil walk.pending && is_close_curly kind)

abbrev pub out_to : List Context → Walk → Walk
out_to [] walk = walk
out_to (context ∷ outer) walk = record walk { outer = outer; context = context }

abbrev pub out : Walk → Walk
out walk = out_to walk.outer walk

-- past a token that is not kept
abbrev pub past : ParserState → Walk → Token → Walk
past state walk token = record walk { state = state; pending = open_past walk.pending token }

-- the same by the token's kind
abbrev pub open_past_kind : List Bracket → TokenKind → List Bracket
open_past_kind pending kind = with_opened (opened_by kind) (without_closed pending (closed_by kind))

abbrev pub past_kind : ParserState → Walk → TokenKind → Walk
past_kind state walk kind = record walk { state = state; pending = open_past_kind walk.pending kind }

abbrev pub keeping : Head → Walk → Token → Walk
keeping head walk token = record walk { prelude = kept head walk.prelude token }

-- with other tokens as its prelude, or as its block
abbrev pub with_prelude : List Token → Walk → Walk
with_prelude tokens walk = record walk { prelude = tokens }

abbrev pub with_block : List Token → Walk → Walk
with_block tokens walk = record walk { block = tokens }

-- a layer is declared, and its block begins
abbrev pub inside : Context → Walk → Walk
inside inner walk = record walk {
  rules = walk.rules ++ layer inner ∷ [];
  outer = walk.context ∷ walk.outer;
  context = inner;
  state = Between;
}

-- into the block of a layer, unless it is dropped
abbrev pub entered : Option Context → Walk → TokenKind → Walk
entered None walk kind = past_kind Dropped walk kind
entered (Some inner) walk kind = inside inner walk

abbrev pub opened : Head → Walk → TokenKind → Walk
opened Qualified walk kind = past_kind Block walk kind
opened Layer walk kind =
    entered (block_layer walk.edition walk.anonymous walk.context walk.prelude)
    (record walk { anonymous = counted walk.anonymous walk.prelude; prelude = [] }) kind
opened Other walk kind = past_kind Dropped walk kind

abbrev pub at_rule_begun : Walk → Token → Walk
at_rule_begun walk token = record walk { state = Prelude (head_named token.name) }

abbrev pub begun : Walk → Token → Walk
begun walk token =
    if ends_layer walk token.kind then out walk
    else if is_between_rules (is_nil walk.outer) token.kind then walk
    else if is_at_keyword token.kind then at_rule_begun walk token
    else if is_open_curly token.kind then past Block walk token
    else keeping Qualified (past (Prelude Qualified) walk token) token

abbrev pub step_in_prelude : Head → Walk → Token → Walk
step_in_prelude head walk token =
    if is_nil walk.pending && ends_statement head token.kind then ended head walk
    else if ends_layer walk token.kind then out (ended head walk)
    else if is_nil walk.pending && is_open_curly token.kind then opened head walk token.kind
    else keeping head (past (Prelude head) walk token) token

-- the rule of the prelude and the block ends
abbrev pub rule_ended : Walk → Walk
rule_ended walk = record walk {
  rules = walk.rules ++ qualified_found walk.context walk.prelude walk.block;
  state = Between;
  prelude = [];
  block = [];
}

abbrev pub step_in_block : Walk → Token → Walk
step_in_block walk token =
    if is_nil (open_past walk.pending token) then rule_ended (past Block walk token)
    else record (past Block walk token) { block = walk.block ++ token ∷ [] }

abbrev pub step_in_dropped : Walk → Token → Walk
step_in_dropped walk token =
    if is_nil (open_past walk.pending token) then past Between walk token else past Dropped walk token

abbrev pub step_at : ParserState → Walk → Token → Walk
step_at Between = begun
step_at (Prelude head) = step_in_prelude head
step_at Block = step_in_block
step_at Dropped = step_in_dropped

-- Where nothing of a rule is kept, the kind of a token says all: before the block of an at-rule that is not `@layer`,
-- and in a block that is dropped.
abbrev pub is_skipping : ParserState → Bool
is_skipping (Prelude Other) = true
is_skipping Dropped = true
is_skipping state = false

abbrev pub skipped_in_prelude : Walk → TokenKind → Walk
skipped_in_prelude walk kind =
    if is_nil walk.pending && is_semicolon kind then ended Other walk
    else if ends_layer walk kind then out (ended Other walk)
    else if is_nil walk.pending && is_open_curly kind then past_kind Dropped walk kind
    else past_kind (Prelude Other) walk kind

abbrev pub skipped_in_dropped : Walk → TokenKind → Walk
skipped_in_dropped walk kind =
    if is_nil (open_past_kind walk.pending kind) then past_kind Between walk kind else past_kind Dropped walk kind

abbrev pub skipped_at : ParserState → Walk → TokenKind → Walk
skipped_at (Prelude head) walk kind = skipped_in_prelude walk kind
skipped_at state walk kind = skipped_in_dropped walk kind

abbrev pub skipped : Walk → TokenKind → Walk
skipped walk kind = skipped_at walk.state walk kind

-- one token more
abbrev pub step : Walk → Token → Walk
step walk token = step_at walk.state walk token

abbrev pub steps : Walk → List Token → Walk
steps walk [] = walk
steps walk (token ∷ tokens) = steps (step walk token) tokens

-- the end of the tokens ends an at-rule without a block
abbrev pub ended_at : ParserState → Walk → Walk
ended_at (Prelude head) walk = ended head walk
ended_at state walk = walk

-- the rules, where the tokens end here
abbrev pub finished_at : ParserState → Walk → List Rule
finished_at (Prelude head) walk = (ended head walk).rules
finished_at state walk = walk.rules

abbrev pub finished : Walk → List Rule
finished walk = finished_at walk.state walk
