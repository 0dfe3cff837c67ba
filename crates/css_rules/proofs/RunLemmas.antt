-- What is to be shown of the tokens that are read, by where they stand.
use Rattle.std.proofs.Common.{◌≡◌, ℕ, ◌+◌, ◌≤◌, ◌<◌, true, List, [], ◌∷◌, ◌++◌, length, refl, ap, append-nil, append_assoc}
use Rattle.base_model.specs.Lists.{is_nil}
use Rattle.base_model.specs.Text.{Characters}
use Rattle.layer_model.specs.Name.{part_limit}
use Rattle.syntax_model.specs.Token.{Token}
use Rattle.syntax_model.specs.TokenKinds.{is_close_curly}
use Rattle.syntax_model.specs.Brackets.{Bracket}
use Rattle.syntax_model.specs.Rules.{Context, Piece, Head, qualified_head, at_head}
use Rattle.syntax_model.specs.RulesIn.{in_block, in_prelude, pieces_in}
use Rattle.syntax_model.specs.SheetRules.{RulesFound, found, block_found, block_within}
use Rattle.css_rules.specs.Walk.{Walk, finished, step, steps}
use Rattle.css_rules.specs.declared.rule_parser.ParserState.TheVariants.{Between, Prelude, Block, Dropped}
use Rattle.css_rules.proofs.BlockLemmas.{Fits}
use Rattle.css_rules.proofs.WalkLemmas.{Place, after, all_kept, found_at, found_then, head_of, reading}

pub steps-append : (walk : Walk) (tokens more : List Token) → steps walk (tokens ++ more) ≡ steps (steps walk tokens) more
steps-append walk [] more = refl
steps-append walk (token ∷ tokens) more = steps-append (step walk token) tokens more

-- a walk between rules
abbrev pub between_at : Place → Walk
between_at at = reading at Between [] [] []

pub after_none : (at : Place) → after at (found [] at.anonymous) ≡ at
after_none at = ap (λ rules. record at { rules = rules }) (append-nil at.rules)

after_both : (at : Place) (first : RulesFound) (pieces : List Piece) → after (after at first) (found_at (after at first) pieces) ≡ after at (found_then at first pieces)
after_both at first pieces =
    let all : RulesFound = found_at (after at first) pieces in
    ap (λ rules. record at { rules = rules; anonymous = all.anonymous }) (append_assoc at.rules first.rules all.rules)

-- a place in what a layer is in
abbrev pub out_of : Place → Context → List Context → Place
out_of at above others = record at { outer = others; context = above }

-- where tokens end that end no block that they are in: these are the rules, and a `}` leads out of the layer
pub record Ends (at : Place) (walk : Walk) : Type 0 where
  pub all : finished walk ≡ at.rules
  pub leaves : (above : Context) (others : List Context) (token : Token) → at.outer ≡ above ∷ others → is_close_curly token.kind ≡ true → step walk token ≡ between_at (out_of at above others)

-- what is found in the pieces comes after the rules so far
abbrev pub Holds : Place → Walk → List Piece → Type 0
Holds at walk pieces = Ends (after at (found_at at pieces)) walk

-- what is found, and then what the next rules give
abbrev pub found_next : Place → RulesFound → List Token → RulesFound
found_next at first tokens = found_then at first (pieces_in (is_nil at.outer) tokens)

-- an at-rule whose block gives nothing, whatever is in it, and how many anonymous layers there are up to its end
pub record DropsBlock (at : Place) : Type 0 where
  pub name : Characters
  pub prelude : List Token
  pub anonymous : ℕ
  pub gives_none : (block : List Token) → block_found (block_within at.levels at.edition) at.edition at.context at.anonymous name prelude block ≡ found [] anonymous

-- what was read of a rule: nothing, or its prelude, or that and a part of its block, which is kept or dropped; and the
-- brackets that are open
pub data Stage (at : Place) : Type 0 where
  no_rule : Stage at
  before_block : Head → List Token → List Bracket → Stage at
  in_kept : List Token → List Token → Bracket → List Bracket → Stage at
  in_dropped : DropsBlock at → List Token → Bracket → List Bracket → Stage at

abbrev pub open_in : {at : Place} → Stage at → List Bracket
open_in no_rule = []
open_in (before_block head prelude pending) = pending
open_in (in_kept prelude block bracket pending) = bracket ∷ pending
open_in (in_dropped rule block bracket pending) = bracket ∷ pending

abbrev pub walk_in : {at : Place} → Stage at → Walk
walk_in {at} no_rule = between_at at
walk_in {at} (before_block head prelude pending) =
    reading at (Prelude (head_of head)) (all_kept (head_of head) prelude) [] pending
walk_in {at} (in_kept prelude block bracket pending) = reading at Block prelude block (bracket ∷ pending)
walk_in {at} (in_dropped rule block bracket pending) =
    reading (record at { anonymous = rule.anonymous }) Dropped [] [] (bracket ∷ pending)

abbrev pub pieces_of : {at : Place} → Stage at → List Token → List Piece
pieces_of {at} no_rule tokens = pieces_in (is_nil at.outer) tokens
pieces_of {at} (before_block head prelude pending) tokens = in_prelude (is_nil at.outer) head prelude pending tokens
pieces_of {at} (in_kept prelude block bracket pending) tokens =
    in_block (is_nil at.outer) qualified_head prelude block (bracket ∷ pending) tokens
pieces_of {at} (in_dropped rule block bracket pending) tokens =
    in_block (is_nil at.outer) (at_head rule.name) rule.prelude block (bracket ∷ pending) tokens

-- tokens that come there, and what is to be shown of them
abbrev pub Fit : {at : Place} → Stage at → List Token → Type 0
Fit {at} stage tokens = Fits (is_nil at.outer) (open_in stage) tokens

abbrev pub Reads : {at : Place} → Stage at → List Token → Type 0
Reads {at} stage tokens = Fit stage tokens → Holds at (steps (walk_in stage) tokens) (pieces_of stage tokens)

-- the levels are enough for what the length of a name leaves
abbrev pub IsEnough : Place → Type 0
IsEnough at = part_limit ≤ length at.context.layer + at.levels

-- all of fewer tokens than so many
abbrev pub Claims : ℕ → Type 0
Claims most =
    (at : Place) (stage : Stage at) (tokens : List Token) → length tokens < most → IsEnough at → Reads stage tokens

-- that is known of some tokens
pub record Known (at : Place) (tokens : List Token) : Type 0 where
  pub most : ℕ
  pub claims : Claims most
  pub short : length tokens < most
  pub enough : IsEnough at

module _ {at : Place} {tokens : List Token} (known : Known at tokens) where
  -- from a stage on
  pub from_stage : (stage : Stage at) → Reads stage tokens
  from_stage stage = known.claims at stage tokens known.short known.enough

  -- from the end of a rule on, which gives this
  pub from_end : (first : RulesFound) (ps : List Piece) → found_at at ps ≡ found_next at first tokens → Fits (is_nil at.outer) [] tokens → Holds at (steps (between_at (after at first)) tokens) ps
  from_end first ps gives fits =
      rw (gives, ← after_both at first (pieces_in (is_nil at.outer) tokens))
      (known.claims (after at first) no_rule tokens known.short known.enough fits)
