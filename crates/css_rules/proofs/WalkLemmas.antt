-- One token more, by where it stands.
use Rattle.std.proofs.Common.{◌≡◌, ℕ, Bool, true, false, List, [], ◌∷◌, ◌++◌, refl, sym, ap, ◌∙◌}
use Rattle.std.proofs.lemmas.Bool.{and_right, cond-false, cond-true, cond_both, true≢false}
use Rattle.base_model.specs.Text.{Characters}
use Rattle.syntax_model.specs.Token.{Token, TokenKind, at_keyword, cdc, cdo, open_curly, semicolon, whitespace}
use Rattle.syntax_model.specs.TokenKinds.{is_at_keyword, is_close_curly, is_open_curly, is_semicolon}
use Rattle.syntax_model.specs.Brackets.{Bracket, curly}
use Rattle.syntax_model.specs.Rules.{Rule, Context, SheetEdition, Piece, qualified_head, at_head}
use Rattle.syntax_model.specs.Rules as model
use Rattle.syntax_model.specs.RulesIn.{is_between_rules, is_last, without_block}
use Rattle.syntax_model.specs.SheetRules.{RulesFound, found, block_within, pieces_found, is_layer_name, statement_found}
use Rattle.css_rules.proofs.BlockLemmas.{is_closer}
use Rattle.css_rules.specs.Walk.{Walk, ended_rules, ends_statement, head_named, kept, open_past_kind}
use Rattle.css_rules.specs.declared.rule_parser.ParserState.{ParserState}
use Rattle.css_rules.specs.declared.rule_parser.Head.{Head}
use Rattle.css_rules.specs.declared.rule_parser.Head.TheVariants.{Qualified, Layer, Other}

-- Where a walk stands: in which sheet, in how many levels layers may be nested, after which rules and how many anonymous
-- layers; what the layers whose blocks are open are in, innermost first, and what the next rule is in.
pub record Place : Type 0 where
  pub edition : SheetEdition
  pub levels : ℕ
  pub rules : List Rule
  pub anonymous : ℕ
  pub outer : List Context
  pub context : Context

-- a walk that stands there, in a rule
abbrev pub reading : Place → ParserState → List Token → List Token → List Bracket → Walk
reading at state prelude block pending = record {
  edition = at.edition;
  rules = at.rules;
  anonymous = at.anonymous;
  outer = at.outer;
  context = at.context;
  state = state;
  prelude = prelude;
  block = block;
  pending = pending;
}

-- what pieces that come there give
abbrev pub found_at : Place → List Piece → RulesFound
found_at at pieces = pieces_found (block_within at.levels at.edition) at.edition at.context at.anonymous pieces

-- the place after what is found, and what is found from there on, after it
abbrev pub after : Place → RulesFound → Place
after at all = record at { rules = at.rules ++ all.rules; anonymous = all.anonymous }

abbrev pub found_then : Place → RulesFound → List Piece → RulesFound
found_then at first pieces =
    let all = found_at (after at first) pieces in found (first.rules ++ all.rules) all.anonymous

-- what begins a rule, and what of its prelude is kept
abbrev pub head_of : model.Head → Head
head_of qualified_head = Qualified
head_of (at_head name) = head_named name

abbrev pub all_kept : Head → List Token → List Token
all_kept Qualified prelude = prelude
all_kept Layer prelude = prelude
all_kept Other prelude = []

pub none_kept : (head : Head) → all_kept head [] ≡ []
none_kept Qualified = refl
none_kept Layer = refl
none_kept Other = refl

pub one_kept : (head : Head) (prelude : List Token) (token : Token) → kept head (all_kept head prelude) token ≡ all_kept head (prelude ++ token ∷ [])
one_kept Qualified prelude token = refl
one_kept Layer prelude token = refl
one_kept Other prelude token = refl

-- tokens that open and close nothing
pub between_opens_none : (top : Bool) (kind : TokenKind) → is_between_rules top kind ≡ true → open_past_kind [] kind ≡ []
between_opens_none top whitespace test = refl
between_opens_none top cdo test = refl
between_opens_none top cdc test = refl
between_opens_none top kind test = absurd (true≢false (sym test ∙ and_right top false refl))

pub keyword_opens_none : (kind : TokenKind) → is_at_keyword kind ≡ true → open_past_kind [] kind ≡ []
keyword_opens_none at_keyword test = refl
keyword_opens_none kind test = cc

pub last_opens_none : (head : model.Head) (kind : TokenKind) → is_last head kind ≡ true → open_past_kind [] kind ≡ []
last_opens_none (at_head name) semicolon test = refl
last_opens_none head kind test = cc

pub opens_curly : (kind : TokenKind) → is_open_curly kind ≡ true → open_past_kind [] kind ≡ curly ∷ []
opens_curly open_curly test = refl
opens_curly kind test = cc

-- what ends a statement
pub same_last : (head : model.Head) (kind : TokenKind) → ends_statement (head_of head) kind ≡ is_last head kind
same_last qualified_head kind = refl
same_last (at_head name) kind =
    cond_both (is_layer_name name) Layer Other (λ head. ends_statement head kind ≡ is_semicolon kind) (λ _. refl) (λ _. refl)

pub close_is_not_last : (head : Head) (kind : TokenKind) → is_close_curly kind ≡ true → ends_statement head kind ≡ false
close_is_not_last Qualified kind test = refl
close_is_not_last Layer kind test = ap is_semicolon (is_closer kind test)
close_is_not_last Other kind test = ap is_semicolon (is_closer kind test)

-- what a rule without a block gives
abbrev pub ended_at : Place → model.Head → List Token → RulesFound
ended_at at head prelude = found (ended_rules (head_of head) at.context (all_kept (head_of head) prelude)) at.anonymous

named_statement : (context : Context) (name : Characters) (prelude : List Token) → ended_rules (head_named name) context (all_kept (head_named name) prelude) ≡ statement_found context name prelude
named_statement context name prelude =
    let Gives : Head → Type 0 = λ head. ended_rules head context (all_kept head prelude) ≡ statement_found context name prelude in
    cond_both (is_layer_name name) Layer Other Gives (λ t. sym (cond-true _ _ _ t)) (λ t. sym (cond-false _ _ _ t))

pub statement : (at : Place) (head : model.Head) (prelude : List Token) (pieces : List Piece) → found_at at (without_block head prelude ++ pieces) ≡ found_then at (ended_at at head prelude) pieces
statement at qualified_head prelude pieces = refl
statement at (at_head name) prelude pieces =
    ap (λ rules. found_then at (found rules at.anonymous) pieces) (sym (named_statement at.context name prelude))
