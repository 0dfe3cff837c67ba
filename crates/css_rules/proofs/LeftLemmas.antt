-- The rules that are left: those that were found come first, and what is read leaves them the same.
use Rattle.std.proofs.Common.{◌≡◌, Bool, true, false, ◌&&◌, List, [], ◌∷◌, ◌++◌, Option, Some, None, refl, ap, ◌∙◌, append_assoc}
use Rattle.std.specs.Prelude.{if◌then◌else◌}
use Rattle.base_model.specs.Lists.{is_nil}
use Rattle.syntax_model.specs.Token.{Token, TokenKind}
use Rattle.syntax_model.specs.TokenKinds.{is_at_keyword, is_open_curly}
use Rattle.syntax_model.specs.Brackets.{closers, open_past}
use Rattle.syntax_model.specs.Rules.{Rule, Context, layer}
use Rattle.syntax_model.specs.RulesIn.{is_between_rules}
use Rattle.syntax_model.specs.SheetRules.{qualified_found}
use Rattle.syntax_model.specs.LayersIn.{block_layer}
use Rattle.css_rules.specs.Left.{rules_at_end, rules_left, with_rules}
use Rattle.css_rules.specs.Walk.{Walk, ended, ended_rules, ends_layer, ends_statement, entered, finished, finished_at, inside, opened, out_to, past, rule_ended, step, step_at, steps}
use Rattle.css_rules.specs.declared.rule_parser.ParserState.{ParserState}
use Rattle.css_rules.specs.declared.rule_parser.ParserState.TheVariants.{Between, Prelude, Block, Dropped}
use Rattle.css_rules.specs.declared.rule_parser.Head.{Head}
use Rattle.css_rules.specs.declared.rule_parser.Head.TheVariants.{Qualified, Layer, Other}

module _ (rules : List Rule) where
  abbrev after : Walk → Walk
  after walk = with_rules rules walk

  -- what a step finds comes after
  found_after : (walk : Walk) (new : List Rule) → (rules ++ walk.rules) ++ new ≡ rules ++ (walk.rules ++ new)
  found_after walk new = append_assoc rules walk.rules new

  ended_after : (head : Head) (walk : Walk) → ended head (after walk) ≡ after (ended head walk)
  ended_after head walk =
      ap (λ found. record walk { rules = found; state = Between; prelude = [] }) (found_after walk (ended_rules head walk.context walk.prelude))

  out_after : (outer : List Context) (walk : Walk) → out_to outer (after walk) ≡ after (out_to outer walk)
  out_after [] walk = refl
  out_after (context ∷ outer) walk = refl

  entered_after : (o : Option Context) (walk : Walk) (kind : TokenKind) → entered o (after walk) kind ≡ after (entered o walk kind)
  entered_after None walk kind = refl
  entered_after (Some inner) walk kind =
      ap (λ found. record (inside inner walk) { rules = found }) (found_after walk (layer inner ∷ []))

  opened_after : (head : Head) (walk : Walk) (kind : TokenKind) → opened head (after walk) kind ≡ after (opened head walk kind)
  opened_after Qualified walk kind = refl
  opened_after Layer walk kind = entered_after (block_layer walk.edition walk.anonymous walk.context walk.prelude) _ kind
  opened_after Other walk kind = refl

  rule_ended_after : (walk : Walk) → rule_ended (after walk) ≡ after (rule_ended walk)
  rule_ended_after walk =
      ap (λ found. record (rule_ended walk) { rules = found }) (found_after walk (qualified_found walk.context walk.prelude walk.block))

  choose : (b : Bool) (x y x' y' : Walk) → x ≡ after x' → y ≡ after y' → (if b then x else y) ≡ after (if b then x' else y')
  choose true x y x' y' first second = first
  choose false x y x' y' first second = second

  step_after : (state : ParserState) (walk : Walk) (token : Token) → step_at state (after walk) token ≡ after (step_at state walk token)
  step_after Between walk token =
      choose (ends_layer walk token.kind) _ _ _ _ (out_after walk.outer walk)
      (choose (is_between_rules (is_nil walk.outer) token.kind) _ _ _ _ refl
      (choose (is_at_keyword token.kind) _ _ _ _ refl
      (choose (is_open_curly token.kind) _ _ _ _ refl refl)))
  step_after (Prelude head) walk token =
      choose (is_nil walk.pending && ends_statement head token.kind) _ _ _ _ (ended_after head walk)
      (choose (ends_layer walk token.kind) _ _ _ _ (ap (out_to walk.outer) (ended_after head walk) ∙ out_after walk.outer (ended head walk))
      (choose (is_nil walk.pending && is_open_curly token.kind) _ _ _ _ (opened_after head walk token.kind) refl))
  step_after Block walk token =
      choose (is_nil (open_past walk.pending token)) _ _ _ _ (rule_ended_after (past Block walk token)) refl
  step_after Dropped walk token = choose (is_nil (open_past walk.pending token)) _ _ _ _ refl refl

  steps_after : (walk : Walk) (tokens : List Token) → steps (after walk) tokens ≡ after (steps walk tokens)
  steps_after walk [] = refl
  steps_after walk (token ∷ tokens) =
      ap (λ next. steps next tokens) (step_after walk.state walk token) ∙ steps_after (step walk token) tokens

  finished_after : (state : ParserState) (walk : Walk) → finished_at state (after walk) ≡ rules ++ finished_at state walk
  finished_after Between walk = refl
  finished_after (Prelude head) walk = found_after walk (ended_rules head walk.context walk.prelude)
  finished_after Block walk = refl
  finished_after Dropped walk = refl

  at_end_after : (walk : Walk) → rules_at_end (after walk) ≡ rules ++ rules_at_end walk
  at_end_after walk =
      ap finished (steps_after walk (closers walk.pending)) ∙ finished_after (steps walk (closers walk.pending)).state (steps walk (closers walk.pending))

  -- the rules of a walk come first
  pub left_after : (walk : Walk) (left : List Token) → rules_left (after walk) left ≡ rules ++ rules_left walk left
  left_after walk left = ap rules_at_end (steps_after walk left) ∙ at_end_after (steps walk left)
