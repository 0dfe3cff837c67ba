-- Reading on: the rules that are left stay the same.
use Rattle.std.proofs.Common.{◌≡◌, ◌<◌, Bool, true, false, List, [], ◌∷◌, ◌++◌, length, Option, Some, None, option_map, refl, sym, ap, ◌∙◌, arith, append-nil}
use Rattle.syntax_model.specs.Token.{Token}
use Rattle.syntax_model.specs.Brackets.{Bracket, closer, closers}
use Rattle.syntax_model.specs.Rules.{Rule, StyleBlock, style, layer}
use Rattle.syntax_model.specs.Rules as model
use Rattle.css_rules.specs.Left.{IsReadOn, IsReadTo, rules_left}
use Rattle.css_rules.specs.Parser.{ended_of, layers_of, walk_after, walk_of}
use Rattle.css_rules.specs.Reader.{current_of}
use Rattle.css_rules.specs.Reading.{context_in, kind_in, moved}
use Rattle.css_rules.specs.View.{context_of, rule_of}
use Rattle.css_rules.specs.declared.rule.Rule as code
use Rattle.css_rules.specs.Walk.{Walk, ended_at, finished, is_skipping, skipped_at, step, step_at, steps}
use Rattle.css_rules.specs.declared.rule.Context.{Context}
use Rattle.css_rules.specs.declared.rule.RuleKind.{RuleKind}
use Rattle.css_rules.specs.declared.rule.RuleKind.TheVariants as variant
use Rattle.css_rules.specs.declared.rule_parser.RuleParser.{RuleParser}
use Rattle.css_rules.specs.declared.rule_parser.ParserState.{ParserState}
use Rattle.css_rules.specs.declared.rule_parser.ParserState.TheVariants.{Between, Prelude, Block, Dropped}
use Rattle.css_rules.specs.declared.rule_parser.Head.TheVariants.{Qualified, Layer, Other}
use Rattle.css_rules.proofs.CloseLemmas.{pops}
use Rattle.css_rules.proofs.LeftLemmas.{left_after}

-- a token of which nothing counts but its kind
pub skips : (state : ParserState) (walk : Walk) (token : Token) → is_skipping state ≡ true → skipped_at state walk token.kind ≡ step_at state walk token
skips Between walk token test = cc
skips (Prelude Qualified) walk token test = cc
skips (Prelude Layer) walk token test = cc
skips (Prelude Other) walk token test = refl
skips Block walk token test = cc
skips Dropped walk token test = refl

-- a token of the text was read
pub token_read : (walk next : Walk) (first : Token) (left rest : List Token) → left ≡ first ∷ rest → next ≡ step walk first → IsReadOn walk left next rest
token_read walk next first left rest is_left is_next =
    rw (is_left, is_next) record { rules = refl; fewer = omega arith }

-- more was read after some tokens
module _ (walk mid next : Walk) (left between rest : List Token) (read : IsReadTo walk left mid between) where
  pub read_on_after : IsReadOn mid between next rest → IsReadOn walk left next rest
  read_on_after on = record { rules = read.rules ∙ on.rules; fewer = omega (arith, read.no_more, on.fewer) }

  pub read_to_after : IsReadOn mid between next rest → IsReadTo walk left next rest
  read_to_after on = record { rules = read.rules ∙ on.rules; no_more = omega (arith, read.no_more, on.fewer) }

-- a closer was read
pub closer_read : (walk next : Walk) (bracket : Bracket) (outer : List Bracket) (left rest : List Token) → left ≡ []
    → rest ≡ [] → walk.pending ≡ bracket ∷ outer → next ≡ step walk (closer bracket) → IsReadOn walk left next rest
closer_read walk next bracket outer left rest none none_after is is_next =
    let popped = pops walk bracket outer is in
    let same : finished (steps walk (closers walk.pending)) ≡ finished (steps next (closers next.pending)) =
    ap (λ pending. finished (steps walk (closers pending))) is
    ∙ (ap (λ w. finished (steps w (closers outer))) (sym is_next)
    ∙ ap (λ pending. finished (steps next (closers pending))) (sym popped.pending_is ∙ ap (λ (w : Walk). w.pending) (sym is_next))) in
    let fewer : length next.pending < length walk.pending =
    omega (arith, ap length is, ap length (ap (λ (w : Walk). w.pending) is_next ∙ popped.pending_is)) in
    rw (none, none_after) record { rules = same; fewer = omega (arith, fewer) }

-- no rule ended
pub goes_on : (ended : Bool) (parser : RuleParser) (walk : Walk) (left rest : List Token)
    → IsReadOn walk left (walk_after ended parser) rest → ended ≡ false → IsReadOn walk left (walk_of parser) rest
goes_on true parser walk left rest read test = cc
goes_on false parser walk left rest read test = read

-- the end of the text ends an at-rule
finished_ended : (state : ParserState) (walk : Walk) → finished (ended_at state (record walk { state = state })) ≡ finished (record walk { state = state })
finished_ended Between walk = refl
finished_ended (Prelude head) walk = refl
finished_ended Block walk = refl
finished_ended Dropped walk = refl

pending_ended : (state : ParserState) (walk : Walk) → (ended_at state walk).pending ≡ walk.pending
pending_ended Between walk = refl
pending_ended (Prelude head) walk = refl
pending_ended Block walk = refl
pending_ended Dropped walk = refl

rules_ended : (state : ParserState) (walk : Walk)
    → finished (ended_at state (record walk { state = state })) ≡ (ended_at state (record walk { state = state })).rules
rules_ended Between walk = refl
rules_ended (Prelude head) walk = refl
rules_ended Block walk = refl
rules_ended Dropped walk = refl

none_pending : (walk : Walk) → walk.pending ≡ [] → rules_left walk [] ≡ finished walk
none_pending walk none = ap (λ pending. finished (steps walk (closers pending))) none

-- where all was read, the layers of the last at-rule are left
pub all_read : (walk next : Walk) → walk.pending ≡ [] → next ≡ ended_at walk.state walk → rules_left walk [] ≡ rules_left next []
all_read walk next none is =
    none_pending walk none
    ∙ (sym (finished_ended walk.state walk)
    ∙ (ap finished (sym is)
    ∙ sym (none_pending next (ap (λ (w : Walk). w.pending) is ∙ (pending_ended walk.state walk ∙ none)))))

pub none_left : (walk next : Walk) → walk.pending ≡ [] → next ≡ ended_at walk.state walk → next.rules ≡ [] → rules_left next [] ≡ []
none_left walk next none is empty =
    none_pending next (ap (λ (w : Walk). w.pending) is ∙ (pending_ended walk.state walk ∙ none))
    ∙ (ap finished is
    ∙ (rules_ended walk.state walk
    ∙ (ap (λ (w : Walk). w.rules) (sym is) ∙ empty)))

-- the reading after a qualified rule, after a layer, and at the end
pub to_style : (parser : RuleParser) (tokens : List Token) (rules : List Rule) (ended : Bool) → ended ≡ true
    → rules ≡ rules_left (walk_after ended parser) tokens
    → moved rules ≡ record { current = Some (ended_of parser); left = rules_left (walk_of parser) tokens }
to_style parser tokens rules true test is = ap moved (is ∙ left_after (ended_of parser ∷ []) (walk_of parser) tokens)
to_style parser tokens rules false test is = cc

abbrev with_layers : List Context → RuleParser → Walk
with_layers layers parser = record (walk_of parser) { rules = layers_of layers }

pub to_layer : (parser : RuleParser) (layers : List Context) (declared : Context) (tokens : List Token) (rules : List Rule) (ended : Bool)
    → ended ≡ false → parser.layers.items ≡ declared ∷ layers → rules ≡ rules_left (walk_after ended parser) tokens
    → moved rules ≡ record { current = Some (layer (context_of declared)); left = rules_left (with_layers layers parser) tokens }
to_layer parser layers declared tokens rules true test first is = cc
to_layer parser layers declared tokens rules false test first is =
    ap moved
    (is
    ∙ (ap (λ items. rules_left (with_layers items parser) tokens) first
    ∙ left_after (layer (context_of declared) ∷ []) (with_layers layers parser) tokens))

pub to_end : (parser : RuleParser) (layers : List Context) (tokens : List Token) (rules : List Rule) (ended : Bool)
    → ended ≡ false → parser.layers.items ≡ [] → layers ≡ [] → rules ≡ rules_left (walk_after ended parser) tokens
    → (ended ≡ false → parser.layers.items ≡ [] → rules_left (walk_of parser) tokens ≡ [])
    → moved rules ≡ record { current = None; left = rules_left (with_layers layers parser) tokens }
to_end parser layers tokens rules true test empty none is end = cc
to_end parser layers tokens rules false test empty none is end =
    let nothing = end test empty in
    ap moved (is ∙ nothing)
    ∙ (ap (λ left. record { current = None; left = left }) (sym nothing)
    ∙ ap (λ items. record { current = None; left = rules_left (with_layers items parser) tokens }) (empty ∙ sym none))

-- what the rule that was read last is
pub style_is : (kind : Option RuleKind) (parser : RuleParser) (declared : Context) (rule : StyleBlock)
    → current_of kind parser declared ≡ Some (style rule) → ended_of parser ≡ style rule
style_is None parser declared rule is = cc
style_is (Some variant.Style) parser declared rule is = cc
style_is (Some variant.Layer) parser declared rule is = cc

-- a layer, by its kind
pub is_layer : (current : Option Rule) (context : model.Context) → option_map kind_in current ≡ Some variant.Layer
    → ((rule : Rule) → current ≡ Some rule → context ≡ context_in rule) → Some (layer context) ≡ current
is_layer None context kind is = cc
is_layer (Some (style rule)) context kind is = cc
is_layer (Some (layer declared)) context kind is = ap (λ found. Some (layer found)) (is (layer declared) refl)

-- where no rule is left, those that were found are all
pub none_more : (rule : Option code.Rule) (found left rules : List Rule) → rule ≡ None
    → option_map rule_of rule ≡ (moved left).current → found ++ left ≡ rules → found ≡ rules
none_more None found [] rules none is all = sym (append-nil found) ∙ all
none_more None found (next ∷ left) rules none is all = cc
none_more (Some rule) found left rules none is all = cc
