-- What is open in the rule that is read, and then a `}` for each layer whose block is open, close the tokens; and with
-- the `}` of the layers no rule is found.
use Rattle.std.proofs.Common.{◌≡◌, Bool, true, false, not, ◌&&◌, List, [], ◌∷◌, ◌++◌, Option, Some, None, refl, sym, ap, subst, ◌∙◌, append-nil, ⊎_elim}
use Rattle.std.specs.Prelude.{if◌then◌else◌}
use Rattle.std.proofs.lemmas.Bool.{and_parts, and_right, cases_Bool, true≢false}
use Rattle.base_model.specs.Lists.{is_nil}
use Rattle.syntax_model.specs.Token.{Token, TokenKind, at_keyword, cdc, cdo, close_curly, open_curly, semicolon, whitespace}
use Rattle.syntax_model.specs.TokenKinds.{is_at_keyword, is_close_curly, is_open_curly, is_semicolon}
use Rattle.syntax_model.specs.Brackets.{Bracket, closed, closer, closers, curly, open_after, round, same_bracket, square, with_opened, without_closed}
use Rattle.syntax_model.specs.Rules.{Context, SheetEdition}
use Rattle.syntax_model.specs.RulesIn.{is_between_rules}
use Rattle.syntax_model.specs.LayersIn.{block_layer}
use Rattle.syntax_model.specs.SheetRules.{counted, rules_in}
use Rattle.css_rules.specs.Left.{rules_left}
use Rattle.css_rules.specs.Walk.{Walk, ended, ends_layer, ends_statement, entered, finished, keeping, open_past_kind, opened, out_to, past, past_kind, start, step, step_at, steps}
use Rattle.css_rules.specs.declared.rule_parser.ParserState.{ParserState}
use Rattle.css_rules.specs.declared.rule_parser.ParserState.TheVariants.{Between, Prelude, Block, Dropped}
use Rattle.css_rules.specs.declared.rule_parser.Head.{Head}
use Rattle.css_rules.specs.declared.rule_parser.Head.TheVariants.{Qualified, Layer, Other}
use Rattle.css_rules.proofs.FoundLemmas.{all_found}
use Rattle.css_rules.proofs.RunLemmas.{steps-append}

-- the brackets of layers
abbrev curlies : List Context → List Bracket
curlies [] = []
curlies (context ∷ outer) = curly ∷ curlies outer

-- in a block a bracket is open
abbrev IsSoundAt : ParserState → List Bracket → Type 0
IsSoundAt Block pending = is_nil pending ≡ false
IsSoundAt Dropped pending = is_nil pending ≡ false
IsSoundAt state pending = Unit {0}

-- brackets below others stay, if they are not closed
without_over : (bracket : Bracket) (pending below : List Bracket) (o : Option Bracket)
    → without_closed (bracket ∷ (pending ++ below)) o ≡ without_closed (bracket ∷ pending) o ++ below
without_over bracket pending below None = refl
without_over bracket pending below (Some closed) =
    ⊎_elim
    (λ (same : same_bracket bracket closed ≡ true). rw same refl)
    (λ (other : same_bracket bracket closed ≡ false). rw other refl)
    (cases_Bool (same_bracket bracket closed))

with_layers : (o : Option Bracket) (pending : List Bracket) (outer : List Context)
    → with_opened o (pending ++ curlies outer) ≡ with_opened o pending ++ curlies outer
with_layers None pending outer = refl
with_layers (Some bracket) pending outer = refl

past_layers : (kind : TokenKind) (below : List Bracket) → is_close_curly kind ≡ false
    → open_past_kind (curly ∷ below) kind ≡ open_past_kind [] kind ++ curly ∷ below
past_layers close_curly below test = absurd (true≢false test)
past_layers kind below test = refl

past_over : (pending : List Bracket) (outer : List Context) (kind : TokenKind) → (not (is_nil outer) && (is_nil pending && is_close_curly kind)) ≡ false
    → open_past_kind (pending ++ curlies outer) kind ≡ open_past_kind pending kind ++ curlies outer
past_over (bracket ∷ pending) outer kind stays =
    ap (with_opened _) (without_over bracket pending (curlies outer) _)
    ∙ with_layers _ (without_closed (bracket ∷ pending) _) outer
past_over [] [] kind stays = sym (append-nil (open_past_kind [] kind))
past_over [] (context ∷ outer) kind stays = past_layers kind (curlies outer) stays

past_close : (pending below : List Bracket) (kind : TokenKind) → (is_nil pending && is_close_curly kind) ≡ true
    → open_past_kind (pending ++ curly ∷ below) kind ≡ pending ++ below
past_close [] below close_curly test = refl
past_close [] below kind test = cc
past_close (bracket ∷ pending) below kind test = cc

-- kinds that open and close nothing
between_passes : (top : Bool) (kind : TokenKind) (pending : List Bracket) → is_between_rules top kind ≡ true → open_past_kind pending kind ≡ pending
between_passes top whitespace pending test = refl
between_passes top cdo pending test = refl
between_passes top cdc pending test = refl
between_passes top kind pending test = absurd (true≢false (sym test ∙ and_right top false refl))

keyword_passes : (kind : TokenKind) (pending : List Bracket) → is_at_keyword kind ≡ true → open_past_kind pending kind ≡ pending
keyword_passes at_keyword pending test = refl
keyword_passes kind pending test = cc

semicolon_passes : (kind : TokenKind) (pending : List Bracket) → is_semicolon kind ≡ true → open_past_kind pending kind ≡ pending
semicolon_passes semicolon pending test = refl
semicolon_passes kind pending test = cc

last_is_semicolon : (head : Head) (kind : TokenKind) → ends_statement head kind ≡ true → is_semicolon kind ≡ true
last_is_semicolon Qualified kind test = cc
last_is_semicolon Layer kind test = test
last_is_semicolon Other kind test = test

opens_some : (kind : TokenKind) (pending : List Bracket) → is_open_curly kind ≡ true → is_nil (open_past_kind pending kind) ≡ false
opens_some open_curly pending test = refl
opens_some kind pending test = cc

opens_one : (kind : TokenKind) (pending below : List Bracket) → is_nil pending ≡ true → is_open_curly kind ≡ true
    → open_past_kind (pending ++ below) kind ≡ pending ++ curly ∷ below
opens_one open_curly [] below none test = refl
opens_one kind (bracket ∷ pending) below none test = cc
opens_one kind [] below none test = cc

-- past a token of a kind the brackets that are open are those of the next walk
record Kept (before : List Bracket) (kind : TokenKind) (state : ParserState) (pending : List Bracket) (outer : List Context) : Type 0 where
  pub seen : open_past_kind before kind ≡ pending ++ curlies outer
  pub sound : IsSoundAt state pending

abbrev seen_in : Walk → List Bracket
seen_in walk = walk.pending ++ curlies walk.outer

abbrev Keeps : Walk → TokenKind → Walk → Type 0
Keeps walk kind next = Kept (seen_in walk) kind next.state next.pending next.outer

leaves : (walk : Walk) (outer : List Context) (kind : TokenKind) → (not (is_nil outer) && (is_nil walk.pending && is_close_curly kind)) ≡ true
    → Keeps (record walk { outer = outer }) kind (out_to outer (record walk { state = Between; outer = outer }))
leaves walk [] kind test = cc
leaves walk (context ∷ outer) kind test = record { seen = past_close walk.pending (curlies outer) kind test; sound = tt }

by_test : (walk : Walk) (kind : TokenKind) (b : Bool) (x y : Walk) → (b ≡ true → Keeps walk kind x) → (b ≡ false → Keeps walk kind y)
    → Keeps walk kind (if b then x else y)
by_test walk kind true x y first second = first refl
by_test walk kind false x y first second = second refl

goes : (walk : Walk) (kind : TokenKind) (state : ParserState) → ends_layer walk kind ≡ false
    → IsSoundAt state (open_past_kind walk.pending kind) → Keeps walk kind (past_kind state walk kind)
goes walk kind state stays sound = record { seen = past_over walk.pending walk.outer kind stays; sound = sound }

enters : (walk : Walk) (kind : TokenKind) (o : Option Context) → ends_layer walk kind ≡ false
    → is_nil walk.pending ≡ true → is_open_curly kind ≡ true → Keeps walk kind (entered o walk kind)
enters walk kind None stays none test = goes walk kind Dropped stays (opens_some kind walk.pending test)
enters walk kind (Some inner) stays none test =
    record { seen = opens_one kind walk.pending (curlies walk.outer) none test; sound = tt }

opens_block : (walk : Walk) (kind : TokenKind) (head : Head) → ends_layer walk kind ≡ false
    → is_nil walk.pending ≡ true → is_open_curly kind ≡ true → Keeps walk kind (opened head walk kind)
opens_block walk kind Qualified stays none test = goes walk kind Block stays (opens_some kind walk.pending test)
opens_block walk kind Layer stays none test =
    let layer : Option Context = block_layer walk.edition walk.anonymous walk.context walk.prelude in
    enters (record walk { anonymous = counted walk.anonymous walk.prelude; prelude = [] }) kind layer stays none test
opens_block walk kind Other stays none test = goes walk kind Dropped stays (opens_some kind walk.pending test)

-- what is in a block ends no layer
stays_inside : (outer : List Context) (pending : List Bracket) (kind : TokenKind) → is_nil pending ≡ false
    → (not (is_nil outer) && (is_nil pending && is_close_curly kind)) ≡ false
stays_inside outer [] kind some = cc
stays_inside [] (bracket ∷ pending) kind some = refl
stays_inside (context ∷ outer) (bracket ∷ pending) kind some = refl

kept_at : (state : ParserState) (walk : Walk) (token : Token) → IsSoundAt state walk.pending
    → Keeps walk token.kind (step_at state (record walk { state = state }) token)
kept_at Between walk token sound =
    let kind : TokenKind = token.kind in
    by_test walk kind (ends_layer walk kind) _ _
    (λ test. leaves walk walk.outer kind test)
    (λ stays. by_test walk kind (is_between_rules (is_nil walk.outer) kind) _ _
    (λ test. record { seen = between_passes (is_nil walk.outer) kind (seen_in walk) test; sound = tt })
    (λ other. by_test walk kind (is_at_keyword kind) _ _
    (λ test. record { seen = keyword_passes kind (seen_in walk) test; sound = tt })
    (λ none. by_test walk kind (is_open_curly kind) _ _
    (λ test. goes walk kind Block stays (opens_some kind walk.pending test))
    (λ plain. goes walk kind (Prelude Qualified) stays tt))))
kept_at (Prelude head) walk token sound =
    let kind : TokenKind = token.kind in
    let here : Walk = record walk { state = Prelude head } in
    by_test walk kind (is_nil walk.pending && ends_statement head kind) _ _
    (λ test. record { seen = semicolon_passes kind (seen_in walk) (last_is_semicolon head kind (and_parts (is_nil walk.pending) (ends_statement head kind) test).1); sound = tt })
    (λ on. by_test walk kind (ends_layer walk kind) _ _
    (λ test. leaves (ended head walk) walk.outer kind test)
    (λ stays. by_test walk kind (is_nil walk.pending && is_open_curly kind) (opened head here kind) (keeping head (past (Prelude head) here token) token)
    (λ test. let parts = and_parts (is_nil walk.pending) (is_open_curly kind) test in opens_block here kind head stays parts.0 parts.1)
    (λ plain. goes walk kind (Prelude head) stays tt)))
kept_at Block walk token sound =
    let kind : TokenKind = token.kind in
    let stays = stays_inside walk.outer walk.pending kind sound in
    by_test walk kind (is_nil (open_past_kind walk.pending kind)) _ _
    (λ test. goes walk kind Between stays tt)
    (λ some. goes walk kind Block stays some)
kept_at Dropped walk token sound =
    let kind : TokenKind = token.kind in
    let stays = stays_inside walk.outer walk.pending kind sound in
    by_test walk kind (is_nil (open_past_kind walk.pending kind)) _ _
    (λ test. goes walk kind Between stays tt)
    (λ some. goes walk kind Dropped stays some)

abbrev IsSound : Walk → Type 0
IsSound walk = IsSoundAt walk.state walk.pending

kept : (walk : Walk) (token : Token) → IsSound walk → Keeps walk token.kind (step walk token)
kept walk token sound = kept_at walk.state walk token sound

sound_after : (walk : Walk) (tokens : List Token) → IsSound walk → IsSound (steps walk tokens)
sound_after walk [] sound = sound
sound_after walk (token ∷ tokens) sound = sound_after (step walk token) tokens (kept walk token sound).sound

seen_after : (walk : Walk) (tokens : List Token) → IsSound walk → open_after (seen_in walk) tokens ≡ seen_in (steps walk tokens)
seen_after walk [] sound = refl
seen_after walk (token ∷ tokens) sound =
    let one = kept walk token sound in
    ap (λ pending. open_after pending tokens) one.seen ∙ seen_after (step walk token) tokens one.sound

-- the closer of the innermost bracket
pub record IsPopped (outer : List Context) (pending : List Bracket) (next : Walk) : Type 0 where
  pub pending_is : next.pending ≡ pending
  pub outer_is : next.outer ≡ outer

pops_at : (state : ParserState) (walk : Walk) (bracket : Bracket) (pending : List Bracket) (outer : List Context)
    → IsPopped outer pending (step_at state (record walk { pending = bracket ∷ pending; outer = outer }) (closer bracket))
pops_at Between walk square pending [] = record { pending_is = refl; outer_is = refl }
pops_at Between walk round pending [] = record { pending_is = refl; outer_is = refl }
pops_at Between walk curly pending [] = record { pending_is = refl; outer_is = refl }
pops_at Between walk square pending (context ∷ outer) = record { pending_is = refl; outer_is = refl }
pops_at Between walk round pending (context ∷ outer) = record { pending_is = refl; outer_is = refl }
pops_at Between walk curly pending (context ∷ outer) = record { pending_is = refl; outer_is = refl }
pops_at (Prelude head) walk square pending [] = record { pending_is = refl; outer_is = refl }
pops_at (Prelude head) walk round pending [] = record { pending_is = refl; outer_is = refl }
pops_at (Prelude head) walk curly pending [] = record { pending_is = refl; outer_is = refl }
pops_at (Prelude head) walk square pending (context ∷ outer) = record { pending_is = refl; outer_is = refl }
pops_at (Prelude head) walk round pending (context ∷ outer) = record { pending_is = refl; outer_is = refl }
pops_at (Prelude head) walk curly pending (context ∷ outer) = record { pending_is = refl; outer_is = refl }
pops_at Block walk square [] outer = record { pending_is = refl; outer_is = refl }
pops_at Block walk round [] outer = record { pending_is = refl; outer_is = refl }
pops_at Block walk curly [] outer = record { pending_is = refl; outer_is = refl }
pops_at Block walk square (next ∷ pending) outer = record { pending_is = refl; outer_is = refl }
pops_at Block walk round (next ∷ pending) outer = record { pending_is = refl; outer_is = refl }
pops_at Block walk curly (next ∷ pending) outer = record { pending_is = refl; outer_is = refl }
pops_at Dropped walk square [] outer = record { pending_is = refl; outer_is = refl }
pops_at Dropped walk round [] outer = record { pending_is = refl; outer_is = refl }
pops_at Dropped walk curly [] outer = record { pending_is = refl; outer_is = refl }
pops_at Dropped walk square (next ∷ pending) outer = record { pending_is = refl; outer_is = refl }
pops_at Dropped walk round (next ∷ pending) outer = record { pending_is = refl; outer_is = refl }
pops_at Dropped walk curly (next ∷ pending) outer = record { pending_is = refl; outer_is = refl }

pub pops : (walk : Walk) (bracket : Bracket) (pending : List Bracket) → walk.pending ≡ bracket ∷ pending
    → IsPopped walk.outer pending (step walk (closer bracket))
pops walk bracket pending is =
    let same : record walk { pending = bracket ∷ pending } ≡ walk = ap (λ opens. record walk { pending = opens }) (sym is) in
    subst (λ w. IsPopped walk.outer pending (step w (closer bracket))) same (pops_at walk.state walk bracket pending walk.outer)

popped_all : (pending : List Bracket) (walk : Walk) → walk.pending ≡ pending → IsPopped walk.outer [] (steps walk (closers pending))
popped_all [] walk is = record { pending_is = is; outer_is = refl }
popped_all (bracket ∷ pending) walk is =
    let first = pops walk bracket pending is in
    let rest = popped_all pending (step walk (closer bracket)) first.pending_is in
    record { pending_is = rest.pending_is; outer_is = rest.outer_is ∙ first.outer_is }

-- outside the brackets of a rule the `}` of layers give nothing
abbrev outside : List Context → Walk → Walk
outside outer walk = record walk { pending = []; outer = outer }

closing_at : (state : ParserState) (outer : List Context) (walk : Walk) → IsSoundAt state []
    → finished (steps (outside outer (record walk { state = state })) (closers (curlies outer))) ≡ finished (outside outer (record walk { state = state }))
closing_at state [] walk sound = refl
closing_at Between (context ∷ outer) walk sound = closing_at Between outer (record walk { context = context }) tt
closing_at (Prelude Qualified) (context ∷ outer) walk sound =
    closing_at Between outer (record (ended Qualified walk) { context = context }) tt
closing_at (Prelude Layer) (context ∷ outer) walk sound =
    closing_at Between outer (record (ended Layer walk) { context = context }) tt
closing_at (Prelude Other) (context ∷ outer) walk sound =
    closing_at Between outer (record (ended Other walk) { context = context }) tt
closing_at Block (context ∷ outer) walk sound = cc
closing_at Dropped (context ∷ outer) walk sound = cc

closing : (walk : Walk) → walk.pending ≡ [] → IsSound walk → finished (steps walk (closers (curlies walk.outer))) ≡ finished walk
closing walk none sound =
    let same : outside walk.outer walk ≡ walk = ap (λ opens. record walk { pending = opens }) (sym none) in
    let sound_none : IsSoundAt walk.state [] = subst (λ opens. IsSoundAt walk.state opens) none sound in
    subst (λ w. finished (steps w (closers (curlies walk.outer))) ≡ finished w) same (closing_at walk.state walk.outer walk sound_none)

closers-append : (pending below : List Bracket) → closers (pending ++ below) ≡ closers pending ++ closers below
closers-append [] below = refl
closers-append (bracket ∷ pending) below = ap (λ tokens. closer bracket ∷ tokens) (closers-append pending below)

-- the rules of all tokens, from before the first one
pub left_at_start : (edition : SheetEdition) (tokens : List Token) → rules_left (start edition) tokens ≡ rules_in edition tokens
left_at_start edition tokens =
    let begin : Walk = start edition in
    let walk : Walk = steps begin tokens in
    let end : Walk = steps walk (closers walk.pending) in
    let sound : IsSound walk = sound_after begin tokens tt in
    let popped = popped_all walk.pending walk refl in
    let layers : finished (steps end (closers (curlies walk.outer))) ≡ finished end =
    ap (λ outer. finished (steps end (closers (curlies outer)))) (sym popped.outer_is)
    ∙ closing end popped.pending_is (sound_after walk (closers walk.pending) sound) in
    let both : closers (open_after [] tokens) ≡ closers walk.pending ++ closers (curlies walk.outer) =
    ap closers (seen_after begin tokens tt) ∙ closers-append walk.pending (curlies walk.outer) in
    sym layers
    ∙ (ap finished (sym (steps-append walk (closers walk.pending) (closers (curlies walk.outer))))
    ∙ (ap (λ more. finished (steps walk more)) (sym both)
    ∙ (ap finished (sym (steps-append begin tokens (closers (open_after [] tokens))))
    ∙ all_found edition tokens)))
