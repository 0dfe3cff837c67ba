-- Declarations, and what the closers of open brackets are for them.
use Rattle.std.proofs.Common.{◌≡◌, true, false, List, [], ◌∷◌, ◌++◌, length, reverse, drop, refl, sym, ap, ⊎_elim, None, append_assoc, append-nil, arith, ◌<◌}
use Rattle.std.specs.Option.{option_to_list}
use Rattle.std.proofs.lemmas.Bool.{cases_Bool, cond-false, false≢true}
use Rattle.std.proofs.lemmas.List.{reverse-append, reverse-reverse}
use Rattle.base_model.specs.Lists.{is_nil}
use Rattle.base_model.specs.Text.{Characters}
use Rattle.syntax_model.specs.Token.{Token}
use Rattle.syntax_model.specs.Brackets.{Bracket, closed, closer, closers, curly, round, square}
use Rattle.syntax_model.specs.TokenKinds.{begins_with, is_at_keyword, is_between, is_colon, is_ident, is_semicolon, is_white, trimmed, without_white}
use Rattle.syntax_model.specs.Outside.{from_first, up_to}
use Rattle.syntax_model.specs.Rules.{Declaration}
use Rattle.syntax_model.specs.RulesIn.{after_at_rule, after_colon, before_important, declaration_in, declarations_in, is_important_word, named_declaration, shallow_alone}
use Rattle.syntax_model.proofs.DeclarationsLemmas.{after_shorter, drop_at_rule, none_left, skip_one, take_one}
use Rattle.css_tokens.specs.Taken.{IsNameTaken, IsTaken}

-- closers are no whitespace, no words and no colons
closer_other : (bracket : Bracket) → is_white (closer bracket).kind ≡ false
closer_other square = refl
closer_other round = refl
closer_other curly = refl

closer_no_word : (bracket : Bracket) → is_important_word (closer bracket) ≡ false
closer_no_word square = refl
closer_no_word round = refl
closer_no_word curly = refl

closer_no_colon : (bracket : Bracket) → is_colon (closer bracket).kind ≡ false
closer_no_colon square = refl
closer_no_colon round = refl
closer_no_colon curly = refl

pub white-append : (tokens : List Token) (pending : List Bracket) → without_white (tokens ++ closers pending) ≡ without_white tokens ++ closers pending
white-append [] [] = refl
white-append [] (bracket ∷ pending) = cond-false _ _ _ (closer_other bracket)
white-append (t ∷ tokens) pending =
    ⊎_elim
    (λ (white : is_white t.kind ≡ true). rw white (white-append tokens pending))
    (λ (other : is_white t.kind ≡ false). rw other refl)
    (cases_Bool (is_white t.kind))

-- a closer comes last, and what is before it
pub record EndsWithCloser (tokens : List Token) : Type 0 where
  pub front : List Token
  pub bracket : Bracket
  pub split : tokens ≡ front ++ closer bracket ∷ []

last_closer : (front : List Token) (bracket : Bracket) (pending : List Bracket) → EndsWithCloser (front ++ closers (bracket ∷ pending))
last_closer front bracket [] = record { front = front; bracket = bracket; split = refl }
last_closer front bracket (next ∷ pending) =
    rw (← append_assoc front (closer bracket ∷ []) (closers (next ∷ pending))) (last_closer (front ++ closer bracket ∷ []) next pending)

-- a declaration that is not marked as important
abbrev pub plain : Characters → List Token → Declaration
plain name value = record { name = name; value = value; important = false }

-- with a closer at the end nothing is trimmed there, and there is no `!important`
pub with_closer : (name : Characters) (tokens : List Token) → EndsWithCloser (without_white tokens) → named_declaration name tokens ≡ plain name (without_white tokens)
with_closer name tokens at =
    let value : List Token = without_white tokens in
    let back : reverse value ≡ closer at.bracket ∷ reverse at.front = rw (at.split, reverse-append) refl in
    let stays : without_white (reverse value) ≡ reverse value = rw (back, closer_other at.bracket) refl in
    let same : trimmed tokens ≡ value = rw (stays, reverse-reverse value) in
    let none : before_important (reverse (trimmed tokens)) ≡ None = rw (same, back, closer_no_word at.bracket) in
    rw (none, named_declaration) (ap (plain name) same)

pub ends_with_closer : (tokens : List Token) (pending : List Bracket) → is_nil pending ≡ false → EndsWithCloser (without_white (tokens ++ closers pending))
ends_with_closer tokens [] some = absurd (false≢true (sym some))
ends_with_closer tokens (bracket ∷ pending) some =
    rw (white-append tokens (bracket ∷ pending)) (last_closer (without_white tokens) bracket pending)

no_colon_there : (tokens : List Token) (pending : List Bracket) → begins_with is_colon tokens ≡ false → after_colon (tokens ++ closers pending) ≡ None
no_colon_there [] [] fails = refl
no_colon_there [] (bracket ∷ pending) fails = cond-false _ _ _ (closer_no_colon bracket)
no_colon_there (t ∷ tokens) pending fails = cond-false _ _ _ fails

-- an identifier and whitespace
module _ {tokens after next : List Token} {name : Characters} (pending : List Bracket) (taken : IsNameTaken is_ident name tokens after) (is_next : next ≡ without_white after) where
  -- and then no colon
  pub no_colon : begins_with is_colon next ≡ false → None ≡ declaration_in (tokens ++ closers pending)
  no_colon fails =
      rw (taken.first, taken.passes, white-append after pending, no_colon_there (without_white after) pending (rw is_next at fails)) refl

  -- or a colon, and a value
  pub one_value : {left rest : List Token} → IsTaken is_colon next left → rest ≡ left → shallow_alone (named_declaration name (rest ++ closers pending)) ≡ declaration_in (tokens ++ closers pending)
  one_value colon is_rest =
      rw (is_rest, taken.first, taken.named, taken.passes, white-append after pending, ← is_next, colon.first, colon.passes) refl

-- these declarations, and those of what is left, are all of them
abbrev pub AreAll : List Token → List Declaration → List Token → Type 0
AreAll tokens declarations left = declarations ++ declarations_in left ≡ declarations_in tokens

module _ (tokens : List Token) (declarations : List Declaration) {left after : List Token} {token : Token} (at : AreAll tokens declarations left) (is : left ≡ token ∷ after) where
  -- past a token between declarations
  pub skips : is_between token.kind ≡ true → AreAll tokens declarations (drop 1 left)
  skips between = rw is (rw (is, skip_one token after between) at at)

  module _ (other : is_between token.kind ≡ false) where
    -- past an at-rule
    pub drops : is_at_keyword token.kind ≡ true → AreAll tokens declarations (after_at_rule [] (drop 1 left))
    drops keyword = rw is (rw (is, drop_at_rule token after other keyword) at at)

    -- or past a piece
    pub takes : is_at_keyword token.kind ≡ false → AreAll tokens (declarations ++ option_to_list (declaration_in (closed (up_to is_semicolon left)))) (from_first is_semicolon left)
    takes none = rw (append_assoc, is) (rw (is, take_one token after other none) at at)

pub at_rule_shorter : {left after : List Token} {token : Token} → left ≡ token ∷ after → length (after_at_rule [] (drop 1 left)) < length left
at_rule_shorter {after} is = rw is (omega (arith, after_shorter [] after))

pub none_more : (tokens left : List Token) (declarations : List Declaration) → AreAll tokens declarations left → left ≡ [] → declarations ≡ declarations_in tokens
none_more tokens left declarations at is = rw (is, none_left, append-nil) at at
