-- The names of `@layer`: where their list is cut, and that each may be read with its layer.
use Rattle.std.proofs.Common.{◌≡◌, Bool, true, false, List, [], ◌∷◌, ◌++◌, map, reverse, Option, Some, None, refl, sym, ap, ◌∙◌, ⊎_elim, arith}
use Rattle.std.specs.Prelude.{is_none, not}
use Rattle.std.specs.Option.{option_and_then}
use Rattle.std.specs.List.{list_any}
use Rattle.std.proofs.lemmas.Bool.{cases_Bool, false≢true}
use Rattle.std.proofs.lemmas.List.Folds.{list_any-append}
use Rattle.std.proofs.lemmas.List.Sorted.{list_any-IsPermutation, IsPermutation-reverse}
use Rattle.base_model.specs.Ascii.{full_stop}
use Rattle.base_model.specs.Lists.{every, onto_first, split_by}
use Rattle.syntax_model.specs.Brackets.{Bracket, closed_by, open_past, opened_by, without_closed}
use Rattle.syntax_model.specs.Outside.{parts_between, parts_within}
use Rattle.syntax_model.specs.Token.{Token, TokenKind, function, open_square, open_round, open_curly, whitespace}
use Rattle.syntax_model.specs.TokenKinds.{is_comma, is_delim, is_ident, is_white, trimmed, without_white}
use Rattle.syntax_model.specs.Rules.{Context}
use Rattle.syntax_model.specs.LayersIn.{layer_within, layers_declared, name_in, parts_after}
use Rattle.css_rules.specs.Layers.{layer_named}

abbrev opens : Token → Bool
opens token = not (is_none (opened_by token.kind))

-- the parts between all commas
abbrev at_commas : List Token → List (List Token)
at_commas tokens = split_by (λ token. is_comma token.kind) tokens

-- a token that opens a bracket is in no name

abbrev IsInNoName : TokenKind → Type 0
IsInNoName kind = (is_ident kind ≡ false) × (is_delim full_stop kind ≡ false)

opener_is_other : (kind : TokenKind) → not (is_none (opened_by kind)) ≡ true → IsInNoName kind
opener_is_other open_square e = (refl, refl)
opener_is_other open_round e = (refl, refl)
opener_is_other open_curly e = (refl, refl)
opener_is_other function e = (refl, refl)
opener_is_other kind e = absurd (cc)

white_opens_none : (kind : TokenKind) → is_white kind ≡ true → not (is_none (opened_by kind)) ≡ false
white_opens_none whitespace e = refl
white_opens_none kind e = absurd (cc)

without_name : (tokens : List Token) → list_any opens tokens ≡ true → (name_in tokens ≡ None) × (parts_after tokens ≡ None)
without_name [] e = absurd (false≢true e)
without_name (t ∷ tokens) e =
    ⊎_elim
    (λ (here : opens t ≡ true). let other = opener_is_other t.kind here in (rw other.0 refl, rw other.1 refl))
    (λ (later : opens t ≡ false). let rest = without_name tokens (rw later at e) in grind (arith, rest.0, rest.1))
    (cases_Bool (opens t))

any_reversed : (tokens : List Token) → list_any opens (reverse tokens) ≡ list_any opens tokens
any_reversed tokens = sym (list_any-IsPermutation opens tokens (reverse tokens) (IsPermutation-reverse tokens))

any_without_white : (tokens : List Token) → list_any opens (without_white tokens) ≡ list_any opens tokens
any_without_white [] = refl
any_without_white (t ∷ tokens) =
    ⊎_elim
    (λ (white : is_white t.kind ≡ true). rw (white, white_opens_none t.kind white) (any_without_white tokens))
    (λ (other : is_white t.kind ≡ false). rw other refl)
    (cases_Bool (is_white t.kind))

any_trimmed : (tokens : List Token) → list_any opens (trimmed tokens) ≡ list_any opens tokens
any_trimmed tokens =
    any_reversed (without_white (reverse (without_white tokens)))
    ∙ any_without_white (reverse (without_white tokens))
    ∙ any_reversed (without_white tokens)
    ∙ any_without_white tokens

-- Where each part has to be something that no bracket opens in, a list may be cut at every comma, or at those outside
-- brackets.
module _ {X : Type 0} (member : List Token → Option X) (none : (part : List Token) → list_any opens part ≡ true → member part ≡ None) where
  abbrev all_of : List (List Token) → Option (List X)
  all_of parts = every (map member parts)

  -- the first part begins with these tokens
  abbrev after_tokens : List Token → List (List Token) → List (List Token)
  after_tokens [] parts = parts
  after_tokens (token ∷ tokens) parts = onto_first token (after_tokens tokens parts)

  one_after : (tokens : List Token) (token : Token) (parts : List (List Token)) → after_tokens (tokens ++ token ∷ []) parts ≡ after_tokens tokens (onto_first token parts)
  one_after [] token parts = refl
  one_after (t ∷ tokens) token parts = ap (onto_first t) (one_after tokens token parts)

  first_part : (tokens part : List Token) (parts : List (List Token)) → after_tokens tokens (part ∷ parts) ≡ (tokens ++ part) ∷ parts
  first_part [] part parts = refl
  first_part (t ∷ tokens) part parts = ap (onto_first t) (first_part tokens part parts)

  no_first : (tokens : List Token) (token : Token) (part : List Token) (parts : List (List Token)) → opens token ≡ true → all_of (after_tokens tokens ((token ∷ part) ∷ parts)) ≡ None
  no_first tokens token part parts e =
      let any : list_any opens (tokens ++ token ∷ part) ≡ true = grind (arith, list_any-append, e) in
      rw (first_part tokens (token ∷ part) parts, none (tokens ++ token ∷ part) any) refl

  opened : (tokens : List Token) (token : Token) (parts : List (List Token)) → opens token ≡ true → all_of (after_tokens tokens (onto_first token parts)) ≡ None
  opened tokens token [] e = no_first tokens token [] [] e
  opened tokens token (part ∷ parts) e = no_first tokens token part parts e

  unopened : (kind : TokenKind) → not (is_none (opened_by kind)) ≡ false → opened_by kind ≡ None
  unopened kind e = of_opener (opened_by kind) e
    where
      of_opener : (opener : Option Bracket) → not (is_none opener) ≡ false → opener ≡ None
      of_opener None e = refl
      of_opener (Some bracket) e = absurd (false≢true (sym e))

  none_open : (closer : Option Bracket) → without_closed [] closer ≡ []
  none_open None = refl
  none_open (Some bracket) = refl

  stays_outside : (token : Token) → opens token ≡ false → open_past [] token ≡ []
  stays_outside token e = rw (unopened token.kind e) (none_open (closed_by token.kind))

  other_alike : (before : List Token) (t : Token) (tokens : List Token)
      → all_of (after_tokens (before ++ t ∷ []) (at_commas tokens)) ≡ all_of (after_tokens (before ++ t ∷ []) (parts_between is_comma tokens))
      → all_of (after_tokens before (onto_first t (at_commas tokens)))
      ≡ all_of (after_tokens before (onto_first t (parts_within is_comma (open_past [] t) tokens)))
  other_alike before t tokens alike =
      ⊎_elim
      (λ (here : opens t ≡ true).
      opened before t (at_commas tokens) here ∙ sym (opened before t (parts_within is_comma (open_past [] t) tokens) here))
      (λ (outside : opens t ≡ false).
      rw (stays_outside t outside, ← one_after before t (at_commas tokens), ← one_after before t (parts_between is_comma tokens)) alike)
      (cases_Bool (opens t))

  cut_alike : (before tokens : List Token)
      → all_of (after_tokens before (at_commas tokens)) ≡ all_of (after_tokens before (parts_between is_comma tokens))
  cut_alike before [] = refl
  cut_alike before (t ∷ tokens) =
      ⊎_elim
      (λ (comma : is_comma t.kind ≡ true).
      rw (comma, first_part before [] (at_commas tokens), first_part before [] (parts_between is_comma tokens), cut_alike [] tokens) refl)
      (λ (other : is_comma t.kind ≡ false). rw other (other_alike before t tokens (cut_alike (before ++ t ∷ []) tokens)))
      (cases_Bool (is_comma t.kind))

-- each name is read and then its layer, or all names and then all layers
abbrev adds : {X : Type 0} → Option X → Option (List X) → Option (List X)
adds item items = option_and_then (λ x. option_and_then (λ xs. Some (x ∷ xs)) items) item

every_steps : {A B C : Type 0} (f : A → Option B) (g : B → Option C) (xs : List A)
    → option_and_then (λ ys. every (map g ys)) (every (map f xs)) ≡ every (map (λ x. option_and_then g (f x)) xs)
every_steps f g [] = refl
every_steps {B} {C} f g (x ∷ xs) = one (f x) (every (map f xs)) ∙ ap (adds (option_and_then g (f x))) (every_steps f g xs)
  where
    none_left : (z : Option C) → None ≡ adds z None
    none_left None = refl
    none_left (Some z) = refl

    one : (y : Option B) (ys : Option (List B)) → option_and_then (λ ys. every (map g ys)) (adds y ys) ≡ adds (option_and_then g y) (option_and_then (λ ys. every (map g ys)) ys)
    one None ys = refl
    one (Some y) None = none_left (g y)
    one (Some y) (Some ys) = refl

module _ (context : Context) where
  -- the layer of the name that a part is, with whitespace around it
  abbrev pub layer_in : List Token → Option Context
  layer_in part = layer_named context (trimmed part)

  no_layer : (part : List Token) → list_any opens part ≡ true → layer_in part ≡ None
  no_layer part e = rw (without_name (trimmed part) (any_trimmed part ∙ e)).0 refl

  -- the layers of the names between commas outside brackets are those that the list declares
  pub as_declared : (tokens : List Token) → every (map layer_in (parts_between is_comma tokens)) ≡ layers_declared context tokens
  as_declared tokens =
      sym (cut_alike layer_in no_layer [] tokens)
      ∙ sym (every_steps (λ part. name_in (trimmed part)) (layer_within context) (at_commas tokens))
