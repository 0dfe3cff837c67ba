-- A value without `var(` refers to no custom property.
use Rattle.std.proofs.Common.{◌≡◌, ℕ, zero, suc, List, [], ◌∷◌, Bool, true, false, ◌||◌, ◌&&◌, if◌then◌else◌, not, map, length, Some, None, option_map, refl, ap, ◌∙◌}
use Rattle.std.specs.Prelude.{option_and_then}
use Rattle.std.specs.List.{list_any}
use Rattle.std.specs.Option.{option_map_or}
use Rattle.std.proofs.lemmas.Bool.{or_parts}
use Rattle.base_model.specs.Lists.{is_nil}
use Rattle.base_model.specs.Text.{Characters}
use Rattle.syntax_model.specs.Token.{Token, Said, said}
use Rattle.syntax_model.specs.TokenKinds.{is_white, is_close_round}
use Rattle.syntax_model.specs.Brackets.{Bracket}
use Rattle.custom_model.specs.Value.{CustomValue, normal, spaced, white_space}
use Rattle.custom_model.specs.Parts.{Parts, Reading, plain, after, is_unfit, is_var, open_beyond, parts, parts_within, references, references_in, refers, referring_value_in, kept_where_valid, is_valid}
use Rattle.sheet_set.specs.Parts.{has_var}

-- whether `var(` is one of the tokens
abbrev calls : List Said → Bool
calls tokens = list_any is_var tokens

abbrev found : Reading → List Characters
found reading = option_map_or (λ r. references r.0) reading []

no_part : (token : Said) (reading : Reading) → found (after (plain token) reading) ≡ found reading
no_part token None = refl
no_part token (Some r) = refl

in_cases : (ends unfit var : Bool) (tokens : List Said) (token : Said) (inside rest : Reading) → var ≡ false → found rest ≡ [] → found (if ends then Some (Parts.done, tokens) else if unfit then None else if var then inside else after (plain token) rest) ≡ []
in_cases true unfit var tokens token inside rest none same = refl
in_cases false true var tokens token inside rest none same = refl
in_cases false false true tokens token inside rest none same = cc
in_cases false false false tokens token inside rest none same = no_part token rest ∙ same

at_end : (left : Bool) → found (if left then None else Some (Parts.done, [])) ≡ []
at_end true = refl
at_end false = refl

parts_plain : (most : ℕ) (within : Bool) (pending : List Bracket) (tokens : List Said) → calls tokens ≡ false → found (parts_within most within pending tokens) ≡ []
parts_plain zero within pending tokens h = refl
parts_plain (suc most) within pending [] h = at_end (within || not (is_nil pending))
parts_plain (suc most) within pending (token ∷ tokens) h =
    let none = or_parts (is_var token) (calls tokens) h in
    in_cases (within && (is_nil pending && is_close_round token.kind)) (is_unfit pending token.kind) (is_var token) tokens token _ _ none.0 (parts_plain most within (open_beyond pending token.kind) tokens none.1)

-- dropped whitespace takes no `var(` away, and adds none
spaced_calls : (pending : Bool) (tokens : List Said) → calls tokens ≡ false → calls (spaced pending tokens) ≡ false
spaced_calls pending [] h = refl
spaced_calls pending (token ∷ tokens) h =
    let none = or_parts (is_var token) (calls tokens) h in
    by_white (is_white token.kind) pending none.0 (spaced_calls true tokens none.1) (spaced_calls false tokens none.1)
  where
    by_white : (white pending : Bool) → is_var token ≡ false → calls (spaced true tokens) ≡ false → calls (spaced false tokens) ≡ false → calls (if white then spaced true tokens else if pending then white_space ∷ token ∷ spaced false tokens else token ∷ spaced false tokens) ≡ false
    by_white true pending e f g = f
    by_white false true e f g = ap (λ b. b || calls (spaced false tokens)) e ∙ g
    by_white false false e f g = ap (λ b. b || calls (spaced false tokens)) e ∙ g

normal_calls : (tokens : List Said) → calls tokens ≡ false → calls (normal tokens) ≡ false
normal_calls [] h = refl
normal_calls (token ∷ tokens) h =
    let none = or_parts (is_var token) (calls tokens) h in
    by_white (is_white token.kind) none.0 (normal_calls tokens none.1) (spaced_calls false tokens none.1)
  where
    by_white : (white : Bool) → is_var token ≡ false → calls (normal tokens) ≡ false → calls (spaced false tokens) ≡ false → calls (if white then normal tokens else token ∷ spaced false tokens) ≡ false
    by_white true e f g = f
    by_white false e f g = ap (λ b. b || calls (spaced false tokens)) e ∙ g

names_in : (read : Reading) → option_map_or references (option_map (λ r. r.0) read) [] ≡ found read
names_in None = refl
names_in (Some r) = refl

-- a value without `var(` refers to nothing
no_names : (value : CustomValue) → calls value ≡ false → references_in value ≡ []
unfolding parts
no_names value h =
    names_in (parts_within (suc (length value)) false [] value) ∙ parts_plain (suc (length value)) false [] value h

kept_none : (value : CustomValue) (valid refers_to : Bool) → refers value ≡ false → is_valid value ≡ valid → refers value ≡ refers_to → option_and_then (λ v. if refers v then Some v else None) (kept_where_valid value) ≡ None
kept_none value true true h e f = cc
kept_none value true false h e f =
    ap (λ b. option_and_then (λ v. if refers v then Some v else None) (if b then Some value else None)) e ∙ ap (λ b. if b then Some value else None) f
kept_none value false refers_to h e f =
    ap (λ b. option_and_then (λ v. if refers v then Some v else None) (if b then Some value else None)) e

said_calls : (tokens : List Token) → calls (map said tokens) ≡ has_var tokens
said_calls [] = refl
said_calls (token ∷ tokens) = ap (λ b. is_var (said token) || b) (said_calls tokens)

-- so tokens without one are no value that refers to something
pub refers_to_none : (tokens : List Token) → has_var tokens ≡ false → referring_value_in tokens ≡ None
refers_to_none tokens h =
    let value = normal (map said tokens) in
    let none : calls value ≡ false = normal_calls (map said tokens) (said_calls tokens ∙ h) in
    kept_none value _ _ (ap (λ names. not (is_nil names)) (no_names value none)) refl refl
