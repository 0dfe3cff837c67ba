-- What is put from the start is in normal form, and no longer than the limit.
use Rattle.std.proofs.Common.{◌≡◌, ◌+◌, ◌<◌, ◌≤◌, List, [], ◌∷◌, ◌++◌, length, map, Bool, true, false, Option, Some}
use Rattle.std.proofs.Common.{None, refl, ap, ◌∙◌, arith}
use Rattle.std.proofs.lemmas.List.{append_assoc, append-nil, length-append}
use Rattle.std.proofs.lemmas.Bool.{ltb-true, ltb-false, le-leb, lt-leb}
use Rattle.std.specs.Prelude.{nat_lt, nat_le, option_map}
use Rattle.base_model.specs.Options.{◌>>=◌}
use Rattle.syntax_model.specs.Token.{Token, Said}
use Rattle.syntax_model.specs.TokenKinds.{is_white}
use Rattle.custom_model.specs.Value.{normal, spaced, unplaced, white_space}
use Rattle.custom_model.specs.Expand.{token_limit, within_limit}
use Rattle.custom_properties.specs.Output.{ExpansionOutput, output_at, first, beyond, if_so, pushed, output_placed_all}
use Rattle.custom_properties.proofs.Chains.{assoc-bind}

abbrev pub tokens_of : ExpansionOutput → Option (List Token)
tokens_of f = Some f.tokens

-- each of them in turn, whitespace too
abbrev filled : List Said → List Token → Option (List Token)
filled [] list = Some list
filled (t ∷ ts) list = do
  more ← pushed (unplaced t) list
  filled ts more

after-put : (tokens : Option (List Token)) (ts : List Said) (g : List Token → Option (List Token))
    → ((list : List Token) → (output_placed_all ts (beyond list) >>= tokens_of) ≡ g list)
    → ((option_map beyond tokens >>= (λ f. output_placed_all ts f)) >>= tokens_of) ≡ (tokens >>= g)
after-put None ts g e = refl
after-put (Some list) ts g e = e list

-- once a token is put
abbrev IsFilled : List Said → Type 0
IsFilled ts =
    (is_spaced : Bool) (list : List Token)
    → (output_placed_all ts (output_at list is_spaced true) >>= tokens_of) ≡ filled (spaced is_spaced ts) list

filled-step : (t : Said) (ts : List Said) (white : Bool) → is_white t.kind ≡ white → IsFilled ts → IsFilled (t ∷ ts)
filled-step t ts true e on is_spaced list = rw e (on true list)
filled-step t ts false e on false list = rw e (after-put _ ts _ (on false))
filled-step t ts false e on true list =
    rw e (after-put _ ts _ (on false) ∙ assoc-bind (pushed (unplaced white_space) list) _ _)

put-filled : (ts : List Said) → IsFilled ts
put-filled [] is_spaced list = refl
put-filled (t ∷ ts) is_spaced list = filled-step t ts _ refl (put-filled ts) is_spaced list

-- from the start
abbrev IsFilledFirst : List Said → Type 0
IsFilledFirst ts = (output_placed_all ts first >>= tokens_of) ≡ filled (normal ts) []

first-step : (t : Said) (ts : List Said) (white : Bool) → is_white t.kind ≡ white
    → IsFilledFirst ts → IsFilledFirst (t ∷ ts)
first-step t ts true e on = rw e on
first-step t ts false e on = rw e (after-put (pushed (unplaced t) []) ts _ (put-filled ts false))

first-filled : (ts : List Said) → IsFilledFirst ts
first-filled [] = refl
first-filled (t ∷ ts) = first-step t ts _ refl (first-filled ts)

-- where there is room for all of them
abbrev IsLimited : List Said → Type 0
IsLimited ts =
    (list : List Token) → length list ≤ token_limit
    → filled ts list ≡ if_so (nat_le (length ts + length list) token_limit) (list ++ map unplaced ts)

limit-step : (t : Said) (ts : List Said) → IsLimited ts → (list : List Token) (fits : Bool)
    → nat_lt (length list) token_limit ≡ fits → length list ≤ token_limit
    → filled (t ∷ ts) list ≡ if_so (nat_le (length (t ∷ ts) + length list) token_limit) (list ++ map unplaced (t ∷ ts))
limit-step t ts on list true e within =
    let less : length list < token_limit = ltb-true (length list) token_limit e in
    let long : length (list ++ (unplaced t ∷ [])) ≡ length list + 1 = length-append list (unplaced t ∷ []) in
    let size : length ts + length (list ++ (unplaced t ∷ [])) ≡ length (t ∷ ts) + length list = omega arith in
    rw e (on (list ++ (unplaced t ∷ [])) (omega arith)
    ∙ (ap (λ n. if_so (nat_le n token_limit) ((list ++ (unplaced t ∷ [])) ++ map unplaced ts)) size
    ∙ ap (λ all. if_so (nat_le (length (t ∷ ts) + length list) token_limit) all)
    (append_assoc list (unplaced t ∷ []) (map unplaced ts))))
limit-step t ts on list false e within =
    let full : token_limit ≤ length list = ltb-false (length list) token_limit e in
    rw (e, lt-leb (length (t ∷ ts) + length list) token_limit (omega arith)) refl

limited : (ts : List Said) → IsLimited ts
limited [] list within = rw (le-leb (0 + length list) token_limit (omega arith), append-nil) refl
limited (t ∷ ts) list within = limit-step t ts (limited ts) list _ refl within

mapped-if : (test : Bool) (ts : List Said)
    → if_so test (map unplaced ts) ≡ option_map (λ list. map unplaced list) (if_so test ts)
mapped-if true ts = refl
mapped-if false ts = refl

within-room : (ts : List Said) → filled ts [] ≡ option_map (λ list. map unplaced list) (within_limit ts)
within-room ts =
    let size : length ts + length {A = Token} [] ≡ length ts = omega arith in
    limited ts [] (omega arith)
    ∙ (ap (λ n. if_so (nat_le n token_limit) (map unplaced ts)) size
    ∙ mapped-if (nat_le (length ts) token_limit) ts)

pub put-whole : (ts : List Said)
    → (output_placed_all ts first >>= tokens_of) ≡ option_map (λ list. map unplaced list) (within_limit (normal ts))
put-whole ts = first-filled ts ∙ within-room (normal ts)
