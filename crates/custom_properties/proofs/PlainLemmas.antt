-- A value that expands to itself, whatever the others are, refers to none.
use Rattle.std.proofs.Common.{◌≡◌, ℕ, zero, suc, ◌<◌, ◌≤◌, List, [], ◌∷◌, ◌++◌, length, Bool, true, false, cond, Option, Some, None, refl, sym, ap, subst, ◌∙◌, arith}
use Rattle.std.specs.Option.{option_map_or}
use Rattle.std.proofs.lemmas.Bool.{lt-leb}
use Rattle.std.proofs.lemmas.Option.{none-some, same_Some}
use Rattle.base_model.specs.Options.{◌>>=◌}
use Rattle.base_model.specs.Text.{Characters}
use Rattle.syntax_model.specs.Token.{Said, semicolon}
use Rattle.syntax_model.specs.TokenKinds.{is_white}
use Rattle.custom_model.specs.Value.{CustomValue, normal, spaced}
use Rattle.custom_model.specs.Parts.{Parts, done, plain, reference, with_fallback, parts, references, references_in}
use Rattle.custom_model.specs.Expand.{Lookup, token_limit, within_limit, joined, expand, expanded, expansion}

-- how many tokens are no whitespace
abbrev counted : Bool → ℕ → ℕ
counted white n = cond white n (suc n)

abbrev count : List Said → ℕ
count [] = 0
count (token ∷ tokens) = counted (is_white token.kind) (count tokens)

more : (white : Bool) (n : ℕ) → n ≤ counted white n
more true n = omega arith
more false n = omega arith

under : (white : Bool) (n m : ℕ) → n ≤ m → counted white n ≤ suc m
under true n m l = omega arith
under false n m l = omega arith

count-length : (tokens : List Said) → count tokens ≤ length tokens
count-length [] = omega arith
count-length (token ∷ tokens) = under (is_white token.kind) (count tokens) (length tokens) (count-length tokens)

count-append_right : (xs ys : List Said) → count ys ≤ count (xs ++ ys)
count-append_right [] ys = omega arith
count-append_right (x ∷ xs) ys =
    let h = count-append_right xs ys in let m = more (is_white x.kind) (count (xs ++ ys)) in omega arith

below_both : (white : Bool) (n m : ℕ) → n ≤ m → counted white n ≤ counted white m
below_both true n m l = l
below_both false n m l = omega arith

count-append_left : (xs ys : List Said) → count xs ≤ count (xs ++ ys)
count-append_left [] ys = omega arith
count-append_left (x ∷ xs) ys = below_both (is_white x.kind) (count xs) (count (xs ++ ys)) (count-append_left xs ys)

-- normal form keeps them
spaced_by : (pending white : Bool) (token : Said) (tokens : List Said) → is_white token.kind ≡ white → ((p : Bool) → count (spaced p tokens) ≡ count tokens) → count (spaced pending (token ∷ tokens)) ≡ count (token ∷ tokens)
spaced_by pending true token tokens e h = rw e (h true)
spaced_by true false token tokens e h = rw e (rw e (ap suc (h false)))
spaced_by false false token tokens e h = rw e (rw e (ap suc (h false)))

count-spaced : (tokens : List Said) (pending : Bool) → count (spaced pending tokens) ≡ count tokens
count-spaced [] pending = refl
count-spaced (token ∷ tokens) pending = spaced_by pending (is_white token.kind) token tokens refl (λ p. count-spaced tokens p)

normal_by : (white : Bool) (token : Said) (tokens : List Said) → is_white token.kind ≡ white → count (normal tokens) ≡ count tokens → count (normal (token ∷ tokens)) ≡ count (token ∷ tokens)
normal_by true token tokens e h = rw e h
normal_by false token tokens e h = rw e (rw e (ap suc (count-spaced tokens false)))

count-normal : (tokens : List Said) → count (normal tokens) ≡ count tokens
count-normal [] = refl
count-normal (token ∷ tokens) = normal_by (is_white token.kind) token tokens refl (count-normal tokens)

too_many : (tokens : List Said) → token_limit < count tokens → within_limit (normal tokens) ≡ None
too_many tokens l =
    let h = count-length (normal tokens) in
    let e = count-normal tokens in
    ap (λ b. cond b (Some (normal tokens)) None) (lt-leb (length (normal tokens)) token_limit (omega arith))

-- there are as long lists as one likes
many : (n : ℕ) → (tokens : List Said) × (n < count tokens)
many zero = (record { kind = semicolon; name = []; spelling = [] } ∷ [], omega arith)
many (suc n) = let r = many n in (record { kind = semicolon; name = []; spelling = [] } ∷ r.0, omega (arith, r.1))

module _ (large : List Said) (enough : token_limit < count large) where
  abbrev all_large : Lookup
  all_large name = Some large

  abbrev Large : Option CustomValue → Type 0
  Large o = (result : CustomValue) → o ≡ Some result → token_limit < count result

  after_one : (token : Said) (o : Option CustomValue) → Large o → Large (joined (Some (token ∷ [])) o)
  after_one token None h result e = absurd (none-some result e)
  after_one token (Some back) h result e =
      let r = h back refl in
      let m = count-append_right (token ∷ []) back in
      subst (λ l. token_limit < count l) (same_Some _ _ e) (omega arith)

  with_large : (o : Option CustomValue) → Large (joined (Some large) o)
  with_large None result e = absurd (none-some result e)
  with_large (Some back) result e =
      let m = count-append_left large back in subst (λ l. token_limit < count l) (same_Some _ _ e) (omega arith)

  large_references : (read : Parts) (name : Characters) (names : List Characters) → references read ≡ name ∷ names → Large (expand all_large read)
  large_references done name names e = absurd (no_cons e)
    where
      no_cons : [] ≡ name ∷ names → ⊥
      no_cons e = cc
  large_references (plain token rest) name names e = after_one token (expand all_large rest) (large_references rest name names e)
  large_references (reference first rest) name names e = with_large (expand all_large rest)
  large_references (with_fallback first fallback rest) name names e = with_large (expand all_large rest)

  none_after : (o : Option CustomValue) → Large o → (o >>= (λ tokens. within_limit (normal tokens))) ≡ None
  none_after None h = refl
  none_after (Some result) h = too_many result (h result refl)

  no_references : (read : Parts) (value : CustomValue) (names : List Characters) → references read ≡ names → expanded all_large read ≡ Some value → references read ≡ []
  no_references read value [] e h = e
  no_references read value (name ∷ names) e h =
      absurd (none-some value (sym (none_after (expand all_large read) (large_references read name names e)) ∙ h))

  by_parts : (value : CustomValue) (o : Option Parts) → (o >>= expanded all_large) ≡ Some value → option_map_or references o [] ≡ []
  by_parts value None h = refl
  by_parts value (Some read) h = no_references read value (references read) refl h

  in_one : (value : CustomValue) → expansion all_large value ≡ Some value → references_in value ≡ []
  unfolding expansion
  in_one value h = by_parts value (parts value) h

pub plain_refers_to_none : (value : CustomValue) → ((values : Lookup) → expansion values value ≡ Some value) → references_in value ≡ []
plain_refers_to_none value h = let r = many token_limit in in_one r.0 r.1 value (h (λ name. Some r.0))
