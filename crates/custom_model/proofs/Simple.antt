-- What expands to itself whatever other values are is valid, refers to none of them, is in normal form, and is within the
-- limit: its expansion over long values would be too long, if it referred to one.
use Rattle.std.proofs.Common.{◌≡◌, ℕ, zero, suc, ◌+◌, ◌<◌, ◌≤◌, List, [], ◌∷◌, ◌++◌, length, Bool, true, false, not, Option, Some, None, refl, sym, ap, ◌∙◌, arith}
use Rattle.std.specs.Prelude.{if◌then◌else◌, nat_le}
use Rattle.std.specs.Option.{option_map_or}
use Rattle.std.proofs.lemmas.Bool.Decides.{nat_tests}
use Rattle.base_model.specs.Lists.{is_nil}
use Rattle.base_model.specs.Options.{◌>>=◌}
use Rattle.syntax_model.specs.Token.{Said, comma}
use Rattle.syntax_model.specs.TokenKinds.{is_white}
use Rattle.custom_model.specs.Value.{CustomValue, normal, spaced, white_space}
use Rattle.custom_model.specs.Parts.{Parts, done, is_valid, parts, plain, reference, references, refers, with_fallback}
use Rattle.custom_model.specs.Expand.{IsPlain, Lookup, expand, expanded, expansion, joined, token_limit, within_limit}
use Rattle.custom_model.proofs.Normal.{normal_again}

-- how many tokens are no whitespace
abbrev solid : List Said → ℕ
solid [] = 0
solid (token ∷ tokens) = if is_white token.kind then solid tokens else suc (solid tokens)

solid-append : (front back : List Said) → solid (front ++ back) ≡ solid front + solid back
solid-append [] back = omega arith
solid-append (token ∷ front) back =
    elim (is_white token.kind) as (λ white. (if white then solid (front ++ back) else suc (solid (front ++ back))) ≡ (if white then solid front else suc (solid front)) + solid back) [
      | true ↦ solid-append front back
      | false ↦ omega (arith, solid-append front back)
    ]

solid-spaced : (pending : Bool) (tokens : List Said) → solid (spaced pending tokens) ≡ solid tokens
solid-spaced pending [] = refl
solid-spaced pending (token ∷ tokens) =
    elim (is_white token.kind) as (λ white. is_white token.kind ≡ white → solid (if white then spaced true tokens else if pending then white_space ∷ token ∷ spaced false tokens else token ∷ spaced false tokens) ≡ (if white then solid tokens else suc (solid tokens))) [
      | true ↦ λ e. solid-spaced true tokens
      | false ↦ λ e. elim pending as (λ pending. solid (if pending then white_space ∷ token ∷ spaced false tokens else token ∷ spaced false tokens) ≡ suc (solid tokens)) [
        | true ↦ one_more e (solid-spaced false tokens)
        | false ↦ one_more e (solid-spaced false tokens)
      ]
    ] refl
  where
    one_more : is_white token.kind ≡ false → solid (spaced false tokens) ≡ solid tokens → (if is_white token.kind then solid (spaced false tokens) else suc (solid (spaced false tokens))) ≡ suc (solid tokens)
    one_more e same = ap (λ b. if b then solid (spaced false tokens) else suc (solid (spaced false tokens))) e ∙ ap suc same

solid-normal : (tokens : List Said) → solid (normal tokens) ≡ solid tokens
solid-normal [] = refl
solid-normal (token ∷ tokens) =
    elim (is_white token.kind) as (λ white. is_white token.kind ≡ white → solid (if white then normal tokens else token ∷ spaced false tokens) ≡ (if white then solid tokens else suc (solid tokens))) [
      | true ↦ λ e. solid-normal tokens
      | false ↦ λ e. ap (λ b. if b then solid (spaced false tokens) else suc (solid (spaced false tokens))) e ∙ ap suc (solid-spaced false tokens)
    ] refl

solid_within : (tokens : List Said) → solid tokens ≤ length tokens
solid_within [] = omega arith
solid_within (token ∷ tokens) =
    elim (is_white token.kind) as (λ white. (if white then solid tokens else suc (solid tokens)) ≤ suc (length tokens)) [
      | true ↦ omega (arith, solid_within tokens)
      | false ↦ omega (arith, solid_within tokens)
    ]

-- so many tokens that are no whitespace
long_value : (most : ℕ) → (value : CustomValue) × (solid value ≡ most)
long_value zero = ([], refl)
long_value (suc most) = let rest = long_value most in (record { kind = comma; name = []; spelling = [] } ∷ rest.0, ap suc rest.1)

module _ (long : CustomValue) where
  abbrev everywhere : Lookup
  everywhere name = Some long

  -- over long values everything expands, and to many tokens where something is referred to
  record IsLong (read : Parts) (tokens : CustomValue) : Type 0 where
    expands : expand everywhere read ≡ Some tokens
    many : is_nil (references read) ≡ false → solid long ≤ solid tokens

  abbrev LongFrom : Parts → Type 0
  LongFrom read = (tokens : CustomValue) × IsLong read tokens

  long_from : (read : Parts) → LongFrom read
  long_from done = ([], record { expands = refl; many = λ e. cc })
  long_from (plain token rest) =
      let left = long_from rest in (
        token ∷ left.0,
        record {
          expands = ap (joined (Some (token ∷ []))) left.1.expands;
          many = λ e. omega (arith, left.1.many e, solid-append (token ∷ []) left.0);
        },
      )
  long_from (reference name rest) =
      let left = long_from rest in (
        long ++ left.0,
        record {
          expands = ap (joined (Some long)) left.1.expands;
          many = λ e. omega (arith, solid-append long left.0);
        },
      )
  long_from (with_fallback name fallback rest) =
      let left = long_from rest in (
        long ++ left.0,
        record {
          expands = ap (joined (Some long)) left.1.expands;
          many = λ e. omega (arith, solid-append long left.0);
        },
      )

within : (value other : CustomValue) → within_limit value ≡ Some other → (value ≡ other) × (length value ≤ token_limit)
within value other e =
    elim (nat_le (length value) token_limit) as (λ fits. nat_le (length value) token_limit ≡ fits → (if fits then Some value else None) ≡ Some other → (value ≡ other) × (length value ≤ token_limit)) [
      | true ↦ λ fits e. (cc, grind (arith, nat_tests))
      | false ↦ λ fits e. cc
    ] refl e

-- a value that is valid, refers to nothing, is in normal form, and is within the limit
pub record IsSimple (value : CustomValue) : Type 0 where
  pub valid : is_valid value ≡ true
  pub none : refers value ≡ false
  pub same : normal value ≡ value
  pub few : length value ≤ token_limit

simple_over : (long : CustomValue) → token_limit < solid long → (value : CustomValue) → expansion (everywhere long) value ≡ Some value → IsSimple value
unfolding expansion
simple_over long over value e = from (parts value) refl e
  where
    from : (read : Option Parts) → parts value ≡ read → (read >>= expanded (everywhere long)) ≡ Some value → IsSimple value
    from None is e = cc
    from (Some read) is e =
        let left = long_from long read in
        let kept = within (normal left.0) value (sym (ap (λ (o : Option CustomValue). o >>= λ tokens. within_limit (normal tokens)) left.1.expands) ∙ e) in
        record {
          valid = ap (λ o. option_map_or (λ read. true) o false) is;
          none = ap (λ o. not (is_nil (option_map_or references o []))) is
              ∙ elim (is_nil (references read)) as (λ none. is_nil (references read) ≡ none → not none ≡ false) [
                | true ↦ λ n. refl
                | false ↦ λ n. absurd (omega (arith, over, left.1.many n, solid-normal left.0, solid_within (normal left.0), kept.1))
              ] refl;
          same = ap normal (sym kept.0) ∙ normal_again left.0 ∙ kept.0;
          few = omega (arith, kept.1, ap length kept.0);
        }

pub is_simple : (value : CustomValue) → IsPlain value → IsSimple value
is_simple value h =
    let long = long_value (suc token_limit) in
    simple_over long.0 (omega (arith, long.1)) value (h (everywhere long.0))
