-- Which tokens are in normal form, one by one.
use Rattle.std.proofs.Common.{◌≡◌, ℕ, suc, ◌+◌, ◌<◌, ◌≤◌, ◌↔◌, List, [], ◌∷◌, map, length, drop, get_or, Bool, true, false, not, IsTrue, refl, sym, ap, subst, ◌∙◌, arith}
use Rattle.std.specs.Prelude.{if◌then◌else◌}
use Rattle.std.proofs.lemmas.List.{drop_more, drop_all}
use Rattle.syntax_model.specs.Token.{Said, Token, said}
use Rattle.syntax_model.specs.TokenKinds.{is_white}
use Rattle.custom_model.specs.Value.{CustomValue, normal, spaced, white_space}
use Rattle.css_tokens.specs.Validity.{Fits}

-- so many tokens, and one more where whitespace is pending
abbrev room : Bool → ℕ → ℕ
room true n = suc n
room false n = n

spaced_fewer : (pending : Bool) (tokens : CustomValue) → length (spaced pending tokens) ≤ room pending (length tokens)
spaced_fewer true [] = omega arith
spaced_fewer false [] = omega arith
spaced_fewer pending (token ∷ tokens) =
    elim (is_white token.kind) as (λ white. length (if white then spaced true tokens else if pending then white_space ∷ token ∷ spaced false tokens else token ∷ spaced false tokens) ≤ room pending (suc (length tokens))) [
      | true ↦ elim pending as (λ pending. length (spaced true tokens) ≤ room pending (suc (length tokens))) [
        | true ↦ omega (arith, spaced_fewer true tokens)
        | false ↦ omega (arith, spaced_fewer true tokens)
      ]
      | false ↦ elim pending as (λ pending. length (if pending then white_space ∷ token ∷ spaced false tokens else token ∷ spaced false tokens) ≤ room pending (suc (length tokens))) [
        | true ↦ omega (arith, spaced_fewer false tokens)
        | false ↦ omega (arith, spaced_fewer false tokens)
      ]
    ]

normal_fewer : (tokens : CustomValue) → length (normal tokens) ≤ length tokens
normal_fewer [] = omega arith
normal_fewer (token ∷ tokens) =
    elim (is_white token.kind) as (λ white. length (if white then normal tokens else token ∷ spaced false tokens) ≤ suc (length tokens)) [
      | true ↦ omega (arith, normal_fewer tokens)
      | false ↦ omega (arith, spaced_fewer false tokens)
    ]

-- what comes first where whitespace is pending
space_first : (tokens : CustomValue) (first : Said) (rest : CustomValue) → spaced true tokens ≡ first ∷ rest → first ≡ white_space
space_first [] first rest e = cc
space_first (token ∷ tokens) first rest e =
    elim (is_white token.kind) as (λ white. (if white then spaced true tokens else white_space ∷ token ∷ spaced false tokens) ≡ first ∷ rest → first ≡ white_space) [
      | true ↦ λ e. space_first tokens first rest e
      | false ↦ λ e. cc
    ] e

-- the tokens stay as they are, after whitespace or after another token
abbrev pub IsSpaced : Bool → CustomValue → Type 0
IsSpaced pending tokens = spaced pending tokens ≡ (if pending then white_space ∷ tokens else tokens)

pub fits_first : (pending : Bool) (token : Said) (tokens : CustomValue) → IsSpaced pending (token ∷ tokens) → Fits pending token
fits_first pending token tokens e =
    elim (is_white token.kind) as (λ white. (if white then spaced true tokens else if pending then white_space ∷ token ∷ spaced false tokens else token ∷ spaced false tokens) ≡ (if pending then white_space ∷ token ∷ tokens else token ∷ tokens) → white ≡ true → (pending ≡ false) × (token ≡ white_space)) [
      | true ↦ elim pending as (λ pending. spaced true tokens ≡ (if pending then white_space ∷ token ∷ tokens else token ∷ tokens) → true ≡ true → (pending ≡ false) × (token ≡ white_space)) [
        | true ↦ λ e. λ w. absurd (omega (arith, spaced_fewer true tokens, ap length e))
        | false ↦ λ e. λ w. (refl, space_first tokens token tokens e)
      ]
      | false ↦ λ e. λ w. cc
    ] e

pub spaced_first : (pending : Bool) (token : Said) (tokens : CustomValue) → Fits pending token → IsSpaced (is_white token.kind) tokens ↔ IsSpaced pending (token ∷ tokens)
spaced_first pending token tokens fits =
    elim (is_white token.kind) as (λ white. is_white token.kind ≡ white → IsSpaced white tokens ↔ ((if white then spaced true tokens else if pending then white_space ∷ token ∷ spaced false tokens else token ∷ spaced false tokens) ≡ (if pending then white_space ∷ token ∷ tokens else token ∷ tokens))) [
      | true ↦ λ w. let is = fits w in at_space (is.0) (is.1)
      | false ↦ λ w. elim pending as (λ pending. IsSpaced false tokens ↔ ((if pending then white_space ∷ token ∷ spaced false tokens else token ∷ spaced false tokens) ≡ (if pending then white_space ∷ token ∷ tokens else token ∷ tokens))) [
        | true ↦ (λ e. ap (λ l. white_space ∷ token ∷ l) e, λ e. cc)
        | false ↦ (λ e. ap (λ l. token ∷ l) e, λ e. cc)
      ]
    ] refl
  where
    at_space : pending ≡ false → token ≡ white_space → IsSpaced true tokens ↔ (spaced true tokens ≡ (if pending then white_space ∷ token ∷ tokens else token ∷ tokens))
    at_space none is = (
      λ e. e ∙ ap (λ t. t ∷ tokens) (sym is) ∙ sym (ap (λ b. if b then white_space ∷ token ∷ tokens else token ∷ tokens) none),
      λ e. e ∙ ap (λ b. if b then white_space ∷ token ∷ tokens else token ∷ tokens) none ∙ ap (λ t. t ∷ tokens) is,
    )

-- the tokens of a loop, from a place on
abbrev left_from : List Token → ℕ → CustomValue
left_from tokens place = map said (drop place tokens)

module _ (tokens : List Token) (place : ℕ) (token : Token) (inside : place < length tokens) (is : token ≡ get_or tokens place token) where
  left_is : left_from tokens place ≡ said token ∷ left_from tokens (place + 1)
  left_is = ap (map said) (drop_more tokens place token inside) ∙ ap (λ t. said t ∷ left_from tokens (place + 1)) (sym is)

  pub fits_next : (pending : Bool) → IsSpaced pending (left_from tokens place) → Fits pending (said token)
  fits_next pending e = fits_first pending (said token) (left_from tokens (place + 1)) (subst (IsSpaced pending) left_is e)

  pub spaced_next : (pending next : Bool) (Whole : Type 0) → next ≡ is_white token.kind → Fits pending (said token) → IsSpaced pending (left_from tokens place) ↔ Whole → IsSpaced next (left_from tokens (place + 1)) ↔ Whole
  spaced_next pending next Whole n fits h =
      let more = spaced_first pending (said token) (left_from tokens (place + 1)) fits in (
        λ e. h.0 (subst (IsSpaced pending) (sym left_is) (more.0 (subst (λ b. IsSpaced b (left_from tokens (place + 1))) n e))),
        λ w. subst (λ b. IsSpaced b (left_from tokens (place + 1))) (sym n) (more.1 (subst (IsSpaced pending) left_is (h.1 w))),
      )

pub spaced_end : (tokens : List Token) (place : ℕ) (pending : Bool) (Whole : Type 0) → length tokens ≡ place → IsSpaced pending (left_from tokens place) ↔ Whole → IsTrue (not pending) ↔ Whole
spaced_end tokens place pending Whole e h =
    let none : left_from tokens place ≡ [] = ap (map said) (drop_all place tokens (omega arith)) in (
      λ n. h.0 (subst (IsSpaced pending) (sym none) ((at_end pending).0 n)),
      λ w. (at_end pending).1 (subst (IsSpaced pending) none (h.1 w)),
    )
  where
    at_end : (pending : Bool) → IsTrue (not pending) ↔ IsSpaced pending []
    at_end true = (λ n. cc, λ e. cc)
    at_end false = (λ n. refl, λ e. refl)

-- from the first token on

pub none_normal : (tokens : List Token) → length tokens ≡ 0 → normal (map said tokens) ≡ map said tokens
none_normal [] e = refl
none_normal (token ∷ tokens) e = absurd (omega arith)

module _ (tokens rest : List Token) (token : Token) (is : tokens ≡ token ∷ rest) where
  pub white_first : is_white token.kind ≡ true → normal (map said tokens) ≡ map said tokens → IsTrue false
  white_first w e =
      let same = subst (λ (l : List Token). normal (map said l) ≡ map said l) is e in
      let none = ap (λ b. if b then normal (map said rest) else said token ∷ spaced false (map said rest)) (sym w) ∙ same in
      absurd (omega (arith, normal_fewer (map said rest), ap length none))

  pub other_first : is_white token.kind ≡ false → (b : Bool) → IsTrue b ↔ (spaced false (map said rest) ≡ map said rest) → IsTrue b ↔ (normal (map said tokens) ≡ map said tokens)
  other_first w b h =
      let first = ap (λ b. if b then normal (map said rest) else said token ∷ spaced false (map said rest)) w in
      let back = λ (same : normal (map said (token ∷ rest)) ≡ map said (token ∷ rest)). h.1 (tail (sym first ∙ same)) in
      let onward = λ (t : IsTrue b). first ∙ ap (λ l. said token ∷ l) (h.0 t) in
      subst (λ (l : List Token). IsTrue b ↔ (normal (map said l) ≡ map said l)) (sym is) (onward, back)
    where
      tail : said token ∷ spaced false (map said rest) ≡ said token ∷ map said rest → spaced false (map said rest) ≡ map said rest
      tail e = cc
