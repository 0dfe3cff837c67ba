-- What a value expands to goes by the values of the names that it refers to.
use Rattle.std.proofs.Common.{◌≡◌, List, [], ◌∷◌, Option, Some, None, option_map, inl, inr, refl, ap, ap₂}
use Rattle.std.specs.Option.{option_or, option_map_or}
use Rattle.base_model.specs.Text.{Characters}
use Rattle.base_model.specs.Options.{◌>>=◌}
use Rattle.custom_model.specs.Value.{CustomValue, normal}
use Rattle.custom_model.specs.Parts.{Parts, done, plain, reference, with_fallback, parts, references, references_in}
use Rattle.custom_model.specs.Expand.{Lookup, within_limit, joined, expand, expanded, expansion}
use Rattle.custom_model.proofs.Among.{Among, among_left, among_right}

-- two look-ups that agree at each of these names
abbrev pub Agree : Lookup → Lookup → List Characters → Type 0
Agree values other names = (name : Characters) → Among name names → values name ≡ other name

pub expand_same : (values other : Lookup) (read : Parts) → Agree values other (references read) → expand values read ≡ expand other read
expand_same values other done h = refl
expand_same values other (plain token rest) h = ap (joined (Some (token ∷ []))) (expand_same values other rest h)
expand_same values other (reference name rest) h =
    ap₂ joined (h name (inl refl)) (expand_same values other rest (λ n m. h n (inr m)))
expand_same values other (with_fallback name fallback rest) h =
    let first = expand_same values other fallback (λ n m. h n (inr (among_left n (references fallback) (references rest) m))) in
    let second = expand_same values other rest (λ n m. h n (inr (among_right n (references fallback) (references rest) m))) in
    ap₂ joined (ap₂ option_or (h name (inl refl)) (ap (option_map normal) first)) second

pub expansion_same : (values other : Lookup) (tokens : CustomValue) → Agree values other (references_in tokens) → expansion values tokens ≡ expansion other tokens
unfolding expansion
expansion_same values other tokens h = by (parts tokens) h where
  by : (o : Option Parts) → Agree values other (option_map_or references o []) → (o >>= expanded values) ≡ (o >>= expanded other)
  by None h = refl
  by (Some read) h = ap (λ e. e >>= (λ tokens. within_limit (normal tokens))) (expand_same values other read h)
