-- Values that refer to nothing.
use Rattle.std.proofs.Common.{◌≡◌, ◌≤◌, [], ◌∷◌, map, length, true, Option, Some, None, option_map, refl, ap, ◌∙◌, arith}
use Rattle.std.specs.Prelude.{if◌then◌else◌, nat_le}
use Rattle.base_model.specs.Options.{◌>>=◌}
use Rattle.std.proofs.lemmas.Bool.Decides.{nat_tests}
use Rattle.custom_model.specs.Value.{CustomValue, normal}
use Rattle.custom_model.specs.Parts.{Parts, done, plain, reference, with_fallback, parts}
use Rattle.custom_model.specs.Steps.{token, steps, steps_in}
use Rattle.custom_model.specs.Expand.{Lookup, expand, expanded, expansion, joined, within_limit}

-- parts that are tokens alone expand to these
expand_tokens : (values : Lookup) (read : Parts) (value : CustomValue) → steps read ≡ map token value → expand values read ≡ Some value
expand_tokens values done [] e = refl
expand_tokens values done (said ∷ value) e = cc
expand_tokens values (plain said rest) [] e = cc
expand_tokens values (plain said rest) (first ∷ value) e =
    let same : said ≡ first = cc in
    let left : steps rest ≡ map token value = cc in
    ap (joined (Some (said ∷ []))) (expand_tokens values rest value left) ∙ ap (λ t. Some (t ∷ value)) same
expand_tokens values (reference name rest) [] e = cc
expand_tokens values (reference name rest) (first ∷ value) e = cc
expand_tokens values (with_fallback name fallback rest) [] e = cc
expand_tokens values (with_fallback name fallback rest) (first ∷ value) e = cc

-- A value whose steps are its tokens, which is in normal form and within the limit, expands to itself.
pub expand_itself : (values : Lookup) (value : CustomValue) → steps_in value ≡ Some (map token value) → normal value ≡ value → length value ≤ 4096 → expansion values value ≡ Some value
unfolding expansion steps_in
expand_itself values value e n few = from (parts value) e
  where
    fits : within_limit (normal value) ≡ Some value
    fits = ap within_limit n ∙ ap (λ b. if b then Some value else None) (few_enough few)
      where
        few_enough : length value ≤ 4096 → nat_le (length value) 4096 ≡ true
        few_enough h = grind (arith, nat_tests)

    from : (read : Option Parts) → option_map steps read ≡ Some (map token value) → (read >>= expanded values) ≡ Some value
    from None e = cc
    from (Some read) e =
        let all : steps read ≡ map token value = cc in
        ap (λ (o : Option CustomValue). o >>= λ tokens. within_limit (normal tokens)) (expand_tokens values read value all) ∙ fits
