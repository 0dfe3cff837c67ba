-- What is found of a value: whether it is valid, whether it refers to something, and else what it expands to.
use Rattle.std.proofs.Common.{◌≡◌, ◌≤◌, List, [], ◌∷◌, map, length, Bool, true, false, not, ◌&&◌, Option, Some, None, option_map, refl, sym, ap, ◌∙◌}
use Rattle.std.specs.Prelude.{if◌then◌else◌, ◌||◌}
use Rattle.std.specs.Option.{option_map_or}
use Rattle.std.specs.List.{list_any}
use Rattle.base_model.specs.Lists.{is_nil}
use Rattle.base_model.specs.Text.{Characters}
use Rattle.syntax_model.specs.Token.{Said, Token, said}
use Rattle.syntax_model.specs.TokenKinds.{is_white, is_comma, is_close_round}
use Rattle.custom_model.specs.Value.{CustomValue, normal, unplaced}
use Rattle.custom_model.specs.Parts.{Parts, done, plain, reference, with_fallback, custom_value_in, is_name, is_unfit, is_valid, is_var, parts, references, referring_value_in, refers}
use Rattle.custom_model.specs.Steps.{Step, token, alone, begins, ends, steps, steps_in}
use Rattle.custom_model.specs.Expand.{IsPlain}
use Rattle.custom_model.proofs.Plain.{expand_itself}
use Rattle.custom_model.proofs.Simple.{is_simple}
use Rattle.custom_model.proofs.Said.{said_unplaced}
use Rattle.std.specs.Prelude.{◌↔◌, IsTrue}
use Rattle.base_model.specs.Options.{◌>>=◌}
use Rattle.css_tokens.specs.Opened.{Opened, anywhere, in_var, after_name, beyond, brackets_in, finished, first_then, invalid, is_in_fallback, outside, steps_from, whole}
use Rattle.css_tokens.specs.Validity.{found_after, is_found_referring, is_found_valid, is_of_var}
use Rattle.css_tokens.specs.declared.custom.value.Validity.{Validity}
use Rattle.css_tokens.specs.declared.custom.value.Validity.TheVariants as variant
use Rattle.css_tokens.proofs.OpenedLemmas.{steps_are}

-- one more step

pub found_token : (refers : Bool) (said : Said) (old new : Option (List Step)) → old ≡ option_map (λ rest. token said ∷ rest) new → found_after refers new ≡ found_after refers old
found_token refers said old None e = sym (ap (found_after refers) e)
found_token refers said old (Some rest) e = sym (ap (found_after refers) e)

pub found_var : (refers : Bool) (step : Step) → is_of_var step ≡ true → (old new : Option (List Step)) → old ≡ option_map (λ rest. step ∷ rest) new → found_after true new ≡ found_after refers old
found_var refers step is old None e = sym (ap (found_after refers) e)
found_var refers step is old (Some rest) e = sym (ap (found_after refers) e ∙ either refers (is_of_var step) (list_any is_of_var rest) is)
  where
    either : (refers first others : Bool) → first ≡ true → ◌≡◌ {A = Validity} (if refers || (first || others) then variant.Referring else variant.Plain) variant.Referring
    either true first others e = refl
    either false first others e = ap (λ first. if first || others then variant.Referring else variant.Plain) e

-- what is found says whether the value is valid, and whether it refers

referring : (read : Parts) → list_any is_of_var (steps read) ≡ not (is_nil (references read))
referring done = refl
referring (plain said rest) = referring rest
referring (reference name rest) = refl
referring (with_fallback name fallback rest) = refl

pub valid_is : (value : CustomValue) → is_valid value ≡ is_found_valid (found_after false (steps_in value))
unfolding steps_in
valid_is value = from (parts value)
  where
    from : (read : Option Parts) → option_map_or (λ read. true) read false ≡ is_found_valid (found_after false (option_map steps read))
    from None = refl
    from (Some read) = elim (list_any is_of_var (steps read)) as (λ b. true ≡ is_found_valid (if b then variant.Referring else variant.Plain)) [ true ↦ refl | false ↦ refl ]

pub refers_is : (value : CustomValue) → refers value ≡ is_found_referring (found_after false (steps_in value))
unfolding steps_in
refers_is value = from (parts value)
  where
    from : (read : Option Parts) → not (is_nil (option_map_or references read [])) ≡ is_found_referring (found_after false (option_map steps read))
    from None = refl
    from (Some read) =
        sym (referring read)
        ∙ elim (list_any is_of_var (steps read)) as (λ b. b ≡ is_found_referring (if b then variant.Referring else variant.Plain)) [ true ↦ refl | false ↦ refl ]

-- a value without a `var()` is made of its tokens

no_first : (step : Step) (left : Option (List Step)) (all : List Step) → is_of_var step ≡ true → option_map (λ rest. step ∷ rest) left ≡ Some all → list_any is_of_var all ≡ true
no_first step None all is e = cc
no_first step (Some rest) all is e =
    let same : step ∷ rest ≡ all = cc in
    sym (ap (list_any is_of_var) same) ∙ ap (λ b. b || list_any is_of_var rest) is

no_name : (openers : Opened) (name : Characters) (tokens : List Said) (all : List Step) → whole (steps_from (after_name name) openers tokens) ≡ Some all → list_any is_of_var all ≡ true
unfolding steps_from
no_name openers name [] all e = cc
no_name openers name (t ∷ tokens) all e =
    elim (is_white t.kind) as (λ b. whole (if b then steps_from (after_name name) openers tokens else if is_close_round t.kind then first_then (alone name) (steps_from anywhere openers tokens) else if is_comma t.kind then first_then (begins name) (steps_from anywhere (None ∷ openers) tokens) else invalid) ≡ Some all → list_any is_of_var all ≡ true) [
      | true ↦ λ e. no_name openers name tokens all e
      | false ↦ elim (is_close_round t.kind) as (λ b. whole (if b then first_then (alone name) (steps_from anywhere openers tokens) else if is_comma t.kind then first_then (begins name) (steps_from anywhere (None ∷ openers) tokens) else invalid) ≡ Some all → list_any is_of_var all ≡ true) [
        | true ↦ λ e. no_first (alone name) _ all refl e
        | false ↦ elim (is_comma t.kind) as (λ b. whole (if b then first_then (begins name) (steps_from anywhere (None ∷ openers) tokens) else invalid) ≡ Some all → list_any is_of_var all ≡ true) [
          | true ↦ λ e. no_first (begins name) _ all refl e
          | false ↦ λ e. cc
        ]
      ]
    ] e

no_var : (openers : Opened) (tokens : List Said) (all : List Step) → whole (steps_from in_var openers tokens) ≡ Some all → list_any is_of_var all ≡ true
unfolding steps_from
no_var openers [] all e = cc
no_var openers (t ∷ tokens) all e =
    elim (is_white t.kind) as (λ b. whole (if b then steps_from in_var openers tokens else if is_name t then steps_from (after_name t.name) openers tokens else invalid) ≡ Some all → list_any is_of_var all ≡ true) [
      | true ↦ λ e. no_var openers tokens all e
      | false ↦ elim (is_name t) as (λ b. whole (if b then steps_from (after_name t.name) openers tokens else invalid) ≡ Some all → list_any is_of_var all ≡ true) [
        | true ↦ λ e. no_name openers t.name tokens all e
        | false ↦ λ e. cc
      ]
    ] e

one_token : (said : Said) (tokens : List Said) (left : Option (List Step)) (all : List Step) → ((rest : List Step) → left ≡ Some rest → list_any is_of_var rest ≡ false → rest ≡ map token tokens)
    → option_map (λ rest. token said ∷ rest) left ≡ Some all → list_any is_of_var all ≡ false → all ≡ map token (said ∷ tokens)
one_token said tokens None all again e none = cc
one_token said tokens (Some rest) all again e none =
    let same : token said ∷ rest ≡ all = cc in
    sym same ∙ ap (λ l. token said ∷ l) (again rest refl (ap (list_any is_of_var) same ∙ none))

tokens_alone : (openers : Opened) (tokens : List Said) (all : List Step) → whole (steps_from anywhere openers tokens) ≡ Some all → list_any is_of_var all ≡ false → all ≡ map token tokens
unfolding steps_from
tokens_alone openers [] all e none = elim (is_nil openers) as (λ b. whole (if b then finished else invalid) ≡ Some all → all ≡ []) [ true ↦ λ e. cc | false ↦ λ e. cc ] e
tokens_alone openers (t ∷ tokens) all e none =
    elim (is_in_fallback openers && is_close_round t.kind) as (λ b. whole (if b then first_then ends (steps_from anywhere (outside openers) tokens) else if is_unfit (brackets_in openers) t.kind then invalid else if is_var t then steps_from in_var openers tokens else first_then (token t) (steps_from anywhere (beyond openers t.kind) tokens)) ≡ Some all → all ≡ map token (t ∷ tokens)) [
      | true ↦ λ e. let is = no_first ends _ all refl e in cc
      | false ↦ elim (is_unfit (brackets_in openers) t.kind) as (λ b. whole (if b then invalid else if is_var t then steps_from in_var openers tokens else first_then (token t) (steps_from anywhere (beyond openers t.kind) tokens)) ≡ Some all → all ≡ map token (t ∷ tokens)) [
        | true ↦ λ e. cc
        | false ↦ elim (is_var t) as (λ b. whole (if b then steps_from in_var openers tokens else first_then (token t) (steps_from anywhere (beyond openers t.kind) tokens)) ≡ Some all → all ≡ map token (t ∷ tokens)) [
          | true ↦ λ e. let is = no_var openers tokens all e in cc
          | false ↦ λ e. one_token t tokens _ all (λ rest h n. tokens_alone (beyond openers t.kind) tokens rest h n) e none
        ]
      ]
    ] e

plain_steps : (value : CustomValue) → variant.Plain ≡ found_after false (steps_in value) → steps_in value ≡ Some (map token value)
plain_steps value e = from (steps_in value) refl e
  where
    from : (found : Option (List Step)) → steps_in value ≡ found → variant.Plain ≡ found_after false found → steps_in value ≡ Some (map token value)
    from None is e = cc
    from (Some all) is e = is ∙ ap Some (tokens_alone [] value all (steps_are value ∙ is) (none (list_any is_of_var all) e))
      where
        none : (b : Bool) → variant.Plain ≡ (if b then variant.Referring else variant.Plain) → b ≡ false
        none true e = cc
        none false e = refl

-- a value expands to itself exactly where it is valid, refers to nothing, is within the limit, and is in normal form

module _ (value : CustomValue) (found : Validity) (f : found ≡ found_after false (steps_in value)) where
  pub plain_found : IsPlain value → variant.Plain ≡ found
  plain_found all =
      let simple = is_simple value all in
      from found (ap is_found_valid f ∙ sym (valid_is value) ∙ simple.valid) (ap is_found_referring f ∙ sym (refers_is value) ∙ simple.none)
    where
      from : (found : Validity) → is_found_valid found ≡ true → is_found_referring found ≡ false → variant.Plain ≡ found
      from variant.Plain v n = refl
      from variant.Referring v n = cc
      from variant.Invalid v n = cc

  pub plain_few : IsPlain value → length value ≤ 4096
  plain_few all = (is_simple value all).few

  pub plain_normal : variant.Plain ≡ found → length value ≤ 4096 → (b : Bool) → IsTrue b ↔ (normal value ≡ value) → IsTrue b ↔ IsPlain value
  plain_normal is few b h = (
    λ t. λ values. expand_itself values value (plain_steps value (is ∙ f)) (h.0 t) few,
    λ all. h.1 (is_simple value all).same,
  )

-- what is kept of tokens, where this is found of their normal form

module _ (tokens items : List Token) (found : Validity) (e : items ≡ map unplaced (normal (map said tokens))) where
  value_is : map said items ≡ normal (map said tokens)
  value_is = ap (map said) e ∙ said_unplaced (normal (map said tokens))

  pub stays_unplaced : items ≡ map unplaced (map said items)
  stays_unplaced = e ∙ ap (map unplaced) (sym value_is)

  module _ (f : found ≡ found_after false (steps_in (map said items))) where
    validity : is_valid (normal (map said tokens)) ≡ is_found_valid found
    validity =
        valid_is (normal (map said tokens)) ∙ ap (λ value. is_found_valid (found_after false (steps_in value))) (sym value_is) ∙ ap is_found_valid (sym f)

    references_is : refers (normal (map said tokens)) ≡ is_found_referring found
    references_is =
        refers_is (normal (map said tokens)) ∙ ap (λ value. is_found_referring (found_after false (steps_in value))) (sym value_is) ∙ ap is_found_referring (sym f)

    pub not_valid : is_found_valid found ≡ false → None ≡ custom_value_in tokens
    not_valid h = sym (ap (λ b. if b then Some (normal (map said tokens)) else None) (validity ∙ h))

    pub valid : (value : CustomValue) → value ≡ map said items → is_found_valid found ≡ true → Some value ≡ custom_value_in tokens
    valid value v h = ap Some (v ∙ value_is) ∙ sym (ap (λ b. if b then Some (normal (map said tokens)) else None) (validity ∙ h))

    pub not_referring : is_found_referring found ≡ false → None ≡ referring_value_in tokens
    not_referring h = sym (
        elim (is_valid (normal (map said tokens))) as (λ b. ((if b then Some (normal (map said tokens)) else None) >>= λ value. if refers value then Some value else None) ≡ None) [
          | true ↦ ap (λ b. if b then Some (normal (map said tokens)) else None) (references_is ∙ h)
          | false ↦ refl
        ])

    pub is_referring : (value : CustomValue) → value ≡ map said items → is_found_referring found ≡ true → Some value ≡ referring_value_in tokens
    is_referring value v h =
        ap Some (v ∙ value_is)
        ∙ sym (ap (λ b. (if b then Some (normal (map said tokens)) else None) >>= λ value. if refers value then Some value else None) (validity ∙ valid_too found h)
        ∙ ap (λ b. if b then Some (normal (map said tokens)) else None) (references_is ∙ h))
      where
        valid_too : (found : Validity) → is_found_referring found ≡ true → is_found_valid found ≡ true
        valid_too variant.Referring h = refl
        valid_too variant.Plain h = cc
        valid_too variant.Invalid h = cc
