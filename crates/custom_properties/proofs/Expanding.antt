-- The steps of a value put what it expands to.
use Rattle.std.proofs.Common.{◌≡◌, List, [], ◌∷◌, ◌++◌, map, Bool, false, Option, Some, None, refl, sym, ap, ◌∙◌}
use Rattle.std.proofs.lemmas.List.{append_assoc, append-nil}
use Rattle.std.specs.Prelude.{option_map}
use Rattle.std.specs.Option.{option_or}
use Rattle.base_model.specs.Options.{◌>>=◌}
use Rattle.syntax_model.specs.Token.{Token, Said}
use Rattle.custom_model.specs.Value.{CustomValue, normal, unplaced}
use Rattle.custom_model.specs.Parts.{Parts, done, plain, reference, with_fallback, parts}
use Rattle.custom_model.specs.Steps.{Step, ends, steps, steps_in}
use Rattle.custom_model.specs.Expand.{Lookup, expand, expanded, expansion, joined, within_limit}
use Rattle.custom_properties.specs.Output.{ExpansionOutput, first, if_so, output_placed, output_placed_all, begun, ended}
use Rattle.custom_properties.specs.Expanding.{ExpansionState, state_at, started, is_passing, put_value, begun_by, run}
use Rattle.custom_properties.specs.Expanding.{put_by, put_from}
use Rattle.custom_properties.specs.declared.expander.Fallback.{Fallback}
use Rattle.custom_properties.specs.declared.expander.Fallback.TheVariants.{Passed, Put}
use Rattle.custom_properties.proofs.Chains.{assoc-bind, unit-bind, none-bind, ap-bind, map-bind, bind-map}
use Rattle.custom_properties.proofs.Normal.{placed-append, put-normal}
use Rattle.custom_properties.proofs.Limit.{tokens_of, put-whole}

-- the steps of some parts, and those that follow
abbrev run_on : Lookup → Parts → List Step → List Fallback → ExpansionOutput → Option ExpansionState
run_on values p rest fallbacks f = run values (steps p ++ rest) (state_at f fallbacks)

-- and what they are to do
abbrev put_joined : Lookup → Option CustomValue → Parts → List Step → List Fallback → ExpansionOutput → Option ExpansionState
put_joined values front p rest fallbacks f = do
  ts ← joined front (expand values p)
  after ← output_placed_all ts f
  run values rest (state_at after fallbacks)

abbrev put_parts : Lookup → Parts → List Step → List Fallback → ExpansionOutput → Option ExpansionState
put_parts values p rest fallbacks f = do
  ts ← expand values p
  after ← output_placed_all ts f
  run values rest (state_at after fallbacks)

abbrev GoesOn : Lookup → Parts → List Step → List Fallback → Type 0
GoesOn values p rest fallbacks = (f : ExpansionOutput) → run_on values p rest fallbacks f ≡ put_parts values p rest fallbacks f

-- a fallback that is passed over does nothing
passed-over : (values : Lookup) (p : Parts) (rest : List Step) (f : ExpansionOutput) (outer : List Fallback)
    → run_on values p rest (Passed ∷ outer) f ≡ run values rest (state_at f (Passed ∷ outer))
passed-over values done rest f outer = refl
passed-over values (plain t p) rest f outer = passed-over values p rest f outer
passed-over values (reference name p) rest f outer = passed-over values p rest f outer
passed-over values (with_fallback name fallback p) rest f outer =
    ap (λ left. run values left (state_at f (Passed ∷ Passed ∷ outer)))
    (append_assoc (steps fallback) (ends ∷ steps p) rest)
    ∙ (passed-over values fallback (ends ∷ steps p ++ rest) f (Passed ∷ outer)
    ∙ passed-over values p rest f outer)

joined-bind : (a b : Option CustomValue) (next : ExpansionOutput → Option ExpansionState) (f : ExpansionOutput)
    → (joined a b >>= (λ ts. output_placed_all ts f >>= next))
    ≡ (a >>= (λ front. output_placed_all front f >>= (λ after. b >>= (λ back. output_placed_all back after >>= next))))
joined-bind None b next f = refl
joined-bind (Some front) None next f = sym (none-bind (output_placed_all front f) _ (λ after. refl))
joined-bind (Some front) (Some back) next f =
    ap (λ all. all >>= next) (placed-append front back f) ∙ assoc-bind (output_placed_all front f) _ _

-- what is put in the place of the first part, and then the others
put-front : (values : Lookup) (p : Parts) (rest : List Step) (fallbacks : List Fallback)
    → GoesOn values p rest fallbacks → (front : CustomValue) (f : ExpansionOutput)
    → (output_placed_all front f >>= (λ after. run_on values p rest fallbacks after))
    ≡ put_joined values (Some front) p rest fallbacks f
put-front values p rest fallbacks on front f =
    ap-bind (output_placed_all front f) _ _ on
    ∙ sym (joined-bind (Some front) (expand values p) (λ after. run values rest (state_at after fallbacks)) f)

put-token : (values : Lookup) (p : Parts) (rest : List Step) (fallbacks : List Fallback)
    → GoesOn values p rest fallbacks → (t : Said) (f : ExpansionOutput)
    → (option_map (λ after. state_at after fallbacks) (output_placed t f) >>= (λ s. run values (steps p ++ rest) s))
    ≡ put_joined values (Some (t ∷ [])) p rest fallbacks f
put-token values p rest fallbacks on t f =
    map-bind (output_placed t f) _ _
    ∙ (ap (λ after. after >>= (λ next. run_on values p rest fallbacks next)) (sym (unit-bind (output_placed t f)))
    ∙ put-front values p rest fallbacks on (t ∷ []) f)

put-alone : (values : Lookup) (p : Parts) (rest : List Step) (fallbacks : List Fallback)
    → GoesOn values p rest fallbacks → (value : Option CustomValue) (f : ExpansionOutput)
    → (option_map (λ after. state_at after fallbacks) (put_value value f) >>= (λ s. run values (steps p ++ rest) s))
    ≡ put_joined values value p rest fallbacks f
put-alone values p rest fallbacks on None f = refl
put-alone values p rest fallbacks on (Some value) f =
    map-bind (output_placed_all value f) _ _ ∙ put-front values p rest fallbacks on value f

-- a fallback that is put
put-fallback : (values : Lookup) (p : Parts) (rest : List Step) (fallbacks : List Fallback)
    → GoesOn values p rest fallbacks → (fallback : Option CustomValue) (f : ExpansionOutput)
    → (fallback >>= (λ ts. output_placed_all ts (begun f)
    >>= (λ after. run_on values p rest fallbacks (ended f.has_begun after))))
    ≡ put_joined values (option_map normal fallback) p rest fallbacks f
put-fallback values p rest fallbacks on None f = refl
put-fallback values p rest fallbacks on (Some ts) f =
    sym (assoc-bind (output_placed_all ts (begun f)) _ _)
    ∙ (ap (λ all. all >>= (λ after. run_on values p rest fallbacks after)) (put-normal ts f)
    ∙ put-front values p rest fallbacks on (normal ts) f)

put-begun : (values : Lookup) (fallback p : Parts) (rest : List Step) (fallbacks : List Fallback)
    → GoesOn values p rest fallbacks
    → ((had_begun : Bool) → GoesOn values fallback (ends ∷ steps p ++ rest) (Put had_begun ∷ fallbacks))
    → (value : Option CustomValue) (f : ExpansionOutput)
    → (begun_by value (state_at f fallbacks) >>= (λ s. run values (steps fallback ++ (ends ∷ steps p ++ rest)) s))
    ≡ put_joined values (option_or value (option_map normal (expand values fallback))) p rest fallbacks f
put-begun values fallback p rest fallbacks on within None f =
    within f.has_begun (begun f) ∙ put-fallback values p rest fallbacks on (expand values fallback) f
put-begun values fallback p rest fallbacks on within (Some value) f =
    map-bind (output_placed_all value f) _ _
    ∙ (ap-bind (output_placed_all value f) _ _
    (λ after. passed-over values fallback (ends ∷ steps p ++ rest) after fallbacks)
    ∙ put-front values p rest fallbacks on value f)

run-steps : (values : Lookup) (p : Parts) (rest : List Step) (fallbacks : List Fallback)
    → is_passing fallbacks ≡ false → GoesOn values p rest fallbacks
run-steps values done rest fallbacks e f = refl
run-steps values (plain t p) rest fallbacks e f =
    rw e (put-token values p rest fallbacks (run-steps values p rest fallbacks e) t f)
run-steps values (reference name p) rest fallbacks e f =
    rw e (put-alone values p rest fallbacks (run-steps values p rest fallbacks e) (values name) f)
run-steps values (with_fallback name fallback p) rest fallbacks e f =
    rw (append_assoc (steps fallback) (ends ∷ steps p) rest)
    (rw e (put-begun values fallback p rest fallbacks (run-steps values p rest fallbacks e)
    (λ had_begun. run-steps values fallback (ends ∷ steps p ++ rest) (Put had_begun ∷ fallbacks) refl)
    (values name) f))

-- from the start

ending : (o : Option CustomValue)
    → option_map (λ s. s.output.tokens) (o >>= (λ ts. output_placed_all ts first >>= (λ after. Some (state_at after []))))
    ≡ (o >>= (λ ts. output_placed_all ts first >>= tokens_of))
ending None = refl
ending (Some ts) = bind-map (output_placed_all ts first) _ _

limiting : (o : Option CustomValue)
    → (o >>= (λ ts. output_placed_all ts first >>= tokens_of))
    ≡ option_map (λ list. map unplaced list) (o >>= (λ ts. within_limit (normal ts)))
limiting None = refl
limiting (Some ts) = put-whole ts

put-expanded : (values : Lookup) (p : Parts)
    → put_by values started (steps p) ≡ option_map (λ list. map unplaced list) (expanded values p)
put-expanded values p =
    ap (λ left. put_by values started left) (sym (append-nil (steps p)))
    ∙ (ap (λ end. option_map (λ s. s.output.tokens) end) (run-steps values p [] [] refl first)
    ∙ (ending (expand values p) ∙ limiting (expand values p)))

put-read : (values : Lookup) (read : Option Parts)
    → put_from values started (option_map steps read)
    ≡ option_map (λ list. map unplaced list) (read >>= (λ p. expanded values p))
put-read values None = refl
put-read values (Some p) = put-expanded values p

put-expansion : (values : Lookup) (tokens : CustomValue)
    → put_from values started (steps_in tokens) ≡ option_map (λ list. map unplaced list) (expansion values tokens)
unfolding expansion steps_in
put-expansion values tokens = put-read values (parts tokens)

-- the answer of a run over the steps of a whole value
pub put-answer : (values : Lookup) (tokens : CustomValue) (state : ExpansionState) (left : Option (List Step)) (is test : Bool)
    (list : List Token) → state ≡ started → left ≡ steps_in tokens → put_from values state left ≡ if_so is list
    → is ≡ test → if_so test list ≡ option_map (λ l. map unplaced l) (expansion values tokens)
put-answer values tokens state left is test list e f g h =
    sym (ap (λ b. if_so b list) h) ∙ (sym g ∙ (ap (λ s. put_from values s left) e
    ∙ (ap (λ l. put_from values started l) f ∙ put-expansion values tokens)))
