-- The expansion of a value, step by step.
use Rattle.std.specs.Prelude.{List, [], ◌∷◌, Bool, true, false, if◌then◌else◌, Option, Some, None, option_map}
use Rattle.base_model.specs.Options.{◌>>=◌}
use Rattle.syntax_model.specs.Token.{Token, Said}
use Rattle.custom_model.specs.Value.{CustomValue}
use Rattle.custom_model.specs.Steps.{Step, token, alone, begins, ends}
use Rattle.custom_model.specs.Expand.{Lookup}
use Rattle.custom_properties.specs.Output.{ExpansionOutput, first, begun, ended, output_placed, output_placed_all}
use Rattle.custom_properties.specs.declared.expander.Fallback.{Fallback}
use Rattle.custom_properties.specs.declared.expander.Fallback.TheVariants.{Passed, Put}

-- the output so far, and the fallbacks that are open, the innermost first
pub record ExpansionState : Type 0 where
  pub output : ExpansionOutput
  pub fallbacks : List Fallback

abbrev pub state_at : ExpansionOutput → List Fallback → ExpansionState
state_at output fallbacks = record { output = output; fallbacks = fallbacks }

abbrev pub started : ExpansionState
started = state_at first []

abbrev pub is_passing : List Fallback → Bool
is_passing (Passed ∷ outer) = true
is_passing fallbacks = false

-- the output alone changes
abbrev pub with_output : ExpansionState → Option ExpansionOutput → Option ExpansionState
with_output state output = option_map (λ f. state_at f state.fallbacks) output

-- what is done in a fallback that is passed over, and elsewhere
abbrev pub passed_or : ExpansionState → ExpansionState → Option ExpansionState → Option ExpansionState
passed_or state passed put = if is_passing state.fallbacks then Some passed else put

abbrev pub token_step : Said → ExpansionState → Option ExpansionState
token_step said state = passed_or state state (with_output state (output_placed said state.output))

abbrev pub put_value : Option CustomValue → ExpansionOutput → Option ExpansionOutput
put_value None output = None
put_value (Some value) output = output_placed_all value output

abbrev pub alone_step : Option CustomValue → ExpansionState → Option ExpansionState
alone_step value state = passed_or state state (with_output state (put_value value state.output))

abbrev pub begun_by : Option CustomValue → ExpansionState → Option ExpansionState
begun_by None state = Some (state_at (begun state.output) (Put state.output.has_begun ∷ state.fallbacks))
begun_by (Some value) state =
    option_map (λ f. state_at f (Passed ∷ state.fallbacks)) (output_placed_all value state.output)

abbrev pub begin_step : Option CustomValue → ExpansionState → Option ExpansionState
begin_step value state =
    passed_or state (state_at state.output (Passed ∷ state.fallbacks)) (begun_by value state)

abbrev pub ended_at : List Fallback → ExpansionOutput → ExpansionState
ended_at [] output = state_at output []
ended_at (Passed ∷ outer) output = state_at output outer
ended_at (Put had_begun ∷ outer) output = state_at (ended had_begun output) outer

abbrev pub end_step : ExpansionState → ExpansionState
end_step state = ended_at state.fallbacks state.output

abbrev pub stepped : Lookup → Step → ExpansionState → Option ExpansionState
stepped values (token said) state = token_step said state
stepped values (alone name) state = alone_step (values name) state
stepped values (begins name) state = begin_step (values name) state
stepped values ends state = Some (end_step state)

abbrev pub run : Lookup → List Step → ExpansionState → Option ExpansionState
run values [] state = Some state
run values (step ∷ rest) state = do
  next ← stepped values step state
  run values rest next

-- the tokens of the expansion, where the value is valid
abbrev pub put_by : Lookup → ExpansionState → List Step → Option (List Token)
put_by values state left = option_map (λ end. end.output.tokens) (run values left state)

abbrev pub put_from : Lookup → ExpansionState → Option (List Step) → Option (List Token)
put_from values state left = left >>= put_by values state
