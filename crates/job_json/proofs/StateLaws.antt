-- The words of a list of states.
use Rattle.std.proofs.Common.{◌≡◌, ◌+◌, List, [], ◌∷◌, ◌++◌, Option, Some, Ok, sym, ap, ◌∙◌}
use Rattle.std.proofs.lemmas.List.{length_push}
use Rattle.std.proofs.lemmas.List.Sums.{fold-append}
use Rattle.serde_json.specs.Data.{Data, Items}
use Rattle.serde_json.specs.Find.{as_array}
use Rattle.serde_json.specs.View.{items_of}
use Rattle.scene_model.specs.Element.{State, States}
use Rattle.dom_tree.specs.View.{states_of}
use Rattle.job_json.specs.declared.states.StateWords.{StateWords}
use Rattle.job_json.specs.Checked.{Checked, ◌>>=◌, wanted}
use Rattle.job_json.specs.Words.{no_states, with_state, all_states}
use Rattle.job_json.specs.Shape.{items_in, state_in, states_in}
use Rattle.job_json.specs.Kept.{AreStatesOf, HasStates, bad_or}
use Rattle.job_json.proofs.CheckedLaws.{read_end}

-- one more word
pub one_state : (old new : StateWords) (named : List State) (state : State) → HasStates old named → new.count ≡ old.count + 1
    → states_of new.states ≡ with_state (states_of old.states) state → HasStates new (named ++ state ∷ [])
one_state old new named state has count is = record {
  count = length_push named state ∙ (ap (λ n. n + 1) has.count ∙ sym count);
  states = fold-append with_state no_states named (state ∷ []) ∙ (ap (λ s. with_state s state) has.states ∙ sym is);
}

abbrev of_items : Option Items → Checked States
of_items items = wanted items >>= (λ js. items_in (λ k. state_in) 0 js >>= (λ named. Ok (all_states named)))

-- the whole list
pub states_end : (d : Data) (ds : List Data) (s : StateWords) → as_array d ≡ Some (items_of ds) → AreStatesOf s ds → states_in (Some d) ≡ bad_or s.bad (states_of s.states)
states_end d ds s is kept = ap of_items is ∙ read_end (λ k. state_in) all_states s.bad (HasStates s) (states_of s.states) ds kept (λ named has. has.states)
