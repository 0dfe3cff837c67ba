-- What a state of the code stands for.
use Rattle.base_model.specs.State as model
use Rattle.stylo_base.specs.declared.state.State.{State}
use Rattle.stylo_base.specs.declared.state.State.TheVariants.{Hover, Active, Focus}

abbrev pub state_seen : State → model.State
state_seen Hover = model.hover_state
state_seen Active = model.active_state
state_seen Focus = model.focus_state
