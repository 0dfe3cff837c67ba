-- The states of an element that a pseudo-class can ask for (selectors-4, section 9).

pub data State : Type 0 where
  hover_state : State
  active_state : State
  focus_state : State
