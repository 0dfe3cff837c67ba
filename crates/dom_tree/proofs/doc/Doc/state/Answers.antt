use Rattle.std.proofs.Common.{ap, sym, ◌∙◌}
use Rattle.scene_model.specs.Element.{hover_state, active_state, focus_state}
use Rattle.scene_model.specs.Lookups.{state_of}
use Rattle.stylo_base.specs.StateView.{state_seen}
use Rattle.dom_tree.proofs.KeptLemmas.{state_is}
use Rattle.dom_tree.proofs.doc.Doc.state.Goals as goal

pub returns-in-Hover : goal.returns-in-Hover
returns-in-Hover c =
    state_is c.self.invariant c.self.view_is _ c.requires _ hover_state c.states-states.ensures ∙ ap (λ s. state_of c.args.self.now.elements c.args.x (state_seen s)) (sym c.in-Hover.is)

pub returns-in-Active : goal.returns-in-Active
returns-in-Active c =
    state_is c.self.invariant c.self.view_is _ c.requires _ active_state c.states-states.ensures ∙ ap (λ s. state_of c.args.self.now.elements c.args.x (state_seen s)) (sym c.in-Active.is)

pub returns-in-Focus : goal.returns-in-Focus
returns-in-Focus c =
    state_is c.self.invariant c.self.view_is _ c.requires _ focus_state c.states-states.ensures ∙ ap (λ s. state_of c.args.self.now.elements c.args.x (state_seen s)) (sym c.in-Focus.is)
