use Rattle.stylo_base.specs.StateView.{state_seen}
use Rattle.dom_tree.proofs.DocEditLemmas.{state_document, state_whole}
use Rattle.dom_tree.proofs.doc.Doc.set_state.Goals as goal

pub invariant_of-self : goal.invariant_of-self
invariant_of-self c =
    let set = c.set_states.ensures in
    state_whole c.self.invariant c.self.view_is _ c.requires (state_seen c.args.state) c.args.on _ c.states-states.ensures c.states_with.ensures c.set_states.new.self set.names set.nodes

pub returns : goal.returns
returns c =
    let set = c.set_states.ensures in
    state_document c.self.invariant c.self.view_is _ c.requires (state_seen c.args.state) c.args.on _ c.states-states.ensures c.states_with.ensures c.set_states.new.self set.names set.nodes
