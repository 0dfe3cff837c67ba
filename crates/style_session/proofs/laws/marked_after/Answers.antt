use Rattle.edit_model.specs.Apply.{after}
use Rattle.edit_model.specs.TouchedPairs.{touched_pairs}
use Rattle.edit_model.proofs.Accepted.{tags-after}
use Rattle.edit_model.proofs.AfterLemmas.{is_marked_same}
use Rattle.edit_model.proofs.TouchedPairLemmas.{touched-pairs, marked-listed}
use Rattle.style_session.proofs.laws.marked_after.Goals as goal

pub returns-clause-documents : goal.returns-clause-documents
returns-clause-documents c = is_marked_same

pub returns-clause-edits : goal.returns-clause-edits
returns-clause-edits c = λ d sound edit shaped accepted.
    is_marked_same d.elements (after d edit).elements (tags-after d sound edit shaped accepted)

pub returns-clause-listed : goal.returns-clause-listed
returns-clause-listed c = λ d sound edit shaped accepted.
    marked-listed d.elements (after d edit).elements (tags-after d sound edit shaped accepted) (touched_pairs d edit) (touched-pairs d sound edit shaped accepted)
