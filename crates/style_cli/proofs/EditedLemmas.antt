-- The edits of a batch, one after another.
use Rattle.std.proofs.Common.{◌≡◌, ◌≢◌, ℕ, ◌+◌, List, [], ◌∷◌, length, map, sym, ap, arith, subst}
use Rattle.std.proofs.lemmas.List.{length-map}
use Rattle.stylo_base.specs.declared.refusal.EditRefused.TheVariants.{NoMemory}
use Rattle.edit_model.specs.Refusal.{Refusal, unknown_node, unknown_sheet, bad_place, limit}
use Rattle.session_model.specs.Standing.{Standing}
use Rattle.session_model.specs.Batches as model
use Rattle.session_model.specs.Batches.{accepted_among, edited_all, onto_refused, refused_from}
use Rattle.session_model.proofs.BatchLemmas.{accepted-refused}
use Rattle.dom_edits.specs.declared.edits.Edit.{Edit}
use Rattle.dom_edits.specs.EditView.{edit_seen, refusal_answered}
use Rattle.style_cli.specs.Printing.{AreRefused, answered, edits_seen}
use Rattle.style_cli.specs.declared.batch.RefusedEdit.{RefusedEdit}

-- how many are accepted
pub counted : (st : Standing) (edits : List Edit) (list : List RefusedEdit) → list ≡ map answered (refused_from 1 st (edits_seen edits)) → accepted_among st (edits_seen edits) + length list ≡ length edits
counted st edits list is =
    let told = refused_from 1 st (edits_seen edits) in
    omega (arith, accepted-refused 1 st (edits_seen edits), ap {B = ℕ} length is, length-map told answered, length-map edits edit_seen)

-- none is refused for want of memory

never_memory : (why : Refusal) → refusal_answered why ≢ NoMemory
never_memory (unknown_node n) e = cc
never_memory (unknown_sheet n) e = cc
never_memory bad_place e = cc
never_memory (limit kind most) e = cc

each_refused : (list : List model.RefusedEdit) → AreRefused (map answered list)
each_refused [] = tt
each_refused (one ∷ list) = (never_memory one.why, each_refused list)

pub are_refused : (st : Standing) (edits : List Edit) (list : List RefusedEdit) → list ≡ map answered (refused_from 1 st (edits_seen edits)) → AreRefused list
are_refused st edits list is =
    subst AreRefused (sym is) (each_refused (refused_from 1 st (edits_seen edits)))
