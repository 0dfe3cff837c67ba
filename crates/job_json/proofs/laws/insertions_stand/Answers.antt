use Rattle.std.proofs.Common.{refl, sym, ap}
use Rattle.std.specs.Prelude.{option_map}
use Rattle.dom_edits.specs.declared.edits.DocEdit.TheVariants.{Insert}
use Rattle.dom_edits.proofs.SaysLemmas.{says_alike}
use Rattle.edit_model.specs.Edit.{insert}
use Rattle.job_json.specs.NewNodes.{kept_unless, limit_of, new_nodes}
use Rattle.job_json.proofs.NewNodeLaws.{stands_for_all}
use Rattle.job_json.proofs.laws.insertions_stand.Goals as goal

pub returns-clause-kept : goal.returns-clause-kept
returns-clause-kept c = λ nodes none. ap (λ o. kept_unless (option_map limit_of o) nodes) none

pub returns-clause-refused : goal.returns-clause-refused
returns-clause-refused c = λ d parent index nodes shape.
    sym (says_alike d (Insert parent index (new_nodes nodes)) (insert parent index nodes) (refl, refl, stands_for_all nodes shape))
