-- The job that its members say, and what is said of one.
use Rattle.std.proofs.Common.{◌≡◌, ◌≤◌, nat_le, List, length, Bool, true, false, cond, Option, Some, None, Result, Ok, Err, option_and_then, refl, sym, ap, ◌∙◌, subst, arith}
use Rattle.std.specs.Prelude.{⊤, codes, IfOk}
use Rattle.std.specs.Option.{option_or}
use Rattle.std.proofs.lemmas.Bool.Decides.{nat_tests}
use Rattle.serde_json.specs.Data.{Data, null, boolean, number, string, array, object, Items, Members}
use Rattle.serde_json.specs.Find.{get_member, as_array, as_object}
use Rattle.base_model.specs.Limits.{element_limit, sheet_limit}
use Rattle.stylo_base.specs.declared.refusal.Kind.TheVariants.{Elements, Sheets}
use Rattle.scene_model.specs.Element.{Characters}
use Rattle.scene_model.specs.Nodes.{Node}
use Rattle.dom_tree.specs.Depths.{depths_of}
use Rattle.layer_order.specs.declared.sheet_input.SheetInput.{SheetInput}
use Rattle.dom_edits.specs.declared.edits.Edit.{Edit}
use Rattle.job_json.specs.declared.Job.{Job}
use Rattle.job_json.specs.declared.JobFault.{JobFault}
use Rattle.job_json.specs.declared.JobFault.TheVariants.{Shape}
use Rattle.job_json.specs.declared.document.JobParts.{JobParts}
use Rattle.job_json.specs.Checked.{Checked, ◌>>=◌, step_to, at_member}
use Rattle.job_json.specs.Shape.{nodes_in, sheets_in}
use Rattle.job_json.specs.Edits.{batches_in}
use Rattle.job_json.specs.Limits.{Passed, within, items_or_none, node_items, nodes_past, nodes_passed, texts_past, sheets_past, batches_past, first_passed}
use Rattle.job_json.specs.JobOf.{version_in, job_in, good, verdict_within, verdict_by, verdict_on, answer_to}
use Rattle.job_json.specs.Kept.{IsJobOf, whole_job, shaped, job_kept}
use Rattle.job_json.proofs.Readings.{answer_good}

-- the limits of the parts, one after another
limits_in_turn : (n s b : Option Passed) (nodes : List Node) (sheets : List SheetInput) (batches : List (List Edit))
    → whole_job (within n nodes) (within s sheets) (within b batches)
    ≡ answer_to (verdict_within (option_or n (option_or s b)) (record { nodes = nodes; sheets = sheets; batches = batches }))
limits_in_turn None None None nodes sheets batches = refl
limits_in_turn None None (Some passed) nodes sheets batches = refl
limits_in_turn None (Some passed) b nodes sheets batches = refl
limits_in_turn (Some passed) s b nodes sheets batches = refl

abbrev by_shape : Items → Checked Job → Result Job JobFault
by_shape items (Ok job) = answer_to (verdict_within (option_or (nodes_passed items job.nodes) (option_or (sheets_past job.sheets) (batches_past job.batches))) job)
by_shape items (Err path) = Err (Shape path)

in_order : (items : Items) (version : Checked ⊤) (nodes : Checked (List Node)) (sheets : Checked (List SheetInput)) (batches : Checked (List (List Edit))) (n s b : Characters)
    → shaped (version >>= (λ v. step_to n (nodes >>= (λ l. Ok (within (nodes_passed items l) l))) >>= (λ ns. step_to s (sheets >>= (λ l. Ok (within (sheets_past l) l)))
    >>= (λ ss. step_to b (batches >>= (λ l. Ok (within (batches_past l) l))) >>= (λ bs. Ok (whole_job ns ss bs))))))
    ≡ by_shape items
    (version >>= (λ v. step_to n nodes >>= (λ ns. step_to s sheets >>= (λ ss. step_to b batches >>= (λ bs. Ok (record { nodes = ns; sheets = ss; batches = bs }))))))
in_order items (Err path) nodes sheets batches n s b = refl
in_order items (Ok v) (Err path) sheets batches n s b = refl
in_order items (Ok v) (Ok ns) (Err path) batches n s b = refl
in_order items (Ok v) (Ok ns) (Ok ss) (Err path) n s b = refl
in_order items (Ok v) (Ok ns) (Ok ss) (Ok bs) n s b = limits_in_turn (nodes_passed items ns) (sheets_past ss) (batches_past bs) ns ss bs

verdict_is : (d : Data) (c : Checked Job) → by_shape (node_items d) c ≡ answer_to (verdict_by d c)
verdict_is d (Ok job) = refl
verdict_is d (Err path) = refl

job_is : (s : JobParts) (ms : Members) → IsJobOf s ms → answer_to (verdict_on (object ms)) ≡ job_kept s
job_is s ms kept =
    let items = items_or_none (option_and_then as_array (get_member (codes "nodes") ms)) in
    let version = at_member (codes "version") (version_in (get_member (codes "version") ms)) in
    let told =
    in_order items version (nodes_in (get_member (codes "nodes") ms))
    (sheets_in (get_member (codes "sheets") ms)) (batches_in (get_member (codes "batches") ms)) _ _ _ ∙ verdict_is (object ms) (job_in (object ms)) in
    sym (rw (kept.version, kept.nodes, kept.sheets, kept.batches) told)

pub job_said : (d : Data) (s : JobParts) (ms : Members) → as_object d ≡ Some ms → IsJobOf s ms → answer_to (verdict_on d) ≡ job_kept s
job_said null s ms is kept = absurd (cc)
job_said (boolean b) s ms is kept = absurd (cc)
job_said (number n) s ms is kept = absurd (cc)
job_said (string t) s ms is kept = absurd (cc)
job_said (array js) s ms is kept = absurd (cc)
job_said (object own) s ms is kept = let same : own ≡ ms = cc in job_is s own (subst (IsJobOf s) (sym same) kept)

-- ---- how much there is

record IsFew (job : Job) : Type 0 where
  nodes : length job.nodes ≤ element_limit
  sheets : length job.sheets ≤ sheet_limit

few_by : (a b : Bool) (n s l : Option Passed) (job : Job) → nat_le (length job.nodes) element_limit ≡ a → nat_le (length job.sheets) sheet_limit ≡ b
    → option_or (option_or (cond a None (Some (Elements, element_limit))) n) (option_or (option_or (cond b None (Some (Sheets, sheet_limit))) s) l) ≡ None → IsFew job
few_by true true n s l job is are e = record { nodes = grind (arith, nat_tests); sheets = grind (arith, nat_tests) }
few_by true false None s l job is are e = absurd (cc)
few_by true false (Some p) s l job is are e = absurd (cc)
few_by false b n s l job is are e = absurd (cc)

few_within : (d : Data) (j job : Job) (passed : Option Passed) → first_passed d j ≡ passed → verdict_within passed j ≡ good job → IsFew job
few_within d j job (Some passed) is e = absurd (cc)
few_within d j job None is e =
    let same : j ≡ job = cc in
    few_by (nat_le (length job.nodes) element_limit) (nat_le (length job.sheets) sheet_limit)
    (nodes_past (node_items d) (depths_of job.nodes)) (texts_past job.sheets) (batches_past job.batches) job refl refl (ap (first_passed d) (sym same) ∙ is)

few_shape : (d : Data) (c : Checked Job) (job : Job) → verdict_by d c ≡ good job → IsFew job
few_shape d (Err path) job e = absurd (cc)
few_shape d (Ok j) job e = few_within d j job (first_passed d j) refl e

good_is_few : (d : Data) (job : Job) → verdict_on d ≡ good job → IsFew job
good_is_few d job e = few_shape d (job_in d) job e

pub fits_if : (d : Data) (answer : Result Job JobFault) → answer_to (verdict_on d) ≡ answer → IfOk answer (λ job. length job.nodes ≤ element_limit)
fits_if d (Ok job) e = (good_is_few d job (answer_good (verdict_on d) job (sym e))).nodes
fits_if d (Err fault) e = tt

pub few_if : (d : Data) (answer : Result Job JobFault) → answer_to (verdict_on d) ≡ answer → IfOk answer (λ job. length job.sheets ≤ sheet_limit)
few_if d (Ok job) e = (good_is_few d job (answer_good (verdict_on d) job (sym e))).sheets
few_if d (Err fault) e = tt
