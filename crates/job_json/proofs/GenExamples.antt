-- Generated jobs, computed.
use Rattle.std.specs.Prelude.{◌≡◌, ℕ, List, [], ◌∷◌, Option, Some, None, true, false, codes}
use Rattle.std.specs.FinMap as finmap
use Rattle.std.specs.Fmt.{digits}
use Rattle.std.proofs.Common.{refl}
use Rattle.scene_model.specs.Element.{Characters}
use Rattle.scene_model.specs.Nodes.{Node}
use Rattle.stylo_base.specs.declared.state.State.TheVariants.{Hover}
use Rattle.dom_edits.specs.declared.edits.DocEdit.TheVariants.{Insert, Remove, Set, State}
use Rattle.dom_edits.specs.declared.edits.NewNodes.TheVariants.{Kept}
use Rattle.dom_edits.specs.declared.edits.Edit.{Edit}
use Rattle.dom_edits.specs.declared.edits.Edit.TheVariants.{Document}
use Rattle.job_json.specs.Words.{no_states}
use Rattle.job_json.specs.Draws.{draw}
use Rattle.job_json.specs.Gen.{generated, the_sheet}

abbrev node : Option ℕ → Characters → List (Characters × Characters) → Node
node parent tag attrs = record { parent = parent; tag = tag; attrs = finmap.from_entries attrs; states = no_states }

abbrev class : Characters → Characters × Characters
class value = (codes "class", value)

abbrev id : Characters → Characters × Characters
id value = (codes "id", value)

abbrev root : Node
root = node None (codes "html") []

-- `html` with `i.c7`, `u.c9#n2`, `i.c5#n3` and `b.c1` in it
few_nodes : (generated 1 5 2).nodes
    ≡ root
    ∷ node (Some 0) (codes "i") (class (codes "c7") ∷ [])
    ∷ node (Some 0) (codes "u") (class (codes "c9") ∷ id (codes "n2") ∷ [])
    ∷ node (Some 0) (codes "i") (class (codes "c5") ∷ id (codes "n3") ∷ [])
    ∷ node (Some 0) (codes "b") (class (codes "c1") ∷ [])
    ∷ []
unfolding generated draw digits
few_nodes = refl

abbrev inserted : ℕ → Characters → Characters → Edit
inserted n tag value = Document (Insert n 0 (Kept (node None tag (class value ∷ []) ∷ [])))

abbrev with_class : ℕ → Characters → Edit
with_class n value = Document (Set n (codes "class") value)

few_batches : (generated 1 5 2).batches
    ≡ (with_class 3 (codes "c8") ∷ Document (Remove 1) ∷ Document (State 5 Hover false) ∷ inserted 5 (codes "i") (codes "c12") ∷ [])
    ∷ (Document (Remove 5) ∷ Document (State 2 Hover true) ∷ inserted 2 (codes "b") (codes "c13") ∷ with_class 1 (codes "c12") ∷ [])
    ∷ []
unfolding generated draw digits
few_batches = refl

few_sheets : (generated 1 5 2).sheets ≡ the_sheet ∷ []
unfolding generated draw digits
few_sheets = refl

-- without an id: `html` with `u.c4` in it
two : (generated 0 2 0).nodes ≡ root ∷ node (Some 0) (codes "u") (class (codes "c4") ∷ []) ∷ []
unfolding generated draw digits
two = refl

-- the greatest number is a state too
alone : (generated 18446744073709551615 1 0).nodes ≡ root ∷ []
unfolding generated draw digits
alone = refl
