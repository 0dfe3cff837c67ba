-- What is kept of a document, and the document that it is seen as.
use Rattle.std.proofs.Common.{◌≡◌, ℕ, List, Option}
use Rattle.scene_model.specs.Document.{Document}
use Rattle.scene_model.specs.Element.{Characters}
use Rattle.dom_tree.specs.Whole.{Parts, document}

-- class lists, and which of them was cut for each name of a value
abbrev pub Lists : Type 0
Lists = List (List Characters)

abbrev pub Cuts : Type 0
Cuts = List (Option ℕ)

-- the document that they are seen as
abbrev pub AreSeenAs : Parts → Document → Type 0
AreSeenAs p now = document p.table p.order ≡ now
