-- A document.
use Rattle.std.specs.Prelude.{ℕ, List, length, refl}
use Rattle.std.specs.Coded.{Coded, code_by, coded×, coded_ℕ}
use Rattle.scene_model.specs.Element.{Element, elements_code}
use Rattle.scene_model.specs.Nodes.{Node, scene_of}

-- Its elements in tree order, and the last number that was given to an element.
pub record Document : Type 0 where
  pub elements : List Element
  pub last : ℕ

-- the document of a list of nodes
abbrev pub document_of : List Node → Document
document_of nodes = record { elements = scene_of nodes; last = length nodes }

-- how a proof tells two documents apart
abbrev pub document_code : Coded Document
document_code =
    code_by (List Element × ℕ) (coded× elements_code coded_ℕ)
    (λ d. (d.elements, d.last))
    (λ p. record { elements = p.0; last = p.1 })
    (λ _. refl)
