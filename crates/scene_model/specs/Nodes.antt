-- The list of nodes of a job or an insertion, and the document that it stands for.
use Rattle.std.specs.Prelude.{ℕ, zero, suc, ◌+◌, ◌<◌, ◌≡◌, List, [], ◌∷◌, length, Option, Some, None, option_map, refl}
use Rattle.std.specs.List.{filter_map, flat_map}
use Rattle.std.specs.Coded.{Coded, code_by, coded×, coded_ℕ, coded_list, coded_option}
use Rattle.scene_model.specs.Element.{Element, Characters, Attributes, States, attributes_code, states_code}
use Rattle.scene_model.specs.Lookups.{element_at, children}

-- A node of the list. Its parent is named by index in the list, from 0.
pub record Node : Type 0 where
  pub parent : Option ℕ
  pub tag : Characters
  pub attrs : Attributes
  pub states : States

abbrev pub nodes_code : Coded (List Node)
nodes_code =
    coded_list (code_by (Option ℕ × (Characters × (Attributes × States)))
    (coded× (coded_option coded_ℕ) (coded× (coded_list coded_ℕ) (coded× attributes_code states_code)))
    (λ n. (n.parent, (n.tag, (n.attrs, n.states))))
    (λ p. record { parent = p.0; tag = p.1.0; attrs = p.1.1.0; states = p.1.1.1 })
    (λ _. refl))

-- the first node alone has no parent, and each other one's is before it
abbrev pub IsParentAt : ℕ → Option ℕ → Type 0
IsParentAt k None = k ≡ 0
IsParentAt k (Some p) = p < k

abbrev pub HaveParentsFrom : ℕ → List Node → Type 0
HaveParentsFrom k [] = Unit {0}
HaveParentsFrom k (node ∷ nodes) = IsParentAt k node.parent × HaveParentsFrom (k + 1) nodes

-- the shape of every list of nodes: it is not empty, and each parent is before its children
pub record IsNodeList (nodes : List Node) : Type 0 where
  pub some : 0 < length nodes
  pub parents : HaveParentsFrom 0 nodes

-- the nodes as elements in list order, numbered from 1
abbrev pub listed_from : ℕ → List Node → List Element
listed_from k [] = []
listed_from k (node ∷ nodes) = record {
  number = k + 1;
  parent = option_map (λ p. p + 1) node.parent;
  tag = node.tag;
  attrs = node.attrs;
  states = node.states;
} ∷ listed_from (k + 1) nodes

abbrev pub listed : List Node → List Element
listed nodes = listed_from 0 nodes

-- The numbers of an element and all below it: the element, and after it the subtree of each of its children, in list
-- order. So each subtree is one run. No subtree has more levels than the list has elements.
abbrev pub subtree : List Element → ℕ → ℕ → List ℕ
subtree list zero x = []
subtree list (suc levels) x = x ∷ flat_map (subtree list levels) (children list x)

-- the numbers in tree order: the subtree of the root, which is number 1
unfoldable pub tree_order : List Node → List ℕ
tree_order nodes = subtree (listed nodes) (length nodes) 1

-- the document of a list of nodes: its elements in tree order
unfoldable pub scene_of : List Node → List Element
scene_of nodes = filter_map (element_at (listed nodes)) (tree_order nodes)
