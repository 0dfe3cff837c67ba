-- The nodes that the items say.
use Rattle.std.proofs.Common.{◌≡◌, ℕ, List, [], ◌∷◌, ◌++◌, false, Option, Some, None, Ok, Err, option_and_then, refl, sym, ap, ◌∙◌, subst}
use Rattle.std.specs.Prelude.{codes, is_some}
use Rattle.serde_json.specs.Data.{Data, Items}
use Rattle.serde_json.specs.Find.{get, as_array, as_object}
use Rattle.serde_json.specs.View.{items_of}
use Rattle.scene_model.specs.Element.{Characters}
use Rattle.scene_model.specs.Nodes.{Node}
use Rattle.dom_tree.specs.View.{node_of}
use Rattle.dom_tree.specs.declared.nodes.NodeInput.{NodeInput}
use Rattle.job_json.specs.declared.node.JudgedNode.{JudgedNode}
use Rattle.job_json.specs.Checked.{Checked, ◌>>=◌, map_ok, wanted}
use Rattle.job_json.specs.Shape.{items_in, node_in, some_nodes}
use Rattle.job_json.specs.Limits.{Passed, Within, within, attrs_past, items_or_none, nodes_passed}
use Rattle.job_json.specs.Parts.{node_read, nodes_read}
use Rattle.job_json.specs.Held.{Held, count_held, held_next, held_at_end, IsHeld}
use Rattle.job_json.specs.Kept.{AreRead, after_bad, judged_seen}
use Rattle.job_json.proofs.CheckedLaws.{read_one}
use Rattle.job_json.proofs.HeldLaws.{held_more, held_end}

-- ---- a node after others

pub record IsNode (c : Checked Node) (passed : Option Passed) (w : Within Node) : Type 0 where
  pub node : Node
  pub said : c ≡ Ok node
  pub limits : w ≡ within passed node

pub of_read : (c : Checked Node) (passed : Option Passed) (w : Within Node) → (c >>= (λ node. Ok (within passed node))) ≡ Ok w → IsNode c passed w
of_read (Ok node) passed w e = record { node = node; said = refl; limits = cc }
of_read (Err path) passed w e = absurd (cc)

-- a node that passes a limit is kept nowhere, so its parent makes no difference
same_parent : (h : Held) (parent : Option ℕ) (input : Within NodeInput) (passed : Option Passed) (node : Node) → map_ok (node_of parent) input ≡ within passed node
    → held_next h parent (map_ok (node_of parent) input) ≡ held_next h node.parent (within passed node)
same_parent h parent (Ok input) None node e = let same : node_of parent input ≡ node = cc in ap (λ (n : Node). held_next h n.parent (Ok n)) same
same_parent h parent (Ok input) (Some p) node e = absurd (cc)
same_parent h parent (Err q) None node e = absurd (cc)
same_parent h parent (Err q) (Some p) node e = ap (held_next h parent) e

module _ (ds : List Data) (d : Data) (bad : Option Characters) (old new : Held) (judged : JudgedNode) (none : is_some bad ≡ false) (kept : AreRead node_in bad (λ list. IsHeld ds list old) ds)
    (said : node_read (count_held old) d ≡ Ok (judged_seen judged)) (next : new ≡ held_next old judged.parent (judged_seen judged)) where
  here : IsNode (node_in (count_held old) d) (attrs_past (option_and_then as_object (get (codes "attrs") d))) (judged_seen judged)
  here = of_read (node_in (count_held old) d) (attrs_past (option_and_then as_object (get (codes "attrs") d))) (judged_seen judged) said

  held_now : held_next old here.node.parent (within (attrs_past (option_and_then as_object (get (codes "attrs") d))) here.node) ≡ new
  held_now = sym (next ∙ same_parent old judged.parent judged.input (attrs_past (option_and_then as_object (get (codes "attrs") d))) here.node here.limits)

  pub one_node : AreRead node_in bad (λ list. IsHeld (ds ++ d ∷ []) list new) (ds ++ d ∷ [])
  one_node =
      read_one node_in ds d bad (λ list. IsHeld ds list old) (λ list. IsHeld (ds ++ d ∷ []) list new) (count_held old) here.node none kept (λ list held. held.count) here.said
      (λ list before now held. subst (IsHeld (ds ++ d ∷ []) (list ++ here.node ∷ [])) held_now (held_more ds d list here.node old held before now))

-- the first bad place of a node that was read
bad_of : (c : Checked Node) (passed : Option Passed) (path : Characters) → (c >>= (λ node. Ok (within passed node))) ≡ Err path → c ≡ Err path
bad_of (Ok node) passed path e = absurd (cc)
bad_of (Err p) passed path e = let same : p ≡ path = cc in ap (λ q. Err q) same

pub node_bad : (k : ℕ) (d : Data) (path : Characters) → node_read k d ≡ Err path → node_in k d ≡ Err path
node_bad k d path e = bad_of (node_in k d) (attrs_past (option_and_then as_object (get (codes "attrs") d))) path e

-- ---- the whole list

abbrev finished : Checked (List Node) → Items → Checked (Within (List Node))
finished nodes items = nodes >>= (λ list. Ok (within (nodes_passed items list) list))

abbrev of_items : Option Items → Checked (Within (List Node))
of_items items = finished (wanted items >>= some_nodes) (items_or_none items)

pub some_bad : (ds : List Data) (path : Characters) → items_in node_in 0 (items_of ds) ≡ Err path → some_nodes (items_of ds) ≡ Err path
some_bad [] path e = absurd (cc)
some_bad (d ∷ ds) path e = e

pub nodes_bad : (d : Data) (ds : List Data) (path : Characters) → as_array d ≡ Some (items_of ds) → items_in node_in 0 (items_of ds) ≡ Err path → nodes_read (Some d) ≡ Err path
nodes_bad d ds path is e = ap of_items is ∙ ap (λ c. finished c (items_of ds)) (some_bad ds path e)

pub nodes_end : (d : Data) (ds : List Data) (h : Held) → as_array d ≡ Some (items_of ds) → AreRead node_in None (λ list. IsHeld ds list h) ds → nodes_read (Some d) ≡ held_at_end h
nodes_end d ds h is kept = ap of_items is ∙ sym (held_end ds kept.0 h kept.2 kept.1)

pub nodes_all_read : (d : Data) (ds : List Data) (bad : Option Characters) (h : Held) → as_array d ≡ Some (items_of ds) → AreRead node_in bad (λ list. IsHeld ds list h) ds
    → nodes_read (Some d) ≡ after_bad bad (held_at_end h)
nodes_all_read d ds None h is kept = nodes_end d ds h is kept
nodes_all_read d ds (Some path) h is kept = nodes_bad d ds path is kept

pub no_nodes : (d : Data) → as_array d ≡ None → nodes_read (Some d) ≡ Err []
no_nodes d is = ap of_items is
