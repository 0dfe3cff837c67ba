-- The nodes of an insertion as they are kept, one more at a time, and that an edit with them stands for that with all.
use Rattle.std.proofs.Common.{◌≡◌, ℕ, zero, suc, ◌+◌, ◌<◌, nat_le, nat_lt, List, [], ◌∷◌, ◌++◌, length, Bool, true, false, cond, Option, Some, None, Ok, Err, option_map, option_and_then}
use Rattle.std.proofs.Common.{refl, sym, ap, ap₂, ◌∙◌, subst, arith}
use Rattle.std.specs.Prelude.{codes, is_some}
use Rattle.std.specs.List.{list_all}
use Rattle.std.specs.Option.{option_or}
use Rattle.std.specs.FinMap as finmap
use Rattle.std.proofs.lemmas.Bool.Decides.{nat_tests}
use Rattle.std.proofs.lemmas.List.{length_push}
use Rattle.serde_json.specs.Data.{Data, Items, no_items, item}
use Rattle.serde_json.specs.Find.{get, as_array, as_object}
use Rattle.serde_json.specs.View.{items_of}
use Rattle.base_model.specs.Limits.{attribute_limit, value_limit}
use Rattle.scene_model.specs.Element.{Characters}
use Rattle.scene_model.specs.Nodes.{Node, HaveParentsFrom, IsNodeList}
use Rattle.edit_model.specs.Apply.{node_past, nodes_past}
use Rattle.edit_model.specs.Edit.{insert}
use Rattle.edit_model.specs.Refusal.{Refusal, limit, attribute_count, value_bytes, bytes_of}
use Rattle.dom_edits.specs.declared.edits.DocEdit.TheVariants.{Insert}
use Rattle.dom_edits.specs.declared.edits.NewNodes.{NewNodes}
use Rattle.dom_edits.specs.declared.edits.NewNodes.TheVariants.{Kept}
use Rattle.dom_edits.specs.EditView.{refused_by, AreNewNodes, Says}
use Rattle.job_json.specs.declared.node.JudgedNode.{JudgedNode}
use Rattle.job_json.specs.Checked.{Checked, ◌>>=◌, wanted, at_index}
use Rattle.job_json.specs.Shape.{items_in, node_in, some_nodes, nodes_in}
use Rattle.job_json.specs.Limits.{Passed, within, attrs_past}
use Rattle.job_json.specs.NewNodes.{limit_of, past_by_itself, kept_unless, new_nodes, new_nodes_in, passed_limit, TellsLimits}
use Rattle.job_json.specs.Parts.{node_read}
use Rattle.job_json.specs.Held.{Held, count_held, held_with, held_new, some_new, new_or, new_at_end, IsNewHeld}
use Rattle.job_json.specs.Kept.{AreRead, after_bad, judged_seen}
use Rattle.job_json.proofs.CheckedLaws.{length-items_in, read_one}
use Rattle.job_json.proofs.HeldLaws.{parent_of_node, first_and_rest}
use Rattle.job_json.proofs.NodeListLaws.{IsNode, of_read, some_bad}
use Rattle.job_json.proofs.TellLaws.{told_of_node}

-- ---- the limit of one node more

either_or : (a b c : Option Refusal) → option_or a (option_or b c) ≡ option_or (option_or a b) c
either_or None b c = refl
either_or (Some why) b c = refl

or_nothing : {A : Type 0} (a : Option A) → option_or a None ≡ a
or_nothing None = refl
or_nothing (Some x) = refl

nodes_past-push : (list : List Node) (node : Node) → nodes_past (list ++ node ∷ []) ≡ option_or (nodes_past list) (node_past node)
nodes_past-push [] node = or_nothing (node_past node)
nodes_past-push (first ∷ list) node =
    ap (option_or (node_past first)) (nodes_past-push list node) ∙ either_or (node_past first) (nodes_past list) (node_past node)

limit_or : (a b : Option Refusal) → option_map limit_of (option_or a b) ≡ option_or (option_map limit_of a) (option_map limit_of b)
limit_or None b = refl
limit_or (Some why) b = refl

past_pushed : (list : List Node) (node : Node) → past_by_itself (list ++ node ∷ []) ≡ option_or (past_by_itself list) (option_map limit_of (node_past node))
past_pushed list node = ap (option_map limit_of) (nodes_past-push list node) ∙ limit_or (nodes_past list) (node_past node)

some_first : (a b : Option Passed) → is_some a ≡ true → option_map passed_limit a ≡ option_or (option_map passed_limit a) (option_map passed_limit b)
some_first None b e = absurd (cc)
some_first (Some passed) b e = refl

-- ---- a node after others

module _ (list : List Node) (node : Node) (h : Held) (held : IsNewHeld list h) (own : Option Passed) (alike : option_map passed_limit own ≡ option_map limit_of (node_past node)) where
  past_now : past_by_itself (list ++ node ∷ []) ≡ option_or (option_map passed_limit h.passed) (option_map passed_limit own)
  past_now = past_pushed list node ∙ ap₂ option_or (sym held.past) (sym alike)

  counted : 0 < h.more → IsNewHeld (list ++ node ∷ []) (record h { more = h.more + 1 })
  counted some = record {
    count = length_push list node ∙ omega (arith, held.count);
    kept = λ e. absurd (omega arith);
    past = some_first h.passed own (held.past_it some) ∙ sym past_now;
    past_it = λ more. held.past_it some;
  }

  kept_next : h.more ≡ 0 → (a : Option Passed) → own ≡ a → IsNewHeld (list ++ node ∷ []) (held_with h (within a node))
  kept_next none None is =
      let all = held.kept none in
      record {
        count = length_push list node ∙ omega (arith, held.count, length_push h.nodes node);
        kept = λ e. (ap (λ l. l ++ node ∷ []) all.0, all.1);
        past = sym (past_now ∙ (ap (λ o. option_or (option_map passed_limit h.passed) (option_map passed_limit o)) is ∙ or_nothing (option_map passed_limit h.passed)));
        past_it = λ more. held.past_it more;
      }
  kept_next none (Some passed) is = record {
    count = length_push list node ∙ omega (arith, held.count, none);
    kept = λ e. absurd (omega arith);
    past = sym (past_now ∙ ap₂ (λ p o. option_or (option_map passed_limit p) (option_map passed_limit o)) (held.kept none).1 is);
    past_it = λ more. refl;
  }

  by_room : (some : Bool) → nat_lt 0 h.more ≡ some → IsNewHeld (list ++ node ∷ []) (cond some (record h { more = h.more + 1 }) (held_with h (within own node)))
  by_room true e = counted (grind (arith, nat_tests))
  by_room false e = let none : h.more ≡ 0 = grind (arith, nat_tests) in kept_next none own refl

  new_more : IsNewHeld (list ++ node ∷ []) (held_new h (within own node))
  new_more = by_room (nat_lt 0 h.more) refl

module _ (ds : List Data) (d : Data) (bad : Option Characters) (old new : Held) (judged : JudgedNode) (none : is_some bad ≡ false) (kept : AreRead node_in bad (λ list. IsNewHeld list old) ds)
    (said : node_read (count_held old) d ≡ Ok (judged_seen judged)) (tells : TellsLimits (get (codes "attrs") d)) (next : new ≡ held_new old (judged_seen judged)) where
  abbrev own_past : Option Passed
  own_past = attrs_past (option_and_then as_object (get (codes "attrs") d))

  here : IsNode (node_in (count_held old) d) own_past (judged_seen judged)
  here = of_read (node_in (count_held old) d) own_past (judged_seen judged) said

  pub one_new : AreRead node_in bad (λ list. IsNewHeld list new) (ds ++ d ∷ [])
  one_new =
      read_one node_in ds d bad (λ list. IsNewHeld list old) (λ list. IsNewHeld list new) (count_held old) here.node none kept (λ list held. held.count) here.said
      (λ list before now held.
      subst (IsNewHeld (list ++ here.node ∷ [])) (sym (next ∙ ap (held_new old) here.limits))
      (new_more list here.node old held own_past (told_of_node (count_held old) d here.node tells here.said)))

-- ---- the whole list

pub some_list : (list : List Node) → 0 < length list → some_new list ≡ Ok (Kept list)
some_list [] some = absurd (omega arith)
some_list (node ∷ list) some = refl

no_limit : (o : Option Passed) → option_map passed_limit o ≡ None → o ≡ None
no_limit None e = refl
no_limit (Some passed) e = absurd (cc)

module _ (list : List Node) (h : Held) (held : IsNewHeld list h) where
  all_by : (n : ℕ) → h.more ≡ n → h.passed ≡ None → h.nodes ≡ list
  all_by zero is none = (held.kept is).0
  all_by (suc n) is none = let some : is_some h.passed ≡ true = held.past_it (omega arith) in absurd (let never : is_some h.passed ≡ false = ap is_some none in cc)

  all_kept : h.passed ≡ None → h.nodes ≡ list
  all_kept none = all_by h.more refl none

  at_end : (o : Option Passed) → h.passed ≡ o → 0 < length list → new_or o h ≡ Ok (new_nodes list)
  at_end (Some passed) is some = ap (λ o. Ok (kept_unless o list)) (sym (ap (option_map passed_limit) is) ∙ held.past)
  at_end None is some =
      ap some_new (all_kept is) ∙ (some_list list some ∙ ap (λ o. Ok (kept_unless o list)) (sym (ap (option_map passed_limit) is) ∙ held.past))

new_end : (ds : List Data) (list : List Node) (h : Held) → IsNewHeld list h → items_in node_in 0 (items_of ds) ≡ Ok list
    → new_at_end h ≡ (some_nodes (items_of ds) >>= (λ nodes. Ok (new_nodes nodes)))
new_end [] list h held said =
    let none : [] ≡ list = cc in
    let empty : IsNewHeld [] h = subst (λ l. IsNewHeld l h) (sym none) held in
    let passed : h.passed ≡ None = no_limit h.passed empty.past in
    ap (λ o. new_or o h) passed ∙ ap some_new (all_kept [] h empty passed)
new_end (d ∷ ds) list h held said =
    let some : 0 < length list = omega (arith, length-items_in node_in 0 (d ∷ ds) list said) in
    at_end list h held h.passed refl some ∙ sym (ap (λ c. c >>= (λ nodes. Ok (new_nodes nodes))) said)

abbrev of_items : Option Items → Checked NewNodes
of_items items = (wanted items >>= some_nodes) >>= (λ nodes. Ok (new_nodes nodes))

pub new_nodes_end : (d : Data) (ds : List Data) (h : Held) → as_array d ≡ Some (items_of ds) → AreRead node_in None (λ list. IsNewHeld list h) ds → new_nodes_in (Some d) ≡ new_at_end h
new_nodes_end d ds h is kept = ap of_items is ∙ sym (new_end ds kept.0 h kept.2 kept.1)

pub new_nodes_bad : (d : Data) (ds : List Data) (path : Characters) → as_array d ≡ Some (items_of ds) → items_in node_in 0 (items_of ds) ≡ Err path → new_nodes_in (Some d) ≡ Err path
new_nodes_bad d ds path is e = ap of_items is ∙ ap (λ c. c >>= (λ nodes. Ok (new_nodes nodes))) (some_bad ds path e)

pub new_nodes_read : (d : Data) (ds : List Data) (bad : Option Characters) (h : Held) → as_array d ≡ Some (items_of ds) → AreRead node_in bad (λ list. IsNewHeld list h) ds
    → new_nodes_in (Some d) ≡ after_bad bad (new_at_end h)
new_nodes_read d ds None h is kept = new_nodes_end d ds h is kept
new_nodes_read d ds (Some path) h is kept = new_nodes_bad d ds path is kept

pub no_new_nodes : (d : Data) → as_array d ≡ None → new_nodes_in (Some d) ≡ Err []
no_new_nodes d is = ap of_items is

-- ---- an insertion of them stands for that of all nodes

named_by : (few short : Bool) (rest : Option Refusal) (why : Refusal) → (rest ≡ Some why → why ≡ refused_by (limit_of why))
    → option_or (option_or (cond few None (Some (limit attribute_count attribute_limit))) (cond short None (Some (limit value_bytes value_limit)))) rest ≡ Some why
    → why ≡ refused_by (limit_of why)
named_by true true rest why more e = more e
named_by true false rest why more e = let same : limit value_bytes value_limit ≡ why = cc in subst (λ w. w ≡ refused_by (limit_of w)) same refl
named_by false short rest why more e = let same : limit attribute_count attribute_limit ≡ why = cc in subst (λ w. w ≡ refused_by (limit_of w)) same refl

named : (nodes : List Node) (why : Refusal) → nodes_past nodes ≡ Some why → why ≡ refused_by (limit_of why)
named [] why e = absurd (cc)
named (node ∷ nodes) why e =
    named_by (nat_le (finmap.len node.attrs) attribute_limit) (list_all (λ text. nat_le (bytes_of text) value_limit) (finmap.values node.attrs)) (nodes_past nodes) why (named nodes why) e

stands_by : (nodes : List Node) → IsNodeList nodes → (o : Option Refusal) → nodes_past nodes ≡ o → AreNewNodes (kept_unless (option_map limit_of o) nodes) nodes
stands_by nodes shape None is = refl
stands_by nodes shape (Some why) is = (shape, is ∙ ap (λ w. Some w) (named nodes why is))

pub stands_for_all : (nodes : List Node) → IsNodeList nodes → AreNewNodes (new_nodes nodes) nodes
stands_for_all nodes shape = stands_by nodes shape (nodes_past nodes) refl

-- ---- what is read as nodes has the shape of a list of nodes

have_parents : (k : ℕ) (items : Items) (list : List Node) → items_in node_in k items ≡ Ok list → HaveParentsFrom k list
have_parents k no_items list e = let none : [] ≡ list = cc in subst (HaveParentsFrom k) none tt
have_parents k (item d rest) list e = first_and_rest k (node_in k d) (items_in node_in (k + 1) rest) list (parent_of_node k d) (have_parents (k + 1) rest) e

some_said : (first : Checked Node) (rest : Checked (List Node)) (nodes : List Node) → (first >>= (λ n. rest >>= (λ ns. Ok (n ∷ ns)))) ≡ Ok nodes → 0 < length nodes
some_said (Err path) rest nodes e = absurd (cc)
some_said (Ok n) (Err path) nodes e = absurd (cc)
some_said (Ok n) (Ok ns) nodes e = let both : n ∷ ns ≡ nodes = cc in subst (λ l. 0 < length l) both (omega arith)

shaped_by : (items : Option Items) (nodes : List Node) → (wanted items >>= some_nodes) ≡ Ok nodes → IsNodeList nodes
shaped_by None nodes e = absurd (cc)
shaped_by (Some no_items) nodes e = absurd (cc)
shaped_by (Some (item d rest)) nodes e = record {
  some = some_said (at_index 0 (node_in 0 d)) (items_in node_in (0 + 1) rest) nodes e;
  parents = have_parents 0 (item d rest) nodes e;
}

pub nodes_shaped : (value : Option Data) (nodes : List Node) → nodes_in value ≡ Ok nodes → IsNodeList nodes
nodes_shaped value nodes e = shaped_by (option_and_then as_array value) nodes e

-- an insertion of what is read stands for that of all nodes
pub says_insertion : (value : Option Data) (parent index : ℕ) (nodes : List Node) → nodes_in value ≡ Ok nodes → Says (Insert parent index (new_nodes nodes)) (insert parent index nodes)
says_insertion value parent index nodes e = (refl, refl, stands_for_all nodes (nodes_shaped value nodes e))
