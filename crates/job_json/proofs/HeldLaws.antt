-- The nodes of a list as they are kept, one more at a time.
use Rattle.std.proofs.Common.{◌≡◌, ℕ, zero, suc, ◌+◌, ◌<◌, ◌≤◌, ◌==◌, ◌⊎◌, inl, inr, nat_lt, nat_le, List, [], ◌∷◌, ◌++◌, length, Bool, true, false, cond, Option}
use Rattle.std.proofs.Common.{Some, None, Ok, Err, option_and_then, refl, sym, ap, ◌∙◌, subst, arith}
use Rattle.std.specs.Prelude.{is_some, codes}
use Rattle.std.specs.Option.{option_or}
use Rattle.std.proofs.lemmas.Bool.Decides.{nat_tests}
use Rattle.std.proofs.lemmas.List.{length_push}
use Rattle.serde_json.specs.Data.{Data, null, boolean, number, string, array, object}
use Rattle.serde_json.specs.Find.{get, get_member, as_object}
use Rattle.serde_json.specs.View.{items_of}
use Rattle.base_model.specs.Limits.{element_limit, depth_limit}
use Rattle.stylo_base.specs.declared.refusal.Kind.TheVariants.{Elements, Depth}
use Rattle.scene_model.specs.Element.{Characters, Attributes, States}
use Rattle.scene_model.specs.Nodes.{Node, IsParentAt, HaveParentsFrom}
use Rattle.dom_tree.specs.Depths.{depths_of}
use Rattle.job_json.specs.Checked.{Checked, ◌>>=◌, step_to, wanted, at_index}
use Rattle.job_json.specs.Words.{named_parent, parent_at}
use Rattle.job_json.specs.Shape.{name_in, attrs_in, states_in, node_in, items_in, some_nodes}
use Rattle.job_json.specs.Limits.{Passed, within, past, attrs_past, node_past, nodes_past, nodes_passed}
use Rattle.job_json.specs.Held.{Held, count_held, depth_below, node_within, held_with, held_next, some_held, held_or, held_at_end, IsHeld}
use Rattle.job_json.proofs.CheckedLaws.{length-items_in}
use Rattle.dom_tree.proofs.DepthSteps.{depths_long}
use Rattle.job_json.proofs.DepthLaws.{depths_of-push}

-- ---- the parents that nodes name

no_parent : (b : Bool) (q : Option ℕ) → cond {A = Option (Option ℕ)} b (Some None) None ≡ Some q → (b ≡ true) × (q ≡ None)
no_parent true q e = (refl, cc)
no_parent false q e = absurd (cc)

a_parent : (b : Bool) (p : ℕ) (q : Option ℕ) → cond {A = Option (Option ℕ)} b (Some (Some p)) None ≡ Some q → (b ≡ true) × (q ≡ Some p)
a_parent true p q e = (refl, cc)
a_parent false p q e = absurd (cc)

pub is_parent_at : (k : ℕ) (named q : Option ℕ) → parent_at k named ≡ Some q → IsParentAt k q
is_parent_at k None q e =
    let has = no_parent (k == 0) q e in
    let first : (k == 0) ≡ true = has.0 in
    let none : k ≡ 0 = grind (arith, nat_tests) in
    subst (IsParentAt k) (sym has.1) none
is_parent_at k (Some p) q e =
    let has = a_parent (nat_lt p k) p q e in
    let less : nat_lt p k ≡ true = has.0 in
    let earlier : p < k = grind (arith, nat_tests) in
    subst (IsParentAt k) (sym has.1) earlier

of_named : (k : ℕ) (named : Option (Option ℕ)) (q : Option ℕ) → option_and_then (parent_at k) named ≡ Some q → IsParentAt k q
of_named k None q e = absurd (cc)
of_named k (Some named) q e = is_parent_at k named q e

parent_said : (k : ℕ) (t p a s : Characters) (tag : Checked Characters) (parent : Option (Option ℕ)) (attrs : Checked Attributes) (states : Checked States) (node : Node)
    → (step_to t tag >>= (λ t. step_to p (wanted parent) >>= (λ p. step_to a attrs >>= (λ a. step_to s states >>= (λ s. Ok (record { parent = p; tag = t; attrs = a; states = s }))))))
    ≡ Ok node → parent ≡ Some node.parent
parent_said k t p a s (Err path) parent attrs states node e = absurd (cc)
parent_said k t p a s (Ok tag) None attrs states node e = absurd (cc)
parent_said k t p a s (Ok tag) (Some q) (Err path) states node e = absurd (cc)
parent_said k t p a s (Ok tag) (Some q) (Ok attrs) (Err path) node e = absurd (cc)
parent_said k t p a s (Ok tag) (Some q) (Ok attrs) (Ok states) node e = let same : record { parent = q; tag = tag; attrs = attrs; states = states } ≡ node = cc in ap (λ (n : Node). Some n.parent) same

pub parent_of_node : (k : ℕ) (d : Data) (node : Node) → node_in k d ≡ Ok node → IsParentAt k node.parent
parent_of_node k null node e = absurd (cc)
parent_of_node k (boolean b) node e = absurd (cc)
parent_of_node k (number n) node e = absurd (cc)
parent_of_node k (string s) node e = absurd (cc)
parent_of_node k (array js) node e = absurd (cc)
parent_of_node k (object ms) node e =
    let named = named_parent (get_member (codes "parent") ms) in
    of_named k named node.parent
    (parent_said k _ _ _ _ (name_in (get_member (codes "tag") ms)) (option_and_then (parent_at k) named)
    (attrs_in (get_member (codes "attrs") ms)) (states_in (get_member (codes "states") ms)) node e)

pub first_and_rest : (k : ℕ) (first : Checked Node) (rest : Checked (List Node)) (list : List Node)
    → ((node : Node) → first ≡ Ok node → IsParentAt k node.parent) → ((nodes : List Node) → rest ≡ Ok nodes → HaveParentsFrom (k + 1) nodes)
    → (at_index k first >>= (λ n. rest >>= (λ ns. Ok (n ∷ ns)))) ≡ Ok list → HaveParentsFrom k list
first_and_rest k (Err path) rest list one more e = absurd (cc)
first_and_rest k (Ok n) (Err path) list one more e = absurd (cc)
first_and_rest k (Ok n) (Ok ns) list one more e = let both : n ∷ ns ≡ list = cc in subst (HaveParentsFrom k) both (one n refl, more ns refl)

have_parents : (k : ℕ) (ds : List Data) (list : List Node) → items_in node_in k (items_of ds) ≡ Ok list → HaveParentsFrom k list
have_parents k [] list e = let none : [] ≡ list = cc in subst (HaveParentsFrom k) none tt
have_parents k (d ∷ ds) list e = first_and_rest k (node_in k d) (items_in node_in (k + 1) (items_of ds)) list (parent_of_node k d) (have_parents (k + 1) ds) e

-- ---- the limits of one node more

either_or : (a b c : Option Passed) → option_or a (option_or b c) ≡ option_or (option_or a b) c
either_or None b c = refl
either_or (Some p) b c = refl

or_nothing : (a : Option Passed) → option_or a None ≡ a
or_nothing None = refl
or_nothing (Some p) = refl

nodes_past-push : (ds : List Data) (depths : List ℕ) (d : Data) (depth : ℕ) → length ds ≡ length depths
    → nodes_past (items_of (ds ++ d ∷ [])) (depths ++ depth ∷ []) ≡ option_or (nodes_past (items_of ds) depths) (node_past d depth)
nodes_past-push [] [] d depth e = or_nothing (node_past d depth)
nodes_past-push [] (x ∷ depths) d depth e = absurd (omega arith)
nodes_past-push (x ∷ ds) [] d depth e = absurd (omega arith)
nodes_past-push (x ∷ ds) (y ∷ depths) d depth e =
    ap (option_or (node_past x y)) (nodes_past-push ds depths d depth (omega arith)) ∙ either_or (node_past x y) (nodes_past (items_of ds) depths) (node_past d depth)

found_first : (a b : Option Passed) → is_some a ≡ true → a ≡ option_or a b
found_first None b e = absurd (cc)
found_first (Some p) b e = refl

module _ (ds : List Data) (d : Data) (list : List Node) (node : Node) (h : Held) (held : IsHeld ds list h)
    (before : items_in node_in 0 (items_of ds) ≡ Ok list) (now : items_in node_in 0 (items_of (ds ++ d ∷ [])) ≡ Ok (list ++ node ∷ [])) where
  abbrev own : Option Passed
  own = attrs_past (option_and_then as_object (get (codes "attrs") d))

  depths_now : length (list ++ node ∷ []) ≤ element_limit → depths_of (list ++ node ∷ []) ≡ depths_of list ++ depth_below (depths_of list) node.parent ∷ []
  depths_now few = depths_of-push list node (have_parents 0 ds list before) (have_parents 0 (ds ++ d ∷ []) (list ++ node ∷ []) now) few

  past_now : length (list ++ node ∷ []) ≤ element_limit
      → nodes_past (items_of (ds ++ d ∷ [])) (depths_of (list ++ node ∷ [])) ≡ option_or (nodes_past (items_of ds) (depths_of list)) (node_past d (depth_below (depths_of list) node.parent))
  past_now few =
      ap (nodes_past (items_of (ds ++ d ∷ []))) (depths_now few)
      ∙ nodes_past-push ds (depths_of list) d (depth_below (depths_of list) node.parent) (omega (arith, length-items_in node_in 0 ds list before, depths_long list refl))

  past_still : 0 < h.more ⊎ element_limit ≤ length list → length (list ++ node ∷ []) ≤ element_limit
      → (h.passed ≡ nodes_past (items_of (ds ++ d ∷ [])) (depths_of (list ++ node ∷ []))) × (is_some h.passed ≡ true)
  past_still (inl some) few =
      let old = held.past_it some (omega (arith, length_push list node)) in
      (old.0 ∙ (found_first _ _ (ap is_some (sym old.0) ∙ old.1) ∙ sym (past_now few)), old.1)
  past_still (inr many) few = absurd (omega (arith, length_push list node))

  -- past a limit, or where there are too many, it is counted
  counted : 0 < h.more ⊎ element_limit ≤ length list → IsHeld (ds ++ d ∷ []) (list ++ node ∷ []) (record h { more = h.more + 1 })
  counted why = record {
    count = length_push list node ∙ omega (arith, held.count);
    kept = λ e. absurd (omega arith);
    past_it = λ some few. past_still why few;
  }

  -- where all nodes before it are kept
  module _ (none : h.more ≡ 0) (room : length list < element_limit) where
    abbrev depth : ℕ
    depth = depth_below (depths_of h.nodes) node.parent

    few_now : length (list ++ node ∷ []) ≤ element_limit
    few_now = omega (arith, length_push list node)

    past_here : nodes_past (items_of (ds ++ d ∷ [])) (depths_of (list ++ node ∷ [])) ≡ option_or own (past Depth depth_limit depth)
    past_here =
        let all = held.kept none in
        past_now few_now ∙ (ap (λ o. option_or o (node_past d (depth_below (depths_of list) node.parent))) all.2 ∙ ap (λ l. node_past d (depth_below (depths_of l) node.parent)) (sym all.0))

    stopped : (passed : Passed) → nodes_past (items_of (ds ++ d ∷ [])) (depths_of (list ++ node ∷ [])) ≡ Some passed
        → IsHeld (ds ++ d ∷ []) (list ++ node ∷ []) (record h { passed = Some passed; more = 1 })
    stopped passed is = record {
      count = length_push list node ∙ omega (arith, held.count, none);
      kept = λ e. absurd (omega arith);
      past_it = λ some few. (sym is, refl);
    }

    kept_on : nodes_past (items_of (ds ++ d ∷ [])) (depths_of (list ++ node ∷ [])) ≡ None
        → IsHeld (ds ++ d ∷ []) (list ++ node ∷ []) (record h { nodes = h.nodes ++ node ∷ [] })
    kept_on is =
        let all = held.kept none in
        record {
          count = length_push list node ∙ omega (arith, held.count, length_push h.nodes node);
          kept = λ e. (ap (λ l. l ++ node ∷ []) all.0, all.1, is);
          past_it = λ some few. absurd (omega (arith, none));
        }

    by_depth : (deep : Option Passed) → nodes_past (items_of (ds ++ d ∷ [])) (depths_of (list ++ node ∷ [])) ≡ deep → IsHeld (ds ++ d ∷ []) (list ++ node ∷ []) (held_with h (within deep node))
    by_depth None is = kept_on is
    by_depth (Some passed) is = stopped passed is

    tried : (a : Option Passed) → own ≡ a → IsHeld (ds ++ d ∷ []) (list ++ node ∷ []) (held_with h (node_within (within a node) depth))
    tried None is = by_depth (past Depth depth_limit depth) (past_here ∙ ap (λ o. option_or o (past Depth depth_limit depth)) is)
    tried (Some passed) is = stopped passed (past_here ∙ ap (λ o. option_or o (past Depth depth_limit depth)) is)

  by_room : (some many : Bool) → nat_lt 0 h.more ≡ some → nat_lt (count_held h) element_limit ≡ many
      → IsHeld (ds ++ d ∷ []) (list ++ node ∷ [])
      (cond some (record h { more = h.more + 1 })
      (cond many (held_with h (node_within (within own node) (depth_below (depths_of h.nodes) node.parent))) (record h { more = h.more + 1 })))
  by_room true many some_is many_is = counted (inl (grind (arith, nat_tests)))
  by_room false true some_is many_is =
      let none : h.more ≡ 0 = grind (arith, nat_tests) in
      let fewer : count_held h < element_limit = grind (arith, nat_tests) in
      tried none (omega (arith, held.count, fewer)) own refl
  by_room false false some_is many_is =
      let all : element_limit ≤ count_held h = grind (arith, nat_tests) in
      counted (inr (omega (arith, held.count, all)))

  pub held_more : IsHeld (ds ++ d ∷ []) (list ++ node ∷ []) (held_next h node.parent (within own node))
  held_more = by_room (nat_lt 0 h.more) (nat_lt (count_held h) element_limit) refl refl

-- ---- the whole list

some_none : (o : Option Passed) → o ≡ None → is_some o ≡ true → ⊥
some_none None e some = cc
some_none (Some p) e some = cc

some_list : (list : List Node) → 0 < length list → some_held list ≡ Ok (Ok list)
some_list [] some = absurd (omega arith)
some_list (node ∷ list) some = refl

module _ (ds : List Data) (list : List Node) (h : Held) (held : IsHeld ds list h) where
  by_more : (n : ℕ) → h.more ≡ n → length list ≤ element_limit → h.passed ≡ nodes_past (items_of ds) (depths_of list)
  by_more zero e few = let all = held.kept e in all.1 ∙ sym all.2
  by_more (suc n) e few = (held.past_it (omega arith) few).0

  by_count : (b : Bool) → nat_le (length list) element_limit ≡ b
      → option_or (cond b None (Some (Elements, element_limit))) h.passed ≡ option_or (cond b None (Some (Elements, element_limit))) (nodes_past (items_of ds) (depths_of list))
  by_count true e = let few : length list ≤ element_limit = grind (arith, nat_tests) in by_more h.more refl few
  by_count false e = refl

  limits_are : option_or (past Elements element_limit (count_held h)) h.passed ≡ nodes_passed (items_of ds) list
  limits_are = ap (λ n. option_or (past Elements element_limit n) h.passed) (sym held.count) ∙ by_count (nat_le (length list) element_limit) refl

  past_none : (b : Bool) (a : Option Passed) → nat_le (length list) element_limit ≡ b → option_or (cond b None (Some (Elements, element_limit))) a ≡ None → (length list ≤ element_limit) × (a ≡ None)
  past_none true a is e = (grind (arith, nat_tests), e)
  past_none false a is e = absurd (cc)

  all_kept : (n : ℕ) → h.more ≡ n → nodes_passed (items_of ds) list ≡ None → h.nodes ≡ list
  all_kept zero is e = (held.kept is).0
  all_kept (suc n) is e =
      let none = past_none (nat_le (length list) element_limit) (nodes_past (items_of ds) (depths_of list)) refl e in
      let told = held.past_it (omega arith) none.0 in
      absurd (some_none h.passed (told.0 ∙ none.1) told.1)

  at_end : (o : Option Passed) → nodes_passed (items_of ds) list ≡ o → 0 < length list → held_or o h ≡ Ok (within o list)
  at_end (Some passed) is some = refl
  at_end None is some = ap some_held (all_kept h.more refl is) ∙ some_list list some

pub held_end : (ds : List Data) (list : List Node) (h : Held) → IsHeld ds list h → items_in node_in 0 (items_of ds) ≡ Ok list
    → held_at_end h ≡ (some_nodes (items_of ds) >>= (λ nodes. Ok (within (nodes_passed (items_of ds) nodes) nodes)))
held_end [] list h held said =
    let none : [] ≡ list = cc in
    let empty : IsHeld [] [] h = subst (λ l. IsHeld [] l h) (sym none) held in
    ap (λ o. held_or o h) (limits_are [] [] h empty) ∙ ap some_held (all_kept [] [] h empty h.more refl refl)
held_end (d ∷ ds) list h held said =
    let some : 0 < length list = omega (arith, length-items_in node_in 0 (d ∷ ds) list said) in
    ap (λ o. held_or o h) (limits_are (d ∷ ds) list h held) ∙ (at_end (d ∷ ds) list h held (nodes_passed (items_of (d ∷ ds)) list) refl some
    ∙ sym (ap (λ c. c >>= (λ nodes. Ok (within (nodes_passed (items_of (d ∷ ds)) nodes) nodes))) said))
