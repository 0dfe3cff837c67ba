-- Texts, attributes and documents of a given size, and when a limit refuses: for examples.
use lib.Utf8.{encode}
use Rattle.std.proofs.Common.{◌≡◌, ℕ, zero, suc, ◌+◌, ◌<◌, ◌≤◌, ◌==◌, ◌&&◌, cond, Bool, true, false, List, [], ◌∷◌, ◌++◌, map, take, drop, filter, length, replicate, Option, Some, None, is_some, refl, sym, ap, ◌∙◌, arith}
use Rattle.std.specs.Prelude.{codes, nat_le, slice_get}
use Rattle.std.specs.List.{list_all}
use Rattle.std.specs.FinMap as maps
use Rattle.std.specs.Cmp.Lexicographic.{slice_cmp}
use Rattle.std.specs.Ordering.{nat_cmp, eq_by_cmp}
use Rattle.std.proofs.lemmas.Bool.{eqb-true, le-leb, lt-leb, and_from, and_right, or_left, or_right, false_from_ne_true}
use Rattle.std.proofs.lemmas.Cmp.{nat_list_cmp_total}
use Rattle.std.proofs.lemmas.List.{length-append, length-replicate, take-append-drop, nil_from_length}
use Rattle.std.proofs.lemmas.Map.Text.{is_eq-slice_cmp}
use Rattle.std.proofs.lemmas.Slice.Eq.{bytes_eq-Decides}
use Rattle.base_model.specs.Text.{Characters}
use Rattle.base_model.specs.Limits.{depth_limit}
use Rattle.scene_model.specs.Element.{Element, Attributes}
use Rattle.scene_model.specs.Lookups.{is_element, IsElement}
use Rattle.scene_model.specs.Ancestors.{depth_of}
use Rattle.scene_model.specs.Nodes.{Node, HaveParentsFrom, IsNodeList, scene_of}
use Rattle.scene_model.specs.Document.{Document}
use Rattle.scene_model.proofs.Numbers.{same_number}
use Rattle.scene_model.proofs.Depths.{depth_of-node, depth_of-first}
use Rattle.change_model.specs.Sound.{is_below}
use Rattle.change_model.specs.ChildLists.{put}
use Rattle.edit_model.specs.Edit.{DocEdit}
use Rattle.edit_model.specs.Refusal.{Refusal, limit, LimitKind, tree_depth, unless, past, bytes_of}
use Rattle.edit_model.specs.Apply.{unknown, is_misplaced, limit_past, refusal, depth_past}
use Rattle.edit_model.specs.Sizes.{letters, many}
use Rattle.edit_model.proofs.ExampleCases.{bare}

-- when an amount is past a limit

pub over : (kind : LimitKind) (most amount : ℕ) → most < amount → past kind most amount ≡ Some (limit kind most)
over kind most amount h = ap (λ b. unless b (limit kind most)) (lt-leb amount most h)

pub within : (kind : LimitKind) (most amount : ℕ) → amount ≤ most → past kind most amount ≡ None
within kind most amount h = ap (λ b. unless b (limit kind most)) (le-leb amount most h)

-- what a refusal by a limit has passed before
pub by_limit : (d : Document) (edit : DocEdit) (o : Option Refusal) → unknown d edit ≡ None → is_misplaced d edit ≡ false → limit_past d edit ≡ o → refusal d edit ≡ o
by_limit d edit o known placed past = rw (known, placed) past

-- so many letters, each of one byte

pub bytes-letters : (n : ℕ) → bytes_of (letters n) ≡ n
unfolding letters encode
bytes-letters zero = refl
bytes-letters (suc n) = ap suc (bytes-letters n)

-- so many attributes

length-letters : (n : ℕ) → length (letters n) ≡ n
unfolding letters
length-letters n = length-replicate n 97

other_name : (m n : ℕ) → n < m → eq_by_cmp (slice_cmp nat_cmp) (letters m) (letters n) ≡ false
other_name m n h =
    is_eq-slice_cmp (letters m) (letters n) ∙ false_from_ne_true _ (λ e. let same = ap length ((bytes_eq-Decides (letters m) (letters n)).0 e) in absurd (omega (arith, same, length-letters m, length-letters n)))

pub no_longer_name : (m n : ℕ) → n < m → maps.get (many n) (letters m) ≡ None
unfolding many
no_longer_name m zero h = maps.get-empty (slice_cmp nat_cmp) (letters m)
no_longer_name m (suc n) h =
    maps.get-insert nat_list_cmp_total (many n) (letters (suc n)) [] (letters m)
    ∙ (ap (λ b. cond b (Some []) (maps.get (many n) (letters m))) (other_name m (suc n) h) ∙ no_longer_name m n (omega arith))

pub len-many : (n : ℕ) → maps.len (many n) ≡ n
unfolding many
len-many zero = maps.len-empty (slice_cmp nat_cmp) Characters
len-many (suc n) =
    maps.len-insert nat_list_cmp_total (many n) (letters (suc n)) []
    ∙ (ap (λ o. cond (is_some o) (maps.len (many n)) (maps.len (many n) + 1)) (no_longer_name (suc n) n (omega arith)) ∙ omega (arith, len-many n))

-- one attribute, and none

pub alone : Characters → Characters → Attributes
alone name text = maps.insert maps.empty name text

pub no_entries : maps.entries {X = Characters} {R = slice_cmp nat_cmp} maps.empty ≡ []
no_entries =
    nil_from_length _ (sym (maps.len-entries {X = Characters} {R = slice_cmp nat_cmp} maps.empty) ∙ maps.len-empty (slice_cmp nat_cmp) Characters)

pub values-none : maps.values {X = Characters} {R = slice_cmp nat_cmp} maps.empty ≡ []
values-none = ap (map (λ (e : Characters × Characters). e.1)) no_entries

pub values-alone : (name text : Characters) → maps.values (alone name text) ≡ text ∷ []
unfolding alone
values-alone name text =
    ap (map (λ (e : Characters × Characters). e.1)) (maps.entries-insert nat_list_cmp_total maps.empty name text ∙ ap (maps.put (slice_cmp nat_cmp) name text) no_entries)

pub len-alone : (name text : Characters) → maps.len (alone name text) ≡ 1
unfolding alone
len-alone name text =
    maps.len-entries (maps.insert maps.empty name text)
    ∙ ap length (maps.entries-insert nat_list_cmp_total maps.empty name text ∙ ap (maps.put (slice_cmp nat_cmp) name text) no_entries)

-- a list with one run put in
pub length-put : (doc : List Element) (at : ℕ) (run : List Element) → length (put doc at run) ≡ length doc + length run
length-put doc at run =
    omega (arith, length-append (take at doc) (run ++ drop at doc), length-append run (drop at doc), length-append (take at doc) (drop at doc), ap length (take-append-drop at doc))

-- one of a list that is kept and fails
some_fails : (test kept : ℕ → Bool) (z : ℕ) → kept z ≡ true → test z ≡ false → (els : List Element) → IsElement els z → list_all (λ e. test e.number) (filter (λ e. kept e.number) els) ≡ false
some_fails test kept z k f [] h = absurd (cc)
some_fails test kept z k f (e ∷ els) h =
    split (e.number == z) (kept e.number) refl refl (some_fails test kept z k f els) h
  where
    split : (a b : Bool) → (e.number == z) ≡ a → kept e.number ≡ b → (IsElement els z → list_all (λ d. test d.number) (filter (λ d. kept d.number) els) ≡ false) → IsElement (e ∷ els) z → list_all (λ d. test d.number) (filter (λ d. kept d.number) (e ∷ els)) ≡ false
    split true b same keep rest there =
        let is : e.number ≡ z = eqb-true e.number z same in
        rw (ap kept is ∙ k) (ap (λ c. c && list_all (λ d. test d.number) (filter (λ d. kept d.number) els)) (ap test is ∙ f))
    split false true same keep rest there = rw keep (and_right (test e.number) _ (rest (rw_there same there)))
      where
        rw_there : (e.number == z) ≡ false → IsElement (e ∷ els) z → IsElement els z
        rw_there g h = cc
    split false false same keep rest there = rw keep (rest (cc))

-- an element below n is too deep
pub too_deep_below : (els : List Element) (n z : ℕ) → IsElement els z → is_below els n z ≡ true → depth_limit < depth_of els z → depth_past els n ≡ Some (limit tree_depth depth_limit)
too_deep_below els n z there below deep =
    ap (λ b. unless b (limit tree_depth depth_limit)) (some_fails (λ x. nat_le (depth_of els x) depth_limit) (is_below els n) z below (lt-leb (depth_of els z) depth_limit deep) els there)

all_pass : (test kept : ℕ → Bool) (els : List Element) → ((x : ℕ) → IsElement els x → test x ≡ true) → list_all (λ e. test e.number) (filter (λ e. kept e.number) els) ≡ true
all_pass test kept [] h = refl
all_pass test kept (e ∷ els) h =
    either (kept e.number) (h e.number (or_left (e.number == e.number) (is_element els e.number) (same_number e.number))) (all_pass test kept els (λ x there. h x (or_right (e.number == x) (is_element els x) there)))
  where
    either : (b : Bool) → test e.number ≡ true → list_all (λ d. test d.number) (filter (λ d. kept d.number) els) ≡ true → list_all (λ d. test d.number) (cond b (e ∷ filter (λ d. kept d.number) els) (filter (λ d. kept d.number) els)) ≡ true
    either true t r = and_from (test e.number) (list_all (λ d. test d.number) (filter (λ d. kept d.number) els)) t r
    either false t r = r

-- no element is too deep
pub none_too_deep : (els : List Element) (n : ℕ) → ((x : ℕ) → IsElement els x → depth_of els x ≤ depth_limit) → depth_past els n ≡ None
none_too_deep els n h =
    ap (λ b. unless b (limit tree_depth depth_limit)) (all_pass (λ x. nat_le (depth_of els x) depth_limit) (is_below els n) els (λ x there. le-leb (depth_of els x) depth_limit (h x there)))

-- so many nodes below one another, and one with so many children

abbrev below_from : ℕ → ℕ → List Node
below_from k zero = []
below_from k (suc n) = bare (Some k) (codes "p") ∷ below_from (k + 1) n

-- a root and n levels below it
pub chain : ℕ → List Node
chain n = bare None (codes "html") ∷ below_from 0 n

-- a root and n children of it
pub wide : ℕ → List Node
wide n = bare None (codes "html") ∷ replicate n (bare (Some 0) (codes "p"))

parents_below : (k n : ℕ) → HaveParentsFrom (k + 1) (below_from k n)
parents_below k zero = tt
parents_below k (suc n) = (omega arith, parents_below (k + 1) n)

pub IsNodeList-chain : (n : ℕ) → IsNodeList (chain n)
unfolding chain
IsNodeList-chain n = record { some = omega arith; parents = (refl, parents_below 0 n) }

parents_wide : (k n : ℕ) → 0 < k → HaveParentsFrom k (replicate n (bare (Some 0) (codes "p")))
parents_wide k zero h = tt
parents_wide k (suc n) h = (h, parents_wide (k + 1) n (omega arith))

pub IsNodeList-wide : (n : ℕ) → IsNodeList (wide n)
unfolding wide
IsNodeList-wide n = record { some = omega arith; parents = (refl, parents_wide 1 n (omega arith)) }

pub length-wide : (n : ℕ) → length (wide n) ≡ n + 1
unfolding wide
length-wide n = omega (arith, length-replicate n (bare (Some 0) (codes "p")))

length-below : (k n : ℕ) → length (below_from k n) ≡ n
length-below k zero = refl
length-below k (suc n) = ap suc (length-below (k + 1) n)

pub length-chain : (n : ℕ) → length (chain n) ≡ n + 1
unfolding chain
length-chain n = omega (arith, length-below 0 n)

node_below : (k n j : ℕ) → j < n → slice_get (below_from k n) j ≡ Some (bare (Some (k + j)) (codes "p"))
node_below k zero j h = absurd (omega arith)
node_below k (suc n) zero h = ap (λ m. Some (bare (Some m) (codes "p"))) (omega arith)
node_below k (suc n) (suc j) h =
    node_below (k + 1) n j (omega arith) ∙ ap (λ m. Some (bare (Some m) (codes "p"))) (omega arith)

-- the elements of a chain are as deep as their numbers say
pub depth-chain : (n j : ℕ) → j ≤ n → depth_of (scene_of (chain n)) (j + 1) ≡ j + 1
unfolding chain
depth-chain n zero h =
    depth_of-first (chain n) (IsNodeList-chain n) 0 (bare None (codes "html")) refl refl
depth-chain n (suc j) h =
    depth_of-node (chain n) (IsNodeList-chain n) (suc j) (bare (Some j) (codes "p")) j (node_below 0 n j (omega arith) ∙ ap (λ m. Some (bare (Some m) (codes "p"))) (omega arith)) refl
    ∙ omega (arith, depth-chain n j (omega arith))
