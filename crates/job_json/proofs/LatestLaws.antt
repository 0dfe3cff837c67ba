-- Of the members in a sorted list the last of each key.
use Rattle.std.proofs.Common.{◌≡◌, ℕ, suc, ◌+◌, ◌-◌, ◌<◌, List, [], ◌∷◌, length, map, filter, take, drop, length-drop, get_or, Bool, true, false}
use Rattle.std.proofs.Common.{not, ◌&&◌, cond, bytes_eq, Ordering, Less, Equal, Greater, is_eq, Option, Some, None, option_map, refl, sym, ap, ◌∙◌, subst, true≢false, arith}
use Rattle.std.specs.Prelude.{T, is_some}
use Rattle.std.specs.Cmp.Lexicographic.{nat_list_cmp_total}
use Rattle.std.specs.FinMap.{find, is_sorted}
use Rattle.std.specs.FinMap.Entries.{below_all, same_entries}
use Rattle.std.specs.List.Sorted.{IsSortedBy, IsStableBy, ties}
use Rattle.std.specs.Option.{option_or}
use Rattle.std.specs.Ordering.{ordering_reverse, eq_by_cmp, is_lt}
use Rattle.std.proofs.lemmas.Cmp.{tied_itself}
use Rattle.std.proofs.lemmas.List.{take_all}
use Rattle.std.proofs.lemmas.List.Sorted.{sorted_far, ranks_by}
use Rattle.std.proofs.lemmas.Slice.Eq.{bytes_eq-Decides}
use Rattle.scene_model.specs.Element.{Characters}
use Rattle.dom_tree.specs.declared.nodes.Attr.{Attr}
use Rattle.dom_tree.specs.View.{pair_of}
use Rattle.job_json.specs.declared.slots.Slot.{Slot}
use Rattle.job_json.specs.Words.{pair_from}
use Rattle.job_json.specs.Slots.{Pair, slot_pair, last_at, begins_with, latest, first_bad_key}
use Rattle.job_json.proofs.SlotLaws.{R, Value, own, same_key, tied, below_none, both_true, true_both, or_last}

-- ---- keys that do not fall

abbrev NotBelow : List ℕ → List Pair → Type 0
NotBelow key [] = Unit {0}
NotBelow key (pair ∷ pairs) = (is_lt (R pair.0 key) ≡ false) × NotBelow key pairs

abbrev Ascend : List Pair → Type 0
Ascend [] = Unit {0}
Ascend (pair ∷ pairs) = NotBelow pair.0 pairs × Ascend pairs

not_less_than : (o r : Ordering) → r ≡ ordering_reverse o → is_lt r ≡ false → o ≡ Greater → ⊥
not_less_than o r turned not_less is = let lt : is_lt r ≡ true = ap is_lt (turned ∙ ap ordering_reverse is) in true≢false (sym lt ∙ not_less)

above_at : (a b c : List ℕ) (o : Ordering) → R b c ≡ o → R a b ≡ Less → is_lt (R c b) ≡ false → R a c ≡ Less
above_at a b c Less is less not_less = nat_list_cmp_total.trans a b c less is
above_at a b c Equal is less not_less = ap (R a) (sym (same_key b c is)) ∙ less
above_at a b c Greater is less not_less = absurd (not_less_than (R b c) (R c b) (nat_list_cmp_total.antisymm c b) not_less is)

-- above what is above
above : (a b c : List ℕ) → R a b ≡ Less → is_lt (R c b) ≡ false → R a c ≡ Less
above a b c less not_less = above_at a b c (R b c) refl less not_less

all_above : (a b : List ℕ) (pairs : List Pair) → R a b ≡ Less → NotBelow b pairs → T (below_all R a pairs)
all_above a b [] less h = tt
all_above a b (pair ∷ pairs) less h = subst (λ o. T (is_lt o && below_all R a pairs)) (sym (above a b pair.0 less h.0)) (all_above a b pairs less h.1)

strictly_at : (a b : List ℕ) (o : Ordering) → R a b ≡ o → is_lt (R b a) ≡ false → bytes_eq b a ≡ false → R a b ≡ Less
strictly_at a b Less is not_less differ = is
strictly_at a b Equal is not_less differ = absurd (let same : bytes_eq b a ≡ true = (bytes_eq-Decides b a).1 (sym (same_key a b is)) in true≢false (sym same ∙ differ))
strictly_at a b Greater is not_less differ = absurd (not_less_than (R a b) (R b a) (nat_list_cmp_total.antisymm b a) not_less is)

-- another key that is not below
strictly : (a b : List ℕ) → is_lt (R b a) ≡ false → bytes_eq b a ≡ false → R a b ≡ Less
strictly a b not_less differ = strictly_at a b (R a b) refl not_less differ

rest_above : (key : List ℕ) (pairs : List Pair) → NotBelow key pairs → Ascend pairs → begins_with key pairs ≡ false → T (below_all R key pairs)
rest_above key [] h asc differ = tt
rest_above key (pair ∷ pairs) h asc differ =
    let less = strictly key pair.0 h.0 differ in
    subst (λ o. T (is_lt o && below_all R key pairs)) (sym less) (all_above key pair.0 pairs less asc.0)

-- ---- the last of each key

below_either : (b : Bool) (key : List ℕ) (pair : Pair) (rest : List Pair) → T (is_lt (R key pair.0)) → T (below_all R key rest) → T (below_all R key (cond b rest (pair ∷ rest)))
below_either true key pair rest less h = h
below_either false key pair rest less h = true_both (is_lt (R key pair.0)) (below_all R key rest) (less, h)

below_latest : (key : List ℕ) (pairs : List Pair) → T (below_all R key pairs) → T (below_all R key (latest pairs))
below_latest key [] h = tt
below_latest key (pair ∷ pairs) h =
    let parts = both_true (is_lt (R key pair.0)) (below_all R key pairs) h in
    below_either (begins_with pair.0 pairs) key pair (latest pairs) parts.0 (below_latest key pairs parts.1)

some_or : (o : Option Value) (b : Bool) (v : Value) → (b ≡ true → is_some o ≡ true) → o ≡ option_or o (cond b (Some v) None)
some_or (Some w) b v some = refl
some_or None true v some = absurd (true≢false (sym (some refl)))
some_or None false v some = refl

kept_some : (o : Option Value) (v : Value) → is_some (option_or o (Some v)) ≡ true
kept_some None v = refl
kept_some (Some w) v = refl

-- a list that begins with a key has a last value at it
has_last : (key : List ℕ) (pairs : List Pair) → begins_with key pairs ≡ true → is_some (last_at key pairs) ≡ true
has_last key [] e = absurd (cc)
has_last key (pair ∷ pairs) e =
    let same : pair.0 ≡ key = (bytes_eq-Decides pair.0 key).0 e in
    let ties_here : eq_by_cmp R key pair.0 ≡ true = ap (λ k. is_eq (R key k)) same ∙ ap is_eq (tied_itself nat_list_cmp_total key) in
    ap (λ b. is_some (option_or (last_at key pairs) (cond b (Some pair.1) None))) ties_here ∙ kept_some (last_at key pairs) pair.1

record IsLatest (pairs : List Pair) (found : List Pair) : Type 0 where
  rise : T (is_sorted R found)
  each : (key : List ℕ) → find R key found ≡ last_at key pairs

module _ (pair : Pair) (pairs : List Pair) (asc : Ascend (pair ∷ pairs)) (more : IsLatest pairs (latest pairs)) where
  comes_again : begins_with pair.0 pairs ≡ true → IsLatest (pair ∷ pairs) (latest pairs)
  comes_again is = record {
    rise = more.rise;
    each = λ key. more.each key ∙ some_or (last_at key pairs) (eq_by_cmp R key pair.0) pair.1 (λ e. ap (λ k. is_some (last_at k pairs)) (tied key pair.0 e) ∙ has_last pair.0 pairs is);
  }

  comes_once : begins_with pair.0 pairs ≡ false → IsLatest (pair ∷ pairs) (pair ∷ latest pairs)
  comes_once is =
      let later : T (below_all R pair.0 (latest pairs)) = below_latest pair.0 pairs (rest_above pair.0 pairs asc.0 asc.1 is) in
      record {
        rise = true_both (below_all R pair.0 (latest pairs)) (is_sorted R (latest pairs)) (later, more.rise);
        each = λ key.
            ap (cond (eq_by_cmp R key pair.0) (Some pair.1)) (more.each key)
            ∙ sym (or_last (eq_by_cmp R key pair.0) pair.1 (last_at key pairs)
            (λ e. sym (more.each key) ∙ (ap (λ k. find R k (latest pairs)) (tied key pair.0 e) ∙ below_none pair.0 (latest pairs) later)));
      }

  by_next : (b : Bool) → begins_with pair.0 pairs ≡ b → IsLatest (pair ∷ pairs) (cond b (latest pairs) (pair ∷ latest pairs))
  by_next true is = comes_again is
  by_next false is = comes_once is

is_latest : (pairs : List Pair) → Ascend pairs → IsLatest pairs (latest pairs)
is_latest [] asc = record { rise = tt; each = λ key. refl }
is_latest (pair ∷ pairs) asc = by_next pair pairs asc (is_latest pairs asc.1) (begins_with pair.0 pairs) refl

-- ---- the first key that is no attribute

abbrev bad_in : Bool → Slot → List Pair → Option (List ℕ)
bad_in again slot after = first_bad_key (cond again (latest after) (slot_pair slot ∷ latest after))

module _ (slots : List Slot) (i : ℕ) (slot : Slot) (is : drop i slots ≡ slot ∷ drop (i + 1) slots) where
  abbrev after : List Pair
  after = map slot_pair (drop (i + 1) slots)

  next : first_bad_key (latest (map slot_pair (drop i slots))) ≡ bad_in (begins_with slot.name.now after) slot after
  next = ap (λ l. first_bad_key (latest (map slot_pair l))) is

  -- it stands here, is no attribute, and comes no more
  pub key_here : begins_with slot.name.now after ≡ false → pair_from slot.name.now (slot_pair slot).1 ≡ None → first_bad_key (latest (map slot_pair (drop i slots))) ≡ Some slot.name.now
  key_here once none = next ∙ (ap (λ b. bad_in b slot after) once ∙ ap (λ o. cond (is_some o) (first_bad_key (latest after)) (Some slot.name.now)) none)

  -- it comes again
  pub key_again : begins_with slot.name.now after ≡ true → first_bad_key (latest (map slot_pair (drop i slots))) ≡ first_bad_key (latest after)
  key_again again = next ∙ ap (λ b. bad_in b slot after) again

  -- it is an attribute
  pub key_good : begins_with slot.name.now after ≡ false → is_some (pair_from slot.name.now (slot_pair slot).1) ≡ true
      → first_bad_key (latest (map slot_pair (drop i slots))) ≡ first_bad_key (latest after)
  key_good once some = next ∙ (ap (λ b. bad_in b slot after) once ∙ ap (λ b. cond b (first_bad_key (latest after)) (Some slot.name.now)) some)

-- from the answers of the code

pub is_after : (slots : List Slot) (i : ℕ) (key : List ℕ) (r : Bool)
    → r ≡ not (begins_with key (map slot_pair (take (length slots - (i + 1)) (drop (i + 1) slots)))) → r ≡ not (begins_with key (map slot_pair (drop (i + 1) slots)))
is_after slots i key r e = e ∙ ap (λ l. not (begins_with key (map slot_pair l))) (take_all (length slots - (i + 1)) (drop (i + 1) slots) (omega (arith, length-drop (i + 1) slots)))

-- what a test says that answers the contrary
pub contrary : (r b is : Bool) → r ≡ not b → r ≡ is → b ≡ not is
contrary r true is answer e = ap not (sym answer ∙ e)
contrary r false is answer e = ap not (sym answer ∙ e)

pub no_pair : (attr : Option Attr) (pair : Option (Characters × Characters)) (none : Bool) → option_map pair_of attr ≡ pair → is_some attr ≡ not none → none ≡ true → pair ≡ None
no_pair None pair none e some is = sym e
no_pair (Some attr) pair true e some is = absurd (true≢false some)
no_pair (Some attr) pair false e some is = absurd (true≢false (sym is))

pub a_pair : (attr : Option Attr) (pair : Option (Characters × Characters)) (none : Bool) → option_map pair_of attr ≡ pair → is_some attr ≡ not none → none ≡ false → is_some pair ≡ true
a_pair (Some attr) pair none e some is = ap is_some (sym e)
a_pair None pair true e some is = absurd (true≢false is)
a_pair None pair false e some is = absurd (true≢false (sym some))

-- ---- what a stable sort makes

abbrev falls : Slot → Slot → Bool
falls a b = is_lt (R a.name.now b.name.now)

not_below : (key : List ℕ) (slots : List Slot) → ((j : ℕ) (d : Slot) → j < length slots → is_lt (R (get_or slots j d).name.now key) ≡ false) → NotBelow key (map slot_pair slots)
not_below key [] h = tt
not_below key (slot ∷ slots) h = (h 0 slot (omega arith), not_below key slots (λ j d less. h (suc j) d (omega arith)))

ascends : (slots : List Slot) → IsSortedBy falls slots → Ascend (map slot_pair slots)
ascends [] up = tt
ascends (slot ∷ slots) up = (
  not_below slot.name.now slots (λ j d less. sorted_far falls (ranks_by nat_list_cmp_total (λ (s : Slot). s.name.now)) (slot ∷ slots) up 0 (suc j) d (omega arith) (omega arith)),
  ascends slots (λ k d least less.
      let next : suc k + 1 ≡ suc (k + 1) = omega arith in
      subst (λ n. falls (get_or (slot ∷ slots) n d) (get_or slots k d) ≡ false) next (up (suc k) d (omega arith) (omega arith))),
)

-- the value of the last slot
abbrev final : List Slot → Option Value
final [] = None
final (slot ∷ slots) = option_or (final slots) (Some (slot_pair slot).1)

abbrev has_key : List ℕ → Slot → Bool
has_key key slot = eq_by_cmp R key slot.name.now

or_nothing : (o : Option Value) → option_or o None ≡ o
or_nothing None = refl
or_nothing (Some v) = refl

with_slot : (b : Bool) (slot : Slot) (slots : List Slot) → option_or (final slots) (cond b (Some (slot_pair slot).1) None) ≡ final (cond b (slot ∷ slots) slots)
with_slot true slot slots = refl
with_slot false slot slots = or_nothing (final slots)

last_of : (key : List ℕ) (slots : List Slot) → last_at key (map slot_pair slots) ≡ final (filter (has_key key) slots)
last_of key [] = refl
last_of key (slot ∷ slots) = ap (λ o. option_or o (own key (slot_pair slot))) (last_of key slots) ∙ with_slot (has_key key slot) slot (filter (has_key key) slots)

ties_is : (o r : Ordering) → r ≡ ordering_reverse o → (not (is_lt o) && not (is_lt r)) ≡ is_eq o
ties_is Less r e = refl
ties_is Equal r e = ap (λ x. not (is_lt x)) e
ties_is Greater r e = ap (λ x. not (is_lt x)) e

module _ (xs ys : List Slot) (up : IsSortedBy falls ys) (stable : IsStableBy falls xs ys) where
  of_key : (key : List ℕ) → filter (has_key key) ys ≡ filter (has_key key) xs
  of_key key =
      let slot : Slot = record { name = record { ref_ptr = (0, 0); now = key }; value = None } in
      let same : ties falls slot ≡ has_key key = λ i other. ties_is (R key other.name.now) (R other.name.now key) (nat_list_cmp_total.antisymm other.name.now key) i in
      subst (λ p. filter p ys ≡ filter p xs) same (stable slot)

  pub latest-sorted : (pairs : List Pair) → T (is_sorted R pairs) → ((key : List ℕ) → last_at key (map slot_pair xs) ≡ find R key pairs) → latest (map slot_pair ys) ≡ pairs
  latest-sorted pairs rise each =
      let found = is_latest (map slot_pair ys) (ascends ys up) in
      same_entries R nat_list_cmp_total same_key (latest (map slot_pair ys)) pairs found.rise rise (λ key.
      found.each key ∙ (last_of key ys ∙ (ap final (of_key key) ∙ (sym (last_of key xs) ∙ each key))))
