-- The members of the object of attributes as slots: what is put, how many there are, and what a sort makes of them.
use Rattle.std.proofs.Common.{◌≡◌, ℕ, ◌<◌, ◌≤◌, List, [], ◌∷◌, ◌++◌, length, map, Bool, true, false, ◌&&◌, cond, Ordering, Less, Equal, Greater, nat_cmp}
use Rattle.std.proofs.Common.{is_eq, Option, Some, None, option_map, refl, sym, ap, ap₂, ◌∙◌, subst, true≢false, arith}
use Rattle.std.specs.Prelude.{T}
use Rattle.std.specs.List.{AllByRecursion}
use Rattle.std.specs.Bool.{MatchBool}
use Rattle.std.specs.Option.{option_or}
use Rattle.std.specs.Ordering.{match_ordering, eq_by_cmp, is_lt}
use Rattle.std.specs.Cmp.Lexicographic.{slice_cmp, nat_list_cmp_total}
use Rattle.std.specs.FinMap.{put, find, is_sorted}
use Rattle.std.specs.FinMap.Entries.{by_order, below_all, is_sorted-put, find-put}
use Rattle.std.proofs.lemmas.Map.Text.{is_eq-slice_cmp}
use Rattle.std.proofs.lemmas.Slice.Eq.{bytes_eq-Decides}
use Rattle.std.proofs.lemmas.List.{length-map, map-append}
use Rattle.serde_json.specs.Data.{Data, Members, no_members, member}
use Rattle.serde_json.specs.Data as json
use Rattle.serde_json.specs.Find.{as_str}
use Rattle.base_model.specs.Limits.{attribute_limit}
use Rattle.base_model.proofs.Orderings.{is_equal}
use Rattle.job_json.specs.declared.slots.Slot.{Slot}
use Rattle.job_json.specs.declared.slots.Slots.{Slots}
use Rattle.job_json.specs.Limits.{count_of}
use Rattle.job_json.specs.Slots.{Pair, AreTexts, slot_pair, put_slot, slots_of, last_at}
use Rattle.job_json.specs.Kept.{AreSlotsOf, AddsSlot}

abbrev pub R : List ℕ → List ℕ → Ordering
R = slice_cmp nat_cmp

pub same_key : (k l : List ℕ) → R k l ≡ Equal → k ≡ l
same_key k l e = (bytes_eq-Decides k l).0 (sym (is_eq-slice_cmp k l) ∙ ap is_eq e)

-- ---- one more member

put_slot_at : (o : Ordering) (slot first : Slot) (slots : List Slot) → R slot.name.now first.name.now ≡ o
    → map slot_pair (put_slot slot slots) ≡ put R slot.name.now (slot_pair slot).1 (map slot_pair slots)
    → map slot_pair (match_ordering o (slot ∷ first ∷ slots) (slot ∷ slots) (first ∷ put_slot slot slots))
    ≡ by_order o (slot_pair slot ∷ slot_pair first ∷ map slot_pair slots) ((first.name.now, (slot_pair slot).1) ∷ map slot_pair slots)
    (slot_pair first ∷ put R slot.name.now (slot_pair slot).1 (map slot_pair slots))
put_slot_at Less slot first slots is more = refl
put_slot_at Equal slot first slots is more = ap (λ k. (k, (slot_pair slot).1) ∷ map slot_pair slots) (same_key slot.name.now first.name.now is)
put_slot_at Greater slot first slots is more = ap (λ rest. slot_pair first ∷ rest) more

map-put_slot : (slot : Slot) (slots : List Slot) → map slot_pair (put_slot slot slots) ≡ put R slot.name.now (slot_pair slot).1 (map slot_pair slots)
map-put_slot slot [] = refl
map-put_slot slot (first ∷ slots) = put_slot_at (R slot.name.now first.name.now) slot first slots refl (map-put_slot slot slots)

slots_of-put_at : (o : Ordering) (k l : List ℕ) (d e : Data) (ms : Members) → slots_of (json.put k d ms) ≡ put R k (as_str d) (slots_of ms)
    → slots_of (match_ordering o (member k d (member l e ms)) (member l d ms) (member l e (json.put k d ms)))
    ≡ by_order o ((k, as_str d) ∷ (l, as_str e) ∷ slots_of ms) ((l, as_str d) ∷ slots_of ms) ((l, as_str e) ∷ put R k (as_str d) (slots_of ms))
slots_of-put_at Less k l d e ms more = refl
slots_of-put_at Equal k l d e ms more = refl
slots_of-put_at Greater k l d e ms more = ap (λ rest. (l, as_str e) ∷ rest) more

slots_of-put : (k : List ℕ) (d : Data) (ms : Members) → slots_of (json.put k d ms) ≡ put R k (as_str d) (slots_of ms)
slots_of-put k d no_members = refl
slots_of-put k d (member l e ms) = slots_of-put_at (R k l) k l d e ms (slots_of-put k d ms)

pub count_of-slots : (ms : Members) → count_of ms ≡ length (slots_of ms)
count_of-slots no_members = refl
count_of-slots (member k d ms) = let more = count_of-slots ms in omega arith

no_fewer_at : (o : Ordering) (k l : List ℕ) (d e : Data) (ms : Members) → count_of ms ≤ count_of (json.put k d ms)
    → count_of (member l e ms) ≤ count_of (match_ordering o (member k d (member l e ms)) (member l d ms) (member l e (json.put k d ms)))
no_fewer_at Less k l d e ms more = omega arith
no_fewer_at Equal k l d e ms more = omega arith
no_fewer_at Greater k l d e ms more = omega arith

no_fewer : (k : List ℕ) (d : Data) (ms : Members) → count_of ms ≤ count_of (json.put k d ms)
no_fewer k d no_members = omega arith
no_fewer k d (member l e ms) = no_fewer_at (R k l) k l d e ms (no_fewer k d ms)

-- ---- the last value of each key

abbrev pub Value : Type 0
Value = Option (List ℕ)

-- the value of a pair with this key
abbrev pub own : List ℕ → Pair → Option Value
own key pair = cond (eq_by_cmp R key pair.0) (Some pair.1) None

either_or : (a b c : Option Value) → option_or (option_or a b) c ≡ option_or a (option_or b c)
either_or None b c = refl
either_or (Some v) b c = refl

own_or : (b : Bool) (v : Value) (o : Option Value) → option_or (cond b (Some v) None) o ≡ cond b (Some v) o
own_or true v o = refl
own_or false v o = refl

last_at-push : (key : List ℕ) (pairs : List Pair) (pair : Pair) → last_at key (pairs ++ pair ∷ []) ≡ option_or (own key pair) (last_at key pairs)
last_at-push key [] pair = sym (own_or (eq_by_cmp R key pair.0) pair.1 None)
last_at-push key (first ∷ pairs) pair = ap (λ o. option_or o (own key first)) (last_at-push key pairs pair) ∙ either_or (own key pair) (last_at key pairs) (own key first)

not_here : (o : Ordering) (below : Bool) (v : Value) (found : Option Value) → T (is_lt o && below) → (T below → found ≡ None) → cond (is_eq o) (Some v) found ≡ None
not_here Less below v found h none = none h
not_here Equal below v found h none = absurd h
not_here Greater below v found h none = absurd h

pub below_none : (key : List ℕ) (pairs : List Pair) → T (below_all R key pairs) → find R key pairs ≡ None
below_none key [] h = refl
below_none key (pair ∷ pairs) h = not_here (R key pair.0) (below_all R key pairs) pair.1 (find R key pairs) h (below_none key pairs)

pub both_true : (a b : Bool) → T (a && b) → (T a) × (T b)
both_true true b h = (tt, h)
both_true false b h = absurd h

pub true_both : (a b : Bool) → (T a) × (T b) → T (a && b)
true_both true b h = h.1
true_both false b h = h.0

pub or_last : (b : Bool) (v : Value) (o : Option Value) → (b ≡ true → o ≡ None) → option_or o (cond b (Some v) None) ≡ cond b (Some v) o
or_last true v o none = ap (λ x. option_or x (Some v)) (none refl)
or_last false v None none = refl
or_last false v (Some w) none = refl

-- a key that ties is the key
pub tied : (key other : List ℕ) → eq_by_cmp R key other ≡ true → key ≡ other
tied key other e = same_key key other (is_equal (R key other) e)

-- where each key is there once, the last value is the first
last_is_found : (pairs : List Pair) → T (is_sorted R pairs) → (key : List ℕ) → last_at key pairs ≡ find R key pairs
last_is_found [] h key = refl
last_is_found (pair ∷ pairs) h key =
    let parts = both_true (below_all R pair.0 pairs) (is_sorted R pairs) h in
    ap (λ o. option_or o (own key pair)) (last_is_found pairs parts.1 key)
    ∙ or_last (eq_by_cmp R key pair.0) pair.1 (find R key pairs) (λ e. ap (λ k. find R k pairs) (tied key pair.0 e) ∙ below_none pair.0 pairs parts.0)

-- ---- texts

all_texts_at : (o : Ordering) (k : List ℕ) (v : Value) (pair : Pair) (pairs more : List Pair) → AreTexts (k, v) → AllByRecursion AreTexts (pair ∷ pairs) → AllByRecursion AreTexts more
    → AllByRecursion AreTexts (by_order o ((k, v) ∷ pair ∷ pairs) ((pair.0, v) ∷ pairs) (pair ∷ more))
all_texts_at Less k v pair pairs more here all rest = (here, all)
all_texts_at Equal k v pair pairs more here all rest = ((all.0.0, here.1), all.1)
all_texts_at Greater k v pair pairs more here all rest = (all.0, rest)

all_texts : (k : List ℕ) (v : Value) (pairs : List Pair) → AreTexts (k, v) → AllByRecursion AreTexts pairs → AllByRecursion AreTexts (put R k v pairs)
all_texts k v [] here all = (here, tt)
all_texts k v (pair ∷ pairs) here all = all_texts_at (R k pair.0) k v pair pairs (put R k v pairs) here all (all_texts k v pairs here all.1)

-- ---- what is kept

module _ (old new : Slots) (slot : Slot) (k : List ℕ) (d : Data) (ms : Members) (kept : AreSlotsOf old ms) (name : slot.name.now ≡ k) (value : option_map (λ t. t.now) slot.value ≡ as_str d)
    (texts : AreTexts (slot_pair slot)) where
  rise_now : T (is_sorted R (slots_of (json.put k d ms)))
  rise_now = subst (λ ps. T (is_sorted R ps)) (sym (slots_of-put k d ms)) (is_sorted-put R nat_list_cmp_total k (as_str d) (slots_of ms) kept.rise)

  pair_is : slot_pair slot ≡ (k, as_str d)
  pair_is = ap₂ (λ n v. (n, v)) name value

  texts_now : AllByRecursion AreTexts (slots_of (json.put k d ms))
  texts_now = subst (AllByRecursion AreTexts) (sym (slots_of-put k d ms)) (all_texts k (as_str d) (slots_of ms) (subst AreTexts pair_is texts) kept.texts)

  put_is : map slot_pair old.list.items ≡ slots_of ms → map slot_pair (put_slot slot old.list.items) ≡ slots_of (json.put k d ms)
  put_is listed = map-put_slot slot old.list.items ∙ (ap₂ (λ (p : Pair) ps. put R p.0 p.1 ps) pair_is listed ∙ sym (slots_of-put k d ms))

  -- in the order in which they are read
  last_now : ((key : List ℕ) → last_at key (map slot_pair old.list.items) ≡ find R key (slots_of ms)) → (key : List ℕ)
      → last_at key (map slot_pair (old.list.items ++ slot ∷ [])) ≡ find R key (slots_of (json.put k d ms))
  last_now before key =
      ap (last_at key) (map-append slot_pair old.list.items (slot ∷ []))
      ∙ (last_at-push key (map slot_pair old.list.items) (slot_pair slot)
      ∙ (ap₂ (λ p o. option_or (own key p) o) pair_is (before key)
      ∙ (own_or (eq_by_cmp R key k) (as_str d) (find R key (slots_of ms))
      ∙ (sym (find-put R nat_list_cmp_total key k (as_str d) (slots_of ms)) ∙ ap (find R key) (sym (slots_of-put k d ms))))))

  many_now : (items : new.list.items ≡ old.list.items ++ slot ∷ []) → new.are_many ≡ true → attribute_limit < count_of (json.put k d ms)
      → ((key : List ℕ) → last_at key (map slot_pair old.list.items) ≡ find R key (slots_of ms)) → AreSlotsOf new (json.put k d ms)
  many_now items are count before = record {
    rise = rise_now;
    texts = texts_now;
    few = λ e. absurd (true≢false (sym are ∙ e));
    many = λ e. (count, λ key. ap (λ l. last_at key (map slot_pair l)) items ∙ last_now before key);
  }

  of_few : (b : Bool) → new.are_many ≡ b → old.are_many ≡ false
      → MatchBool b ((attribute_limit < length (put_slot slot old.list.items)) × (new.list.items ≡ old.list.items ++ slot ∷ []))
      ((new.list.items ≡ put_slot slot old.list.items) × (length old.list.items ≤ attribute_limit → length new.list.items ≤ attribute_limit)) → AreSlotsOf new (json.put k d ms)
  of_few true are room adds =
      let listed = (kept.few room).0 in
      let more : attribute_limit < length (slots_of (json.put k d ms)) = rw (← put_is listed, length-map) adds.0 in
      many_now adds.1 are (omega (arith, more, count_of-slots (json.put k d ms))) (λ key. ap (last_at key) listed ∙ last_is_found (slots_of ms) kept.rise key)
  of_few false are room adds =
      let listed = kept.few room in
      record {
        rise = rise_now;
        texts = texts_now;
        few = λ e. (ap (map slot_pair) adds.0 ∙ put_is listed.0, adds.1 listed.1);
        many = λ e. absurd (true≢false (sym e ∙ are));
      }

  by_count : (b : Bool) → old.are_many ≡ b
      → MatchBool b ((new.are_many ≡ true) × (new.list.items ≡ old.list.items ++ slot ∷ []))
      (MatchBool new.are_many ((attribute_limit < length (put_slot slot old.list.items)) × (new.list.items ≡ old.list.items ++ slot ∷ []))
      ((new.list.items ≡ put_slot slot old.list.items) × (length old.list.items ≤ attribute_limit → length new.list.items ≤ attribute_limit))) → AreSlotsOf new (json.put k d ms)
  by_count true were adds =
      let before = kept.many were in
      many_now adds.1 adds.0 (omega (arith, before.0, no_fewer k d ms)) before.1
  by_count false were adds = of_few new.are_many refl were adds

  pub slot_added : AddsSlot old slot new → AreSlotsOf new (json.put k d ms)
  slot_added adds = by_count old.are_many refl adds
