-- For `Pair::passes`: slots beside a selector, and whether the filter has all of them.
use Rattle.std.proofs.Common.{◌≡◌, ℕ, zero, suc, ◌+◌, ◌<◌, ◌≤◌, nat_lt, List, [], ◌∷◌, ◌++◌, length, take, drop, get_or}
use Rattle.std.proofs.Common.{true, false, ◌&&◌, if◌then◌else◌, refl, sym, ap, ◌∙◌, arith}
use Rattle.std.proofs.lemmas.Bool.{lt-ltb, le-ltb}
use Rattle.std.proofs.lemmas.List.{at_drop_more, append-nil, append_assoc}
use Rattle.ancestor_model.specs.Above.{all_counted, looked_up}
use Rattle.ancestor_model.specs.Counts.{slot_count, counter_at}
use Rattle.rule_maps.specs.SlotView.{AreFilled, AreFirst, used_slots}

-- the first of a list and more are the first of both

first_more : (n : ℕ) (xs ys : List ℕ) → take n (take n xs ++ ys) ≡ take n (xs ++ ys)
first_more zero xs ys = refl
first_more (suc n) [] ys = refl
first_more (suc n) (x ∷ xs) ys = ap (λ l. x ∷ l) (first_more n xs ys)

pub first_pushed : (found new slots more : List ℕ) → new ≡ take looked_up (found ++ more) → AreFirst found slots → AreFirst new (slots ++ more)
first_pushed found new slots more e h = e ∙ (ap (λ l. take looked_up (l ++ more)) h ∙ first_more looked_up slots more)

pub first_none : (found slots : List ℕ) → AreFirst found slots → AreFirst found (slots ++ [])
first_none found slots h = h ∙ ap (take looked_up) (sym (append-nil slots))

pub first_joined : (found slots one other : List ℕ) → AreFirst found ((slots ++ one) ++ other) → AreFirst found (slots ++ (one ++ other))
first_joined found slots one other h = h ∙ ap (take looked_up) (append_assoc slots one other)

-- the slots of a list

used_here : (s : ℕ) (rest : List ℕ) → s < slot_count → used_slots (s ∷ rest) ≡ s ∷ used_slots rest
used_here s rest l = ap (λ b. if b then s ∷ used_slots rest else []) (lt-ltb s slot_count l)

unused_here : (s : ℕ) (rest : List ℕ) → slot_count ≤ s → used_slots (s ∷ rest) ≡ []
unused_here s rest l = ap (λ b. if b then s ∷ used_slots rest else []) (le-ltb s slot_count l)

used_filled : (list : List ℕ) (count : ℕ) → ((k : ℕ) → k < count → get_or list k 0 < slot_count)
    → ((k : ℕ) → count ≤ k → k < length list → slot_count ≤ get_or list k 0) → used_slots list ≡ take count list
used_filled [] zero used unused = refl
used_filled [] (suc count) used unused = refl
used_filled (s ∷ rest) zero used unused = unused_here s rest (unused 0 (omega arith) (omega arith))
used_filled (s ∷ rest) (suc count) used unused =
    used_here s rest (used 0 (omega arith))
    ∙ ap (λ l. s ∷ l) (used_filled rest count (λ k l. used (suc k) (omega arith)) (λ k h l. unused (suc k) (omega arith) (omega arith)))

pub slots_are : (list : List ℕ) (count : ℕ) → AreFilled list count → used_slots list ≡ take count list
slots_are list count f = used_filled list count f.used f.unused

-- the slots from an index on, which the filter has

module _ (filter list : List ℕ) (i s : ℕ) (l : i < length list) (is : s ≡ get_or list i s) where
  from_here : used_slots (drop i list) ≡ used_slots (s ∷ drop (i + 1) list)
  from_here = at_drop_more used_slots list i s l ∙ ap (λ n. used_slots (n ∷ drop (i + 1) list)) (sym is)

  from_used : s < slot_count → all_counted filter (used_slots (drop i list)) ≡ (nat_lt 0 (counter_at filter s) && all_counted filter (used_slots (drop (i + 1) list)))
  from_used h = ap (all_counted filter) (from_here ∙ used_here s (drop (i + 1) list) h)

  pub unused_counted : slot_count ≤ s → all_counted filter (used_slots (drop i list)) ≡ true
  unused_counted h = ap (all_counted filter) (from_here ∙ unused_here s (drop (i + 1) list) h)

  pub not_counted : s < slot_count → nat_lt 0 (counter_at filter s) ≡ false → all_counted filter (used_slots (drop i list)) ≡ false
  not_counted h e = from_used h ∙ ap (λ b. b && all_counted filter (used_slots (drop (i + 1) list))) e

  pub next_counted : s < slot_count → nat_lt 0 (counter_at filter s) ≡ true
      → all_counted filter (used_slots (drop i list)) ≡ all_counted filter (used_slots (drop (i + 1) list))
  next_counted h e = from_used h ∙ ap (λ b. b && all_counted filter (used_slots (drop (i + 1) list))) e

-- So far: what was found stands for some more slots, and these and the rest are all.
pub record SoFar (found slots rest all : List ℕ) : Type 0 where
  pub more : List ℕ
  pub first : AreFirst found (slots ++ more)
  pub joined : more ++ rest ≡ all

pub so_far_none : (found slots all : List ℕ) → AreFirst found slots → SoFar found slots all all
so_far_none found slots all h = record { more = []; first = first_none found slots h; joined = refl }

pub so_far_next : (found new slots one rest all left : List ℕ) → left ≡ one ++ rest → ((names : List ℕ) → AreFirst found names → AreFirst new (names ++ one))
    → SoFar found slots left all → SoFar new slots rest all
so_far_next found new slots one rest all left e pushed h = record {
  more = h.more ++ one;
  first = first_joined new slots h.more one (pushed (slots ++ h.more) h.first);
  joined = append_assoc h.more one rest ∙ (ap (λ l. h.more ++ l) (sym e) ∙ h.joined);
}

pub so_far_all : (found slots all left : List ℕ) → left ≡ [] → SoFar found slots left all → AreFirst found (slots ++ all)
so_far_all found slots all left e h =
    h.first ∙ ap (λ l. take looked_up (slots ++ l)) (sym (append-nil h.more) ∙ (ap (λ l. h.more ++ l) (sym e) ∙ h.joined))
