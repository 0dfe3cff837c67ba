-- The place of a slot in the list, found from the front.
use Rattle.std.proofs.Common.{◌≡◌, ℕ, suc, ◌+◌, ◌<◌, List, ◌∷◌, ◌++◌, length, take, drop, get_or, set, Equal, nat_cmp, sym, ap, ap₂, ◌∙◌, add-one}
use Rattle.std.proofs.Math.Seq.{drop-cons}
use Rattle.std.proofs.lemmas.List.{take-append-drop, take-set, drop-set}
use Rattle.std.specs.Ordering.{match_ordering}
use Rattle.std.specs.Cmp.Lexicographic.{slice_cmp}
use Rattle.job_json.specs.declared.slots.Slot.{Slot}
use Rattle.job_json.specs.Slots.{put_slot}

set_is : (slots : List Slot) (i : ℕ) (slot : Slot) → i < length slots → take i slots ++ slot ∷ drop (i + 1) slots ≡ set slots i slot
set_is slots i slot fits = ap₂ (λ a b. a ++ b) (sym (take-set slots i slot)) (sym (drop-set slots i slot fits)) ∙ take-append-drop i (set slots i slot)

-- where the slot at the place has the same key
pub place_here : (slots : List Slot) (i : ℕ) (d slot : Slot) (name : List ℕ) → slot.name.now ≡ name
    → Equal ≡ slice_cmp nat_cmp name (get_or slots i d).name.now → i < length slots → put_slot slot slots ≡ take i slots ++ put_slot slot (drop i slots)
    → put_slot slot slots ≡ set slots i slot
place_here slots i d slot name same is fits so_far =
    let e = ap (λ k. slice_cmp nat_cmp k (get_or slots i d).name.now) same ∙ sym is in
    let rest = drop (suc i) slots in
    let x = get_or slots i d in
    let there : put_slot slot (drop i slots) ≡ slot ∷ rest = ap (put_slot slot) (drop-cons slots i d fits) ∙ ap (λ o. match_ordering o (slot ∷ x ∷ rest) (slot ∷ rest) (x ∷ put_slot slot rest)) e in
    so_far ∙ (ap (λ r. take i slots ++ r) there ∙ (ap (λ n. take i slots ++ slot ∷ drop n slots) (sym (add-one i)) ∙ set_is slots i slot fits))
