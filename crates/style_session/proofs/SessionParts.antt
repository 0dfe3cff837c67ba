-- For `Session`: the places of styles, what is above an element, and the counts of a list.
use Rattle.std.proofs.Common.{◌≡◌, ℕ, zero, suc, ◌<◌, ◌≤◌, ◌==◌, List, [], ◌∷◌, ◌++◌, length, map, Bool, true, false}
use Rattle.std.proofs.Common.{cond, not, ◌&&◌, ◌||◌, Option, Some, None, option_map, option_and_then, slice_set, refl, sym, ap, ◌∙◌, arith}
use Rattle.std.specs.List.{list_any}
use Rattle.std.specs.Arc.{arc_value}
use Rattle.std.specs.declared.sync.Arc.{Arc}
use Rattle.std.proofs.lemmas.Bool.{and_parts, eqb-true, eqb-false, not-true}
use Rattle.scene_model.specs.Element.{Element}
use Rattle.scene_model.specs.Lookups.{parent_of}
use Rattle.scene_model.specs.Ancestors.{ancestors}
use Rattle.scene_model.specs.Numbers.{is_in}
use Rattle.scene_model.specs.Valid.{IsValid}
use Rattle.scene_model.proofs.Climbing.{ancestors-child, ancestors-root}
use Rattle.value_model.specs.Style.{Style}
use Rattle.dom_tree.proofs.Places.{get_set_same, get_set_other}
use Rattle.invalidation_map.specs.EditMembers.{EditMembers}
use Rattle.style_session.specs.KeptView.{KeptView, slot_at, style_at}
use Rattle.style_session.specs.PendingView.{PendingMembers, are_settled, is_fresh_in, is_pending_in}

-- what is kept, by the places themselves
abbrev pub kept_of : {A : Type 0} → List (Option (Arc Style A)) → List ℕ → KeptView
kept_of slots recent = record { styles = map (option_map arc_value) slots; recent = recent }

-- a place of the list as it is seen
pub slot-seen : {A : Type 0} (slots : List (Option (Arc Style A))) (recent : List ℕ) (x : ℕ)
    → style_at (kept_of slots recent) x ≡ slot_at slots x
slot-seen [] recent zero = refl
slot-seen [] recent (suc x) = refl
slot-seen (o ∷ slots) recent zero = refl
slot-seen (o ∷ slots) recent (suc x) = slot-seen slots recent x

-- a style put at its place, or taken away from there

pub slot-put : {A : Type 0} (kept : List (Option (Arc Style A))) (n x : ℕ) (o : Option (Arc Style A)) → n < length kept
    → slot_at (slice_set kept n o) x ≡ cond (n == x) (option_map arc_value o) (slot_at kept x)
slot-put {A} kept n x o l = by_place (n == x) refl
  where
    by_place : (b : Bool) → (n == x) ≡ b → slot_at (slice_set kept n o) x ≡ cond b (option_map arc_value o) (slot_at kept x)
    by_place true e =
        ap (λ y. slot_at (slice_set kept n o) y) (sym (eqb-true n x e)) ∙ ap (option_and_then (option_map arc_value)) (get_set_same kept n o l)
    by_place false e = ap (option_and_then (option_map arc_value)) (get_set_other kept n x o (eqb-false n x e))

pub slot-set : {A : Type 0} (kept : List (Option (Arc Style A))) (n x : ℕ) (style : Arc Style A) → n < length kept
    → slot_at (slice_set kept n (Some style)) x ≡ cond (n == x) (Some (arc_value style)) (slot_at kept x)
slot-set kept n x style l = slot-put kept n x (Some style) l

none_past : {A : Type 0} (kept : List (Option (Arc Style A))) (x : ℕ) → length kept ≤ x → slot_at kept x ≡ None
none_past [] zero l = refl
none_past [] (suc x) l = refl
none_past (o ∷ kept) zero l = absurd (omega (arith, l))
none_past (o ∷ kept) (suc x) l = none_past kept x (omega (arith, l))

-- past the places there is none
pub slot-past : {A : Type 0} (kept : List (Option (Arc Style A))) (n x : ℕ) → length kept ≤ n → slot_at kept x ≡ cond (n == x) None (slot_at kept x)
slot-past kept n x l = by_place (n == x) refl
  where
    by_place : (b : Bool) → (n == x) ≡ b → slot_at kept x ≡ cond b None (slot_at kept x)
    by_place true e = ap (slot_at kept) (sym (eqb-true n x e)) ∙ none_past kept n l
    by_place false e = refl

-- what is marked or fresh from an element up

module _ (els : List Element) (v : IsValid els) (test : ℕ → Bool) where
  pub passed-up : (at p : ℕ) → parent_of els at ≡ Some p → test at ≡ false → list_any test (at ∷ ancestors els at) ≡ list_any test (p ∷ ancestors els p)
  passed-up at p e h =
      ap (λ b. b || list_any test (ancestors els at)) h ∙ ap (list_any test) (ancestors-child els v at p e)

  pub passed-top : (at : ℕ) → parent_of els at ≡ None → test at ≡ false → list_any test (at ∷ ancestors els at) ≡ false
  passed-top at e h =
      ap (λ b. b || list_any test (ancestors els at)) h ∙ ap (list_any test) (ancestors-root els v at e)

pub none-pass : (test : ℕ → Bool) → ((y : ℕ) → test y ≡ false) → (xs : List ℕ) → list_any test xs ≡ false
none-pass test none [] = refl
none-pass test none (x ∷ xs) = ap (λ b. b || list_any test xs) (none x) ∙ none-pass test none xs

-- a list of no length is empty
pub no-length : (xs : List ℕ) → (length xs == 0) ≡ true → xs ≡ []
no-length [] e = refl
no-length (x ∷ xs) e = let none : length (x ∷ xs) ≡ 0 = eqb-true (length (x ∷ xs)) 0 e in absurd (omega arith)

-- a place more, without a style
pub slot-more : {A : Type 0} (kept : List (Option (Arc Style A))) (x : ℕ) → slot_at (kept ++ None ∷ []) x ≡ slot_at kept x
slot-more [] zero = refl
slot-more [] (suc x) = refl
slot-more (o ∷ kept) zero = refl
slot-more (o ∷ kept) (suc x) = slot-more kept x

-- what is pending, by the sets that edits fill
abbrev pub pending_of : Bool → EditMembers → PendingMembers
pending_of all sets = record { marked = sets.marked; all_fresh = all; fresh = sets.fresh; gone = sets.gone; room = sets.room }

-- where nothing is marked or fresh no number is either

settled_parts : (pending : PendingMembers) → are_settled pending ≡ true
    → (pending.all_fresh ≡ false) × ((pending.fresh ≡ []) × (pending.marked ≡ []))
settled_parts pending h =
    let parts = and_parts (not pending.all_fresh) ((length pending.fresh == 0) && (length pending.marked == 0)) h in
    let empty = and_parts (length pending.fresh == 0) (length pending.marked == 0) parts.1 in
    (not-true pending.all_fresh parts.0, (no-length pending.fresh empty.0, no-length pending.marked empty.1))

pub settled-marks : (pending : PendingMembers) → are_settled pending ≡ true → pending.marked ≡ []
settled-marks pending h = (settled_parts pending h).1.1

pub settled-fresh : (pending : PendingMembers) → are_settled pending ≡ true → (x : ℕ) → is_fresh_in pending x ≡ false
settled-fresh pending h x =
    let parts = settled_parts pending h in
    ap (λ b. b || is_in x pending.fresh) parts.0 ∙ ap (is_in x) parts.1.0

pub settled-none : (pending : PendingMembers) → are_settled pending ≡ true → (x : ℕ) → is_pending_in pending x ≡ false
settled-none pending h x =
    ap (λ l. is_in x l || is_fresh_in pending x) (settled-marks pending h) ∙ settled-fresh pending h x
