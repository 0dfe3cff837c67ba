-- For `make`: room for what an edit of a document comes to, what it makes fresh, and what it takes away.
use Rattle.std.proofs.Common.{◌≡◌, ℕ, ◌<◌, ◌≤◌, List, Bool, true, false, cond, not, ◌||◌, ◌&&◌, nat_lt, Option, Some, None, IfSome, refl, sym, ap, subst, ◌∙◌, arith}
use Rattle.std.specs.Option.{option_map_or}
use Rattle.std.proofs.lemmas.Bool.{false≢true, le-ltb}
use Rattle.scene_model.specs.Document.{Document}
use Rattle.scene_model.specs.Lookups.{is_element, IsElement}
use Rattle.scene_model.specs.Numbers.{is_in}
use Rattle.scene_model.proofs.Found.{parent_of-element}
use Rattle.change_model.specs.Fresh.{is_still}
use Rattle.change_model.specs.Sound.{is_below, IsSound}
use Rattle.change_model.proofs.InPlace.{here, IsInPlace-here, is_element-map, IsInPlace-attribute, IsInPlace-no_attribute, IsInPlace-state}
use Rattle.change_model.proofs.Moved.{is_below-moved, is_element-moved}
use Rattle.edit_model.specs.Apply.{after, applied, is_fresh, refusal}
use Rattle.edit_model.specs.Edit.{DocEdit, insert, remove, move, set, unset, set_state, IsShaped}
use Rattle.edit_model.specs.Refusal.{Refusal, accepted, outcome_of}
use Rattle.edit_model.proofs.Accepted.{of_move, of_remove, sound-after}
use Rattle.dom_edits.specs.Plans.{changes_a_list, element_moved, element_taken}
use Rattle.invalidation_map.specs.Steps.{HasRoom}
use Rattle.invalidation_map.proofs.SetLemmas.{or_no}
use Rattle.style_session.specs.Edits.{AreFreshToo, AreGoneToo}
use Rattle.style_session.specs.PendingView.{PendingMembers, is_fresh_in}
use Rattle.style_session.proofs.EditedLemmas.{last_stays}
use Rattle.style_session.proofs.TreeEdits.{gone-inserted, gone-moved, gone-removed, gone-same}

-- an accepted edit is not refused, and the document is the one after it
pub accepted_is : (d new : Document) (edit : DocEdit) → applied d edit ≡ accepted new → (refusal d edit ≡ None) × (after d edit ≡ new)
accepted_is d new edit h = by (refusal d edit) refl h
  where
    by : (o : Option Refusal) → refusal d edit ≡ o → outcome_of o (after d edit) ≡ accepted new → (refusal d edit ≡ None) × (after d edit ≡ new)
    by None e k = (e, cc)
    by (Some why) e k = absurd (cc)

module _ (d : Document) (s : IsSound d) where
  -- where no list of children changes each element stays, and none comes
  same-elements : (edit : DocEdit) → refusal d edit ≡ None → changes_a_list d edit ≡ false → (x : ℕ) → is_element (after d edit).elements x ≡ is_element d.elements x
  same-elements (insert p index nodes) h same x = absurd (false≢true (sym same))
  same-elements (remove n) h same x = absurd (false≢true (sym same))
  same-elements (move n p index) h same x = let (o, can) = of_move d s n p index h in is_element-moved can index x
  same-elements (set y name text) h same x =
      is_element-map (here y _) (IsInPlace-here y _ (IsInPlace-attribute name text)).number d.elements x
  same-elements (unset y name) h same x =
      is_element-map (here y _) (IsInPlace-here y _ (IsInPlace-no_attribute name)).number d.elements x
  same-elements (set_state y state on) h same x =
      is_element-map (here y _) (IsInPlace-here y _ (IsInPlace-state state on)).number d.elements x

  module _ (edit : DocEdit) (w : IsShaped edit) (h : refusal d edit ≡ None) where
    last-after : (x : ℕ) → IsElement (after d edit).elements x → x ≤ (after d edit).last
    last-after x there = ((sound-after d s edit w h).given x there).1

    -- room up to the last number is room for each element, before and afterwards

    pub room-after : (room : ℕ) → (after d edit).last < room → HasRoom (after d edit).elements room
    room-after room enough x there = let near = last-after x there in omega (arith, near, enough)

    pub room-before : (room : ℕ) → (after d edit).last < room → HasRoom d.elements room
    room-before room enough x there = let given = (s.given x there).1 in omega (arith, given, last_stays d edit, enough)

  -- what a move makes of an element, unless it is there already
  module _ (n p index : ℕ) (h : refusal d (move n p index) ≡ None) where
    abbrev later : Document
    later = after d (move n p index)

    abbrev still : Bool
    still = is_still d.elements later.elements n

    top-there : IsElement later.elements n
    top-there = let (o, can) = of_move d s n p index h in is_element-moved can index n ∙ parent_of-element d.elements n o can.parent

    if-moved : (P : ℕ → Type 0) (b : Bool) → (b ≡ false → P n) → IfSome (cond b None (Some n)) P
    if-moved P true holds = tt
    if-moved P false holds = holds refl

    below-moved : (b : Bool) (x : ℕ) → option_map_or (λ top. is_below later.elements top x) (cond b None (Some n)) false ≡ (not b && is_below d.elements n x)
    below-moved true x = refl
    below-moved false x = let (o, can) = of_move d s n p index h in is_below-moved can index x

  pub moved-there : (edit : DocEdit) → refusal d edit ≡ None → IfSome (element_moved d edit) (IsElement (after d edit).elements)
  moved-there (insert p index nodes) h = tt
  moved-there (remove n) h = tt
  moved-there (move n p index) h =
      if-moved n p index h (IsElement (later n p index h).elements) (still n p index h) (λ e. top-there n p index h)
  moved-there (set y name text) h = tt
  moved-there (unset y name) h = tt
  moved-there (set_state y state on) h = tt

  -- what an edit makes fresh: the numbers that it gives, and what is below an element that it moves

  abbrev pub freshens : DocEdit → ℕ → Bool
  freshens edit x =
      nat_lt d.last x || option_map_or (λ top. is_below (after d edit).elements top x) (element_moved d edit) false

  none-given : (edit : DocEdit) → IsShaped edit → refusal d edit ≡ None → (after d edit).last ≡ d.last → (x : ℕ) → IsElement (after d edit).elements x → nat_lt d.last x ≡ false
  none-given edit w h same x there = le-ltb d.last x (let near = last-after edit w h x there in omega (arith, near, same))

  freshens-is : (edit : DocEdit) → IsShaped edit → refusal d edit ≡ None → (x : ℕ) → IsElement (after d edit).elements x → freshens edit x ≡ is_fresh d edit x
  freshens-is (insert p index nodes) w h x there = sym (or_no (nat_lt d.last x))
  freshens-is (remove n) w h x there = sym (or_no (nat_lt d.last x)) ∙ none-given (remove n) w h refl x there
  freshens-is (move n p index) w h x there =
      ap (λ b. b || option_map_or (λ top. is_below (later n p index h).elements top x) (element_moved d (move n p index)) false) (none-given (move n p index) w h refl x there)
      ∙ below-moved n p index h (still n p index h) x
  freshens-is (set y name text) w h x there = sym (or_no (nat_lt d.last x)) ∙ none-given (set y name text) w h refl x there
  freshens-is (unset y name) w h x there = sym (or_no (nat_lt d.last x)) ∙ none-given (unset y name) w h refl x there
  freshens-is (set_state y state on) w h x there =
      sym (or_no (nat_lt d.last x)) ∙ none-given (set_state y state on) w h refl x there

  pub fresh-after : (edit : DocEdit) → IsShaped edit → refusal d edit ≡ None → (before now : PendingMembers)
      → ((x : ℕ) → x ≤ (after d edit).last → is_fresh_in now x ≡ (is_fresh_in before x || freshens edit x))
      → AreFreshToo d (after d edit) edit before now
  fresh-after edit w h before now grown = λ x there.
      grown x (last-after edit w h x there) ∙ ap (λ b. is_fresh_in before x || b) (freshens-is edit w h x there)

  -- the numbers of what is taken out

  gone-stay : (edit : DocEdit) → refusal d edit ≡ None → changes_a_list d edit ≡ false → (gone : List ℕ) → AreGoneToo d (after d edit) gone gone
  gone-stay edit h same gone = gone-same d (after d edit) gone (λ x there. same-elements edit h same x ∙ there)

  pub gone-kept : (edit : DocEdit) → IsShaped edit → refusal d edit ≡ None → element_taken edit ≡ None → (gone : List ℕ) → AreGoneToo d (after d edit) gone gone
  gone-kept (insert p index nodes) w h none gone = gone-inserted d s p index nodes w h gone
  gone-kept (remove n) w h none gone = absurd (cc)
  gone-kept (move n p index) w h none gone = gone-moved d s n p index h gone
  gone-kept (set y name text) w h none gone = gone-stay (set y name text) h refl gone
  gone-kept (unset y name) w h none gone = gone-stay (unset y name) h refl gone
  gone-kept (set_state y state on) w h none gone = gone-stay (set_state y state on) h refl gone

  pub gone-taken : (edit : DocEdit) → refusal d edit ≡ None → (n : ℕ) → element_taken edit ≡ Some n
      → (gone now : List ℕ) → ((x : ℕ) → is_in x now ≡ (is_in x gone || is_below d.elements n x))
      → AreGoneToo d (after d edit) gone now
  gone-taken (insert p index nodes) h n is gone now grown = absurd (cc)
  gone-taken (remove y) h n is gone now grown =
      gone-removed d s y h gone now (λ x. grown x ∙ ap (λ z. is_in x gone || is_below d.elements z x) (same n y is))
    where
      same : (n y : ℕ) → Some y ≡ Some n → n ≡ y
      same n y e = cc
  gone-taken (move y p index) h n is gone now grown = absurd (cc)
  gone-taken (set y name text) h n is gone now grown = absurd (cc)
  gone-taken (unset y name) h n is gone now grown = absurd (cc)
  gone-taken (set_state y state on) h n is gone now grown = absurd (cc)

  pub taken-there : (edit : DocEdit) → refusal d edit ≡ None → (n : ℕ) → element_taken edit ≡ Some n → IsElement d.elements n
  taken-there (insert p index nodes) h n is = absurd (cc)
  taken-there (remove y) h n is =
      let (o, can) = of_remove d s y h in
      subst (IsElement d.elements) (same n y is) (parent_of-element d.elements y o can.parent)
    where
      same : (n y : ℕ) → Some y ≡ Some n → y ≡ n
      same n y e = cc
  taken-there (move y p index) h n is = absurd (cc)
  taken-there (set y name text) h n is = absurd (cc)
  taken-there (unset y name) h n is = absurd (cc)
  taken-there (set_state y state on) h n is = absurd (cc)
