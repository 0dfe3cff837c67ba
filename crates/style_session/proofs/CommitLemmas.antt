-- For `keep_all`: styles that come to their places one after another, from the last of a list to the first.
use Rattle.std.proofs.Common.{◌≡◌, ℕ, ◌+◌, ◌<◌, ◌==◌, List, [], ◌∷◌, ◌++◌, map, find, length, take, get_or, Bool, true, false, cond, not, ◌&&◌, ◌||◌, Option, Some, None, option_map, slice_set}
use Rattle.std.proofs.Common.{refl, sym, ap, ◌∙◌}
use Rattle.std.specs.List.{AllByRecursion}
use Rattle.std.specs.Option.{option_or}
use Rattle.std.specs.declared.sync.Arc.{Arc}
use Rattle.std.specs.declared.alloc.Global.{Global}
use Rattle.std.proofs.lemmas.Bool.{eqb-true, or_right}
use Rattle.scene_model.specs.Element.{Element}
use Rattle.scene_model.specs.Lookups.{is_element}
use Rattle.scene_model.specs.Numbers.{is_in}
use Rattle.value_model.specs.Style.{Style}
use Rattle.session_model.proofs.OwnLayers.{each-end, each-start}
use Rattle.session_model.specs.Walk as walk
use Rattle.session_model.specs.Walk.{result_at}
use Rattle.style_session.specs.Answers.{styled_seen}
use Rattle.style_session.specs.KeptView.{is_gone, slot_at}
use Rattle.style_session.specs.declared.styled.Styled.{Styled}
use Rattle.style_session.proofs.SessionParts.{slot-set}
use Rattle.style_session.proofs.WalkLemmas.{in_more}

-- what is not left is at its place, and the other places are as before
pub record ArePlaced (all left : List Styled) (before now : ℕ → Option Style) : Type 0 where
  pub done : List walk.Styled
  pub parts : map styled_seen left ++ done ≡ map styled_seen all
  pub slots : (x : ℕ) → now x ≡ option_or (result_at done x) (before x)

append-none : {X : Type 0} (xs : List X) → xs ++ [] ≡ xs
append-none [] = refl
append-none (x ∷ xs) = ap (λ l. x ∷ l) (append-none xs)

pub placed-start : (all : List Styled) (before : ℕ → Option Style) → ArePlaced all all before before
placed-start all before = record { done = []; parts = append-none (map styled_seen all); slots = λ x. refl }

seen-next : (xs : List Styled) (x : Styled) (done : List walk.Styled) → map styled_seen (xs ++ x ∷ []) ++ done ≡ map styled_seen xs ++ styled_seen x ∷ done
seen-next [] x done = refl
seen-next (y ∷ xs) x done = ap (λ l. styled_seen y ∷ l) (seen-next xs x done)

one-placed : (before now later : ℕ → Option Style) (done : List walk.Styled) (one : walk.Styled) → ((x : ℕ) → now x ≡ option_or (result_at done x) (before x))
    → ((x : ℕ) → later x ≡ cond (one.number == x) (Some one.style) (now x)) → (x : ℕ) → later x ≡ option_or (result_at (one ∷ done) x) (before x)
one-placed before now later done one h k x = k x ∙ by_place (one.number == x)
  where
    by_place : (b : Bool) → cond b (Some one.style) (now x) ≡ option_or (option_map (λ (s : walk.Styled). s.style) (cond b (Some one) (find (λ (s : walk.Styled). s.number == x) done))) (before x)
    by_place true = refl
    by_place false = h x

pub placed-next : (all old left : List Styled) (one : Styled) (before : ℕ → Option Style) (kept later : List (Option (Arc Style Global))) → ArePlaced all old before (slot_at kept)
    → old ≡ left ++ one ∷ [] → one.number < length kept → later ≡ slice_set kept one.number (Some one.style) → ArePlaced all left before (slot_at later)
placed-next all old left one before kept later placed popped within set = record {
  done = styled_seen one ∷ placed.done;
  parts = sym (ap (λ l. map styled_seen l ++ placed.done) popped ∙ seen-next left one placed.done) ∙ placed.parts;
  slots = one-placed before (slot_at kept) (slot_at later) placed.done (styled_seen one) placed.slots (λ x. ap (λ l. slot_at l x) set ∙ slot-set kept one.number x one.style within);
}

pub placed-end : (all left : List Styled) (before now : ℕ → Option Style) → ArePlaced all left before now → left ≡ [] → (x : ℕ) → now x ≡ option_or (result_at (map styled_seen all) x) (before x)
placed-end all left before now placed none x =
    let done : placed.done ≡ map styled_seen all = sym (ap (λ l. map styled_seen l ++ placed.done) none) ∙ placed.parts in
    placed.slots x ∙ ap (λ l. option_or (result_at l x) (before x)) done

-- room for a list is room for its last and for those before it
pub room-popped : (old left : List Styled) (one : Styled) (places : ℕ) → AllByRecursion (λ (s : Styled). s.number < places) old → old ≡ left ++ one ∷ []
    → AllByRecursion (λ (s : Styled). s.number < places) left × (one.number < places)
room-popped old left one places room popped =
    let all : AllByRecursion (λ (s : Styled). s.number < places) (left ++ one ∷ []) = rw popped at room in
    (each-start (λ (s : Styled). s.number < places) left (one ∷ []) all, (each-end (λ (s : Styled). s.number < places) left (one ∷ []) all).0)

-- styles of numbers that no element has any more are dropped, one after another

module _ (doc : List Element) (list : List ℕ) (i : ℕ) (below : i < length list) (before now : ℕ → Option Style) (same : (y : ℕ) → now y ≡ cond (is_gone doc (take i list) y) None (before y)) where
  abbrev next : ℕ
  next = get_or list i 0

  in_next : (y : ℕ) (b : Bool) → (next == y) ≡ b → is_in y (take (i + 1) list) ≡ (is_in y (take i list) || (b || false))
  in_next y b e = in_more list i y below ∙ ap (λ c. is_in y (take i list) || (c || false)) e

  none_more : (a : Bool) → (a || (false || false)) ≡ a
  none_more true = refl
  none_more false = refl

  -- another number
  other : (y : ℕ) → (next == y) ≡ false → is_gone doc (take i list) y ≡ is_gone doc (take (i + 1) list) y
  other y e = ap (λ b. b && not (is_element doc y)) (sym (in_next y false e ∙ none_more (is_in y (take i list))))

  pub dropped-more : (later : ℕ → Option Style) → is_element doc next ≡ false → ((y : ℕ) → later y ≡ cond (next == y) None (now y)) → (y : ℕ)
      → later y ≡ cond (is_gone doc (take (i + 1) list) y) None (before y)
  dropped-more later gone drops y = by (next == y) refl (drops y)
    where
      by : (b : Bool) → (next == y) ≡ b → later y ≡ cond b None (now y) → later y ≡ cond (is_gone doc (take (i + 1) list) y) None (before y)
      by true e h =
          let none : is_element doc y ≡ false = ap (is_element doc) (sym (eqb-true next y e)) ∙ gone in
          let is : is_gone doc (take (i + 1) list) y ≡ true = ap (λ b. b && not (is_element doc y)) (in_next y true e ∙ or_right (is_in y (take i list)) true refl) ∙ ap not none in
          h ∙ ap (λ b. cond b None (before y)) (sym is)
      by false e h = h ∙ (same y ∙ ap (λ b. cond b None (before y)) (other y e))

  -- one that is an element stays
  pub dropped-passed : is_element doc next ≡ true → (y : ℕ) → now y ≡ cond (is_gone doc (take (i + 1) list) y) None (before y)
  dropped-passed there y = same y ∙ ap (λ b. cond b None (before y)) (by (next == y) refl)
    where
      none : (a b : Bool) → b ≡ true → (a && not b) ≡ false
      none true b e = ap not e
      none false b e = refl

      by : (b : Bool) → (next == y) ≡ b → is_gone doc (take i list) y ≡ is_gone doc (take (i + 1) list) y
      by true e =
          let here : is_element doc y ≡ true = ap (is_element doc) (sym (eqb-true next y e)) ∙ there in
          none (is_in y (take i list)) (is_element doc y) here ∙ sym (none (is_in y (take (i + 1) list)) (is_element doc y) here)
      by false e = other y e
