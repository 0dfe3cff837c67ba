-- For `FirstWalk::style`: what a first walk in tree order has made of the elements that it has met stays right as it goes on.
use Rattle.std.proofs.Common.{◌≡◌, ℕ, zero, suc, ◌<◌, ◌==◌, List, [], ◌∷◌, ◌++◌, length, take, replicate, slice_get, slice_set, Bool, true, false, cond, ◌||◌, None, Some, Result, Ok, Err, refl}
use Rattle.std.proofs.Common.{sym, ap, subst, ◌∙◌, arith}
use Rattle.std.specs.Prelude.{IfOk}
use Rattle.std.proofs.lemmas.Bool.{eqb-true, eqb-false}
use Rattle.std.proofs.lemmas.List.{length-set, nil_from_length}
use Rattle.std.proofs.lemmas.List.Folds.{list_any-append}
use Rattle.std.proofs.lemmas.Option.{none-some, same_Some}
use Rattle.scene_model.specs.Lookups.{is_element, numbers}
use Rattle.scene_model.specs.Numbers.{is_in}
use Rattle.scene_model.specs.Scene.{Scene, elements_of}
use Rattle.scene_model.proofs.Found.{is_element-numbers}
use Rattle.value_model.specs.Style.{Style}
use Rattle.dom_tree.proofs.Places.{get_set_same, get_set_other}
use Rattle.session_model.specs.Standing.{root_size_in, style_in}
use Rattle.element_styler.proofs.CacheLemmas.{kept_at as kept_in}
use Rattle.style_session.specs.FirstWalking.{AreAll, AreKept, IsBareFirst, IsFirstWalk, IsRight, Keeps, finished, place_of, unknown}
use Rattle.style_session.specs.KeptView.{KeptView, slot_at, style_at}
use Rattle.style_session.specs.declared.derived.StyleCache.{StyleCache}
use Rattle.style_session.specs.declared.first_restyle.FirstWalk.{FirstWalk}
use Rattle.style_session.proofs.SessionParts.{slot-seen}

-- at the start no number is known

pub all-unknown : (places v x n : ℕ) → slice_get (replicate places v) x ≡ Some n → n ≡ v
all-unknown zero v x n is = absurd (none-some n is)
all-unknown (suc places) v zero n is = sym (same_Some v n is)
all-unknown (suc places) v (suc x) n is = all-unknown places v x n is

pub first-bare : (scene : Scene) (cache : StyleCache) (walk : FirstWalk) → IsBareFirst (elements_of scene) walk → cache.size ≡ root_size_in scene → IsFirstWalk scene cache walk
first-bare scene cache walk bare size = record {
  places = bare.places;
  room = bare.room;
  known = λ x n is below. absurd (omega (arith, bare.known x n is, below));
  size = size;
}

-- a table that has grown
pub first-grown : (scene : Scene) (was now : StyleCache) (walk : FirstWalk) → take (length was.styler.table) now.styler.table ≡ was.styler.table → now.size ≡ was.size
    → IsFirstWalk scene was walk → IsFirstWalk scene now walk
first-grown scene was now walk kept size w = record {
  places = w.places;
  room = w.room;
  known = λ x n is below. kept_in was.styler.table now.styler.table n (style_in scene x) kept (w.known x n is below);
  size = size ∙ w.size;
}

-- one style more

place_is : (style : ℕ) → place_of style < unknown → place_of style ≡ style
place_is style below = omega (arith, below)

right_set : (table : List Style) (known : List ℕ) (own : ℕ → Style) (x style y : ℕ) → x < length known → slice_get table style ≡ Some (own x) → IsRight table known y (own y)
    → IsRight table (slice_set known x (place_of style)) y (own y)
right_set table known own x style y within at right n is below = by (x == y) refl
  where
    by : (b : Bool) → (x == y) ≡ b → slice_get table n ≡ Some (own y)
    by true e =
        let here : slice_get (slice_set known x (place_of style)) x ≡ Some n = subst (λ z. slice_get (slice_set known x (place_of style)) z ≡ Some n) (sym (eqb-true x y e)) is in
        let same : place_of style ≡ n = same_Some (place_of style) n (sym (get_set_same known x (place_of style) within) ∙ here) in
        let number : n ≡ style = sym same ∙ place_is style (subst (λ m. m < unknown) (sym same) below) in
        ap (slice_get table) number ∙ (at ∙ ap (λ z. Some (own z)) (eqb-true x y e))
    by false e = right n (sym (get_set_other known x y (place_of style) (eqb-false x y e)) ∙ is) below

pub first-keeps : (scene : Scene) (cache : StyleCache) (x style : ℕ) (was now : FirstWalk) → x < length was.known.items → slice_get cache.styler.table style ≡ Some (style_in scene x)
    → IsFirstWalk scene cache was → Keeps x style (style_in scene x) was now → IsFirstWalk scene cache now
first-keeps scene cache x style was now within at w keeps = record {
  places = λ y there. subst (λ n. y < n) (sym keeps.places) (w.places y there);
  room = λ y there. subst (λ n. y < n) (sym (ap length keeps.known ∙ length-set was.known.items x (place_of style))) (w.room y there);
  known = λ y n is below. right_set cache.styler.table was.known.items (style_in scene) x style y within at (w.known y) n (ap (λ l. slice_get l y) (sym keeps.known) ∙ is) below;
  size = w.size;
}

pub kept-more : (scene : Scene) (front : List ℕ) (x style : ℕ) (was now : FirstWalk) → Keeps x style (style_in scene x) was now → AreKept scene front was.kept.items
    → AreKept scene (front ++ x ∷ []) now.kept.items
kept-more scene front x style was now keeps are y =
    keeps.kept y
    ∙ (by (is_in y front) (x == y) refl (are y)
    ∙ ap (λ b. cond b (Some (style_in scene y)) None) (sym (list_any-append (λ z. z == y) front (x ∷ []))))
  where
    by : (a b : Bool) → (x == y) ≡ b → slot_at was.kept.items y ≡ cond a (Some (style_in scene y)) None
        → cond b (Some (style_in scene x)) (slot_at was.kept.items y) ≡ cond (a || (b || false)) (Some (style_in scene y)) None
    by true true e h = ap (λ z. Some (style_in scene z)) (eqb-true x y e)
    by false true e h = ap (λ z. Some (style_in scene z)) (eqb-true x y e)
    by true false e h = h
    by false false e h = h

pub kept-none : (scene : Scene) (front : List ℕ) (walk : FirstWalk) → ((x : ℕ) → slot_at walk.kept.items x ≡ None) → length front ≡ 0 → AreKept scene front walk.kept.items
kept-none scene front walk empty none x =
    empty x ∙ sym (ap (λ l. cond (is_in x l) (Some (style_in scene x)) None) (nil_from_length front none))

-- once all were met
pub all-made : {E : Type 0} (scene : Scene) (walk : FirstWalk) (order : List ℕ) (result : Result KeptView E)
    → AreKept scene (numbers (elements_of scene)) walk.kept.items → order ≡ numbers (elements_of scene)
    → IfOk result (λ made. made ≡ finished walk order) → IfOk result (AreAll scene)
all-made scene walk order (Ok made) are is made_is = record {
  styles = λ x there. slot x ∙ ap (λ b. cond b (Some (style_in scene x)) None) there;
  absent = λ x none. slot x ∙ ap (λ b. cond b (Some (style_in scene x)) None) none;
  order = ap (λ (k : KeptView). k.recent) made_is ∙ is;
}
  where
    slot : (x : ℕ) → style_at made x ≡ cond (is_element (elements_of scene) x) (Some (style_in scene x)) None
    slot x =
        ap (λ (k : KeptView). style_at k x) made_is
        ∙ (slot-seen walk.kept.items order x
        ∙ (are x ∙ ap (λ b. cond b (Some (style_in scene x)) None) (sym (is_element-numbers (elements_of scene) x))))
all-made scene walk order (Err e) are is made_is = tt
