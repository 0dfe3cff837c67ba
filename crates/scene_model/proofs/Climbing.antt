-- Laws of the ancestors: an element's are its parent and its parent's.
use Rattle.std.proofs.Common.{◌≡◌, ℕ, zero, suc, ◌+◌, ◌<◌, ◌≤◌, List, [], ◌∷◌, length, Option, Some, None, All, refl, sym, ap, ◌∙◌, arith}
use Rattle.std.specs.List.{AllByRecursion}
use Rattle.std.proofs.lemmas.List.Elements.{All-from_recursion}
use Rattle.scene_model.specs.Element.{Element}
use Rattle.scene_model.specs.Lookups.{parent_of, IsElement}
use Rattle.scene_model.specs.Ancestors.{position_of, up, climb, ancestors, depth_of}
use Rattle.scene_model.specs.Valid.{IsValid}

-- two functions that agree at the parent, if there is one
pub same_up : (f g : ℕ → List ℕ) (o : Option ℕ) → ((p : ℕ) → o ≡ Some p → f p ≡ g p) → up f o ≡ up g o
same_up f g None h = refl
same_up f g (Some p) h = ap (λ l. p ∷ l) (h p refl)

nothing_up : (f : ℕ → List ℕ) (o : Option ℕ) → ((p : ℕ) → o ≡ Some p → p < 0) → up f o ≡ []
nothing_up f None h = refl
nothing_up f (Some p) h = let l : p < 0 = h p refl in absurd (omega arith)

pub up_each : (P : ℕ → Type 0) (f : ℕ → List ℕ) (o : Option ℕ) → ((p : ℕ) → o ≡ Some p → P p × AllByRecursion P (f p)) → AllByRecursion P (up f o)
up_each P f None h = tt
up_each P f (Some p) h = h p refl

module _ (doc : List Element) (v : IsValid doc) where
  pub parent-before : (x p : ℕ) → parent_of doc x ≡ Some p → position_of doc p < position_of doc x
  parent-before x p e = (v.parents x p e).1

  -- two amounts of steps that both suffice climb alike
  pub climb_alike : (n m x : ℕ) → position_of doc x ≤ n → position_of doc x ≤ m → climb doc n x ≡ climb doc m x
  climb_alike zero zero x h k = refl
  climb_alike zero (suc m) x h k =
      sym (nothing_up (climb doc m) (parent_of doc x) (λ p e. let l = parent-before x p e in absurd (omega arith)))
  climb_alike (suc n) zero x h k =
      nothing_up (climb doc n) (parent_of doc x) (λ p e. let l = parent-before x p e in absurd (omega arith))
  climb_alike (suc n) (suc m) x h k =
      same_up (climb doc n) (climb doc m) (parent_of doc x) (λ p e. let l = parent-before x p e in climb_alike n m p (omega arith) (omega arith))

  -- any amount of steps that suffices
  pub ancestors_climb : (n x : ℕ) → position_of doc x ≤ n → ancestors doc x ≡ climb doc n x
  unfolding ancestors
  ancestors_climb n x h = climb_alike (position_of doc x) n x (omega arith) h

  pub ancestors-up : (x : ℕ) → ancestors doc x ≡ up (ancestors doc) (parent_of doc x)
  ancestors-up x =
      ancestors_climb (suc (position_of doc x)) x (omega arith) ∙ same_up (climb doc (position_of doc x)) (ancestors doc) (parent_of doc x) (λ p e. let l = parent-before x p e in sym (ancestors_climb (position_of doc x) p (omega arith)))

  pub ancestors-child : (x p : ℕ) → parent_of doc x ≡ Some p → ancestors doc x ≡ p ∷ ancestors doc p
  ancestors-child x p e = ancestors-up x ∙ ap (up (ancestors doc)) e

  pub ancestors-root : (x : ℕ) → parent_of doc x ≡ None → ancestors doc x ≡ []
  ancestors-root x e = ancestors-up x ∙ ap (up (ancestors doc)) e

  pub depth_of-child : (x p : ℕ) → parent_of doc x ≡ Some p → depth_of doc x ≡ depth_of doc p + 1
  depth_of-child x p e = ap (λ l. length l + 1) (ancestors-child x p e) ∙ omega arith

  pub depth_of-root : (x : ℕ) → parent_of doc x ≡ None → depth_of doc x ≡ 1
  depth_of-root x e = ap (λ l. length l + 1) (ancestors-root x e)

  climb_each : (n x : ℕ) → AllByRecursion (IsElement doc) (climb doc n x)
  climb_each zero x = tt
  climb_each (suc n) x = up_each (IsElement doc) (climb doc n) (parent_of doc x) (λ p e. ((v.parents x p e).0, climb_each n p))

  -- each ancestor is an element of the document
  pub ancestors_each : (x : ℕ) → AllByRecursion (IsElement doc) (ancestors doc x)
  unfolding ancestors
  ancestors_each x = climb_each (position_of doc x) x

  pub ancestors-elements : (x : ℕ) → All (IsElement doc) (ancestors doc x)
  ancestors-elements x = All-from_recursion (IsElement doc) (ancestors doc x) (ancestors_each x)

climb_same : (doc other : List Element) → ((x : ℕ) → parent_of doc x ≡ parent_of other x) → (n x : ℕ) → climb doc n x ≡ climb other n x
climb_same doc other same zero x = refl
climb_same doc other same (suc n) x =
    same_up (climb doc n) (climb other n) (parent_of doc x) (λ p _. climb_same doc other same n p) ∙ ap (up (climb other n)) (same x)

-- the parents alone tell the ancestors
pub ancestors_same : (doc other : List Element) → IsValid doc → IsValid other → ((x : ℕ) → parent_of doc x ≡ parent_of other x) → (x : ℕ) → ancestors doc x ≡ ancestors other x
ancestors_same doc other v w same x =
    let n : ℕ = position_of doc x + position_of other x in
    ancestors_climb doc v n x (omega arith) ∙ (climb_same doc other same n x ∙ sym (ancestors_climb other w n x (omega arith)))
