-- Sets of words that grow.
use Rattle.std.proofs.Common.{◌≡◌, false, cond, List, [], ◌∷◌, ◌++◌, Option, Some, None, option_map, refl, sym, subst, ap, ◌∙◌}
use Rattle.std.specs.Option.{IfSome}
use Rattle.scene_model.specs.Element.{Characters}
use Rattle.stylo_base.specs.NameList.{interned, is_among}
use Rattle.dom_tree.specs.Classes.{distinct_from}

distinct-last : (found xs : List Characters) (w : Characters) → distinct_from found (xs ++ w ∷ []) ≡ interned (distinct_from found xs) w
distinct-last found [] w = refl
distinct-last found (x ∷ xs) w = distinct-last (interned found x) xs w

pub interned_new : (xs : List Characters) (w : Characters) → is_among w xs ≡ false → interned xs w ≡ xs ++ w ∷ []
interned_new xs w h = ap (λ b. cond b xs (xs ++ w ∷ [])) h

-- one more word, which is not among them
pub once_more : (xs : List Characters) (w : Characters) → distinct_from [] xs ≡ xs → is_among w xs ≡ false → distinct_from [] (xs ++ w ∷ []) ≡ xs ++ w ∷ []
once_more xs w once h = distinct-last [] xs w ∙ (ap (λ l. interned l w) once ∙ interned_new xs w h)

-- an index, with one word more
pub index_grown : (index new : Option (List Characters)) (xs longer : List Characters) (w : Characters) → is_among w xs ≡ false → longer ≡ xs ++ w ∷ [] → new ≡ option_map (λ l. interned l w) index → IfSome index (λ l. l ≡ xs) → IfSome new (λ l. l ≡ longer)
index_grown None new xs longer w apart e f h = subst (λ o. IfSome o (λ l. l ≡ longer)) (sym f) tt
index_grown (Some l) new xs longer w apart e f h = subst (λ o. IfSome o (λ l. l ≡ longer)) (sym f) (ap (λ k. interned k w) h ∙ (interned_new xs w apart ∙ sym e))

pub map_twice : {A : Type 0} (f : A → List Characters) (w : Characters) (index : Option A) → option_map (λ a. interned (f a) w) index ≡ option_map (λ l. interned l w) (option_map f index)
map_twice f w None = refl
map_twice f w (Some a) = refl
