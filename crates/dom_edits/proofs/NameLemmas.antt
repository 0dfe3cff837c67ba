-- What a change of `id`, of `class` and of another attribute touches beside the attribute.
use Rattle.std.proofs.Common.{◌≡◌, ℕ, ◌++◌, ◌∷◌, Bool, true, false, cond, List, [], map, codes, Option, refl, sym, ap, ◌∙◌, append-nil}
use Rattle.std.specs.Str.{bytes_eq, chars, IsUtf8}
use Rattle.std.proofs.lemmas.Bool.{cond-false}
use Rattle.std.proofs.lemmas.Slice.Eq.{bytes_eq-Decides}
use Rattle.base_model.specs.Text.{Characters, same_text}
use Rattle.stylo_base.proofs.TextLemmas.{chars-ascii}
use Rattle.dom_tree.proofs.GivenLemmas.{compared, id_text-IsUtf8, class_text-IsUtf8}
use Rattle.edit_model.specs.Touched.{Touch, attribute, id, class, same_optional}
use Rattle.edit_model.specs.TouchedPairs.{classes_between, ids_among, value_touches}
use Rattle.edit_model.proofs.TouchedPairLemmas.{text_turned}

-- what a change of an attribute touches beside the attribute itself
abbrev pub name_touches : Characters → Option Characters → Option Characters → List Touch
name_touches name before now =
    cond (same_text (codes "id") name) (map id (ids_among before now)) []
    ++ cond (same_text (codes "class") name) (map class (classes_between before now)) []

-- a name that was compared with `id` or `class`

pub is_id_name : (name : List ℕ) (answer b : Bool) → IsUtf8 name → answer ≡ bytes_eq name (codes "id") → answer ≡ b → same_text (codes "id") (chars name) ≡ b
is_id_name name answer b u e h =
    text_turned (codes "id") (chars name) ∙ (ap (same_text (chars name)) (sym (chars-ascii (codes "id") refl)) ∙ compared name (codes "id") answer b u id_text-IsUtf8 e h)

pub is_class_name : (name : List ℕ) (answer b : Bool) → IsUtf8 name → answer ≡ bytes_eq name (codes "class") → answer ≡ b → same_text (codes "class") (chars name) ≡ b
is_class_name name answer b u e h =
    text_turned (codes "class") (chars name) ∙ (ap (same_text (chars name)) (sym (chars-ascii (codes "class") refl)) ∙ compared name (codes "class") answer b u class_text-IsUtf8 e h)

module _ (name : Characters) (before now : Option Characters) where
  either : (a b : Bool) → same_text (codes "id") name ≡ a → same_text (codes "class") name ≡ b → name_touches name before now ≡ cond a (map id (ids_among before now)) [] ++ cond b (map class (classes_between before now)) []
  either a b e f = λ i. cond (e i) (map id (ids_among before now)) [] ++ cond (f i) (map class (classes_between before now)) []

  pub touches_id : same_text (codes "id") name ≡ true → name_touches name before now ≡ map id (ids_among before now)
  touches_id e =
      either true false e (ap (same_text (codes "class")) (sym ((bytes_eq-Decides (codes "id") name).0 e))) ∙ append-nil (map id (ids_among before now))

  pub touches_class : same_text (codes "id") name ≡ false → same_text (codes "class") name ≡ true → name_touches name before now ≡ map class (classes_between before now)
  touches_class e f = either false true e f

  pub touches_other : same_text (codes "id") name ≡ false → same_text (codes "class") name ≡ false → name_touches name before now ≡ []
  touches_other e f = either false false e f

  pub value_touched : (touches : List Touch) → same_optional before now ≡ false → touches ≡ (attribute name ∷ []) ++ name_touches name before now → touches ≡ value_touches name before now
  value_touched touches h e = e ∙ sym (cond-false (same_optional before now) [] (attribute name ∷ name_touches name before now) h)
