-- Words that are kept once are the same words.
use Rattle.std.proofs.Common.{◌≡◌, ℕ, Bool, true, false, cond, ◌||◌, List, [], ◌∷◌, ◌++◌, codes, Option, Some, None, sym, ap, ◌∙◌, refl}
use Rattle.std.specs.List.{list_any}
use Rattle.std.specs.Option.{option_map_or}
use Rattle.std.specs.Str.{bytes_eq}
use Rattle.std.proofs.lemmas.Slice.Eq.{bytes_eq-Decides}
use Rattle.std.proofs.Math.Bool.{or-false}
use Rattle.base_model.specs.Text.{same_text}
use Rattle.stylo_base.specs.NameList.{interned, is_among}
use Rattle.scene_model.specs.Document.{Document}
use Rattle.scene_model.specs.Element.{Characters}
use Rattle.scene_model.specs.Lookups.{attribute_of, has_class}
use Rattle.scene_model.specs.Words.{has_word, words}
use Rattle.dom_tree.specs.Classes.{distinct_from}
use Rattle.dom_tree.specs.Labels.{class_words}

or_same : (a b c : Bool) → ((a || b) || c) ≡ (a || (b || c))
or_same true b c = refl
or_same false b c = refl

pub any-last : (p : Characters → Bool) (xs : List Characters) (x : Characters) → list_any p (xs ++ x ∷ []) ≡ (list_any p xs || p x)
any-last p [] x = or-false (p x)
any-last p (y ∷ xs) x = ap (λ b. p y || b) (any-last p xs x) ∙ sym (or_same (p y) (list_any p xs) (p x))

-- one that is among them changes nothing
any-among : (p : Characters → Bool) (xs : List Characters) (x : Characters) → is_among x xs ≡ true → list_any p xs ≡ (list_any p xs || p x)
any-among p [] x h = absurd (cc)
any-among p (y ∷ xs) x h = by (any-among p xs x) (bytes_eq x y) refl h
  where
    twice : (a b : Bool) → (a || b) ≡ ((a || b) || a)
    twice true b = refl
    twice false true = refl
    twice false false = refl

    by : (is_among x xs ≡ true → list_any p xs ≡ (list_any p xs || p x)) → (b : Bool) → bytes_eq x y ≡ b → (b || is_among x xs) ≡ true → (p y || list_any p xs) ≡ ((p y || list_any p xs) || p x)
    by later true e h = twice (p y) (list_any p xs) ∙ ap (λ t. (p y || list_any p xs) || p t) (sym ((bytes_eq-Decides x y).0 e))
    by later false e h = ap (λ b. p y || b) (later h) ∙ sym (or_same (p y) (list_any p xs) (p x))

any-interned : (p : Characters → Bool) (xs : List Characters) (x : Characters) → list_any p (interned xs x) ≡ (list_any p xs || p x)
any-interned p xs x = by (is_among x xs) refl
  where
    by : (b : Bool) → is_among x xs ≡ b → list_any p (cond b xs (xs ++ x ∷ [])) ≡ (list_any p xs || p x)
    by true h = any-among p xs x h
    by false h = any-last p xs x

any-distinct : (p : Characters → Bool) (found rest : List Characters) → list_any p (distinct_from found rest) ≡ (list_any p found || list_any p rest)
any-distinct p found [] = sym (or-false (list_any p found))
any-distinct p found (x ∷ rest) =
    any-distinct p (interned found x) rest ∙ (ap (λ b. b || list_any p rest) (any-interned p found x) ∙ or_same (list_any p found) (p x) (list_any p rest))

asked : (class : Characters) (value : Option Characters) → list_any (same_text class) (class_words value) ≡ option_map_or (has_word class) value false
asked class None = refl
asked class (Some value) = any-distinct (same_text class) [] (words value)

-- a class among the words of `class`, each once
pub class_asked : (now : Document) (x : ℕ) (class : Characters) → list_any (same_text class) (class_words (attribute_of now.elements x (codes "class"))) ≡ has_class now.elements x class
class_asked now x class = asked class (attribute_of now.elements x (codes "class"))
