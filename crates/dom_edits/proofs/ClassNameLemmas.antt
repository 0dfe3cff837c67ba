-- For `of_classes`: the classes among the names of an element are the words of its value, each once.
use Rattle.std.proofs.Common.{◌≡◌, ℕ, ◌+◌, ◌<◌, Bool, true, false, cond, List, [], ◌∷◌, ◌++◌, map, drop, length, codes, Option, Some, None, IfSome, slice_get, refl, sym, ap, subst, ◌∙◌}
use Rattle.scene_model.specs.Element.{Element, Characters}
use Rattle.std.specs.Option.{option_and_then}
use Rattle.scene_model.specs.Lookups.{attribute_of, tag_of}
use Rattle.scene_model.specs.Words.{words}
use Rattle.stylo_base.specs.NameList.{interned, is_among}
use Rattle.dom_tree.specs.Classes.{distinct_from}
use Rattle.dom_tree.specs.ElementNames.{ElementName, named_as, names_of, names_with}
use Rattle.dom_tree.specs.Labels.{class_words, id_text}
use Rattle.dom_tree.specs.declared.element_names.NameKind.TheVariants.{Class}
use Rattle.dom_edits.specs.ClassNames.{class_text, class_texts}
use Rattle.dom_edits.proofs.JudgeLemmas.{drop_at}
use Rattle.dom_edits.proofs.WordLemmas.{interned_new, once_more}

-- words that are each once stay so

grown-once : (found : List Characters) (w : Characters) → distinct_from [] found ≡ found → distinct_from [] (interned found w) ≡ interned found w
grown-once found w once = by (is_among w found) refl
  where
    by : (b : Bool) → is_among w found ≡ b → distinct_from [] (interned found w) ≡ interned found w
    by true e =
        let same : interned found w ≡ found = ap (λ c. cond c found (found ++ w ∷ [])) e in
        subst (λ (l : List Characters). distinct_from [] l ≡ l) (sym same) once
    by false e =
        subst (λ (l : List Characters). distinct_from [] l ≡ l) (sym (interned_new found w e)) (once_more found w once e)

distinct-once : (found rest : List Characters) → distinct_from [] found ≡ found → distinct_from [] (distinct_from found rest) ≡ distinct_from found rest
distinct-once found [] once = once
distinct-once found (w ∷ rest) once = distinct-once (interned found w) rest (grown-once found w once)

words-kept : (value : Option Characters) → distinct_from [] (class_words value) ≡ class_words value
words-kept None = refl
words-kept (Some text) = distinct-once [] (words text) refl

-- the classes of an element

all-classes : (classes : List Characters) → class_texts (map (named_as Class) classes) ≡ classes
all-classes [] = refl
all-classes (w ∷ rest) = ap (λ l. w ∷ l) (all-classes rest)

texts-with : (tag : Characters) (id : Option Characters) (classes : List Characters) → class_texts (names_with tag id classes) ≡ classes
texts-with tag None classes = all-classes classes
texts-with tag (Some text) classes = all-classes classes

pub classes-are : (doc : List Element) (x : ℕ) (names : List ElementName) (found : List Characters) → names ≡ names_of doc x
    → found ≡ distinct_from [] (class_texts names) → found ≡ class_words (attribute_of doc x (codes "class"))
classes-are doc x names found is told =
    told
    ∙ (ap (λ (l : List ElementName). distinct_from [] (class_texts l)) is
    ∙ (ap (distinct_from []) (texts-with (tag_of doc x) (option_and_then id_text (attribute_of doc x (codes "id")))
    (class_words (attribute_of doc x (codes "class"))))
    ∙ words-kept (attribute_of doc x (codes "class"))))

-- one name more

distinct-append : (found xs ys : List Characters) → distinct_from found (xs ++ ys) ≡ distinct_from (distinct_from found xs) ys
distinct-append found [] ys = refl
distinct-append found (x ∷ xs) ys = distinct-append (interned found x) xs ys

pub class-added : (found new : List Characters) (names : List ElementName) (i : ℕ) → i < length names
    → IfSome (slice_get names i) (λ name. new ≡ distinct_from found (class_text name))
    → distinct_from new (class_texts (drop (i + 1) names)) ≡ distinct_from found (class_texts (drop i names))
class-added found new names i h told =
    let (name, at, is) = drop_at names i h in
    let added : new ≡ distinct_from found (class_text name) = subst (λ (o : Option ElementName). IfSome o (λ name. new ≡ distinct_from found (class_text name))) at told in
    ap (λ l. distinct_from l (class_texts (drop (i + 1) names))) added
    ∙ (sym (distinct-append found (class_text name) (class_texts (drop (i + 1) names))) ∙ ap (λ (l : List ElementName). distinct_from found (class_texts l)) (sym is))
