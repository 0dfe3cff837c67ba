-- For `Filter::push` and `Filter::pop`: the names of an element, one after another.
use Rattle.std.proofs.Common.{◌≡◌, ℕ, zero, suc, ◌+◌, ◌%◌, ◌<◌, nat_lt, List, [], ◌∷◌, ◌++◌, length, map, take, drop, slice_get, codes, encode_utf8_all}
use Rattle.std.proofs.Common.{Bool, true, false, not, cond, ◌&&◌, Option, Some, None, IfSome, option_and_then, option_to_list, refl, sym, ap, ◌∙◌, subst, arith, inl, inr}
use Rattle.std.specs.List.{list_any}
use Rattle.std.specs.Option.{option_map_or}
use Rattle.std.proofs.lemmas.Bool.{or_cases, or_left, or_right, ltb-false, false≢true}
use Rattle.std.proofs.lemmas.List.{take_at}
use Rattle.std.proofs.lemmas.List.Folds.{list_any-append}
use Rattle.std.proofs.lemmas.Slice.Eq.{bytes_eq-Decides}
use Rattle.base_model.specs.Text.{Characters, same_text, is_empty_text}
use Rattle.scene_model.specs.Document.{Document}
use Rattle.scene_model.specs.Element.{Element}
use Rattle.scene_model.specs.Ancestors.{ancestors}
use Rattle.scene_model.specs.Lookups.{attribute_of, tag_of}
use Rattle.scene_model.specs.Valid.{IsValid}
use Rattle.selector_model.specs.Holds.{holds, is_id, passes}
use Rattle.selector_model.specs.Selector.{Selector, type_selector, id_selector, class_selector}
use Rattle.stylo_base.specs.NameKey.{key_of}
use Rattle.dom_tree.specs.ElementNames.{ElementName, named_as}
use Rattle.dom_tree.specs.Labels.{class_words, id_text}
use Rattle.dom_tree.specs.declared.element_names.NameKind.TheVariants.{Id, Class}
use Rattle.dom_tree.proofs.WordsOnce.{class_asked}
use Rattle.ancestor_model.specs.Above.{all_counted, ancestor_slots, has_name, NameAll}
use Rattle.ancestor_model.specs.Counts.{slot_count, counter_at, Counts, at_each, raised, lowered, all_at}
use Rattle.ancestor_model.proofs.CountLemmas.{push, pop, counts_nothing}
use Rattle.ancestor_model.proofs.FilterLemmas.{none_has, rejected}
use Rattle.ancestor_filter.specs.Names.{slot, texts, names_of, StandsFor}

pub slot_within : (name : Characters) → slot name < slot_count
slot_within name = omega arith

-- a change at each name

-- this is the key of a name that there may be
abbrev IsKey : ℕ → Option ElementName → Type 0
IsKey key name = IfSome name (λ n. key ≡ key_of (encode_utf8_all n.text))

at_next : (change : ℕ → List ℕ → List ℕ) (names : List ElementName) (k key : ℕ) (f : List ℕ) → k < length names → IsKey key (slice_get names k)
    → at_each slot change (texts (drop (k + 1) names)) (change (key % slot_count) f) ≡ at_each slot change (texts (drop k names)) f
at_next change [] k key f l is = absurd (omega (arith, l))
at_next change (name ∷ names) zero key f l is = ap (λ n. at_each slot change (texts names) (change (n % slot_count) f)) is
at_next change (name ∷ names) (suc k) key f l is =
    let further : suc k + 1 ≡ suc (k + 1) = omega arith in
    ap (λ n. at_each slot change (texts (drop n (name ∷ names))) (change (key % slot_count) f)) further ∙ at_next change names k key f (omega (arith, l)) is

pub each_next : (change : ℕ → List ℕ → List ℕ) (names : List ElementName) (k key : ℕ) (f g all : List ℕ) → k < length names → IsKey key (slice_get names k)
    → g ≡ change (key % slot_count) f → at_each slot change (texts (drop k names)) f ≡ all → at_each slot change (texts (drop (k + 1) names)) g ≡ all
each_next change names k key f g all l is e h =
    ap (at_each slot change (texts (drop (k + 1) names))) e ∙ (at_next change names k key f l is ∙ h)

pub pushes : (doc : List Element) (x : ℕ) (old new : List ℕ) → at_each slot raised (names_of doc x) old ≡ new → (l : List ℕ) → StandsFor doc l old → StandsFor doc (x ∷ l) new
pushes doc x old new e l stands = subst (StandsFor doc (x ∷ l)) e (push slot (names_of doc) x l old stands)

pub pops : (doc : List Element) (x : ℕ) (old new : List ℕ) → at_each slot lowered (names_of doc x) old ≡ new → (l : List ℕ) → StandsFor doc (x ∷ l) old → StandsFor doc l new
pops doc x old new e l stands = subst (StandsFor doc l) e (pop slot (names_of doc) x l old stands)

-- the names are all that an element has

texts_classes : (words : List Characters) → texts (map (named_as Class) words) ≡ words
texts_classes [] = refl
texts_classes (word ∷ words) = ap (λ l. word ∷ l) (texts_classes words)

texts_named : (ids words : List Characters) → texts (map (named_as Id) ids ++ map (named_as Class) words) ≡ ids ++ words
texts_named [] words = texts_classes words
texts_named (id ∷ ids) words = ap (λ l. id ∷ l) (texts_named ids words)

turned_text : (a b : Characters) → same_text a b ≡ true → same_text b a ≡ true
turned_text a b e = (bytes_eq-Decides b a).1 (sym ((bytes_eq-Decides a b).0 e))

pub id_named : (name : Characters) (o : Option Characters) → option_map_or (is_id name) o false ≡ true → list_any (same_text name) (option_to_list (option_and_then id_text o)) ≡ true
id_named name None h = absurd (false≢true h)
id_named name (Some value) h = by (is_empty_text value) h
  where
    by : (b : Bool) → (not b && same_text value name) ≡ true → list_any (same_text name) (option_to_list (cond b None (Some value))) ≡ true
    by true e = absurd (false≢true e)
    by false e =
        or_left (same_text name value) false (turned_text value name e)

pub names_all : (doc : Document) → NameAll doc.elements (names_of doc.elements)
names_all doc x name h =
    ap (λ l. list_any (same_text name) (tag_of doc.elements x ∷ l)) (texts_named ids words)
    ∙ elim (or_cases (passes doc.elements (type_selector name) x) _ h) [
      | inl tag ↦ or_left (same_text name (tag_of doc.elements x)) _ (turned_text (tag_of doc.elements x) name tag)
      | inr rest ↦ or_right (same_text name (tag_of doc.elements x)) _
          (list_any-append (same_text name) ids words
          ∙ elim (or_cases (passes doc.elements (id_selector name) x) (passes doc.elements (class_selector name) x) rest) [
            | inl id ↦ or_left _ _ (id_named name (attribute_of doc.elements x (codes "id")) id)
            | inr class ↦ or_right _ _ (class_asked doc x name ∙ class)
          ])
    ]
  where
    ids : List Characters
    ids = option_to_list (option_and_then id_text (attribute_of doc.elements x (codes "id")))

    words : List Characters
    words = class_words (attribute_of doc.elements x (codes "class"))

pub none_named : (filter : List ℕ) (name : Characters) (b : Bool) → b ≡ nat_lt 0 (counter_at filter (slot name))
    → (doc : Document) (l : List ℕ) → StandsFor doc.elements l filter → b ≡ false → list_any (has_name doc.elements name) l ≡ false
none_named filter name b is doc l stands e =
    let low = ltb-false 0 (counter_at filter (slot name)) (sym is ∙ e) in
    none_has slot slot_within doc.elements (names_of doc.elements) (names_all doc) l filter name stands (omega (arith, low))

-- a selector is refused only where it does not hold
pub refused : (doc : Document) (selector : Selector) (x : ℕ) (filter : List ℕ) → IsValid doc.elements → StandsFor doc.elements (ancestors doc.elements x) filter
    → all_counted filter (ancestor_slots slot selector) ≡ false → holds doc.elements selector x ≡ false
refused doc selector x filter v stands none =
    rejected slot slot_within doc.elements (names_of doc.elements) (names_all doc) v selector x filter stands none

pub nothing_counted : (filter : List ℕ) → filter ≡ all_at 0 → Counts slot [] filter
nothing_counted filter e = subst (Counts slot []) (sym e) (counts_nothing slot)

-- what a call over the whole slice of a vector leaves
pub written_whole : (len : ℕ) (items new all : List ℕ) → new ≡ all → length new ≡ length items → len ≡ length items → take len (new ++ drop (length new) items) ≡ all
written_whole len items new all e l n = take_at new (drop (length new) items) len (l ∙ sym n) ∙ e
