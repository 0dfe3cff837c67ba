-- For `next` and `buckets`: the buckets that an element looks at.
use Rattle.std.proofs.Common.{◌≡◌, ℕ, zero, suc, ◌+◌, ◌<◌, ◌≤◌, List, [], ◌∷◌, ◌++◌, length, map, drop, slice_get}
use Rattle.std.proofs.Common.{Bool, true, false, not, ◌&&◌, if◌then◌else◌, Option, Some, None, IfSome, option_and_then, option_to_list, codes}
use Rattle.std.proofs.Common.{refl, sym, ap, ◌∙◌, arith}
use Rattle.std.specs.List.{AllByRecursion, list_any}
use Rattle.std.specs.Option.{option_map_or}
use Rattle.std.proofs.lemmas.List.{append_assoc, drop_all}
use Rattle.base_model.specs.Text.{Characters, is_empty_text, same_text}
use Rattle.base_model.proofs.Texts.{text_is_itself}
use Rattle.base_model.proofs.Lists.{each-append, each-map, each_weaker}
use Rattle.scene_model.specs.Document.{Document}
use Rattle.scene_model.specs.Element.{Element}
use Rattle.scene_model.specs.Lookups.{attribute_of, tag_of}
use Rattle.selector_model.specs.Holds.{is_id}
use Rattle.dom_tree.specs.ElementNames.{AreNamesOf, ElementName, named_as, names_of}
use Rattle.dom_tree.specs.Labels.{class_words, id_text}
use Rattle.dom_tree.specs.declared.element_names.NameKind.TheVariants.{Id, Class}
use Rattle.dom_tree.proofs.WordsOnce.{class_asked}
use Rattle.ancestor_filter.proofs.NameLemmas.{id_named}
use Rattle.rule_map_model.specs.Buckets.{Bucket, of_id, of_class, of_type, of_attribute, of_any, buckets_by, looks_at}
use Rattle.rule_map_model.specs.Places.{Place, AreLookedAt}
use Rattle.rule_map_model.proofs.BucketLemmas.{buckets_tell}
use Rattle.rule_map_model.proofs.Members.{each_in, some_of}
use Rattle.rule_maps.specs.View.{bucket_named, buckets_left}

module _ (in_bucket : Bucket → List Place) where
  abbrev pub pieces_left : List ElementName → List Characters → List (List Place)
  pieces_left names attributes = map in_bucket (buckets_left true names attributes)

  -- the next name
  pub name_next : (names : List ElementName) (attributes : List Characters) (k : ℕ) (piece : List Place) → k < length names
      → IfSome (slice_get names k) (λ name. piece ≡ in_bucket (bucket_named name))
      → pieces_left (drop k names) attributes ≡ piece ∷ pieces_left (drop (k + 1) names) attributes
  name_next [] attributes k piece l is = absurd (omega (arith, l))
  name_next (name ∷ names) attributes zero piece l is = ap (λ p. p ∷ pieces_left names attributes) (sym is)
  name_next (name ∷ names) attributes (suc k) piece l is =
      let further : suc (k + 1) ≡ suc k + 1 = omega arith in
      name_next names attributes k piece (omega (arith, l)) is ∙ ap (λ n. piece ∷ pieces_left (drop n (name ∷ names)) attributes) further

  attributes_next : (attributes : List Characters) (k : ℕ) (piece : List Place) → k < length attributes
      → IfSome (slice_get attributes k) (λ name. piece ≡ in_bucket (of_attribute name))
      → map in_bucket (map of_attribute (drop k attributes)) ≡ piece ∷ map in_bucket (map of_attribute (drop (k + 1) attributes))
  attributes_next [] k piece l is = absurd (omega (arith, l))
  attributes_next (name ∷ names) zero piece l is = ap (λ p. p ∷ map in_bucket (map of_attribute names)) (sym is)
  attributes_next (name ∷ names) (suc k) piece l is =
      let further : suc (k + 1) ≡ suc k + 1 = omega arith in
      attributes_next names k piece (omega (arith, l)) is ∙ ap (λ n. piece ∷ map in_bucket (map of_attribute (drop n (name ∷ names)))) further

  -- the next attribute, where no name is left
  pub attribute_next : (names : List ElementName) (attributes : List Characters) (i k : ℕ) (piece : List Place) → length names ≤ i → k < length attributes
      → IfSome (slice_get attributes k) (λ name. piece ≡ in_bucket (of_attribute name))
      → pieces_left (drop i names) (drop k attributes) ≡ piece ∷ pieces_left (drop i names) (drop (k + 1) attributes)
  attribute_next names attributes i k piece none l is =
      ap (λ left. pieces_left left (drop k attributes)) (drop_all i names none)
      ∙ (attributes_next attributes k piece l is ∙ ap (λ left. piece ∷ pieces_left left (drop (k + 1) attributes)) (sym (drop_all i names none)))

  pub none_left : (names : List ElementName) (attributes : List Characters) (i k : ℕ) → length names ≤ i → length attributes ≤ k
      → pieces_left (drop i names) (drop k attributes) ≡ []
  none_left names attributes i k none nothing =
      ap (λ left. pieces_left left (drop k attributes)) (drop_all i names none) ∙ ap (pieces_left []) (drop_all k attributes nothing)

-- The buckets of an element's names and of its attributes' names are those that it looks at: all, and no others.
module _ (document : Document) (x : ℕ) (attributes : List Characters) (are : AreNamesOf (attribute_of document.elements x) attributes) where
  abbrev doc : List Element
  doc = document.elements

  abbrev ids : List Characters
  ids = option_to_list (option_and_then id_text (attribute_of doc x (codes "id")))

  abbrev words : List Characters
  words = class_words (attribute_of doc x (codes "class"))

  each_own : (names : List Characters) → AllByRecursion (λ name. list_any (same_text name) names ≡ true) names
  each_own names = each_in (λ name. list_any (same_text name) names ≡ true) names (λ name m. some_of (same_text name) name names m (text_is_itself name))

  classes_named : (names : List Characters) → map bucket_named (map (named_as Class) names) ≡ map of_class names
  classes_named [] = refl
  classes_named (name ∷ names) = ap (λ l. of_class name ∷ l) (classes_named names)

  ids_named : (names others : List Characters) → map bucket_named (map (named_as Id) names ++ map (named_as Class) others) ≡ map of_id names ++ map of_class others
  ids_named [] others = classes_named others
  ids_named (name ∷ names) others = ap (λ l. of_id name ∷ l) (ids_named names others)

  buckets_named : buckets_left false (names_of doc x) attributes ≡ buckets_by (tag_of doc x) ids words attributes
  buckets_named =
      ap (λ l. of_any ∷ of_type (tag_of doc x) ∷ (l ++ map of_attribute attributes)) (ids_named ids words)
      ∙ ap (λ l. of_any ∷ of_type (tag_of doc x) ∷ l) (append_assoc (map of_id ids) (map of_class words) (map of_attribute attributes))

  -- an id that is there is not empty
  id_there : (o : Option Characters) → AllByRecursion (λ name. option_map_or (is_id name) o false ≡ true) (option_to_list (option_and_then id_text o))
  id_there None = tt
  id_there (Some value) = by (is_empty_text value) refl
    where
      by : (b : Bool) → is_empty_text value ≡ b
          → AllByRecursion (λ name. (not (is_empty_text value) && same_text value name) ≡ true) (option_to_list (if b then None else Some value))
      by true e = tt
      by false e = (ap (λ b. not b && same_text value value) e ∙ text_is_itself value, tt)

  abbrev Looks : Bucket → Type 0
  Looks bucket = looks_at doc bucket x ≡ true

  only_looked : AllByRecursion Looks (buckets_by (tag_of doc x) ids words attributes)
  only_looked = (
    refl,
    (
      text_is_itself (tag_of doc x),
      each-append Looks (map of_id ids) (map of_class words ++ map of_attribute attributes) (each-map Looks of_id ids (id_there (attribute_of doc x (codes "id"))))
          (each-append Looks (map of_class words) (map of_attribute attributes)
          (each-map Looks of_class words (each_weaker _ _ (λ name h. sym (class_asked document x name) ∙ h) words (each_own words)))
          (each-map Looks of_attribute attributes (each_weaker _ _ (λ name h. sym (are.exact name) ∙ h) attributes (each_own attributes)))),
    ),
  )

  pub are_looked_at : (in_bucket : Bucket → List Place) (pieces : List (List Place)) → pieces ≡ map in_bucket (buckets_left false (names_of doc x) attributes)
      → AreLookedAt doc x in_bucket pieces
  are_looked_at in_bucket pieces e = record {
    buckets = buckets_by (tag_of doc x) ids words attributes;
    tell = buckets_tell doc x ids words attributes (λ name h. id_named name (attribute_of doc x (codes "id")) h)
        (λ name h. class_asked document x name ∙ h) (λ name h. are.exact name ∙ h);
    only = only_looked;
    are = e ∙ ap (map in_bucket) buckets_named;
  }
