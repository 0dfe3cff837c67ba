-- For `looks_at`: an element looks at the bucket of each selector that holds there.
use Rattle.std.proofs.Common.{◌≡◌, ℕ, List, [], ◌∷◌, ◌++◌, map, Bool, true, false, ◌||◌, Option, Some, None, refl, sym, ap, ◌∙◌}
use Rattle.std.specs.Prelude.{is_some as is_there}
use Rattle.std.specs.List.{list_any}
use Rattle.std.specs.Option.{option_map_or, option_or}
use Rattle.std.proofs.lemmas.Bool.{and_parts, or_left, or_right, false≢true}
use Rattle.std.proofs.lemmas.List.Folds.{list_any-append}
use Rattle.std.proofs.lemmas.Option.{same_Some, none-some}
use Rattle.std.proofs.lemmas.Slice.Eq.{bytes_eq-Decides}
use Rattle.base_model.specs.Text.{Characters, same_text}
use Rattle.scene_model.specs.Element.{Element}
use Rattle.scene_model.specs.Lookups.{tag_of, attribute_of, has_class}
use Rattle.selector_model.specs.Selector.{type_selector, id_selector, class_selector, attribute_selector, attribute_compares, root, empty, nth, only}
use Rattle.selector_model.specs.Selector.{in_state, Selector, Compound, any, with_test, Test, simple, is_some as is_list, where_some, not_some}
use Rattle.selector_model.specs.Key.{Key, id_key, class_key, type_key, any_key, key_of}
use Rattle.selector_model.specs.Bears.{bears}
use Rattle.selector_model.specs.Holds.{passes, holds, meets, test_holds}
use Rattle.selector_model.proofs.KeyLemmas.{holds_bears}
use Rattle.ancestor_model.specs.Above.{subject_of}
use Rattle.ancestor_model.proofs.AboveLemmas.{subject_meets}
use Rattle.rule_map_model.specs.Buckets.{Bucket, of_id, of_class, of_type, of_attribute, of_any, same_bucket, attribute_in, first_attribute, bucket_by, bucket_of, looks_at, TellAll, buckets_by}

module _ (doc : List Element) (x : ℕ) where
  -- each attribute that an option names is there
  abbrev Has : Option Characters → Type 0
  Has o = (name : Characters) → o ≡ Some name → is_there (attribute_of doc x name) ≡ true

  has_or : (a b : Option Characters) → Has a → Has b → Has (option_or a b)
  has_or None b one other = other
  has_or (Some name) b one other = one

  there : (o : Option Characters) (test : Characters → Bool) → option_map_or test o false ≡ true → is_there o ≡ true
  there None test h = absurd (false≢true h)
  there (Some value) test h = refl

  named : (name other : Characters) → Some name ≡ Some other → is_there (attribute_of doc x name) ≡ true → is_there (attribute_of doc x other) ≡ true
  named name other e h = ap (λ n. is_there (attribute_of doc x n)) (sym (same_Some name other e)) ∙ h

  test_has : (t : Test) → test_holds doc t x ≡ true → Has (attribute_in t)
  test_has (simple (attribute_selector attribute)) h name e = named attribute name e h
  test_has (simple (attribute_compares attribute operator part case_counts)) h name e =
      named attribute name e (there (attribute_of doc x attribute) _ h)
  test_has (simple (type_selector tag)) h name e = absurd (none-some name e)
  test_has (simple (id_selector id)) h name e = absurd (none-some name e)
  test_has (simple (class_selector class)) h name e = absurd (none-some name e)
  test_has (simple root) h name e = absurd (none-some name e)
  test_has (simple empty) h name e = absurd (none-some name e)
  test_has (simple (nth n)) h name e = absurd (none-some name e)
  test_has (simple (only by_type)) h name e = absurd (none-some name e)
  test_has (simple (in_state state)) h name e = absurd (none-some name e)
  test_has (is_list selectors) h name e = absurd (none-some name e)
  test_has (where_some selectors) h name e = absurd (none-some name e)
  test_has (not_some selectors) h name e = absurd (none-some name e)

  compound_has : (c : Compound) → meets doc c x ≡ true → Has (first_attribute c)
  compound_has any h = λ name e. absurd (none-some name e)
  compound_has (with_test t c) h =
      let parts = and_parts (test_holds doc t x) (meets doc c x) h in
      has_or (attribute_in t) (first_attribute c) (test_has t parts.0) (compound_has c parts.1)

  attribute_looked : (o : Option Characters) → Has o → looks_at doc (option_map_or of_attribute o of_any) x ≡ true
  attribute_looked None h = refl
  attribute_looked (Some name) h = h name refl

  looked_by : (key : Key) (o : Option Characters) → bears doc key x ≡ true → Has o → looks_at doc (bucket_by key o) x ≡ true
  looked_by (id_key name) o h k = h
  looked_by (class_key class) o h k = h
  looked_by (type_key tag) o h k = h
  looked_by any_key o h k = attribute_looked o k

  -- where a selector holds, x looks at its bucket
  pub holds_looks : (selector : Selector) → holds doc selector x ≡ true → looks_at doc (bucket_of selector) x ≡ true
  holds_looks selector h =
      looked_by (key_of selector) (first_attribute (subject_of selector)) (holds_bears doc x selector h) (compound_has (subject_of selector) (subject_meets doc selector x h))

  any-mapped : (test : Bucket → Bool) (f : Characters → Bucket) (names : List Characters) → list_any test (map f names) ≡ list_any (λ n. test (f n)) names
  any-mapped test f [] = refl
  any-mapped test f (n ∷ names) = ap (λ b. test (f n) || b) (any-mapped test f names)

  -- the buckets of its tag, its id, its classes and the names of its attributes are all that it looks at
  module _ (ids classes names : List Characters) (id_told : (name : Characters) → passes doc (id_selector name) x ≡ true → list_any (same_text name) ids ≡ true)
      (class_told : (name : Characters) → has_class doc x name ≡ true → list_any (same_text name) classes ≡ true)
      (name_told : (name : Characters) → is_there (attribute_of doc x name) ≡ true → list_any (same_text name) names ≡ true) where
    in_ids : (bucket : Bucket) → list_any (same_bucket bucket) (map of_id ids) ≡ true → list_any (same_bucket bucket) (buckets_by (tag_of doc x) ids classes names) ≡ true
    in_ids bucket h =
        or_right (same_bucket bucket of_any) _ (or_right (same_bucket bucket (of_type (tag_of doc x))) _
        (list_any-append (same_bucket bucket) (map of_id ids) _ ∙ or_left (list_any (same_bucket bucket) (map of_id ids)) _ h))

    in_rest : (bucket : Bucket) → list_any (same_bucket bucket) (map of_class classes ++ map of_attribute names) ≡ true
        → list_any (same_bucket bucket) (buckets_by (tag_of doc x) ids classes names) ≡ true
    in_rest bucket h =
        or_right (same_bucket bucket of_any) _ (or_right (same_bucket bucket (of_type (tag_of doc x))) _
        (list_any-append (same_bucket bucket) (map of_id ids) _ ∙ or_right (list_any (same_bucket bucket) (map of_id ids)) _ h))

    pub buckets_tell : TellAll doc x (buckets_by (tag_of doc x) ids classes names)
    buckets_tell of_any h = refl
    buckets_tell (of_type tag) h =
        or_left (same_text tag (tag_of doc x)) _ ((bytes_eq-Decides tag (tag_of doc x)).1 (sym ((bytes_eq-Decides (tag_of doc x) tag).0 h)))
    buckets_tell (of_id name) h = in_ids (of_id name) (any-mapped (same_bucket (of_id name)) of_id ids ∙ id_told name h)
    buckets_tell (of_class class) h =
        in_rest (of_class class) (list_any-append (same_bucket (of_class class)) (map of_class classes) _ ∙ or_left (list_any (same_bucket (of_class class)) (map of_class classes)) _
        (any-mapped (same_bucket (of_class class)) of_class classes ∙ class_told class h))
    buckets_tell (of_attribute name) h =
        in_rest (of_attribute name) (list_any-append (same_bucket (of_attribute name)) (map of_class classes) _ ∙ or_right
        (list_any (same_bucket (of_attribute name)) (map of_class classes)) _ (any-mapped (same_bucket (of_attribute name)) of_attribute names ∙ name_told name h))
