-- For `KeySets::bears`: sets of the names of keys, and who bears one of them.
use Rattle.std.proofs.Common.{◌≡◌, ℕ, ◌+◌, ◌<◌, ◌||◌, ◌++◌, Bool, true, false, cond, List, [], ◌∷◌, map, length, take, drop, take-append-drop, get_or, slice_get, Option, Some}
use Rattle.std.proofs.Common.{None, IfSome, option_and_then, option_to_list, codes, refl, sym, ap, subst, ◌∙◌}
use Rattle.std.specs.List.{list_any}
use Rattle.std.specs.Option.{option_map_or}
use Rattle.std.specs.Cmp.Lexicographic.{nat_list_eq_equiv}
use Rattle.std.proofs.Math.Bool.{or-false}
use Rattle.std.proofs.lemmas.Bool.{or_from, or_right}
use Rattle.std.proofs.lemmas.List.Folds.{list_any-append, list_any_at, list_any_more}
use Rattle.std.proofs.lemmas.Option.{slice_get-get_or}
use Rattle.std.proofs.lemmas.Slice.Eq.{bytes_eq-Decides}
use Rattle.base_model.specs.Text.{Characters, same_text}
use Rattle.scene_model.specs.Element.{Element}
use Rattle.scene_model.specs.Lookups.{attribute_of, tag_of}
use Rattle.scene_model.proofs.Found.{any-map}
use Rattle.selector_model.specs.Bears.{bears}
use Rattle.selector_model.specs.Holds.{is_id}
use Rattle.selector_model.specs.Key.{Key, id_key, class_key, type_key}
use Rattle.selector_types.specs.SimpleView.{key_seen}
use Rattle.selector_types.specs.declared.keys.Key.{Key as KeptKey}
use Rattle.stylo_base.specs.NameList.{interned, is_among}
use Rattle.dom_tree.specs.declared.element_names.NameKind.{NameKind}
use Rattle.dom_tree.specs.declared.element_names.NameKind.TheVariants.{Tag, Id, Class}
use Rattle.dom_tree.specs.ElementNames.{ElementName, named_as, names_of, names_with}
use Rattle.dom_tree.specs.Labels.{class_words, id_text}
use Rattle.edit_model.proofs.AfterLemmas.{never, never_by}
use Rattle.dom_tree.proofs.KeptLemmas.{no_id, some_id}
use Rattle.dom_tree.proofs.WordsOnce.{any-last, class_asked}
use Rattle.invalidation_map.specs.declared.key_sets.KeySets.{KeySets}
use Rattle.invalidation_map.specs.KeySets.{AddsKey, AreSetsOf, bears_one, is_in_set, set_of}
use Rattle.invalidation_map.proofs.KeyLemmas.{or_each}
use Rattle.invalidation_map.proofs.MarkLemmas.{any_alike}

together : (a b c : Bool) → (a || (b || c)) ≡ ((a || b) || c)
together true b c = refl
together false b c = refl

-- one text more in a set
among_interned : (text name : Characters) (texts : List Characters) → is_among text (interned texts name) ≡ (is_among text texts || same_text text name)
among_interned text name texts = by (is_among name texts) refl (same_text text name) refl
  where
    by : (b : Bool) → is_among name texts ≡ b → (c : Bool) → same_text text name ≡ c → is_among text (cond b texts (texts ++ name ∷ [])) ≡ (is_among text texts || c)
    by true h true e = ap (λ t. is_among t texts) ((bytes_eq-Decides text name).0 e) ∙ (h ∙ sym (or_right (is_among text texts) true refl))
    by true h false e = sym (or-false (is_among text texts))
    by false h c e = any-last (same_text text) texts name ∙ ap (λ d. is_among text texts || d) e

-- the names of an element, by what they are
any_names : (p : ElementName → Bool) (tag : Characters) (id : Option Characters) (classes : List Characters)
    → list_any p (names_with tag id classes)
    ≡ (p (named_as Tag tag) || (list_any (λ t. p (named_as Id t)) (option_to_list id) || list_any (λ t. p (named_as Class t)) classes))
any_names p tag id classes =
    ap (λ b. p (named_as Tag tag) || b)
    (list_any-append p (map (named_as Id) (option_to_list id)) (map (named_as Class) classes)
    ∙ (ap (λ b. b || list_any p (map (named_as Class) classes)) (any-map p (named_as Id) (option_to_list id))
    ∙ ap (λ b. list_any (λ t. p (named_as Id t)) (option_to_list id) || b) (any-map p (named_as Class) classes)))

-- whether a name of an element is that of a key
abbrev pub is_named : Key → NameKind → Characters → Bool
is_named (id_key id) Id text = same_text text id
is_named (class_key class) Class text = same_text text class
is_named (type_key tag) Tag text = same_text text tag
is_named key kind text = false

abbrev pub is_name_of : Key → ElementName → Bool
is_name_of key name = is_named key name.kind name.text

id_asked : (value : Option Characters) (id : Characters) (o : Option Characters) → o ≡ option_and_then id_text value
    → list_any (λ t. same_text t id) (option_to_list o) ≡ option_map_or (is_id id) value false
id_asked value id None e = no_id value id e
id_asked value id (Some text) e = or-false (same_text text id) ∙ some_id value text id e

turned : (class : Characters) (texts : List Characters) → list_any (λ t. same_text t class) texts ≡ list_any (same_text class) texts
turned class texts = any_alike (λ t. same_text t class) (same_text class) texts (λ t. nat_list_eq_equiv.symm t class)

module _ (doc : List Element) (x : ℕ) where
  abbrev tag : Characters
  tag = tag_of doc x

  abbrev id : Option Characters
  id = option_and_then id_text (attribute_of doc x (codes "id"))

  abbrev classes : List Characters
  classes = class_words (attribute_of doc x (codes "class"))

  -- an element bears the key that one of its names is of
  id_borne : (text : Characters) → list_any (is_name_of (id_key text)) (names_of doc x) ≡ bears doc (id_key text) x
  id_borne text =
      any_names (is_name_of (id_key text)) tag id classes
      ∙ (ap (λ b. list_any (λ t. same_text t text) (option_to_list id) || b) (never classes)
      ∙ (or-false (list_any (λ t. same_text t text) (option_to_list id)) ∙ id_asked (attribute_of doc x (codes "id")) text id refl))

  class_borne : (text : Characters) → list_any (is_name_of (class_key text)) (names_of doc x) ≡ bears doc (class_key text) x
  class_borne text =
      any_names (is_name_of (class_key text)) tag id classes
      ∙ (ap (λ b. b || list_any (λ t. same_text t text) classes) (never (option_to_list id))
      ∙ (turned text classes ∙ class_asked (record { elements = doc; last = 0 }) x text))

  type_borne : (text : Characters) → list_any (is_name_of (type_key text)) (names_of doc x) ≡ bears doc (type_key text) x
  type_borne text =
      any_names (is_name_of (type_key text)) tag id classes
      ∙ (ap (λ b. same_text tag text || b)
      (ap (λ b. b || list_any (λ (t : Characters). false) classes) (never (option_to_list id))
      ∙ never classes)
      ∙ or-false (same_text tag text))

-- sets with one name more

abbrev AddsName : Key → KeySets → KeySets → Type 0
AddsName key old new =
    (kind : NameKind) (text : Characters) → is_among text (set_of new kind) ≡ (is_among text (set_of old kind) || is_named key kind text)

grown : (key : Key) (old new : KeySets) → new.any ≡ old.any → AddsName key old new
    → ((doc : List Element) (x : ℕ) → list_any (is_name_of key) (names_of doc x) ≡ bears doc key x)
    → AddsKey key old new
grown key old new same more borne doc x =
    ap (λ b. b || list_any (is_in_set new) (names_of doc x)) same
    ∙ (ap (λ b. old.any || b)
    (any_alike (is_in_set new) (λ name. is_in_set old name || is_name_of key name) (names_of doc x) (λ name. more name.kind name.text)
    ∙ (or_each (is_in_set old) (is_name_of key) (names_of doc x) ∙ ap (λ b. list_any (is_in_set old) (names_of doc x) || b) (borne doc x)))
    ∙ together old.any (list_any (is_in_set old) (names_of doc x)) (bears doc key x))

module _ (old : KeySets) (name : Characters) (names : List Characters) where
  abbrev with_ids : KeySets
  with_ids = record { ids = names; classes = old.classes; types = old.types; any = old.any }

  abbrev with_classes : KeySets
  with_classes = record { ids = old.ids; classes = names; types = old.types; any = old.any }

  abbrev with_types : KeySets
  with_types = record { ids = old.ids; classes = old.classes; types = names; any = old.any }

  pub id_added : names ≡ interned old.ids name → AddsKey (id_key name) old with_ids
  id_added e = grown (id_key name) old with_ids refl more (λ doc x. id_borne doc x name)
    where
      more : AddsName (id_key name) old with_ids
      more Tag text = sym (or-false (is_among text old.types))
      more Id text = ap (is_among text) e ∙ among_interned text name old.ids
      more Class text = sym (or-false (is_among text old.classes))

  pub class_added : names ≡ interned old.classes name → AddsKey (class_key name) old with_classes
  class_added e = grown (class_key name) old with_classes refl more (λ doc x. class_borne doc x name)
    where
      more : AddsName (class_key name) old with_classes
      more Tag text = sym (or-false (is_among text old.types))
      more Id text = sym (or-false (is_among text old.ids))
      more Class text = ap (is_among text) e ∙ among_interned text name old.classes

  pub type_added : names ≡ interned old.types name → AddsKey (type_key name) old with_types
  type_added e = grown (type_key name) old with_types refl more (λ doc x. type_borne doc x name)
    where
      more : AddsName (type_key name) old with_types
      more Tag text = ap (is_among text) e ∙ among_interned text name old.types
      more Id text = sym (or-false (is_among text old.ids))
      more Class text = sym (or-false (is_among text old.classes))

-- the sets of the first of some keys

abbrev pub AreSetsSoFar : Bool → List KeptKey → KeySets → Type 0
AreSetsSoFar all keys sets = (doc : List Element) (x : ℕ) → bears_one sets doc x ≡ (all || list_any (λ key. bears doc (key_seen key) x) keys)

pub sets_begun : (sets : KeySets) (all : Bool) → sets.ids ≡ [] → sets.classes ≡ [] → sets.types ≡ [] → sets.any ≡ all → AreSetsSoFar all [] sets
sets_begun sets all ids classes types any doc x =
    ap (λ b. b || list_any (is_in_set sets) (names_of doc x)) any
    ∙ ap (λ b. all || b) (never_by (is_in_set sets) (λ name. none name.kind name.text) (names_of doc x))
  where
    none : (kind : NameKind) (text : Characters) → is_among text (set_of sets kind) ≡ false
    none Tag text = ap (is_among text) types
    none Id text = ap (is_among text) ids
    none Class text = ap (is_among text) classes

any_front : {X : Type 0} (p : X → Bool) (i : ℕ) (xs : List X) → list_any p (take i xs) ≡ true → list_any p xs ≡ true
any_front p i xs h =
    ap (list_any p) (sym (take-append-drop i xs)) ∙ (list_any-append p (take i xs) (drop i xs) ∙ ap (λ b. b || list_any p (drop i xs)) h)

filled : (all front whole b : Bool) → b ≡ true → b ≡ (all || front) → (front ≡ true → whole ≡ true) → b ≡ (all || whole)
filled true front whole b full so_far later = full
filled false front whole b full so_far later = full ∙ sym (later (sym so_far ∙ full))

module _ (all : Bool) (keys : List KeptKey) where
  pub sets_next : (i : ℕ) (key : KeptKey) (old new : KeySets) → i < length keys → key ≡ get_or keys i key
      → AreSetsSoFar all (take i keys) old → AddsKey (key_seen key) old new → AreSetsSoFar all (take (i + 1) keys) new
  sets_next i key old new l is so_far more doc x =
      let test : KeptKey → Bool = λ k. bears doc (key_seen k) x in
      more doc x
      ∙ (ap (λ b. b || test key) (so_far doc x)
      ∙ (sym (together all (list_any test (take i keys)) (test key))
      ∙ ap (λ b. all || b) (ap (λ k. list_any test (take i keys) || test k) is ∙ sym (list_any_more test keys i key l))))

  -- once all bear a key, the others tell nothing
  pub sets_full : (i : ℕ) (sets : KeySets) → sets.any ≡ true → AreSetsSoFar all (take i keys) sets → AreSetsOf (map key_seen keys) all sets
  sets_full i sets full so_far doc x =
      let test : KeptKey → Bool = λ k. bears doc (key_seen k) x in
      let whole = list_any (λ key. bears doc key x) (map key_seen keys) in
      let every : bears_one sets doc x ≡ true = ap (λ b. b || list_any (is_in_set sets) (names_of doc x)) full in
      filled all (list_any test (take i keys)) whole (bears_one sets doc x) every (so_far doc x) (λ h. any-map (λ key. bears doc key x) key_seen keys ∙ any_front test i keys h)

  pub sets_all : (sets : KeySets) → AreSetsSoFar all keys sets → AreSetsOf (map key_seen keys) all sets
  sets_all sets so_far doc x = so_far doc x ∙ ap (λ b. all || b) (sym (any-map (λ key. bears doc key x) key_seen keys))

-- what is told by one name of an element

module _ (sets : KeySets) (names : List ElementName) (i : ℕ) (kind : NameKind) (text : Characters) (asked : Bool)
    (l : i < length names)
    (is_kind : IfSome (slice_get names i) (λ name. kind ≡ name.kind))
    (is_text : IfSome (slice_get names i) (λ name. text ≡ name.text))
    (is_asked : asked ≡ is_among text (set_of sets kind)) where
  abbrev name : ElementName
  name = get_or names i (named_as Tag [])

  told : asked ≡ is_in_set sets name
  told =
      let at = slice_get-get_or names i (named_as Tag []) l in
      let k : kind ≡ name.kind = subst (λ o. IfSome o (λ (n : ElementName). kind ≡ n.kind)) at is_kind in
      let t : text ≡ name.text = subst (λ o. IfSome o (λ (n : ElementName). text ≡ n.text)) at is_text in
      is_asked ∙ (ap (λ u. is_among u (set_of sets kind)) t ∙ ap (λ k. is_among name.text (set_of sets k)) k)

  pub name_found : asked ≡ true → list_any (is_in_set sets) names ≡ true
  name_found h = list_any_at (is_in_set sets) names i (named_as Tag []) l (sym told ∙ h)

  pub name_passed : asked ≡ false → list_any (is_in_set sets) (take i names) ≡ false → list_any (is_in_set sets) (take (i + 1) names) ≡ false
  name_passed h before =
      list_any_more (is_in_set sets) names i (named_as Tag []) l
      ∙ or_from (list_any (is_in_set sets) (take i names)) (is_in_set sets name) before (sym told ∙ h)
