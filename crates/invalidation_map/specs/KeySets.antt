-- Sets of the names of keys.
use Rattle.std.specs.Prelude.{◌≡◌, ℕ, ◌||◌, Bool, List}
use Rattle.std.specs.List.{list_any}
use Rattle.scene_model.specs.Element.{Element, Characters}
use Rattle.selector_model.specs.Bears.{bears}
use Rattle.selector_model.specs.Key.{Key}
use Rattle.stylo_base.specs.NameList.{is_among}
use Rattle.dom_tree.specs.declared.element_names.NameKind.{NameKind}
use Rattle.dom_tree.specs.declared.element_names.NameKind.TheVariants.{Tag, Id, Class}
use Rattle.dom_tree.specs.ElementNames.{ElementName, names_of}
use Rattle.invalidation_map.specs.declared.key_sets.KeySets.{KeySets}

-- the names of the keys of a kind
abbrev pub set_of : KeySets → NameKind → List Characters
set_of sets Tag = sets.types
set_of sets Id = sets.ids
set_of sets Class = sets.classes

-- a name of an element is that of a key of its kind
abbrev pub is_in_set : KeySets → ElementName → Bool
is_in_set sets name = is_among name.text (set_of sets name.kind)

-- an element has such a name, or all bear a key
abbrev pub bears_one : KeySets → List Element → ℕ → Bool
bears_one sets doc x = sets.any || list_any (is_in_set sets) (names_of doc x)

-- in whatever document, the bearers of these keys, or all
abbrev pub AreSetsOf : List Key → Bool → KeySets → Type 0
AreSetsOf keys all sets =
    (doc : List Element) (x : ℕ) → bears_one sets doc x ≡ (all || list_any (λ key. bears doc key x) keys)

-- in whatever document, also the bearers of one key more
abbrev pub AddsKey : Key → KeySets → KeySets → Type 0
AddsKey key old new = (doc : List Element) (x : ℕ) → bears_one new doc x ≡ (bears_one old doc x || bears doc key x)
