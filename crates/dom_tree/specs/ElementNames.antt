-- The names of an element, and those of its attributes.
use Rattle.std.specs.Prelude.{◌≡◌, ℕ, List, ◌∷◌, ◌++◌, map, codes, Option, option_and_then, option_to_list, is_some}
use Rattle.std.specs.List.{list_any, IsDistinct}
use Rattle.base_model.specs.Text.{same_text}
use Rattle.scene_model.specs.Element.{Element, Characters}
use Rattle.scene_model.specs.Lookups.{tag_of, attribute_of}
use Rattle.dom_tree.specs.declared.element_names.NameKind.{NameKind}
use Rattle.dom_tree.specs.declared.element_names.NameKind.TheVariants.{Tag, Id, Class}
use Rattle.dom_tree.specs.Labels.{id_text, class_words}

pub record ElementName : Type 0 where
  pub kind : NameKind
  pub text : Characters

abbrev pub named_as : NameKind → Characters → ElementName
named_as kind text = record { kind = kind; text = text }

-- the names of an element with this tag, this id and these classes
abbrev pub names_with : Characters → Option Characters → List Characters → List ElementName
names_with tag id classes =
    named_as Tag tag ∷ (map (named_as Id) (option_to_list id) ++ map (named_as Class) classes)

-- its tag, its id, if it has one that is not empty, and its classes, each once
abbrev pub names_of : List Element → ℕ → List ElementName
names_of doc x =
    names_with (tag_of doc x) (option_and_then id_text (attribute_of doc x (codes "id")))
    (class_words (attribute_of doc x (codes "class")))

-- the names are those that have a value, each once
pub record AreNamesOf (value : Characters → Option Characters) (names : List Characters) : Type 0 where
  pub exact : (name : Characters) → list_any (same_text name) names ≡ is_some (value name)
  pub once : IsDistinct same_text names
