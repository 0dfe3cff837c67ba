-- The classes among the names of an element.
use Rattle.std.specs.Prelude.{List, [], ◌∷◌, ◌++◌}
use Rattle.scene_model.specs.Element.{Characters}
use Rattle.dom_tree.specs.ElementNames.{ElementName}
use Rattle.dom_tree.specs.declared.element_names.NameKind.{NameKind}
use Rattle.dom_tree.specs.declared.element_names.NameKind.TheVariants.{Tag, Id, Class}

abbrev pub text_if_class : NameKind → Characters → List Characters
text_if_class Tag text = []
text_if_class Id text = []
text_if_class Class text = text ∷ []

-- the text of a name that is a class
abbrev pub class_text : ElementName → List Characters
class_text name = text_if_class name.kind name.text

abbrev pub class_texts : List ElementName → List Characters
class_texts [] = []
class_texts (name ∷ names) = class_text name ++ class_texts names
