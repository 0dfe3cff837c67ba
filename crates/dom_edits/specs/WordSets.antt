-- Sets of words.
use Rattle.std.specs.Prelude.{◌≡◌, List, [], map, IfSome, option_map}
use Rattle.std.specs.Str.{chars}
use Rattle.scene_model.specs.Element.{Characters}
use Rattle.dom_tree.specs.Classes.{distinct_from}
use Rattle.dom_edits.specs.declared.word_set.WordSet.{WordSet}

-- the words
abbrev pub texts_of : WordSet → List Characters
texts_of set = map (λ word. chars word.text.now) set.words.items

-- no word is there twice, and the index, if there is one, has all of them
pub record IsWordSet (set : WordSet) : Type 0 where
  pub once : distinct_from [] (texts_of set) ≡ texts_of set
  pub index : IfSome (option_map (λ names. names.value) set.index) (λ names. names ≡ texts_of set)
