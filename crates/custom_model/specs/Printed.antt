-- How custom properties are printed (css-variables-1, section 2; cssom-1, section 2.1).
use Rattle.std.specs.Prelude.{List, [], ◌∷◌, ◌++◌, map, codes}
use Rattle.std.specs.FinMap as finmap
use Rattle.base_model.specs.Text.{Characters}
use Rattle.syntax_model.specs.Written.{ident_text, written}
use Rattle.custom_model.specs.Value.{CustomValue, CustomValues, unplaced}

-- each text after a separator
abbrev pub each_after : Characters → List Characters → Characters
each_after separator [] = []
each_after separator (text ∷ texts) = separator ++ (text ++ each_after separator texts)

-- the texts with a separator between each two
abbrev pub joined : Characters → List Characters → Characters
joined separator [] = []
joined separator (text ∷ texts) = text ++ each_after separator texts

abbrev pub value_text : CustomValue → Characters
value_text value = written (map unplaced value)

-- `name: value`
abbrev pub custom_text : Characters × CustomValue → Characters
custom_text entry = ident_text entry.0 ++ (codes ": " ++ value_text entry.1)

-- each custom property that has a value, in the order of the names
unfoldable pub custom_texts : CustomValues → List Characters
custom_texts values = map custom_text (finmap.entries values)

-- between two of them stands a semicolon
abbrev pub custom_declarations : CustomValues → Characters
custom_declarations values = joined (codes "; ") (custom_texts values)
