-- A text is the list of its characters, and a character is its number.
use Rattle.std.specs.Prelude.{ℕ, List, [], map, Bool}
use Rattle.std.specs.Char.{to_ascii_lowercase}
use Rattle.std.specs.Str.{bytes_eq}

abbrev pub Characters : Type 0
Characters = List ℕ

-- whether two texts are equal
abbrev pub same_text : Characters → Characters → Bool
same_text = bytes_eq

abbrev pub is_empty_text : Characters → Bool
is_empty_text text = same_text text []

-- with `a` to `z` for `A` to `Z`
abbrev pub ascii_lower : Characters → Characters
ascii_lower text = map to_ascii_lowercase text

-- whether a text is a word that is written in lower case, ignoring ASCII case
abbrev pub is_word : Characters → Characters → Bool
is_word word text = same_text (ascii_lower text) word
