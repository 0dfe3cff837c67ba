-- A value's words, as the class attribute and `[a~=v]` ask for them (selectors-4, sections 6.1 and 6.6).
use Rattle.std.specs.Prelude.{List, Bool, not, filter}
use Rattle.std.specs.List.{list_any}
use Rattle.std.specs.Char.{is_ascii_whitespace}
use Rattle.base_model.specs.Lists.{split_by}
use Rattle.base_model.specs.Text.{Characters, same_text, is_empty_text}

-- the pieces between the whitespace characters (tab, line feed, form feed, carriage return, space)
abbrev pub pieces : Characters → List Characters
pieces text = split_by is_ascii_whitespace text

-- the words of a text: the pieces that are not empty
abbrev pub words : Characters → List Characters
words text = filter (λ piece. not (is_empty_text piece)) (pieces text)

abbrev pub has_word : Characters → Characters → Bool
has_word word text = list_any (same_text word) (words text)
