-- The characters of a spelling, wherever they are.
use Rattle.std.specs.Prelude.{ℕ, List, take}
use Rattle.css_tokens.specs.declared.spelling.ShortSpelling.{ShortSpelling}
use Rattle.css_tokens.specs.declared.spelling.Spelling.{Spelling}
use Rattle.css_tokens.specs.declared.spelling.Spelling.TheVariants.{Short, Long}

-- the characters of a short one
abbrev pub short_spelled : ShortSpelling → List ℕ
short_spelled short = take short.len short.characters

-- the characters
abbrev pub spelled : Spelling → List ℕ
spelled (Short short) = short_spelled short
spelled (Long characters) = characters.items
