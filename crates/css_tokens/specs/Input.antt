-- Preprocessing, character by character.
use Rattle.std.specs.Prelude.{ℕ, ◌==◌, [], ◌∷◌, Bool, ◌&&◌, if◌then◌else◌}
use Rattle.base_model.specs.Ascii.{null, line_feed, form_feed, carriage_return, replacement_character}
use Rattle.base_model.specs.Text.{Characters}

-- the character that is read for one, unless it goes
abbrev pub replaced : ℕ → ℕ
replaced c =
    if c == carriage_return then line_feed
    else if c == form_feed then line_feed
    else if c == null then replacement_character
    else c

-- what a character gives: an LF after a CR goes
abbrev pub given_by : Bool → ℕ → Characters
given_by is_after_cr c = if (c == line_feed) && is_after_cr then [] else replaced c ∷ []
