-- Preprocessing of the input (css-syntax-3, section 3.3).
use Rattle.std.specs.Prelude.{ℕ, ◌==◌, [], ◌∷◌, Bool, true, false, not, ◌||◌, if◌then◌else◌}
use Rattle.std.specs.List.{list_all}
use Rattle.base_model.specs.Ascii.{null, line_feed, form_feed, carriage_return, replacement_character}
use Rattle.base_model.specs.Text.{Characters}

-- CR and FF become LF, and the LF of a CR LF goes; U+0000 becomes U+FFFD
abbrev pub preprocessed_after : Bool → Characters → Characters
preprocessed_after is_after_cr [] = []
preprocessed_after is_after_cr (c ∷ cs) =
    if c == carriage_return then line_feed ∷ preprocessed_after true cs
    else if c == line_feed then
    (if is_after_cr then preprocessed_after false cs else line_feed ∷ preprocessed_after false cs)
    else if c == form_feed then line_feed ∷ preprocessed_after false cs
    else if c == null then replacement_character ∷ preprocessed_after false cs
    else c ∷ preprocessed_after false cs

abbrev pub preprocessed : Characters → Characters
preprocessed text = preprocessed_after false text

-- a character that preprocessing leaves as it is: no CR, FF or U+0000
abbrev pub is_clean : ℕ → Bool
is_clean c = not ((c == carriage_return) || ((c == form_feed) || (c == null)))

-- the text has none but these
abbrev pub is_preprocessed : Characters → Bool
is_preprocessed text = list_all is_clean text
