-- How an attribute's value is compared (selectors-4, section 6), and the indexes of An+B (css-syntax-3, section 6).
use Rattle.std.specs.Prelude.{ℕ, ◌+◌, ◌-◌, nat_le, ℤ, pos, ◌*ℤ◌, ◌+ℤ◌, nat_abs, int_le}
use Rattle.std.specs.Prelude.{[], ◌∷◌, ◌++◌, length, take, drop, Bool, not, ◌&&◌, ◌||◌, if◌then◌else◌}
use Rattle.std.specs.List.{list_any, range_with_len}
use Rattle.base_model.specs.Ascii.{hyphen}
use Rattle.base_model.specs.Text.{Characters, same_text, is_empty_text, ascii_lower}
use Rattle.scene_model.specs.Words.{has_word}
use Rattle.selector_model.specs.Selector.{AttributeOperator, equals, includes, dash_match, prefix, suffix, substring, AnB}

-- a text with its ASCII letters in lower case, where case does not count
abbrev pub folded : Bool → Characters → Characters
folded case_counts text = if case_counts then text else ascii_lower text

abbrev pub begins_with : Characters → Characters → Bool
begins_with text part = same_text (take (length part) text) part

abbrev pub ends_with : Characters → Characters → Bool
ends_with text part = nat_le (length part) (length text) && same_text (drop (length text - length part) text) part

-- the part begins at some character
abbrev pub has_part : Characters → Characters → Bool
has_part [] part = is_empty_text part
has_part (c ∷ cs) part = begins_with (c ∷ cs) part || has_part cs part

-- A word is never empty and has no whitespace, so `includes` never holds with such a part. An empty part is never
-- a prefix, a suffix or a substring here.
abbrev pub compared : AttributeOperator → Characters → Characters → Bool
compared equals value part = same_text value part
compared includes value part = has_word part value
compared dash_match value part = same_text value part || begins_with value (part ++ hyphen ∷ [])
compared prefix value part = not (is_empty_text part) && begins_with value part
compared suffix value part = not (is_empty_text part) && ends_with value part
compared substring value part = not (is_empty_text part) && has_part value part

abbrev pub same_int : ℤ → ℤ → Bool
same_int a b = int_le a b && int_le b a

-- index is a * n + b for some n from 0, and then also for some n up to the index plus the size of b
abbrev pub is_nth : AnB → ℕ → Bool
is_nth formula index =
    list_any (λ n. same_int ((formula.a *ℤ pos n) +ℤ formula.b) (pos index))
    (range_with_len 0 (index + nat_abs formula.b + 1))
