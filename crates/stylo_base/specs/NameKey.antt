-- The keys of names.
use Rattle.std.specs.Prelude.{ℕ, ◌+◌, ◌*◌, ◌%◌, ◌^◌, List, fold}

-- the key once a byte is read
abbrev pub with_byte : ℕ → ℕ → ℕ
with_byte key byte = (key * 31 + byte) % 2 ^ 64

-- The key of a text: its bytes in UTF-8, read as the digits of a number to the base 31, without what
-- 64 bits do not hold. Texts with two keys are two texts, and texts with one key are mostly one. This
-- one number serves comparisons of names, maps from names to rules, and the filter of an element's
-- ancestors.
unfoldable pub key_of : List ℕ → ℕ
key_of bytes = fold with_byte 0 bytes
