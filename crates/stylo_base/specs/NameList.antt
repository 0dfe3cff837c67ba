-- Names and their texts.
use Rattle.std.specs.Prelude.{◌≡◌, ℕ, ◌≤◌, ◌^◌, Bool, List, [], ◌∷◌, ◌++◌, if◌then◌else◌, Some, encode_utf8_all, length, map, slice_get}
use Rattle.std.specs.List.{list_any}
use Rattle.std.specs.Str.{bytes_eq}
use Rattle.stylo_base.specs.NameKey.{key_of}

-- the text is among the texts
abbrev pub is_among : List ℕ → List (List ℕ) → Bool
is_among text texts = list_any (bytes_eq text) texts

-- the texts once a text has a name: a new one is last
abbrev pub interned : List (List ℕ) → List ℕ → List (List ℕ)
interned texts text = if is_among text texts then texts else texts ++ text ∷ []

-- no text is there twice: two indices of one text are one index
abbrev pub StandOnce : List (List ℕ) → Type 0
StandOnce texts = (i j : ℕ) (text : List ℕ) → slice_get texts i ≡ Some text → slice_get texts j ≡ Some text → i ≡ j

-- the texts of names: each once, and no more than a `u32` tells apart
pub record AreNamed (texts : List (List ℕ)) : Type 0 where
  pub once : StandOnce texts
  pub few : length texts ≤ 2 ^ 32

-- the names, and the key of each
pub record AreKeyed (texts : List (List ℕ)) (keys : List ℕ) : Type 0 where
  pub named : AreNamed texts
  pub keyed : keys ≡ map (λ text. key_of (encode_utf8_all text)) texts
