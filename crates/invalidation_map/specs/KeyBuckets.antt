-- Keys in the order of their buckets.
use Rattle.std.specs.Prelude.{◌≡◌, ℕ, ◌+◌, ◌*◌, ◌/◌, ◌%◌, ◌<◌, ◌≤◌, ◌==◌, false, List, get_or, length}

-- one of 256
abbrev pub bucket_of : ℕ → ℕ
bucket_of key = key % 256

-- the place of a key in the order of the buckets, and in its bucket
abbrev pub spread : ℕ → ℕ
spread key = key % 256 * 72057594037927936 + key / 256 % 72057594037927936

-- those before that place are in smaller buckets, and no others are
pub record BeginsAt (keys : List ℕ) (bucket place : ℕ) : Type 0 where
  pub within : place ≤ length keys
  pub before : (i d : ℕ) → i < place → bucket_of (get_or keys i d) < bucket
  pub rest : (i d : ℕ) → place ≤ i → i < length keys → bucket ≤ bucket_of (get_or keys i d)

-- where each bucket begins, and where all end
pub record AreBegun (keys starts : List ℕ) : Type 0 where
  pub count : length starts ≡ 257
  pub each : (bucket d : ℕ) → bucket < 257 → BeginsAt keys bucket (get_or starts bucket d)

-- all of a key are between two places
pub record IsNear (key : ℕ) (keys : List ℕ) (first past : ℕ) : Type 0 where
  pub within : past ≤ length keys
  pub before : (i d : ℕ) → i < first → i < length keys → (get_or keys i d == key) ≡ false
  pub behind : (i d : ℕ) → past ≤ i → i < length keys → (get_or keys i d == key) ≡ false
