-- For `Share`: what is looked up, brought first and put, over what is seen of the values.
use Rattle.std.proofs.Common.{◌≡◌, ◌<◌, ℕ, zero, suc, ◌-◌, nat_eq, Bool, true, false, List, [], ◌∷◌, take, Option, Some, None, option_map, refl, ap, arith}
use Rattle.std.specs.Prelude.{cond}
use Rattle.std.specs.Map.{lookup, lookup_entry, remove_entry}
use Rattle.std.specs.Option.{option_map_or}
use Rattle.lru.specs.LruCache.{promoted, put_entries, lru_cache}
use Rattle.value_model.specs.Style.{Style}
use Rattle.sharing_model.specs.Share.{put_within}
use Rattle.style_sharing.specs.Entries.{seen}

pub lookup_seen : {A B : Type 0} (f : A → B) (test : ℕ → Bool) (es : List (ℕ × A)) → option_map f (lookup test es) ≡ lookup test (seen f es)
lookup_seen f test [] = refl
lookup_seen f test (e ∷ es) = elim (test e.0) as (λ b. option_map f (cond b (Some e.1) (lookup test es)) ≡ cond b (Some (f e.1)) (lookup test (seen f es))) [
  | true ↦ refl
  | false ↦ lookup_seen f test es
]

entry_seen : {A B : Type 0} (f : A → B) (test : ℕ → Bool) (es : List (ℕ × A)) → lookup_entry test (seen f es) ≡ option_map (λ e. (e.0, f e.1)) (lookup_entry test es)
entry_seen f test [] = refl
entry_seen f test (e ∷ es) =
    elim (test e.0) as (λ b. cond b (Some (e.0, f e.1)) (lookup_entry test (seen f es)) ≡ option_map (λ e. (e.0, f e.1)) (cond b (Some e) (lookup_entry test es))) [
      | true ↦ refl
      | false ↦ entry_seen f test es
    ]

rest_seen : {A B : Type 0} (f : A → B) (test : ℕ → Bool) (es : List (ℕ × A)) → remove_entry test (seen f es) ≡ seen f (remove_entry test es)
rest_seen f test [] = refl
rest_seen f test (e ∷ es) = elim (test e.0) as (λ b. cond b (seen f es) ((e.0, f e.1) ∷ remove_entry test (seen f es)) ≡ seen f (cond b es (e ∷ remove_entry test es))) [
  | true ↦ refl
  | false ↦ ap (λ l. (e.0, f e.1) ∷ l) (rest_seen f test es)
]

pub promoted_seen : {A B : Type 0} (f : A → B) (test : ℕ → Bool) (es : List (ℕ × A)) → seen f (promoted test es) ≡ promoted test (seen f es)
promoted_seen {A = A} f test es = rw (entry_seen f test es, rest_seen f test es) (brought (lookup_entry test es))
  where
    brought : (o : Option (ℕ × A)) → seen f (option_map_or (λ e. e ∷ remove_entry test es) o es)
        ≡ option_map_or (λ e. e ∷ seen f (remove_entry test es)) (option_map (λ e. (e.0, f e.1)) o) (seen f es)
    brought None = refl
    brought (Some e) = refl

cut_seen : {A B : Type 0} (f : A → B) (n : ℕ) (es : List (ℕ × A)) → take n (seen f es) ≡ seen f (take n es)
cut_seen f zero [] = refl
cut_seen f zero (e ∷ es) = refl
cut_seen f (suc n) [] = refl
cut_seen f (suc n) (e ∷ es) = ap (λ l. (e.0, f e.1) ∷ l) (cut_seen f n es)

put_seen : {A B : Type 0} (f : A → B) (es : List (ℕ × A)) (n k : ℕ) (v : A)
    → seen f (put_entries nat_eq (lru_cache es n) k v) ≡ put_entries nat_eq (lru_cache (seen f es) n) k (f v)
put_seen {A = A} {B = B} f es n k v = rw (entry_seen f (nat_eq k) es, rest_seen f (nat_eq k) es, cut_seen f (n - 1) es) (kept (lookup_entry (nat_eq k) es))
  where
    kept : (o : Option (ℕ × A)) → seen f (option_map_or (λ (e : ℕ × A). (e.0, v) ∷ remove_entry (nat_eq k) es) o ((k, v) ∷ take (n - 1) es))
        ≡ option_map_or (λ (e : ℕ × B). (e.0, f v) ∷ seen f (remove_entry (nat_eq k) es)) (option_map (λ (e : ℕ × A). (e.0, f e.1)) o) ((k, f v) ∷ seen f (take (n - 1) es))
    kept None = refl
    kept (Some e) = refl

pub within_seen : {A : Type 0} (f : A → Style) (es : List (ℕ × A)) (n k : ℕ) (v : A) → 0 < n
    → seen f (put_entries nat_eq (lru_cache es n) k v) ≡ put_within n (seen f es) (k, f v)
within_seen f es zero k v h = absurd (grind (arith))
within_seen f es (suc m) k v h = put_seen f es (suc m) k v
