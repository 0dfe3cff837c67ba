-- For `compare` and `sort_rows`: the order of names.
use Rattle.std.proofs.Common.{◌≡◌, ℕ, List, [], ◌∷◌, ◌⊎◌, inl, inr, cond, filter, Bool, true, false, not, ◌&&◌, encode_utf8_all, refl, sym, ap, ap₂, ◌∙◌}
use Rattle.std.proofs.Common.{Ordering, Less, Equal, Greater}
use Rattle.std.specs.Cmp.{IsTotalOrder}
use Rattle.std.specs.Cmp.Lexicographic.{slice_cmp}
use Rattle.std.specs.List.Sorted.{IsStableBy, ties}
use Rattle.std.specs.Ordering.{nat_cmp, ordering_then, ordering_reverse, is_eq, is_lt}
use Rattle.std.proofs.lemmas.Bool.{false_from_ne_true}
use Rattle.std.proofs.lemmas.Cmp.{nat_cmp_total, nat_list_cmp_total, on_total, then_total, tied_itself}
use Rattle.std.proofs.lemmas.Map.Lookups.{exact_bytes}
use Rattle.std.proofs.lemmas.Slice.Eq.{bytes_eq-Decides}
use Rattle.std.proofs.lemmas.Str.{encodes_same}
use Rattle.base_model.specs.Text.{Characters, same_text}
use Rattle.base_model.proofs.Lists.{each_any}
use Rattle.scene_model.proofs.Lists.{filter_same}
use Rattle.stylo_base.specs.NameKey.{key_of}
use Rattle.rule_maps.specs.declared.rows.Row.{Row}
use Rattle.rule_maps.specs.NameOrder.{bytes_cmp, keys_cmp, name_cmp}
use Rattle.rule_maps.specs.Rows.{HaveSameNamed, name_of, named}

key_total : IsTotalOrder keys_cmp
key_total = on_total (λ (name : Characters). key_of (encode_utf8_all name)) nat_cmp_total

pub name_total : IsTotalOrder name_cmp
name_total = then_total key_total (on_total encode_utf8_all nat_list_cmp_total)

second_equal : (o p : Ordering) → ordering_then o p ≡ Equal → p ≡ Equal
second_equal Less p h = cc
second_equal Equal p h = h
second_equal Greater p h = cc

-- equal in this order are the same

pub equal_same : (a b : Characters) → name_cmp a b ≡ Equal → a ≡ b
equal_same a b h = encodes_same a b (exact_bytes _ _ (second_equal (keys_cmp a b) (bytes_cmp a b) h))

pub own_name : (a b : Characters) → a ≡ b → same_text a b ≡ true
own_name a b e = (bytes_eq-Decides a b).1 e

pub less_apart : (a b : Characters) → name_cmp a b ≡ Less → same_text a b ≡ false
less_apart a b h =
    false_from_ne_true (same_text a b) (λ s. let e : Less ≡ Equal = sym h ∙ (ap (name_cmp a) (sym ((bytes_eq-Decides a b).0 s)) ∙ tied_itself name_total a) in cc)

pub less_apart_back : (a b : Characters) → name_cmp a b ≡ Less → same_text b a ≡ false
less_apart_back a b h =
    false_from_ne_true (same_text b a) (λ s. let e : Less ≡ Equal = sym h ∙ (ap (name_cmp a) ((bytes_eq-Decides b a).0 s) ∙ tied_itself name_total a) in cc)

-- a lower name has no greater key
pub key_low : (a b : Characters) → name_cmp a b ≡ Less → is_lt (keys_cmp b a) ≡ false
key_low a b h = by (keys_cmp a b) refl
  where
    by : (o : Ordering) → keys_cmp a b ≡ o → is_lt (keys_cmp b a) ≡ false
    by Less e = ap is_lt (key_total.antisymm b a ∙ ap ordering_reverse e)
    by Equal e = ap is_lt (key_total.antisymm b a ∙ ap ordering_reverse e)
    by Greater e = let f : Greater ≡ Less = sym (ap (λ o. ordering_then o (bytes_cmp a b)) e) ∙ h in cc

-- names of two keys are two
pub apart_by_key : (a b : Characters) → is_eq (keys_cmp b a) ≡ false → same_text a b ≡ false
apart_by_key a b other =
    false_from_ne_true (same_text a b) (λ s. let e : is_eq (keys_cmp b a) ≡ true = ap is_eq (ap (keys_cmp b) ((bytes_eq-Decides a b).0 s) ∙ tied_itself key_total b) in cc)

-- what is not less the other way round, and not the same, is less
pub less_from : (a b : Characters) → is_lt (name_cmp b a) ≡ false → same_text b a ≡ false → name_cmp a b ≡ Less
less_from a b low apart = by (name_cmp a b) refl
  where
    by : (o : Ordering) → name_cmp a b ≡ o → o ≡ Less
    by Less e = refl
    by Equal e = absurd (cc (own_name b a (sym (equal_same a b e)), apart))
    by Greater e = absurd (cc (ap is_lt (name_total.antisymm b a ∙ ap ordering_reverse e), low))

-- two that tie are the same
tied_same : (a b : Characters) → (not (is_lt (name_cmp a b)) && not (is_lt (name_cmp b a))) ≡ same_text a b
tied_same a b = by (name_cmp a b) refl
  where
    back : (o : Ordering) → name_cmp a b ≡ o → is_lt (name_cmp b a) ≡ is_lt (ordering_reverse o)
    back o e = ap is_lt (name_total.antisymm b a ∙ ap ordering_reverse e)

    by : (o : Ordering) → name_cmp a b ≡ o → (not (is_lt o) && not (is_lt (name_cmp b a))) ≡ same_text a b
    by Less e = sym (less_apart a b e)
    by Equal e = ap not (back Equal e) ∙ sym (own_name a b (equal_same a b e))
    by Greater e = ap not (back Greater e) ∙ sym (less_apart_back b a (name_total.antisymm b a ∙ ap ordering_reverse e))

abbrev pub before : Row → Row → Bool
before a b = is_lt (name_cmp (name_of a) (name_of b))

-- rows that are sorted and keep their order where they tie have the rows of each name in their order
module _ (rows sorted : List Row) (stable : IsStableBy before rows sorted) where
  of_row : (name : Characters) (r : Row) → same_text name (name_of r) ≡ true → named name sorted ≡ named name rows
  of_row name r s =
      let e : name ≡ name_of r = (bytes_eq-Decides name (name_of r)).0 s in
      alike e sorted ∙ (stable r ∙ sym (alike e rows))
    where
      alike : name ≡ name_of r → (list : List Row) → named name list ≡ filter (ties before r) list
      alike e list =
          filter_same (λ row. same_text name (name_of row)) (ties before r) list
          (each_any _ (λ row. ap (λ n. same_text n (name_of row)) e ∙ sym (tied_same (name_of r) (name_of row))) list)

  -- the first of a name, if there is one
  found : (name : Characters) (list : List Row) → (named name list ≡ []) ⊎ ((r : Row) × (same_text name (name_of r) ≡ true))
  found name [] = inl refl
  found name (r ∷ list) = by (same_text name (name_of r)) refl (found name list)
    where
      by : (b : Bool) → same_text name (name_of r) ≡ b → (named name list ≡ []) ⊎ ((r : Row) × (same_text name (name_of r) ≡ true))
          → (cond b (r ∷ named name list) (named name list) ≡ []) ⊎ ((r : Row) × (same_text name (name_of r) ≡ true))
      by true e h = inr (r, e)
      by false e h = h

  pub stay_named : HaveSameNamed rows sorted
  stay_named name = elim (found name sorted) [
    | inr (r, s) ↦ of_row name r s
    | inl none ↦ elim (found name rows) [
      | inr (r, s) ↦ of_row name r s
      | inl nothing ↦ none ∙ sym nothing
    ]
  ]

-- the comparison where the keys are equal
pub by_bytes : (a b : Characters) (key : ℕ) (text : List ℕ) (bytes : List ℕ) (r : Ordering) → Equal ≡ nat_cmp key (key_of (encode_utf8_all b)) → key ≡ key_of (encode_utf8_all a)
    → bytes ≡ encode_utf8_all a → text ≡ encode_utf8_all b → r ≡ slice_cmp nat_cmp bytes text → r ≡ name_cmp a b
by_bytes a b key text bytes r same is e f h =
    h ∙ (ap₂ (slice_cmp nat_cmp) e f
    ∙ ap (λ o. ordering_then o (bytes_cmp a b)) (same ∙ ap (λ k. nat_cmp k (key_of (encode_utf8_all b))) is))
