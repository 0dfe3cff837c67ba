-- For `IsShareOf`: a share finds right styles, and keeps only such.
use Rattle.std.proofs.Common.{◌≡◌, ℕ, zero, suc, ◌-◌, nat_eq, List, [], ◌∷◌, map, take, find}
use Rattle.std.proofs.Common.{Bool, true, false, not, cond, Option, Some, None, if◌then◌else◌, refl, sym, ap, ◌∙◌, subst}
use Rattle.std.specs.List.{AllByRecursion}
use Rattle.std.specs.Map.{lookup_entry, remove_entry}
use Rattle.std.specs.Option.{option_map_or}
use Rattle.std.proofs.lemmas.Bool.{eqb-true, not-true}
use Rattle.std.proofs.lemmas.Option.{same_Some, none-some}
use Rattle.base_model.proofs.Lists.{each-take, find_passes, found_holds}
use Rattle.lru.specs.LruCache.{lru_cache, promoted, put_entries}
use Rattle.scene_model.specs.Element.{Element}
use Rattle.scene_model.specs.Valid.{IsValid}
use Rattle.value_model.specs.Style.{Style}
use Rattle.sheet_model.specs.Sources.{Sources}
use Rattle.cascade_model.specs.StyleOf.{style_of}
use Rattle.sharing_model.specs.Siblings.{ask_for_siblings}
use Rattle.sharing_model.specs.Twin.{is_twin, IsTwin}
use Rattle.sharing_model.specs.Share.{Share, Entry, serving, brought, found, holder, put_within, put_first, placed, emptied, IsStyleOf, IsShareOf}
use Rattle.sharing_model.proofs.ToldLemmas.{twin_told}
use Rattle.sharing_model.proofs.MatchingLemmas.{style_twin}

-- entries of any values

module _ {X : Type 0} (P : ℕ × X → Type 0) where
  looked_each : (test : ℕ → Bool) (es : List (ℕ × X)) (e : ℕ × X) → lookup_entry test es ≡ Some e → AllByRecursion P es → P e × (test e.0 ≡ true)
  looked_each test [] e h k = absurd (none-some e h)
  looked_each test (f ∷ es) e h k = by (test f.0) refl h (λ later. looked_each test es e later k.1)
    where
      by : (b : Bool) → test f.0 ≡ b → cond b (Some f) (lookup_entry test es) ≡ Some e
          → (lookup_entry test es ≡ Some e → P e × (test e.0 ≡ true)) → P e × (test e.0 ≡ true)
      by true t g rest = let same = same_Some f e g in (subst P same k.0, ap (λ (p : ℕ × X). test p.0) (sym same) ∙ t)
      by false t g rest = rest g

  rest_each : (test : ℕ → Bool) (es : List (ℕ × X)) → AllByRecursion P es → AllByRecursion P (remove_entry test es)
  rest_each test [] k = tt
  rest_each test (f ∷ es) k = by (test f.0) (rest_each test es k.1)
    where
      by : (b : Bool) → AllByRecursion P (remove_entry test es) → AllByRecursion P (cond b es (f ∷ remove_entry test es))
      by true rest = k.1
      by false rest = (k.0, rest)

  promoted_each : (test : ℕ → Bool) (es : List (ℕ × X)) → AllByRecursion P es → AllByRecursion P (promoted test es)
  promoted_each test es k = by (lookup_entry test es) refl
    where
      by : (o : Option (ℕ × X)) → lookup_entry test es ≡ o → AllByRecursion P (option_map_or (λ e. e ∷ remove_entry test es) o es)
      by None h = k
      by (Some e) h = ((looked_each test es e h k).0, rest_each test es k)

  put_each : (es : List (ℕ × X)) (cap key : ℕ) (value : X) → P (key, value) → AllByRecursion P es → AllByRecursion P (put_entries nat_eq (lru_cache es cap) key value)
  put_each es cap key value here k = by (lookup_entry (nat_eq key) es) refl
    where
      by : (o : Option (ℕ × X)) → lookup_entry (nat_eq key) es ≡ o
          → AllByRecursion P (option_map_or (λ (e : ℕ × X). (e.0, value) ∷ remove_entry (nat_eq key) es) o ((key, value) ∷ take (cap - 1) es))
      by None h = (here, each-take P (cap - 1) es k)
      by (Some e) h =
          (subst (λ n. P (n, value)) (eqb-true key e.0 (looked_each (nat_eq key) es e h k).1) here, rest_each (nat_eq key) es k)

-- there is no entry
pub share_start : (doc : List Element) (sources : Sources) (share : Share)
    → IsShareOf doc sources (emptied (not (ask_for_siblings (map (λ rule. rule.selectors) sources.rules))) share)
share_start doc sources share = record { serves = refl; entries = tt }

-- a style may be put under the number of its element
pub share_put_first : (doc : List Element) (sources : Sources) (x : ℕ) (share : Share) (style : Style) → IsShareOf doc sources share
    → style ≡ style_of doc sources x → IsShareOf doc sources (put_first (x, style) share)
share_put_first doc sources x share style s is = record { serves = s.serves; entries = within share.size }
  where
    within : (size : ℕ) → AllByRecursion (IsStyleOf doc sources) (put_within size share.entries (x, style))
    within zero = tt
    within (suc n) = put_each (IsStyleOf doc sources) share.entries (suc n) x style is s.entries

module _ (doc : List Element) (v : IsValid doc) (sources : Sources) (x : ℕ) where
  -- what serves x is of a twin, which has its style
  pub found_twin : (share : Share) (e : Entry) → IsShareOf doc sources share → serving doc x share ≡ Some e
      → IsTwin doc e.0 x × (e.1 ≡ style_of doc sources e.0) × (style_of doc sources e.0 ≡ style_of doc sources x)
  found_twin share e s h = by share.serves refl h
    where
      by : (b : Bool) → share.serves ≡ b → (if b then find (λ f. is_twin doc f.0 x) share.entries else None) ≡ Some e
          → IsTwin doc e.0 x × (e.1 ≡ style_of doc sources e.0) × (style_of doc sources e.0 ≡ style_of doc sources x)
      by false c g = absurd (none-some e g)
      by true c g =
          let right = found_holds (IsStyleOf doc sources) (λ f. is_twin doc f.0 x) share.entries e s.entries g in
          let twin = twin_told doc e.0 x (find_passes (λ f. is_twin doc f.0 x) share.entries e g) in
          let none = not-true (ask_for_siblings (map (λ rule. rule.selectors) sources.rules)) (sym s.serves ∙ c) in
          (twin, right, style_twin doc v e.0 x twin sources none)

  -- what is found is the style of x
  pub found_right : (share : Share) (e : Entry) → IsShareOf doc sources share → serving doc x share ≡ Some e → e.1 ≡ style_of doc sources x
  found_right share e s h = let (twin, right, same) = found_twin share e s h in right ∙ same

  -- the style of x may be put in place of that of the twin whose entry serves it
  pub share_placed : (share : Share) (style : Style) → IsShareOf doc sources share → style ≡ style_of doc sources x
      → IsShareOf doc sources (placed doc x style share)
  share_placed share style s is =
      share_put_first doc sources (holder (serving doc x share) x) share style s (by (serving doc x share) refl)
    where
      by : (o : Option Entry) → serving doc x share ≡ o → style ≡ style_of doc sources (holder o x)
      by None h = is
      by (Some e) h = let (twin, right, same) = found_twin share e s h in is ∙ sym same

-- a look leaves the entries as they are, but for their order
pub share_found : (doc : List Element) (sources : Sources) (x : ℕ) (share : Share) → IsShareOf doc sources share → IsShareOf doc sources (found doc x share)
share_found doc sources x share s = record { serves = s.serves; entries = by (serving doc x share) }
  where
    by : (o : Option Entry) → AllByRecursion (IsStyleOf doc sources) (brought o share.entries)
    by None = s.entries
    by (Some e) = promoted_each (IsStyleOf doc sources) (nat_eq e.0) share.entries s.entries
