-- For `Share::find`: the style of the first entry that serves is found by its element.
use Rattle.std.proofs.Common.{◌≡◌, ℕ, Bool, true, false, List, [], ◌∷◌, find, Option, Some, None, nat_eq, refl, sym, ap, subst, ◌∙◌, option_map, if◌then◌else◌}
use Rattle.std.specs.Map.{lookup, lookup_entry}
use Rattle.std.specs.Cmp.{nat_eq_equiv}
use Rattle.std.proofs.lemmas.Bool.{eqb-true, true≢false}
use Rattle.std.proofs.lemmas.Option.{same_Some, none-some}
use Rattle.base_model.proofs.Lists.{find_passes}
use Rattle.scene_model.specs.Element.{Element}
use Rattle.sharing_model.specs.Share.{Entry, Share, serving, brought}
use Rattle.sharing_model.specs.Twin.{is_twin}

module _ (test : ℕ → Bool) where
  own_entry : (f : Entry) (es : List Entry) (e : Entry) → Some f ≡ Some e → lookup_entry (nat_eq e.0) (f ∷ es) ≡ Some e
  own_entry f es e is = subst (λ (p : Entry). lookup_entry (nat_eq e.0) (p ∷ es) ≡ Some e) (sym (same_Some f e is)) (rw (nat_eq_equiv.refl e.0) refl)

  later_entry : (f : Entry) (es : List Entry) (e : Entry) → test f.0 ≡ false → test e.0 ≡ true → lookup_entry (nat_eq e.0) es ≡ Some e
      → (b : Bool) → nat_eq e.0 f.0 ≡ b → lookup_entry (nat_eq e.0) (f ∷ es) ≡ Some e
  later_entry f es e fails passes rest true q = absurd (true≢false (sym (ap test (sym (eqb-true e.0 f.0 q)) ∙ passes) ∙ fails))
  later_entry f es e fails passes rest false q = rw q rest

  -- what is found by a test of the element is the first of its element
  entry_of : (es : List Entry) (e : Entry) → find (λ f. test f.0) es ≡ Some e → lookup_entry (nat_eq e.0) es ≡ Some e
  entry_of [] e h = absurd (none-some e h)
  entry_of (f ∷ es) e h = by (test f.0) refl h (entry_of es e)
    where
      by : (b : Bool) → test f.0 ≡ b → find (λ f. test f.0) (f ∷ es) ≡ Some e
          → (find (λ f. test f.0) es ≡ Some e → lookup_entry (nat_eq e.0) es ≡ Some e) → lookup_entry (nat_eq e.0) (f ∷ es) ≡ Some e
      by true t is rest = own_entry f es e (rw t at is)
      by false t is rest =
          let found = rw t at is in
          later_entry f es e t (find_passes (λ f. test f.0) es e found) (rest found) (nat_eq e.0 f.0) refl

-- what serves is found by its element
module _ (doc : List Element) (x : ℕ) (entries : List Entry) (e : Entry) where
  entry_serving : (serves : Bool) → (if serves then find (λ f. is_twin doc f.0 x) entries else None) ≡ Some e → lookup_entry (nat_eq e.0) entries ≡ Some e
  entry_serving true h = entry_of (λ n. is_twin doc n x) entries e h
  entry_serving false h = absurd (none-some e h)

-- once it was brought first, its style is found
pub brought_style : (doc : List Element) (x y : ℕ) (share : Share) (o : Option Entry) → serving doc x share ≡ o → Some y ≡ option_map (λ e. e.0) o
    → lookup (nat_eq y) (brought o share.entries) ≡ option_map (λ e. e.1) o
brought_style doc x y share None h is = absurd (none-some y (sym is))
brought_style doc x y share (Some e) h is =
    let same : y ≡ e.0 = same_Some y e.0 is in
    rw same (rw (entry_serving doc x share.entries e share.serves h) (rw (nat_eq_equiv.refl e.0) refl))
