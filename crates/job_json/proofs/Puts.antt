-- What is found at a key after a member was put.
use Rattle.std.proofs.Common.{◌≡◌, ℕ, List, false, bytes_eq, Some, sym, ap, ◌∙◌, true≢false}
use Rattle.std.proofs.lemmas.Slice.Eq.{bytes_eq-Decides}
use Rattle.serde_json.specs.Data.{Data, Members, put}
use Rattle.serde_json.specs.Find.{get_member}
use Rattle.serde_json.proofs.Views.{get_member-put, get_member-put_other}

module _ (key : List ℕ) (d : Data) (ms : Members) where
  -- at the word that the key is
  pub here : (word : List ℕ) → key ≡ word → Some d ≡ get_member word (put key d ms)
  here word is = sym (ap (λ k. get_member word (put k d ms)) is ∙ get_member-put word d ms)

  -- at another word
  pub there : (other : List ℕ) → (key ≡ other → ⊥) → get_member other ms ≡ get_member other (put key d ms)
  there other apart = sym (get_member-put_other other key d ms (λ same. apart (sym same)))

  -- at another word than the one that the key is
  pub beside : (word other : List ℕ) → key ≡ word → bytes_eq word other ≡ false → get_member other ms ≡ get_member other (put key d ms)
  beside word other is differ = there other (λ same. true≢false (sym ((bytes_eq-Decides word other).1 (sym is ∙ same)) ∙ differ))
