-- When two names are one.
use Rattle.std.proofs.Common.{◌≡◌, ◌==◌, Bool, true, false, ◌&&◌, [], ◌∷◌, ◌++◌, Decides, refl, sym, ap, ◌∙◌}
use Rattle.std.proofs.lemmas.Bool.{and_parts, and_from, eqb-true, eq-eqb, false≢true}
use Rattle.std.specs.Cmp.{IsEquivalence}
use Rattle.std.proofs.lemmas.Bool.Decides.{same_from_decides}
use Rattle.std.proofs.lemmas.Slice.Eq.{bytes_eq-Decides}
use Rattle.layer_model.specs.Name.{Part, named, anonymous, LayerName, same_part, same_name}

same_part-true : (p q : Part) → same_part p q ≡ true → p ≡ q
same_part-true (named a) (named b) h = ap named ((bytes_eq-Decides a b).0 h)
same_part-true (anonymous s e n) (anonymous t f m) h =
    let first = and_parts (s == t) ((e == f) && (n == m)) h in
    let rest = and_parts (e == f) (n == m) first.1 in
    let sheet = eqb-true s t first.0 in
    let edition = eqb-true e f rest.0 in
    let place = eqb-true n m rest.1 in
    cc
same_part-true (named a) (anonymous t f m) h = absurd (false≢true h)
same_part-true (anonymous s e n) (named b) h = absurd (false≢true h)

pub same_part-refl : (p : Part) → same_part p p ≡ true
same_part-refl (named a) = (bytes_eq-Decides a a).1 refl
same_part-refl (anonymous s e n) =
    and_from (s == s) ((e == e) && (n == n)) (eq-eqb s s refl) (and_from (e == e) (n == n) (eq-eqb e e refl) (eq-eqb n n refl))

-- the test of two parts is that of equality
pub same_part-Decides : (p q : Part) → Decides (same_part p q) (p ≡ q)
same_part-Decides p q = (same_part-true p q, λ e. ap (same_part p) (sym e) ∙ same_part-refl p)

same_name-true : (a b : LayerName) → same_name a b ≡ true → a ≡ b
same_name-true [] [] h = refl
same_name-true (p ∷ a) (q ∷ b) h =
    let parts = and_parts (same_part p q) (same_name a b) h in
    let first = same_part-true p q parts.0 in
    let rest = same_name-true a b parts.1 in
    cc
same_name-true [] (q ∷ b) h = absurd (false≢true h)
same_name-true (p ∷ a) [] h = absurd (false≢true h)

pub same_name-refl : (a : LayerName) → same_name a a ≡ true
same_name-refl [] = refl
same_name-refl (p ∷ a) = and_from (same_part p p) (same_name a a) (same_part-refl p) (same_name-refl a)

-- the test of two names is that of equality
pub same_name-Decides : (a b : LayerName) → Decides (same_name a b) (a ≡ b)
same_name-Decides a b = (same_name-true a b, λ e. ap (same_name a) (sym e) ∙ same_name-refl a)

-- no name with a part is that without parts
pub none-within : (b : LayerName) (q : Part) → same_name [] (b ++ q ∷ []) ≡ false
none-within [] q = refl
none-within (r ∷ b) q = refl

pub within-none : (a : LayerName) (p : Part) → same_name (a ++ p ∷ []) [] ≡ false
within-none [] p = refl
within-none (r ∷ a) p = refl

and_false : (b : Bool) → (b && false) ≡ false
and_false true = refl
and_false false = refl

and_true : (b : Bool) → b ≡ (b && true)
and_true true = refl
and_true false = refl

swapped : (x y z : Bool) → (x && (y && z)) ≡ (y && (x && z))
swapped true y z = refl
swapped false true z = refl
swapped false false z = refl

-- the last parts may be compared first
pub same_name-last : (a b : LayerName) (p q : Part) → same_name (a ++ p ∷ []) (b ++ q ∷ []) ≡ (same_part p q && same_name a b)
same_name-last [] [] p q = refl
same_name-last [] (r ∷ b) p q =
    ap (λ t. same_part p r && t) (none-within b q) ∙ (and_false (same_part p r) ∙ sym (and_false (same_part p q)))
same_name-last (r ∷ a) [] p q =
    ap (λ t. same_part r q && t) (within-none a p) ∙ (and_false (same_part r q) ∙ sym (and_false (same_part p q)))
same_name-last (r ∷ a) (s ∷ b) p q =
    ap (λ t. same_part r s && t) (same_name-last a b p q) ∙ swapped (same_part r s) (same_part p q) (same_name a b)

-- names of a last part are one where what is before it and the part are one
pub same_last : (a b : LayerName) (p q : Part) → a ++ p ∷ [] ≡ b ++ q ∷ [] → (a ≡ b) × (p ≡ q)
same_last a b p q e =
    let test = sym (same_name-last a b p q) ∙ (same_name-Decides (a ++ p ∷ []) (b ++ q ∷ [])).1 e in
    let parts = and_parts (same_part p q) (same_name a b) test in
    (same_name-true a b parts.1, same_part-true p q parts.0)

-- the test of names is an equivalence
pub same_name_equiv : IsEquivalence same_name
same_name_equiv = record {
  refl = same_name-refl;
  symm = λ a b. same_from_decides _ _ (same_name-Decides a b) (λ e. sym ((same_name-Decides b a).0 e), λ e. (same_name-Decides b a).1 (sym e));
  congr = λ a b c h. ap (λ x. same_name x c) (same_name-true a b h);
}

-- a name that has parts, as what is before its last part and this
pub record HasLast (name : LayerName) : Type 0 where
  pub outer : LayerName
  pub part : Part
  pub is : name ≡ outer ++ part ∷ []

pub has_last : (p : Part) (name : LayerName) → HasLast (p ∷ name)
has_last p [] = record { outer = []; part = p; is = refl }
has_last p (q ∷ name) =
    let rest = has_last q name in
    record { outer = p ∷ rest.outer; part = rest.part; is = ap (λ n. p ∷ n) rest.is }
