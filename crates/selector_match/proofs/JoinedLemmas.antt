-- What the results of the tests of a compound, or of the members of a list, tell of the whole.
use Rattle.std.proofs.Common.{◌≡◌, ℕ, zero, suc, ◌+◌, ◌<◌, Bool, true, false, ◌&&◌, ◌||◌, List, [], ◌∷◌, ◌++◌, length, take, drop, get_or, slice_get, map, Option, Some, None, refl, sym, ap, ◌∙◌}
use Rattle.std.specs.List.{list_any}
use Rattle.std.specs.Prelude.{Box}
use Rattle.std.specs.declared.alloc.Global.{Global}
use Rattle.std.proofs.Math.Bool.{or-false}
use Rattle.std.proofs.lemmas.Bool.{and_right, or_from, or_right}
use Rattle.std.proofs.lemmas.List.{map-append, take-append-drop, take_more}
use Rattle.std.proofs.lemmas.Option.{same_Some}
use Rattle.scene_model.specs.Element.{Element}
use Rattle.scene_model.specs.Lookups.{numbers}
use Rattle.scene_model.proofs.Any.{any_none, none_any}
use Rattle.selector_model.specs.Selector as model
use Rattle.selector_model.specs.Holds.{is_in_relation, holds, holds_some, meets, test_holds}
use Rattle.selector_types.specs.declared.complex.Complex.{Complex}
use Rattle.selector_types.specs.declared.complex.Left.{Left}
use Rattle.selector_types.specs.declared.complex.Test.{Test}
use Rattle.selector_types.specs.declared.complex.Test.TheViews.{out-Complex, out-Left}
use Rattle.selector_types.specs.ComplexView.{combinator_of, complex_of, complexes_of, compound_of, test_of, tested, listed}
use Rattle.selector_types.proofs.Layers.{complex_out-some, complex_out-none}
use Rattle.selector_match.specs.declared.match_result.MatchResult.{MatchResult}
use Rattle.selector_match.specs.declared.match_result.MatchResult.TheVariants.{Matched, RestartFromSibling, RestartFromDescendant, NotMatchedGlobally}
use Rattle.selector_match.specs.Results.{before, Tells, weakest}
use Rattle.selector_match.proofs.ResultLemmas.{is_match, tells_here}

pub told_match : (doc : List Element) (test : ℕ → Bool) (x : ℕ) (o : MatchResult) → o ≡ Matched → Tells doc test x o → test x ≡ true
told_match doc test x o is h = tells_here doc test x o h ∙ ap is_match is

-- what fails wherever another test fails

pub told_further : (doc : List Element) (p q : ℕ → Bool) → ((y : ℕ) → p y ≡ false → q y ≡ false) → (x : ℕ) (o : MatchResult) → (o ≡ Matched → ⊥) → Tells doc p x o → Tells doc q x o
told_further doc p q fails x Matched n h = absurd (n refl)
told_further doc p q fails x RestartFromSibling n h = fails x h
told_further doc p q fails x RestartFromDescendant n h = any_none q (x ∷ before doc x) (λ y i. fails y (none_any p y (x ∷ before doc x) h i))
told_further doc p q fails x NotMatchedGlobally n h =
    (any_none q (x ∷ before doc x) (λ y i. fails y (none_any p y (x ∷ before doc x) h.0 i)), λ y u. fails y (h.1 y u))

-- either of two tests

module _ (doc : List Element) (p q : ℕ → Bool) (x : ℕ) where
  abbrev either : ℕ → Bool
  either y = p y || q y

  neither : list_any p (x ∷ before doc x) ≡ false → list_any q (x ∷ before doc x) ≡ false → list_any either (x ∷ before doc x) ≡ false
  neither h k =
      any_none either (x ∷ before doc x) (λ y i. or_from (p y) (q y) (none_any p y (x ∷ before doc x) h i) (none_any q y (x ∷ before doc x) k i))

  fails : (a b : MatchResult) → Tells doc p x a → Tells doc q x b → is_match a ≡ false → is_match b ≡ false → either x ≡ false
  fails a b h k e f = or_from (p x) (q x) (tells_here doc p x a h ∙ e) (tells_here doc q x b k ∙ f)

  pub either_told : (a b : MatchResult) → Tells doc p x a → Tells doc q x b → Tells doc either x (weakest a b)
  either_told Matched b h k = ap (λ c. c || q x) h
  either_told RestartFromSibling Matched h k = or_right (p x) (q x) k
  either_told RestartFromSibling RestartFromSibling h k = fails RestartFromSibling RestartFromSibling h k refl refl
  either_told RestartFromSibling RestartFromDescendant h k = fails RestartFromSibling RestartFromDescendant h k refl refl
  either_told RestartFromSibling NotMatchedGlobally h k = fails RestartFromSibling NotMatchedGlobally h k refl refl
  either_told RestartFromDescendant Matched h k = or_right (p x) (q x) k
  either_told RestartFromDescendant RestartFromSibling h k = fails RestartFromDescendant RestartFromSibling h k refl refl
  either_told RestartFromDescendant RestartFromDescendant h k = neither h k
  either_told RestartFromDescendant NotMatchedGlobally h k = neither h k.0
  either_told NotMatchedGlobally Matched h k = or_right (p x) (q x) k
  either_told NotMatchedGlobally RestartFromSibling h k = fails NotMatchedGlobally RestartFromSibling h k refl refl
  either_told NotMatchedGlobally RestartFromDescendant h k = neither h.0 k
  either_told NotMatchedGlobally NotMatchedGlobally h k =
      (neither h.0 k.0, λ y u. or_from (p y) (q y) (h.1 y u) (k.1 y u))

-- a test with another law of it
pub told_same : (doc : List Element) (p q : ℕ → Bool) → ((y : ℕ) → p y ≡ q y) → (x : ℕ) (o : MatchResult) → Tells doc p x o → Tells doc q x o
told_same doc p q same x Matched h = sym (same x) ∙ h
told_same doc p q same x RestartFromSibling h = sym (same x) ∙ h
told_same doc p q same x RestartFromDescendant h = any_none q (x ∷ before doc x) (λ y i. sym (same y) ∙ none_any p y (x ∷ before doc x) h i)
told_same doc p q same x NotMatchedGlobally h =
    (any_none q (x ∷ before doc x) (λ y i. sym (same y) ∙ none_any p y (x ∷ before doc x) h.0 i), λ y u. sym (same y) ∙ h.1 y u)

-- the members of a list

pub none_told : (doc : List Element) (x : ℕ) → Tells doc (holds_some doc model.no_more) x NotMatchedGlobally
none_told doc x = (any_none (λ y. false) (x ∷ before doc x) (λ y i. refl), λ y u. refl)

some_append : (doc : List Element) (xs ys : List model.Selector) (y : ℕ) → holds_some doc (listed (xs ++ ys)) y ≡ (holds_some doc (listed xs) y || holds_some doc (listed ys) y)
some_append doc [] ys y = refl
some_append doc (s ∷ xs) ys y = ap (λ b. holds doc s y || b) (some_append doc xs ys y) ∙ by (holds doc s y)
  where
    by : (b : Bool) → (b || (holds_some doc (listed xs) y || holds_some doc (listed ys) y)) ≡ ((b || holds_some doc (listed xs) y) || holds_some doc (listed ys) y)
    by true = refl
    by false = refl

some_more : (doc : List Element) (list : List Complex) (i : ℕ) (complex : Complex) → i < length list → complex ≡ get_or list i complex → (y : ℕ) → (holds_some doc (complexes_of (take i list)) y || holds doc (complex_of complex) y) ≡ holds_some doc (complexes_of (take (i + 1) list)) y
some_more doc list i complex l is y =
    let longer : take (i + 1) list ≡ take i list ++ complex ∷ [] = take_more list i complex l ∙ ap (λ c. take i list ++ c ∷ []) (sym is) in
    sym (ap (λ cs. holds_some doc (complexes_of cs) y) longer
    ∙ (ap (λ ss. holds_some doc (listed ss) y) (map-append complex_of (take i list) (complex ∷ []))
    ∙ (some_append doc (map complex_of (take i list)) (complex_of complex ∷ []) y
    ∙ ap (λ b. holds_some doc (complexes_of (take i list)) y || b) (or-false (holds doc (complex_of complex) y)))))

pub some_next : (doc : List Element) (list : List Complex) (i : ℕ) (complex : Complex) (x : ℕ) (a b : MatchResult) → i < length list → complex ≡ get_or list i complex → Tells doc (holds_some doc (complexes_of (take i list))) x a → Tells doc (holds doc (complex_of complex)) x b → Tells doc (holds_some doc (complexes_of (take (i + 1) list))) x (weakest a b)
some_next doc list i complex x a b l is h k =
    told_same doc (either doc (holds_some doc (complexes_of (take i list))) (holds doc (complex_of complex)) x) (holds_some doc (complexes_of (take (i + 1) list))) (some_more doc list i complex l is) x (weakest a b) (either_told doc (holds_some doc (complexes_of (take i list))) (holds doc (complex_of complex)) x a b h k)

-- one that holds among the first decides
some_found : (doc : List Element) (list : List Complex) (n x : ℕ) → holds_some doc (complexes_of (take n list)) x ≡ true → holds_some doc (complexes_of list) x ≡ true
some_found doc list n x h =
    ap (λ cs. holds_some doc (complexes_of cs) x) (sym (take-append-drop n list))
    ∙ (ap (λ ss. holds_some doc (listed ss) x) (map-append complex_of (take n list) (drop n list))
    ∙ (some_append doc (map complex_of (take n list)) (map complex_of (drop n list)) x
    ∙ ap (λ b. b || holds_some doc (complexes_of (drop n list)) x) h))

pub some_member : (doc : List Element) (list : List Complex) (i : ℕ) (complex : Complex) (x : ℕ) → i < length list → complex ≡ get_or list i complex → holds doc (complex_of complex) x ≡ true → holds_some doc (complexes_of list) x ≡ true
some_member doc list i complex x l is h =
    some_found doc list (i + 1) x (sym (some_more doc list i complex l is x) ∙ or_right (holds_some doc (complexes_of (take i list)) x) (holds doc (complex_of complex) x) h)

-- the tests of a compound

pub meets_fails : (doc : List Element) (y : ℕ) (tests : List Test) (i : ℕ) (test : Test) → slice_get tests i ≡ Some test → test_holds doc (test_of test) y ≡ false → meets doc (tested (map test_of tests)) y ≡ false
meets_fails doc y [] i test at h = absurd (cc)
meets_fails doc y (u ∷ tests) zero test at h =
    ap (λ (t : Test). test_holds doc (test_of t) y && meets doc (tested (map test_of tests)) y) (same_Some u test at) ∙ ap (λ b. b && meets doc (tested (map test_of tests)) y) h
meets_fails doc y (u ∷ tests) (suc i) test at h =
    and_right (test_holds doc (test_of u) y) (meets doc (tested (map test_of tests)) y) (meets_fails doc y tests i test at h)

-- a selector fails where its subject does
pub complex_fails : (doc : List Element) (complex : Complex) (y : ℕ) (left : Option (Box Left Global)) → (out-Complex complex).left ≡ left → meets doc (compound_of (out-Complex complex).subject) y ≡ false → holds doc (complex_of complex) y ≡ false
complex_fails doc complex y None e h = ap (λ s. holds doc s y) (complex_out-none complex e) ∙ h
complex_fails doc complex y (Some l) e h =
    ap (λ s. holds doc s y) (complex_out-some complex l e) ∙ ap (λ b. b && list_any (λ z. is_in_relation doc (combinator_of (out-Left l.value).combinator) z y && holds doc (complex_of (out-Left l.value).rest) z) (numbers doc)) h
