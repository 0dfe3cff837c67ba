-- Arrays and objects, from the bracket that opens one.
use Rattle.std.proofs.Common.{◌≡◌, ℕ, ◌-◌, ◌<◌, List, ◌∷◌, length, Bool, true, false, ◌&&◌, nat_lt, Option, Some, None, refl, ap, ap₂, ◌∙◌, arith}
use Rattle.std.proofs.lemmas.Bool.Decides.{nat_tests}
use Rattle.std.specs.Prelude.{is_some}
use Rattle.std.proofs.lemmas.Bool.{and_parts}
use Rattle.json.specs.Token.{Token}
use Rattle.json.specs.Json.{parse_map}
use Rattle.serde_json.specs.Data.{Data, array, object, Items, Members, no_members}
use Rattle.serde_json.specs.Find.{as_array, as_object}
use Rattle.serde_json.specs.View.{items_of}
use Rattle.json_reader.specs.Taken.{taken, items_taken, members_taken}
use Rattle.json_reader.specs.Kept.{KeepsItems, KeepsMembers}
use Rattle.json_reader.specs.Parts.{begins_array, begins_object, opens_array, opens_object}
use Rattle.json_reader.proofs.First.{taken_array, taken_object, taken_array_too_deep, taken_object_too_deep, begins, never}

-- ---- arrays

is_begin_array : (t : Token) → begins_array t ≡ true → t ≡ Token.begin_array
is_begin_array Token.begin_object e = absurd (cc)
is_begin_array Token.end_object e = absurd (cc)
is_begin_array Token.begin_array e = refl
is_begin_array Token.end_array e = absurd (cc)
is_begin_array (Token.key s) e = absurd (cc)
is_begin_array (Token.string s) e = absurd (cc)
is_begin_array (Token.number s) e = absurd (cc)
is_begin_array (Token.boolean b) e = absurd (cc)
is_begin_array Token.null e = absurd (cc)
is_begin_array Token.bad e = absurd (cc)

no_array : (depth : ℕ) (t : Token) (ts r : List Token) (d : Data) (b : Bool) → begins_array t ≡ b → (b && nat_lt 0 depth) ≡ false → taken depth (t ∷ ts) ≡ Some (d, r) → begins_array t ≡ false
no_array depth t ts r d false is shut e = is
no_array depth t ts r d true is shut e =
    let none : depth ≡ 0 = grind (arith, nat_tests) in
    let first : t ≡ Token.begin_array = is_begin_array t is in
    let refused : taken depth (t ∷ ts) ≡ None = ap₂ (λ n k. taken n (k ∷ ts)) none first ∙ taken_array_too_deep ts in
    never _ _ refused e

none_kept_array : {S : Type 0} (keeps : S → List Data → Type 0) (s : S) (o : Option Items) → is_some o ≡ false → KeepsItems keeps s o false
none_kept_array keeps s None e = refl
none_kept_array keeps s (Some x) e = absurd (cc)

pub other_array : {S : Type 0} (keeps : S → List Data → Type 0) (s : S) (depth : ℕ) (t : Token) (ts r : List Token) (d : Data)
    → opens_array depth t ≡ false → taken depth (t ∷ ts) ≡ Some (d, r) → KeepsItems keeps s (as_array d) false
other_array keeps s depth t ts r d shut e =
    none_kept_array keeps s (as_array d) ((begins depth t ts r d e).array ∙ no_array depth t ts r d (begins_array t) refl shut e)

open_array : (depth : ℕ) (t : Token) → opens_array depth t ≡ true → (t ≡ Token.begin_array) × (0 < depth)
open_array depth t e = let both = and_parts _ _ e in (is_begin_array t both.0, grind (arith, nat_tests))

module _ (depth : ℕ) (t : Token) (ts : List Token) (opens : opens_array depth t ≡ true) where
  taken_opened_array : taken depth (t ∷ ts) ≡ parse_map array (items_taken (depth - 1) (length ts) ts)
  taken_opened_array = let both = open_array depth t opens in ap (λ k. taken depth (k ∷ ts)) both.0 ∙ taken_array depth ts both.1

  pub refused_array : items_taken (depth - 1) (length ts) ts ≡ None → taken depth (t ∷ ts) ≡ None
  refused_array e = taken_opened_array ∙ ap (parse_map array) e

  pub kept_array : {S : Type 0} (keeps : S → List Data → Type 0) (s : S) (r : List Token) (ds : List Data)
      → items_taken (depth - 1) (length ts) ts ≡ Some (items_of ds, r) → keeps s ds → (d : Data) × (taken depth (t ∷ ts) ≡ Some (d, r)) × KeepsItems keeps s (as_array d) true
  kept_array keeps s r ds e h = (array (items_of ds), taken_opened_array ∙ ap (parse_map array) e, (refl, (ds, refl, h)))

-- ---- objects

is_begin_object : (t : Token) → begins_object t ≡ true → t ≡ Token.begin_object
is_begin_object Token.begin_object e = refl
is_begin_object Token.end_object e = absurd (cc)
is_begin_object Token.begin_array e = absurd (cc)
is_begin_object Token.end_array e = absurd (cc)
is_begin_object (Token.key s) e = absurd (cc)
is_begin_object (Token.string s) e = absurd (cc)
is_begin_object (Token.number s) e = absurd (cc)
is_begin_object (Token.boolean b) e = absurd (cc)
is_begin_object Token.null e = absurd (cc)
is_begin_object Token.bad e = absurd (cc)

no_object : (depth : ℕ) (t : Token) (ts r : List Token) (d : Data) (b : Bool) → begins_object t ≡ b → (b && nat_lt 0 depth) ≡ false → taken depth (t ∷ ts) ≡ Some (d, r) → begins_object t ≡ false
no_object depth t ts r d false is shut e = is
no_object depth t ts r d true is shut e =
    let none : depth ≡ 0 = grind (arith, nat_tests) in
    let first : t ≡ Token.begin_object = is_begin_object t is in
    let refused : taken depth (t ∷ ts) ≡ None = ap₂ (λ n k. taken n (k ∷ ts)) none first ∙ taken_object_too_deep ts in
    never _ _ refused e

none_kept_object : {S : Type 0} (keeps : S → Members → Type 0) (s : S) (o : Option Members) → is_some o ≡ false → KeepsMembers keeps s o false
none_kept_object keeps s None e = refl
none_kept_object keeps s (Some x) e = absurd (cc)

pub other_object : {S : Type 0} (keeps : S → Members → Type 0) (s : S) (depth : ℕ) (t : Token) (ts r : List Token) (d : Data)
    → opens_object depth t ≡ false → taken depth (t ∷ ts) ≡ Some (d, r) → KeepsMembers keeps s (as_object d) false
other_object keeps s depth t ts r d shut e =
    none_kept_object keeps s (as_object d) ((begins depth t ts r d e).object ∙ no_object depth t ts r d (begins_object t) refl shut e)

open_object : (depth : ℕ) (t : Token) → opens_object depth t ≡ true → (t ≡ Token.begin_object) × (0 < depth)
open_object depth t e = let both = and_parts _ _ e in (is_begin_object t both.0, grind (arith, nat_tests))

module _ (depth : ℕ) (t : Token) (ts : List Token) (opens : opens_object depth t ≡ true) where
  taken_opened_object : taken depth (t ∷ ts) ≡ parse_map object (members_taken (depth - 1) no_members (length ts) ts)
  taken_opened_object = let both = open_object depth t opens in ap (λ k. taken depth (k ∷ ts)) both.0 ∙ taken_object depth ts both.1

  pub refused_object : members_taken (depth - 1) no_members (length ts) ts ≡ None → taken depth (t ∷ ts) ≡ None
  refused_object e = taken_opened_object ∙ ap (parse_map object) e

  pub kept_object : {S : Type 0} (keeps : S → Members → Type 0) (s : S) (r : List Token) (ms : Members)
      → members_taken (depth - 1) no_members (length ts) ts ≡ Some (ms, r) → keeps s ms → (d : Data) × (taken depth (t ∷ ts) ≡ Some (d, r)) × KeepsMembers keeps s (as_object d) true
  kept_object keeps s r ms e h = (object ms, taken_opened_object ∙ ap (parse_map object) e, (refl, h))
