-- What is taken where a token is first.
use Rattle.std.proofs.Common.{◌≡◌, ℕ, zero, suc, ◌-◌, ◌<◌, List, [], ◌∷◌, length, Bool, true, false, Option, Some, None, option_map, option_and_then, refl, sym, ap, ◌∙◌, subst, arith}
use Rattle.std.specs.Prelude.{is_some}
use Rattle.json.specs.Token.{Token}
use Rattle.json.specs.Json.{parse_map, value, items, members}
use Rattle.json.proofs.Grammar.{value_is, value-begin_array, value-begin_object}
use Rattle.serde_json.specs.Data.{Data, Num, null, boolean, number, string, array, object, unsigned, negative, float, Items, Members, no_members}
use Rattle.serde_json.specs.Find.{as_str, as_bool, as_array, as_object, as_u64}
use Rattle.serde_json.specs.Read.{of_json, number_of, converted}
use Rattle.json_reader.specs.Taken.{taken, items_taken, members_taken, IsTaken, AreTaken}
use Rattle.json_reader.specs.Parts.{as_whole, string_at, boolean_at, whole_at, begins_array, begins_object}
use Rattle.json_reader.proofs.Reading.{converted-array, converted-object}

module _ (depth : ℕ) where
  pub taken_nothing : taken depth [] ≡ None
  unfolding taken
  taken_nothing = ap (converted of_json) (value_is depth [])

  module _ (ts : List Token) where
    pub taken_string : (s : List ℕ) → taken depth (Token.string s ∷ ts) ≡ Some (string s, ts)
    unfolding taken
    taken_string s = ap (converted of_json) (value_is depth (Token.string s ∷ ts))

    pub taken_boolean : (b : Bool) → taken depth (Token.boolean b ∷ ts) ≡ Some (boolean b, ts)
    unfolding taken
    taken_boolean b = ap (converted of_json) (value_is depth (Token.boolean b ∷ ts))

    pub taken_null : taken depth (Token.null ∷ ts) ≡ Some (null, ts)
    unfolding taken
    taken_null = ap (converted of_json) (value_is depth (Token.null ∷ ts))

    as_data : (o : Option Num) → option_map {U = Data × List Token} (λ b. (b, ts)) (option_map number o) ≡ option_map (λ n. (number n, ts)) o
    as_data None = refl
    as_data (Some n) = refl

    pub taken_number : (s : List ℕ) → taken depth (Token.number s ∷ ts) ≡ option_map (λ n. (number n, ts)) (number_of s)
    unfolding taken
    taken_number s = ap (converted of_json) (value_is depth (Token.number s ∷ ts)) ∙ as_data (number_of s)

    pub taken_end_object : taken depth (Token.end_object ∷ ts) ≡ None
    unfolding taken
    taken_end_object = ap (converted of_json) (value_is depth (Token.end_object ∷ ts))

    pub taken_end_array : taken depth (Token.end_array ∷ ts) ≡ None
    unfolding taken
    taken_end_array = ap (converted of_json) (value_is depth (Token.end_array ∷ ts))

    pub taken_key : (s : List ℕ) → taken depth (Token.key s ∷ ts) ≡ None
    unfolding taken
    taken_key s = ap (converted of_json) (value_is depth (Token.key s ∷ ts))

    pub taken_bad : taken depth (Token.bad ∷ ts) ≡ None
    unfolding taken
    taken_bad = ap (converted of_json) (value_is depth (Token.bad ∷ ts))

    pub taken_array : 0 < depth → taken depth (Token.begin_array ∷ ts) ≡ parse_map array (items_taken (depth - 1) (length ts) ts)
    unfolding taken items_taken
    taken_array deep = ap (converted of_json) (value-begin_array depth ts deep) ∙ converted-array (items (value (depth - 1)) (length ts) ts)

    pub taken_object : 0 < depth → taken depth (Token.begin_object ∷ ts) ≡ parse_map object (members_taken (depth - 1) no_members (length ts) ts)
    unfolding taken members_taken
    taken_object deep = ap (converted of_json) (value-begin_object depth ts deep) ∙ converted-object (members (value (depth - 1)) (length ts) ts)

pub taken_array_too_deep : (ts : List Token) → taken 0 (Token.begin_array ∷ ts) ≡ None
unfolding taken value
taken_array_too_deep ts = refl

pub taken_object_too_deep : (ts : List Token) → taken 0 (Token.begin_object ∷ ts) ≡ None
unfolding taken value
taken_object_too_deep ts = refl

-- ---- whether a token is a value, or begins none

abbrev pub begins_nothing : Token → Bool
begins_nothing Token.begin_object = false
begins_nothing Token.end_object = true
begins_nothing Token.begin_array = false
begins_nothing Token.end_array = true
begins_nothing (Token.key s) = true
begins_nothing (Token.string s) = false
begins_nothing (Token.number s) = false
begins_nothing (Token.boolean b) = false
begins_nothing Token.null = false
begins_nothing Token.bad = true

pub none_begun : (depth : ℕ) (t : Token) (ts : List Token) → begins_nothing t ≡ true → taken depth (t ∷ ts) ≡ None
none_begun depth Token.begin_object ts e = absurd (cc)
none_begun depth Token.end_object ts e = taken_end_object depth ts
none_begun depth Token.begin_array ts e = absurd (cc)
none_begun depth Token.end_array ts e = taken_end_array depth ts
none_begun depth (Token.key s) ts e = taken_key depth ts s
none_begun depth (Token.string s) ts e = absurd (cc)
none_begun depth (Token.number s) ts e = absurd (cc)
none_begun depth (Token.boolean b) ts e = absurd (cc)
none_begun depth Token.null ts e = absurd (cc)
none_begun depth Token.bad ts e = taken_bad depth ts

abbrev pub is_scalar : Token → Bool
is_scalar Token.begin_object = false
is_scalar Token.end_object = false
is_scalar Token.begin_array = false
is_scalar Token.end_array = false
is_scalar (Token.key s) = false
is_scalar (Token.string s) = true
is_scalar (Token.number s) = is_some (number_of s)
is_scalar (Token.boolean b) = true
is_scalar Token.null = true
is_scalar Token.bad = false

number_read : (ts : List Token) (o : Option Num) → is_some o ≡ true → IsTaken (option_map (λ n. (number n, ts)) o) ts
number_read ts None e = absurd (cc)
number_read ts (Some n) e = (number n, refl)

pub scalar_taken : (depth : ℕ) (t : Token) (ts : List Token) → is_scalar t ≡ true → IsTaken (taken depth (t ∷ ts)) ts
scalar_taken depth Token.begin_object ts e = absurd (cc)
scalar_taken depth Token.end_object ts e = absurd (cc)
scalar_taken depth Token.begin_array ts e = absurd (cc)
scalar_taken depth Token.end_array ts e = absurd (cc)
scalar_taken depth (Token.key s) ts e = absurd (cc)
scalar_taken depth (Token.string s) ts e = (string s, taken_string depth ts s)
scalar_taken depth (Token.number s) ts e = subst (λ o. IsTaken o ts) (sym (taken_number depth ts s)) (number_read ts (number_of s) e)
scalar_taken depth (Token.boolean b) ts e = (boolean b, taken_boolean depth ts b)
scalar_taken depth Token.null ts e = (null, taken_null depth ts)
scalar_taken depth Token.bad ts e = absurd (cc)

no_number : (ts : List Token) (o : Option Num) → is_some o ≡ false → option_map {U = Data × List Token} (λ n. (number n, ts)) o ≡ None
no_number ts None e = refl
no_number ts (Some n) e = absurd (cc)

pub number_refused : (depth : ℕ) (s : List ℕ) (ts : List Token) → is_some (number_of s) ≡ false → taken depth (Token.number s ∷ ts) ≡ None
number_refused depth s ts e = taken_number depth ts s ∙ no_number ts (number_of s) e

-- ---- arrays and objects

array_read : (o : Option (Items × List Token)) (r : List Token) → AreTaken o r → IsTaken (parse_map array o) r
array_read o r taken_all = (array taken_all.0, ap (parse_map array) taken_all.1)

object_read : (o : Option (Members × List Token)) (r : List Token) → AreTaken o r → IsTaken (parse_map object o) r
object_read o r taken_all = (object taken_all.0, ap (parse_map object) taken_all.1)

module _ (depth : ℕ) (ts : List Token) (deep : 0 < depth) where
  pub array_taken : (r : List Token) → AreTaken (items_taken (depth - 1) (length ts) ts) r → IsTaken (taken depth (Token.begin_array ∷ ts)) r
  array_taken r all = subst (λ o. IsTaken o r) (sym (taken_array depth ts deep)) (array_read _ r all)

  pub array_refused : items_taken (depth - 1) (length ts) ts ≡ None → taken depth (Token.begin_array ∷ ts) ≡ None
  array_refused e = taken_array depth ts deep ∙ ap (parse_map array) e

  pub object_taken : (r : List Token) → AreTaken (members_taken (depth - 1) no_members (length ts) ts) r → IsTaken (taken depth (Token.begin_object ∷ ts)) r
  object_taken r all = subst (λ o. IsTaken o r) (sym (taken_object depth ts deep)) (object_read _ r all)

  pub object_refused : members_taken (depth - 1) no_members (length ts) ts ≡ None → taken depth (Token.begin_object ∷ ts) ≡ None
  object_refused e = taken_object depth ts deep ∙ ap (parse_map object) e

-- ---- what the value says, seen from the token

pub record Begins (t : Token) (d : Data) : Type 0 where
  pub string : as_str d ≡ string_at t
  pub boolean : as_bool d ≡ boolean_at t
  pub whole : as_whole d ≡ whole_at t
  pub array : is_some (as_array d) ≡ begins_array t
  pub object : is_some (as_object d) ≡ begins_object t

-- the value that was read
abbrev data_or : Data → Option (Data × List Token) → Data
data_or d None = d
data_or d (Some p) = p.0

same : (o : Option (Data × List Token)) (a b : Data) (r s : List Token) → o ≡ Some (a, r) → o ≡ Some (b, s) → a ≡ b
same o a b r s e f = ap (data_or a) (sym e ∙ f)

begins_as : (t : Token) (a d : Data) (q r : List Token) (o : Option (Data × List Token)) → o ≡ Some (a, q) → o ≡ Some (d, r) → Begins t a → Begins t d
begins_as t a d q r o e f h = subst (Begins t) (same o a d q r e f) h

begins_number : (s : List ℕ) (o : Option Num) (d : Data) (q r : List Token) → number_of s ≡ o → option_map {U = Data × List Token} (λ n. (number n, q)) o ≡ Some (d, r) → Begins (Token.number s) d
begins_number s None d q r is e = absurd (cc)
begins_number s (Some n) d q r is e = begins_as (Token.number s) (number n) d q r _ refl e (record { string = refl; boolean = refl; whole = sym (ap (option_and_then as_u64) is); array = refl; object = refl })

begins_array_with : (o : Option (Items × List Token)) (d : Data) (r : List Token) → parse_map array o ≡ Some (d, r) → Begins Token.begin_array d
begins_array_with None d r e = absurd (cc)
begins_array_with (Some p) d r e = begins_as Token.begin_array (array p.0) d p.1 r _ refl e (record { string = refl; boolean = refl; whole = refl; array = refl; object = refl })

begins_object_with : (o : Option (Members × List Token)) (d : Data) (r : List Token) → parse_map object o ≡ Some (d, r) → Begins Token.begin_object d
begins_object_with None d r e = absurd (cc)
begins_object_with (Some p) d r e = begins_as Token.begin_object (object p.0) d p.1 r _ refl e (record { string = refl; boolean = refl; whole = refl; array = refl; object = refl })

pub never : {P : Type 0} (o : Option (Data × List Token)) (p : Data × List Token) → o ≡ None → o ≡ Some p → P
never o p e f = absurd (cc)

pub begins : (depth : ℕ) (t : Token) (ts r : List Token) (d : Data) → taken depth (t ∷ ts) ≡ Some (d, r) → Begins t d
begins zero Token.begin_object ts r d e = never _ _ (taken_object_too_deep ts) e
begins (suc n) Token.begin_object ts r d e = begins_object_with _ d r (sym (taken_object (suc n) ts (omega arith)) ∙ e)
begins depth Token.end_object ts r d e = never _ _ (taken_end_object depth ts) e
begins zero Token.begin_array ts r d e = never _ _ (taken_array_too_deep ts) e
begins (suc n) Token.begin_array ts r d e = begins_array_with _ d r (sym (taken_array (suc n) ts (omega arith)) ∙ e)
begins depth Token.end_array ts r d e = never _ _ (taken_end_array depth ts) e
begins depth (Token.key s) ts r d e = never _ _ (taken_key depth ts s) e
begins depth (Token.string s) ts r d e = begins_as (Token.string s) (string s) d ts r _ (taken_string depth ts s) e (record { string = refl; boolean = refl; whole = refl; array = refl; object = refl })
begins depth (Token.number s) ts r d e = begins_number s (number_of s) d ts r refl (sym (taken_number depth ts s) ∙ e)
begins depth (Token.boolean b) ts r d e = begins_as (Token.boolean b) (boolean b) d ts r _ (taken_boolean depth ts b) e (record { string = refl; boolean = refl; whole = refl; array = refl; object = refl })
begins depth Token.null ts r d e = begins_as Token.null null d ts r _ (taken_null depth ts) e (record { string = refl; boolean = refl; whole = refl; array = refl; object = refl })
begins depth Token.bad ts r d e = never _ _ (taken_bad depth ts) e

-- a whole number is taken whatever comes after it

whole_num : (n : Num) (k : ℕ) → as_u64 n ≡ Some k → n ≡ unsigned k
whole_num (unsigned m) k e = cc
whole_num (negative z) k e = absurd (cc)
whole_num (float x) k e = absurd (cc)

whole_text : (o : Option Num) (k : ℕ) → option_and_then as_u64 o ≡ Some k → o ≡ Some (unsigned k)
whole_text None k e = absurd (cc)
whole_text (Some n) k e = ap (λ m. Some m) (whole_num n k e)

pub taken_whole : (depth : ℕ) (t : Token) (ts : List Token) (k : ℕ) → whole_at t ≡ Some k → taken depth (t ∷ ts) ≡ Some (number (unsigned k), ts)
taken_whole depth Token.begin_object ts k e = absurd (cc)
taken_whole depth Token.end_object ts k e = absurd (cc)
taken_whole depth Token.begin_array ts k e = absurd (cc)
taken_whole depth Token.end_array ts k e = absurd (cc)
taken_whole depth (Token.key s) ts k e = absurd (cc)
taken_whole depth (Token.string s) ts k e = absurd (cc)
taken_whole depth (Token.number s) ts k e = taken_number depth ts s ∙ ap (option_map (λ n. (number n, ts))) (whole_text (number_of s) k e)
taken_whole depth (Token.boolean b) ts k e = absurd (cc)
taken_whole depth Token.null ts k e = absurd (cc)
taken_whole depth Token.bad ts k e = absurd (cc)

whole_read_as : (depth : ℕ) (t : Token) (ts : List Token) (o : Option ℕ) → whole_at t ≡ o → is_some o ≡ true → (d : Data) × (taken depth (t ∷ ts) ≡ Some (d, ts)) × (as_whole d ≡ o)
whole_read_as depth t ts None is e = absurd (cc)
whole_read_as depth t ts (Some k) is e = (number (unsigned k), taken_whole depth t ts k is, refl)

pub whole_read : (depth : ℕ) (t : Token) (ts : List Token) → is_some (whole_at t) ≡ true → (d : Data) × (taken depth (t ∷ ts) ≡ Some (d, ts)) × (as_whole d ≡ whole_at t)
whole_read depth t ts e = whole_read_as depth t ts (whole_at t) refl e

-- where nothing is taken
pub ruleset no_values = (number_refused, array_refused, object_refused, taken_array_too_deep, taken_object_too_deep)
