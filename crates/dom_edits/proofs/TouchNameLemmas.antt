-- A short text as a number, and the text of that number.
use Rattle.std.proofs.Common.{◌≡◌, ◌≢◌, ℕ, zero, suc, ◌+◌, ◌-◌, ◌*◌, ◌/◌, ◌%◌, ◌^◌, ◌<◌, ◌≤◌, ◌==◌, nat_le, nat_lt, Bool, true, false, cond, List, [], ◌∷◌, ◌++◌, length, get_or, encode_utf8_all, refl, sym, ap, ◌∙◌, arith, append-nil}
use Rattle.std.specs.List.{fold}
use Rattle.std.specs.Str.{chars, IsUtf8}
use Rattle.std.proofs.lemmas.Bool.{eqb-true, false_from_ne_true, leb-true, ltb-true}
use Rattle.std.proofs.lemmas.Nat.{div-mul-add}
use Rattle.std.proofs.lemmas.Slice.Eq.{bytes_eq-Decides}
use Rattle.base_model.specs.Text.{Characters, same_text}
use Rattle.stylo_base.specs.NameKey.{key_of}
use Rattle.stylo_base.proofs.TextLemmas.{bytes_from_chars}
use Rattle.dom_edits.specs.TouchNames.{IsNamed, digits_of, long_of, named_text, short_length, short_of, with_digit}

abbrev AreBytes : List ℕ → Type 0
AreBytes bytes = (i : ℕ) → get_or bytes i 0 < 256

-- below this a number has room for so many digits more
abbrev room_for : ℕ → ℕ
room_for zero = 2 ^ 64
room_for (suc more) = room_for more / 256

room_most : (more : ℕ) → room_for more ≤ 2 ^ 64
room_most zero = omega arith
room_most (suc more) = omega (arith, room_most more)

-- one digit more

grows : (a b : ℕ) (more : ℕ) → a < room_for (suc more) → b < 256 → a * 256 + b < room_for more
grows a b more h l = omega (arith, h, l)

is_digit : (a b : ℕ) (more : ℕ) → a < room_for (suc more) → b < 256 → with_digit a b ≡ a * 256 + b
is_digit a b more h l = omega (arith, grows a b more h l, room_most more)

later_bytes : (b : ℕ) (bytes : List ℕ) → AreBytes (b ∷ bytes) → AreBytes bytes
later_bytes b bytes each i = each (suc i)

is_positive : (a : ℕ) (bytes : List ℕ) → AreBytes bytes → 1 ≤ a → a < room_for (length bytes) → 1 ≤ fold with_digit a bytes
is_positive a [] each h room = h
is_positive a (b ∷ bytes) each h room =
    let e = is_digit a b (length bytes) room (each 0) in
    is_positive (with_digit a b) bytes (later_bytes b bytes each) (omega (arith, e, h)) (omega (arith, e, grows a b (length bytes) room (each 0)))

last_off : (a b more : ℕ) (rest : List ℕ) → 1 ≤ a → b < 256 → digits_of (suc more) (a * 256 + b) rest ≡ digits_of more a (b ∷ rest)
last_off a b more rest h l = by (nat_lt (a * 256 + b) 256) refl
  where
    by : (c : Bool) → nat_lt (a * 256 + b) 256 ≡ c → cond c rest (digits_of more ((a * 256 + b) / 256) ((a * 256 + b) % 256 ∷ rest)) ≡ digits_of more a (b ∷ rest)
    by true e = absurd (omega (arith, ltb-true (a * 256 + b) 256 e, h))
    by false e = λ i. digits_of more (div-mul-add a 256 b l i) (digit i ∷ rest)
      where
        digit : (a * 256 + b) % 256 ≡ b
        digit = omega (arith, l)

-- the digits behind the first number are the bytes
back : (a more : ℕ) (bytes rest : List ℕ) → AreBytes bytes → 1 ≤ a → a < room_for (length bytes) → digits_of (length bytes + more) (fold with_digit a bytes) rest ≡ digits_of more a (bytes ++ rest)
back a more [] rest each h room =
    let e : 0 + more ≡ more = omega arith in
    ap (λ n. digits_of n a rest) e
back a more (b ∷ bytes) rest each h room =
    let e = is_digit a b (length bytes) room (each 0) in
    let f : suc (length bytes) + more ≡ length bytes + suc more = omega arith in
    ap (λ n. digits_of n (fold with_digit (with_digit a b) bytes) rest) f
    ∙ (back (with_digit a b) (suc more) bytes rest (later_bytes b bytes each) (omega (arith, e, h)) (omega (arith, e, grows a b (length bytes) room (each 0)))
    ∙ (ap (λ n. digits_of (suc more) n (bytes ++ rest)) e ∙ last_off a b more (bytes ++ rest) h (each 0)))

none_more : (more : ℕ) (rest : List ℕ) → digits_of more 1 rest ≡ rest
none_more zero rest = refl
none_more (suc more) rest = refl

has_room : (n : ℕ) → n ≤ short_length → 1 < room_for n
has_room zero h = omega arith
has_room (suc zero) h = omega arith
has_room (suc (suc zero)) h = omega arith
has_room (suc (suc (suc zero))) h = omega arith
has_room (suc (suc (suc (suc zero)))) h = omega arith
has_room (suc (suc (suc (suc (suc zero))))) h = omega arith
has_room (suc (suc (suc (suc (suc (suc zero)))))) h = omega arith
has_room (suc (suc (suc (suc (suc (suc (suc zero))))))) h = omega arith
has_room (suc (suc (suc (suc (suc (suc (suc (suc n)))))))) h = absurd (omega (arith, h))

short_back : (bytes : List ℕ) → AreBytes bytes → length bytes ≤ short_length → digits_of short_length (fold with_digit 1 bytes) [] ≡ bytes
short_back bytes each few =
    let e : short_length ≡ length bytes + (short_length - length bytes) = omega (arith, few) in
    ap (λ n. digits_of n (fold with_digit 1 bytes) []) e
    ∙ (back 1 (short_length - length bytes) bytes [] each (omega arith) (has_room (length bytes) few)
    ∙ (none_more (short_length - length bytes) (bytes ++ []) ∙ append-nil bytes))

-- the text is told again
pub told_text : (bytes : List ℕ) (short : ℕ) (long : Characters) → IsUtf8 bytes → AreBytes bytes → short ≡ short_of bytes → long ≡ long_of (chars bytes) → named_text short long ≡ chars bytes
told_text bytes short long u each e f = by (nat_le (length bytes) short_length) refl
  where
    as_long : length (encode_utf8_all (chars bytes)) ≡ length bytes
    as_long = ap length (sym (bytes_from_chars bytes (chars bytes) u refl))

    zero_off : (n : ℕ) → 1 ≤ n → (n == 0) ≡ false
    zero_off n h = false_from_ne_true (n == 0) (λ t. omega (arith, eqb-true n 0 t, h))

    by : (c : Bool) → nat_le (length bytes) short_length ≡ c → named_text short long ≡ chars bytes
    by true h =
        let few : length bytes ≤ short_length = leb-true (length bytes) short_length h in
        let number : short ≡ fold with_digit 1 bytes = e ∙ ap (λ b. cond b (fold with_digit 1 bytes) 0) h in
        ap (λ n. named_text n long) number
        ∙ (ap (λ b. cond b long (chars (digits_of short_length (fold with_digit 1 bytes) []))) (zero_off (fold with_digit 1 bytes) (is_positive 1 bytes each (omega arith) (has_room (length bytes) few)))
        ∙ ap chars (short_back bytes each few))
    by false h =
        ap (λ n. named_text n long) (e ∙ ap (λ b. cond b (fold with_digit 1 bytes) 0) h)
        ∙ (f ∙ ap (λ b. cond b [] (chars bytes)) (ap (λ n. nat_le n short_length) as_long ∙ h))

pub are_named : (bytes : List ℕ) (key short : ℕ) (long : Characters) → IsUtf8 bytes → AreBytes bytes → key ≡ key_of bytes → short ≡ short_of bytes → long ≡ long_of (chars bytes) → IsNamed key short long
are_named bytes key short long u each k e f =
    let told = told_text bytes short long u each e f in
    let same : encode_utf8_all (named_text short long) ≡ bytes = sym (bytes_from_chars bytes (named_text short long) u (sym told)) in
    record {
      keyed = k ∙ ap key_of (sym same);
      shortened = e ∙ ap short_of (sym same);
      kept = f ∙ ap long_of (sym told);
    }

-- texts of which one is told otherwise than the other are two
pub apart_by : (told : List ℕ → ℕ) (n m : ℕ) (shown self text : Characters) → shown ≡ self → n ≡ told (encode_utf8_all shown) → m ≡ told (encode_utf8_all text) → n ≢ m → false ≡ same_text self text
apart_by told n m shown self text view e f other =
    sym (false_from_ne_true (same_text self text) (λ t. other (e ∙ (ap (λ cs. told (encode_utf8_all cs)) (view ∙ (bytes_eq-Decides self text).0 t) ∙ sym f))))

-- a text whose number is that of a short name
pub is_zero : (n : ℕ) → n ≢ 0 → (n == 0) ≡ false
is_zero n h = false_from_ne_true (n == 0) (λ t. h (eqb-true n 0 t))

pub same_short : (bytes : List ℕ) (short : ℕ) (long self text : Characters) → IsUtf8 bytes → AreBytes bytes → short ≡ short_of bytes → (short == 0) ≡ false → named_text short long ≡ self → chars bytes ≡ text → same_text self text ≡ true
same_short bytes short long self text u each e some view is =
    let other = long_of (chars bytes) in
    let digits = chars (digits_of short_length short []) in
    (bytes_eq-Decides self text).1
    (sym view
    ∙ (ap (λ b. cond b long digits) some ∙ (sym (ap (λ b. cond b other digits) some) ∙ (told_text bytes short other u each e refl ∙ is))))

-- a text that is short, or one that is not
pub kept_long : (bytes : List ℕ) (b : Bool) (long : Characters) → IsUtf8 bytes → nat_le (length bytes) short_length ≡ b → long ≡ cond b [] (chars bytes) → long ≡ long_of (chars bytes)
kept_long bytes b long u h e =
    e ∙ ap (λ c. cond c [] (chars bytes)) (sym h ∙ ap (λ bs. nat_le (length bs) short_length) (bytes_from_chars bytes (chars bytes) u refl))
