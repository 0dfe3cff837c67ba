use Rattle.std.proofs.Common.{◌≡◌, ◌↔◌, ℕ, suc, ◌+◌, ◌<◌, ◌^◌, Bool, true, false, not, cond, ◌||◌, List, [], ◌∷◌, ◌++◌, Option, Some, None, Contains, IsSome, is_some, length, map, get_or, slice_get, encode_utf8_all, nat_lt, ltb-true, sym, ap, ◌∙◌, subst, inl, inr, ◌⊎◌, refl, arith}
use Rattle.std.proofs.lemmas.Bool.{not-false}
use Rattle.std.specs.Bool.{Decides}
use Rattle.indexmap.specs.IndexSet.{insert_key}
use Rattle.std.specs.List.{AllZip, list_any, position, prefix_len}
use Rattle.std.specs.Str.{chars, bytes_eq, IsUtf8}
use Rattle.std.specs.declared.string.String.{String}
use Rattle.std.specs.String.{string_bytes, string_eq}
use Rattle.std.proofs.lemmas.Bool.{cond-false, false≢true}
use Rattle.std.proofs.lemmas.Map.Views.{Contains-from_any, list_any-from_Contains}
use Rattle.std.specs.Cmp.Lexicographic.{nat_list_eq_equiv}
use Rattle.std.proofs.lemmas.Bool.Decides.{nat_tests}
use Rattle.std.proofs.lemmas.List.{map_push, length-map, length_push}
use Rattle.std.proofs.lemmas.List.Sums.{prefix_len_stops}
use Rattle.std.proofs.lemmas.Option.{slice_get-get_or, slice_get_within, get_or_from_slice_get}
use Rattle.std.proofs.lemmas.Slice.Eq.{bytes_eq-Decides}
use Rattle.std.proofs.lemmas.Str.{IsUtf8-string_bytes, encodes-chars}
use Rattle.base_model.proofs.Lists.{get_push_below, get_push_last}
use Rattle.stylo_base.proofs.TextLemmas.{same_test}
use Rattle.stylo_base.specs.NameKey.{key_of}
use Rattle.stylo_base.specs.NameList.{is_among, interned, StandOnce, AreNamed, AreKeyed}

-- the characters of each key
abbrev pub seen : {Z : Type 0} → List (String Z) → List (List ℕ)
seen keys = map (λ s. chars (string_bytes s)) keys

-- the first key with the bytes of a text is the first with its characters
prefix-seen : {Z : Type 0} (text : List ℕ) → IsUtf8 text → (keys : List (String Z)) → prefix_len (λ k. not (bytes_eq text (string_bytes k))) keys ≡ prefix_len (λ cs. not (bytes_eq (chars text) cs)) (seen keys)
prefix-seen text u [] = refl
prefix-seen text u (k ∷ ks) =
    let t = same_test text (string_bytes k) u (IsUtf8-string_bytes k) in
    let h = prefix-seen text u ks in
    ap (λ b. cond (not b) (1 + prefix_len (λ s. not (bytes_eq text (string_bytes s))) ks) 0) t
    ∙ ap (λ n. cond (not (bytes_eq (chars text) (chars (string_bytes k)))) (1 + n) 0) h

-- its index
pub index-seen : {Z : Type 0} (text : List ℕ) → IsUtf8 text → (keys : List (String Z)) → position (λ k. bytes_eq text (string_bytes k)) keys ≡ position (bytes_eq (chars text)) (seen keys)
index-seen text u keys =
    let at = λ (p n : ℕ). cond (nat_lt p n) (Some p) None in
    ap (λ p. at p (length keys)) (prefix-seen text u keys)
    ∙ ap (λ n. at (prefix_len (λ cs. not (bytes_eq (chars text) cs)) (seen keys)) n) (sym (length-map keys (λ s. chars (string_bytes s))))

-- a key among the keys is its characters among their texts
among-seen : {Z : Type 0} (text : List ℕ) → IsUtf8 text → (keys : List (String Z)) (kept : String Z) → string_bytes kept ≡ text → list_any (string_eq kept) keys ≡ is_among (chars text) (seen keys)
among-seen text u [] kept b = refl
among-seen text u (k ∷ ks) kept b =
    let t = ap (λ bs. bytes_eq bs (string_bytes k)) b ∙ same_test text (string_bytes k) u (IsUtf8-string_bytes k) in
    ap (λ x. x || list_any (string_eq kept) ks) t ∙ ap (λ r. bytes_eq (chars text) (chars (string_bytes k)) || r) (among-seen text u ks kept b)

-- the test of an index that may be none
some_from_cond : (b : Bool) (n i : ℕ) → cond b (Some n) None ≡ Some i → (b ≡ true) × (n ≡ i)
some_from_cond true n i h = (refl, cc)
some_from_cond false n i h = cc

-- what `position` found is the text
pub text_at : (text : List ℕ) (texts : List (List ℕ)) (i : ℕ) → position (bytes_eq text) texts ≡ Some i → slice_get texts i ≡ Some text
text_at text texts i h =
    let n = prefix_len (λ cs. not (bytes_eq text cs)) texts in
    let found = some_from_cond (nat_lt n (length texts)) n i h in
    let within : n < length texts = ltb-true n (length texts) found.0 in
    let stops = prefix_len_stops (λ cs. not (bytes_eq text cs)) texts [] within in
    let same = (bytes_eq-Decides text (get_or texts n [])).0 (not-false _ stops) in
    ap (slice_get texts) (sym found.1) ∙ (slice_get-get_or texts n [] within ∙ ap Some (sym same))

-- one more text before those that were tested
any_step : (b r : Bool) (n l : ℕ) → nat_lt n l ≡ r → nat_lt (cond (not b) (1 + n) 0) (suc l) ≡ (b || r)
any_step true r n l h = grind (arith, nat_tests)
any_step false r n l h = rw (← h) (grind (arith, nat_tests))

-- the index of a text is below the count of the texts exactly where the text is there
any_before : (text : List ℕ) (texts : List (List ℕ)) → nat_lt (prefix_len (λ cs. not (bytes_eq text cs)) texts) (length texts) ≡ is_among text texts
any_before text [] = refl
any_before text (t ∷ ts) =
    any_step (bytes_eq text t) (is_among text ts) (prefix_len (λ cs. not (bytes_eq text cs)) ts) (length ts) (any_before text ts)

-- whether such an index is one
is_some-cond : (b : Bool) (n : ℕ) → is_some (cond b (Some n) None) ≡ b
is_some-cond true n = refl
is_some-cond false n = refl

-- a text is among the texts exactly where it has an index
pub is_some-position : (text : List ℕ) (texts : List (List ℕ)) → is_some (position (bytes_eq text) texts) ≡ is_among text texts
is_some-position text texts =
    let n = prefix_len (λ cs. not (bytes_eq text cs)) texts in
    is_some-cond (nat_lt n (length texts)) n ∙ any_before text texts

-- the test for a text, as a fact
pub is_among-Decides : (text : List ℕ) (texts : List (List ℕ)) → Decides (is_among text texts) (Contains texts text)
is_among-Decides text texts =
    (Contains-from_any (λ x y. (bytes_eq-Decides x y).0) text texts, list_any-from_Contains nat_list_eq_equiv text texts)

-- a new text has no index
new_has_none : (texts : List (List ℕ)) (text : List ℕ) (i : ℕ) → is_among text texts ≡ false → slice_get texts i ≡ Some text → ⊥
new_has_none texts text i new p =
    false≢true (sym new ∙ (is_among-Decides text texts).1 (i, slice_get_within texts i text p, get_or_from_slice_get texts i text text p))

-- an index of the longer list is one of the shorter or the last
below_or_last : (n l : ℕ) → n < l + 1 → (n < l) ⊎ (n ≡ l)
below_or_last n l h = grind arith

-- the last index has the new text alone
last_text : (texts : List (List ℕ)) (text other : List ℕ) (i : ℕ) → i ≡ length texts → slice_get (texts ++ text ∷ []) i ≡ Some other → other ≡ text
last_text texts text other i e p = let same = sym p ∙ get_push_last texts i text e in cc

-- a text that was not there makes no text be there twice
pub StandOnce-push : (texts : List (List ℕ)) (text : List ℕ) → StandOnce texts → is_among text texts ≡ false → StandOnce (texts ++ text ∷ [])
StandOnce-push texts text once new i j other p q =
    let within = λ (n : ℕ) (h : slice_get (texts ++ text ∷ []) n ≡ Some other). below_or_last n (length texts) (omega (arith, slice_get_within (texts ++ text ∷ []) n other h, length_push texts text)) in
    elim (within i p) [
      | inl a ↦ elim (within j q) [
        | inl b ↦ once i j other (sym (get_push_below texts i text a) ∙ p) (sym (get_push_below texts j text b) ∙ q)
        | inr b ↦ absurd (new_has_none texts text i new (sym (get_push_below texts i text a) ∙ p ∙ ap Some (last_text texts text other j b q)))
      ]
      | inr a ↦ elim (within j q) [
        | inl b ↦ absurd (new_has_none texts text j new (sym (get_push_below texts j text b) ∙ q ∙ ap Some (last_text texts text other i a p)))
        | inr b ↦ a ∙ sym b
      ]
    ]

-- what was found among the keys, as what is among the texts
pub index_of : {Z : Type 0} (text : List ℕ) → IsUtf8 text → (keys : List (String Z)) (now : List (List ℕ)) (r : Option ℕ) → r ≡ position (λ k. bytes_eq text (string_bytes k)) keys → seen keys ≡ now → position (bytes_eq (chars text)) now ≡ r
index_of text u keys now r e v =
    sym (ap (position (bytes_eq (chars text))) v) ∙ (sym (index-seen text u keys) ∙ sym e)

-- a text that has an index is there
pub there : {N : Type 0} (r : Option N) (text : List ℕ) (texts : List (List ℕ)) (index : Option ℕ) → is_some r ≡ is_some index → position (bytes_eq text) texts ≡ index → is_some r ≡ is_among text texts
there r text texts index same e = same ∙ (sym (ap (is_some {T = ℕ}) e) ∙ is_some-position text texts)

-- the same as facts
pub exactly : {N : Type 0} (r : Option N) (text : List ℕ) (texts : List (List ℕ)) → is_some r ≡ is_among text texts → IsSome r ↔ Contains texts text
exactly r text texts e =
    let decides = is_among-Decides text texts in
    (λ h. decides.0 (sym e ∙ h), λ h. e ∙ decides.1 h)

-- the texts after a new key
pub seen_push : {Z : Type 0} (text : List ℕ) → IsUtf8 text → (keys new : List (String Z)) (kept : String Z) (now : List (List ℕ)) → string_bytes kept ≡ text → new ≡ insert_key string_eq keys kept → seen keys ≡ now → is_among (chars text) now ≡ false → seen new ≡ now ++ chars text ∷ []
seen_push text u keys new kept now b e v absent =
    let same : list_any (string_eq kept) keys ≡ is_among (chars text) (seen keys) = among-seen text u keys kept b in
    let fresh : list_any (string_eq kept) keys ≡ false = same ∙ (ap (is_among (chars text)) v ∙ absent) in
    let longer : new ≡ keys ++ kept ∷ [] = e ∙ cond-false _ keys (keys ++ kept ∷ []) fresh in
    ap seen longer ∙ (map_push (λ s. chars (string_bytes s)) keys kept ∙ (ap (λ ts. ts ++ chars (string_bytes kept) ∷ []) v ∙ ap (λ bs. now ++ chars bs ∷ []) b))

-- the list after a new name
pub interned_new : (text : List ℕ) (old new : List (List ℕ)) → new ≡ old ++ text ∷ [] → is_among text old ≡ false → new ≡ interned old text
interned_new text old new e absent = e ∙ sym (cond-false (is_among text old) old (old ++ text ∷ []) absent)

-- the longer list is still one of names
AreNamed-push : (text : List ℕ) (old new : List (List ℕ)) → new ≡ old ++ text ∷ [] → is_among text old ≡ false → StandOnce old → length old < 2 ^ 32 → AreNamed new
AreNamed-push text old new e absent once few =
    subst AreNamed (sym e) (record { once = StandOnce-push old text once absent; few = omega (arith, length_push old text) })

-- the longer lists are still those of names and keys
pub AreKeyed-push : (text : List ℕ) → IsUtf8 text → (old new : List (List ℕ)) (keys more : List ℕ) → new ≡ old ++ chars text ∷ [] → more ≡ keys ++ key_of text ∷ [] → is_among (chars text) old ≡ false → length old < 2 ^ 32 → AreKeyed old keys → AreKeyed new more
AreKeyed-push text u old new keys more e k absent few kept =
    let key = λ (t : List ℕ). key_of (encode_utf8_all t) in
    let added : key_of text ≡ key (chars text) = ap key_of (sym (encodes-chars text u)) in
    let all : more ≡ map key new = k ∙ (ap (λ n. keys ++ n ∷ []) added ∙ (ap (λ ks. ks ++ key (chars text) ∷ []) kept.keyed ∙ (sym (map_push key old (chars text)) ∙ ap (map key) (sym e)))) in
    record { named = AreNamed-push (chars text) old new e absent kept.named.once few; keyed = all }

-- there are as many texts as keys
pub count-seen : {Z : Type 0} (keys : List (String Z)) (now : List (List ℕ)) (n : ℕ) → n ≡ length keys → seen keys ≡ now → n ≡ length now
count-seen keys now n e v = e ∙ (sym (length-map keys (λ s. chars (string_bytes s))) ∙ ap (length {A = List ℕ}) v)

-- copies of the keys have the same characters
pub seen-clones : {Z : Type 0} (keys news : List (String Z)) → AllZip (λ s t. string_bytes t ≡ string_bytes s) keys news → seen news ≡ seen keys
seen-clones [] [] h = refl
seen-clones [] (t ∷ ts) h = absurd h
seen-clones (s ∷ ss) [] h = absurd h
seen-clones (s ∷ ss) (t ∷ ts) h = let rest = seen-clones ss ts h.1 in rw (h.0, rest) refl
