-- The items of a list, one more at a time.
use Rattle.std.proofs.Common.{◌≡◌, ℕ, ◌+◌, List, [], ◌∷◌, ◌++◌, length, Option, Some, None, Ok, Err, refl, sym, ap, ◌∙◌, arith}
use Rattle.std.specs.Prelude.{is_some, true, false, decimal}
use Rattle.serde_json.specs.Data.{Data}
use Rattle.serde_json.specs.View.{items_of}
use Rattle.scene_model.specs.Element.{Characters}
use Rattle.job_json.specs.Checked.{Checked, ◌>>=◌, below, at_index}
use Rattle.job_json.specs.Shape.{items_in}
use Rattle.job_json.specs.Kept.{AreRead, bad_or}

module _ {A : Type 0} (read : ℕ → Data → Checked A) where
  abbrev cons_all : Checked A → Checked (List A) → Checked (List A)
  cons_all first rest = first >>= (λ a. rest >>= (λ l. Ok (a ∷ l)))

  -- those of a list, and one more
  abbrev with_last : Checked (List A) → Checked A → Checked (List A)
  with_last items last = items >>= (λ l. last >>= (λ a. Ok (l ++ a ∷ [])))

  alone : (last : Checked A) → cons_all last (Ok []) ≡ with_last (Ok []) last
  alone (Ok a) = refl
  alone (Err path) = refl

  later : (first last : Checked A) (items : Checked (List A)) → cons_all first (with_last items last) ≡ with_last (cons_all first items) last
  later (Err path) last items = refl
  later (Ok a) last (Err path) = refl
  later (Ok a) (Err path) (Ok l) = refl
  later (Ok a) (Ok b) (Ok l) = refl

  items_in-push : (k m : ℕ) (ds : List Data) (d : Data) → m ≡ k + length ds → items_in read k (items_of (ds ++ d ∷ [])) ≡ with_last (items_in read k (items_of ds)) (at_index m (read m d))
  items_in-push k m [] d e = let same : m ≡ k = omega arith in ap (λ i. cons_all (at_index i (read i d)) (Ok [])) (sym same) ∙ alone (at_index m (read m d))
  items_in-push k m (x ∷ ds) d e =
      let next : m ≡ (k + 1) + length ds = omega arith in
      ap (cons_all (at_index k (read k x))) (items_in-push (k + 1) m ds d next) ∙ later (at_index k (read k x)) (at_index m (read m d)) (items_in read (k + 1) (items_of ds))

  length_cons : (first : Checked A) (rest : Checked (List A)) (l : List A) → cons_all first rest ≡ Ok l → (r : List A) × (rest ≡ Ok r) × (length l ≡ length r + 1)
  length_cons (Err path) rest l e = absurd (cc)
  length_cons (Ok x) (Err path) l e = absurd (cc)
  length_cons (Ok x) (Ok r) l e = let long : x ∷ r ≡ l = cc in (r, refl, ap length (sym long) ∙ omega arith)

  -- there is one for each item
  pub length-items_in : (k : ℕ) (ds : List Data) (l : List A) → items_in read k (items_of ds) ≡ Ok l → length l ≡ length ds
  length-items_in k [] l e = let none : [] ≡ l = cc in ap length (sym none)
  length-items_in k (d ∷ ds) l e =
      let (r, is, count) = length_cons (at_index k (read k d)) (items_in read (k + 1) (items_of ds)) l e in
      let more = length-items_in (k + 1) ds r is in
      omega arith

  -- ---- as they are read

  module _ (ds : List Data) (d : Data) where
    last_is : (list : List A) → items_in read 0 (items_of ds) ≡ Ok list → items_in read 0 (items_of (ds ++ d ∷ [])) ≡ (at_index (length list) (read (length list) d) >>= (λ a. Ok (list ++ a ∷ [])))
    last_is list e = items_in-push 0 (length list) ds d (omega (arith, length-items_in 0 ds list e)) ∙ ap (λ items. with_last items (at_index (length list) (read (length list) d))) e

    -- a bad place stays the first
    pub passed_over : (bad : Option Characters) (Holds : List A → Type 0) (Now : List A → Type 0) → is_some bad ≡ true → AreRead read bad Holds ds → AreRead read bad Now (ds ++ d ∷ [])
    passed_over None Holds Now some kept = absurd (cc)
    passed_over (Some path) Holds Now some kept = items_in-push 0 (length ds) ds d (omega arith) ∙ ap (λ items. with_last items (at_index (length ds) (read (length ds) d))) kept

    pub read_bad : (bad : Option Characters) (Holds : List A → Type 0) (k : ℕ) (path : Characters) → is_some bad ≡ false
        → AreRead read bad Holds ds → ((list : List A) → Holds list → length list ≡ k) → read k d ≡ Err path
        → items_in read 0 (items_of (ds ++ d ∷ [])) ≡ Err (below (decimal k) path)
    read_bad (Some other) Holds k path none kept count said = absurd (cc)
    read_bad None Holds k path none kept count said =
        let same : length kept.0 ≡ k = count kept.0 kept.2 in
        last_is kept.0 kept.1 ∙ ap (λ i. at_index i (read i d) >>= (λ a. Ok (kept.0 ++ a ∷ []))) same ∙ ap (λ c. at_index k c >>= (λ a. Ok (kept.0 ++ a ∷ []))) said

    pub read_one : (bad : Option Characters) (Holds Now : List A → Type 0) (k : ℕ) (a : A) → is_some bad ≡ false
        → AreRead read bad Holds ds → ((list : List A) → Holds list → length list ≡ k) → read k d ≡ Ok a
        → ((list : List A) → items_in read 0 (items_of ds) ≡ Ok list → items_in read 0 (items_of (ds ++ d ∷ [])) ≡ Ok (list ++ a ∷ []) → Holds list → Now (list ++ a ∷ []))
        → AreRead read bad Now (ds ++ d ∷ [])
    read_one (Some other) Holds Now k a none kept count said more = absurd (cc)
    read_one None Holds Now k a none kept count said more =
        let same : length kept.0 ≡ k = count kept.0 kept.2 in
        let now : items_in read 0 (items_of (ds ++ d ∷ [])) ≡ Ok (kept.0 ++ a ∷ []) =
        last_is kept.0 kept.1 ∙ ap (λ i. at_index i (read i d) >>= (λ a. Ok (kept.0 ++ a ∷ []))) same ∙ ap (λ c. at_index k c >>= (λ a. Ok (kept.0 ++ a ∷ []))) said in
        (kept.0 ++ a ∷ [], now, more kept.0 kept.1 now kept.2)

  -- the whole list
  pub read_end : {B : Type 0} (made : List A → B) (bad : Option Characters) (Holds : List A → Type 0) (value : B) (ds : List Data)
      → AreRead read bad Holds ds → ((list : List A) → Holds list → made list ≡ value)
      → (items_in read 0 (items_of ds) >>= (λ list. Ok (made list))) ≡ bad_or bad value
  read_end made None Holds value ds kept is = ap (λ items. items >>= (λ list. Ok (made list))) kept.1 ∙ ap (λ b. Ok b) (is kept.0 kept.2)
  read_end made (Some path) Holds value ds kept is = ap (λ items. items >>= (λ list. Ok (made list))) kept
