-- A list of draws, as a loop makes it.
use Rattle.std.proofs.Common.{◌≡◌, ◌<◌, ◌≤◌, ℕ, suc, ◌+◌, ◌-◌, List, [], ◌∷◌, ◌++◌, append_assoc, append-nil, sym, ap, subst, ◌∙◌, arith}
use Rattle.job_json.specs.Draws.{Drawing, drawn_list}

-- What is kept so far, and what is drawn after it from index k on, are the whole.
pub record IsDrawn {A : Type 0} (one : ℕ → Drawing A) (more k : ℕ) (kept : List A) (state : ℕ) (whole : List A × ℕ) : Type 0 where
  pub all : kept ++ (drawn_list one more k state).0 ≡ whole.0
  pub last : (drawn_list one more k state).1 ≡ whole.1

drawn_suc : {A : Type 0} (one : ℕ → Drawing A) (more k : ℕ) (kept : List A) (state : ℕ) (whole : List A × ℕ) → IsDrawn one (suc more) k kept state whole → IsDrawn one more (k + 1) (kept ++ (one k state).0 ∷ []) (one k state).1 whole
drawn_suc one more k kept state whole drawn = record {
  all = append_assoc kept ((one k state).0 ∷ []) (drawn_list one more (k + 1) (one k state).1).0 ∙ drawn.all;
  last = drawn.last;
}

drawn_more : {A : Type 0} (one : ℕ → Drawing A) (n k : ℕ) (kept : List A) (state : ℕ) (whole : List A × ℕ) → k < n → IsDrawn one (n - k) k kept state whole → IsDrawn one (n - (k + 1)) (k + 1) (kept ++ (one k state).0 ∷ []) (one k state).1 whole
drawn_more one n k kept state whole below drawn =
    let e : n - k ≡ suc (n - (k + 1)) = omega arith in
    drawn_suc one (n - (k + 1)) k kept state whole (subst (λ m. IsDrawn one m k kept state whole) e drawn)

-- one more is kept
pub drawn_push : {A : Type 0} (one : ℕ → Drawing A) (n k : ℕ) (kept : List A) (state : ℕ) (whole : List A × ℕ) (a : A) (more : List A) (next : ℕ) → k < n → IsDrawn one (n - k) k kept state whole → more ≡ kept ++ a ∷ [] → a ≡ (one k state).0 → next ≡ (one k state).1 → IsDrawn one (n - (k + 1)) (k + 1) more next whole
drawn_push one n k kept state whole a more next below drawn pushed is after =
    subst (λ l. IsDrawn one (n - (k + 1)) (k + 1) l next whole) (sym (pushed ∙ ap (λ x. kept ++ x ∷ []) is))
    (subst (λ s. IsDrawn one (n - (k + 1)) (k + 1) (kept ++ (one k state).0 ∷ []) s whole) (sym after) (drawn_more one n k kept state whole below drawn))

-- all are kept
pub drawn_whole : {A : Type 0} (one : ℕ → Drawing A) (n k : ℕ) (kept : List A) (state : ℕ) (whole : List A × ℕ) → n ≤ k → IsDrawn one (n - k) k kept state whole → (kept ≡ whole.0) × (state ≡ whole.1)
drawn_whole one n k kept state whole past drawn =
    let e : n - k ≡ 0 = omega arith in
    let done = subst (λ m. IsDrawn one m k kept state whole) e drawn in
    (sym (append-nil kept) ∙ done.all, done.last)
