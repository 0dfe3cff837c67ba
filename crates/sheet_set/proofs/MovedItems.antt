-- Items that are taken from the end of a list, one by one.
use Rattle.std.proofs.Common.{◌≡◌, ℕ, ◌+◌, ◌-◌, ◌≤◌, List, [], ◌∷◌, ◌++◌, length, take, drop, reverse, refl, sym, ap, ◌∙◌, append_assoc, arith, length-append, length-drop}
use Rattle.std.proofs.lemmas.List.{drop_at, take_at, length-take-le, reverse-append, reverse-reverse}

-- what is left of a list, and what stood behind it
abbrev pub AreLeft : {A : Type 0} → List A → List A → Type 0
AreLeft left whole = left ++ drop (length left) whole ≡ whole

-- one less
pub one_behind : {A : Type 0} (whole old new : List A) (item : A) → old ≡ new ++ item ∷ [] → AreLeft old whole → drop (length new) whole ≡ item ∷ drop (length old) whole
one_behind whole old new item is left =
    let behind = drop (length old) whole in
    let all : new ++ item ∷ behind ≡ whole = sym (append_assoc new (item ∷ []) behind) ∙ (ap (λ l. l ++ behind) (sym is) ∙ left) in
    ap (drop (length new)) (sym all) ∙ drop_at new (item ∷ behind) (length new) refl

pub still_left : {A : Type 0} (whole old new : List A) (item : A) → old ≡ new ++ item ∷ [] → AreLeft old whole → AreLeft new whole
still_left whole old new item is left =
    ap (λ l. new ++ l) (one_behind whole old new item is left)
    ∙ (sym (append_assoc new (item ∷ []) (drop (length old) whole)) ∙ (ap (λ l. l ++ drop (length old) whole) (sym is) ∙ left))

pub one_moved : {A : Type 0} (whole old new first moved : List A) (item : A) → old ≡ new ++ item ∷ [] → AreLeft old whole → moved ≡ first ++ reverse (drop (length old) whole) → moved ++ item ∷ [] ≡ first ++ reverse (drop (length new) whole)
one_moved whole old new first moved item is left before =
    let behind = drop (length old) whole in
    ap (λ l. l ++ item ∷ []) before
    ∙ (append_assoc first (reverse behind) (item ∷ [])
    ∙ ap (λ l. first ++ l) (sym (reverse-append (item ∷ []) behind) ∙ ap reverse (sym (one_behind whole old new item is left))))

-- those that are left are the first ones
pub first_left : {A : Type 0} (whole left : List A) (n : ℕ) → length left ≡ n → AreLeft left whole → left ≡ take n whole
first_left whole left n long all = sym (take_at left (drop (length left) whole) n long) ∙ ap (take n) all

-- A part that is turned to the end of a list, and what stands there turned round.

pub length-left : {A : Type 0} (xs : List A) (from count : ℕ) → from + count ≤ length xs → length (take from xs ++ drop count (drop from xs)) ≡ length xs - count
length-left xs from count within =
    let both = length-append (take from xs) (drop count (drop from xs)) in
    let first = length-take-le from xs (omega (arith, within)) in
    let later = length-drop count (drop from xs) in
    let behind = length-drop from xs in
    omega (arith, both, first, later, behind, within)

module _ {A : Type 0} (first last turned round : List A) (left : ℕ) (long : length first ≡ left) (is : turned ≡ first ++ last) (now : round ≡ take left turned ++ reverse (drop left turned)) where
  round_is : round ≡ first ++ reverse last
  round_is =
      now ∙ (ap (λ l. take left l ++ reverse (drop left l)) is
      ∙ (ap (λ l. l ++ reverse (drop left (first ++ last))) (take_at first last left long)
      ∙ ap (λ l. first ++ reverse l) (drop_at first last left long)))

  pub left_there : take left round ≡ first
  left_there = ap (take left) round_is ∙ take_at first (reverse last) left long

  pub end_in_order : reverse (drop left round) ≡ last
  end_in_order =
      ap (λ l. reverse (drop left l)) round_is
      ∙ (ap reverse (drop_at first (reverse last) left long) ∙ reverse-reverse last)
