-- A list with a part of it turned.
use Rattle.std.proofs.Common.{◌≡◌, ℕ, ◌+◌, ◌-◌, ◌≤◌, List, [], ◌∷◌, ◌++◌, take, drop, length, sym, ap, ◌∙◌, refl, arith, append_assoc, append-nil, length-append, length-take-le, length-drop}
use Rattle.std.proofs.Common.{drop-drop}
use Rattle.std.proofs.Math.Seq.{take-append-add, drop-append-add}
use Rattle.std.proofs.lemmas.List.{take-append-le, drop-append-le, drop-take, take_all, take-take}
use Rattle.change_model.proofs.Turns.{turned_in, turned_out, turned_later, turned_earlier}
use Rattle.dom_tree.specs.Turned.{between, turned}

module _ {X : Type 0} where
  abbrev turn : ℕ → List X → List X
  turn count part = drop count part ++ take count part

  -- after other items
  pub turned_after : (a xs : List X) (from to count : ℕ) → turned (length a + from) (length a + to) count (a ++ xs) ≡ a ++ turned from to count xs
  turned_after a xs from to count =
      let gap : (length a + to) - (length a + from) ≡ to - from = omega arith in
      let front = take-append-add a xs from in
      let part : between (length a + from) (length a + to) (a ++ xs) ≡ between from to xs = λ i. take (gap i) (drop-append-add a xs from i) in
      let back = drop-append-add a xs to in
      (λ i. front i ++ (turn count (part i) ++ back i)) ∙ append_assoc a (take from xs) (turn count (between from to xs) ++ drop to xs)

  -- before other items
  pub turned_before : (xs b : List X) (from to count : ℕ) → from ≤ to → to ≤ length xs → turned from to count (xs ++ b) ≡ turned from to count xs ++ b
  turned_before xs b from to count l h =
      let front = take-append-le from xs b (omega arith) in
      let part : between from to (xs ++ b) ≡ between from to xs = ap (take (to - from)) (drop-append-le from xs b (omega arith))
      ∙ take-append-le (to - from) (drop from xs) b (omega (arith, length-drop from xs)) in
      let back = drop-append-le to xs b h in
      (λ i. front i ++ (turn count (part i) ++ back i))
      ∙ (ap (λ l. take from xs ++ l) (sym (append_assoc (turn count (between from to xs)) (drop to xs) b)) ∙ sym (append_assoc (take from xs) (turn count (between from to xs) ++ drop to xs) b))

  pub length-turned : (from to count : ℕ) (xs : List X) → from + count ≤ to → to ≤ length xs → length (turned from to count xs) ≡ length xs
  length-turned from to count xs l h =
      let part : List X = between from to xs in
      let long : length part ≡ to - from = length-take-le (to - from) (drop from xs) (omega (arith, length-drop from xs)) in
      omega (
        arith,
        length-append (take from xs) (turn count part ++ drop to xs),
        length-append (turn count part) (drop to xs),
        length-append (drop count part) (take count part),
        length-take-le from xs (omega arith),
        length-drop to xs,
        length-drop count part,
        length-take-le count part (omega (arith, long)),
        long,
      )

  -- a part up to the end
  pub turned_end : (xs : List X) (at count : ℕ) → turned at (length xs) count xs ≡ take at xs ++ turn count (drop at xs)
  turned_end xs at count =
      let part : between at (length xs) xs ≡ drop at xs = take_all (length xs - at) (drop at xs) (omega (arith, length-drop at xs)) in
      let none : drop (length xs) xs ≡ [] = no_more xs in
      (λ i. take at xs ++ (turn count (part i) ++ none i)) ∙ ap (λ l. take at xs ++ l) (append-nil (turn count (drop at xs)))
    where
      no_more : (ys : List X) → drop (length ys) ys ≡ []
      no_more [] = refl
      no_more (y ∷ ys) = no_more ys

  -- the part from a place on, turned so that its first items can be cut off
  pub cut_at : (xs : List X) (at size : ℕ) → at + size ≤ length xs → take (length xs - size) (turned at (length xs) size xs) ≡ take at xs ++ drop (at + size) xs
  cut_at xs at size h = ap (take (length xs - size)) (turned_end xs at size) ∙ turned_out xs at size h

  -- a run appended, and turned in at a place
  pub put_at : (xs run : List X) (at count : ℕ) → at ≤ length xs → count ≡ length xs - at → turned at (length (xs ++ run)) count (xs ++ run) ≡ take at xs ++ (run ++ drop at xs)
  put_at xs run at count h e =
      let same : count ≡ length (drop at (xs ++ run)) - length run = omega (arith, length-drop at (xs ++ run), length-append xs run) in
      turned_end (xs ++ run) at count ∙ (ap (λ n. take at (xs ++ run) ++ turn n (drop at (xs ++ run))) same ∙ turned_in xs run at h)

  -- without the items of a run
  abbrev pub left : List X → ℕ → ℕ → List X
  left xs at size = take at xs ++ drop (at + size) xs

  -- a run moved to a later place
  pub moved_later : (xs : List X) (at size place : ℕ) → at ≤ place → place + size ≤ length xs
      → turned at (place + size) size xs ≡ take place (left xs at size) ++ (take size (drop at xs) ++ drop place (left xs at size))
  moved_later xs at size place l h =
      let split : (place + size) - at ≡ size + (place - at) = omega arith in
      let part : between at (place + size) xs ≡ take (size + (place - at)) (drop at xs) = ap (λ n. take n (drop at xs)) split in
      let rest : drop size (take (size + (place - at)) (drop at xs)) ≡ take (place - at) (drop (at + size) xs) = drop-take size (place - at) (drop at xs)
      ∙ ap (take (place - at)) (drop-drop size at xs) in
      let run : take size (take (size + (place - at)) (drop at xs)) ≡ take size (drop at xs) = take-take size (size + (place - at)) (drop at xs) (omega arith) in
      (λ i. take at xs ++ (turn size (part i) ++ drop (place + size) xs))
      ∙ ((λ i. take at xs ++ ((rest i ++ run i) ++ drop (place + size) xs))
      ∙ (ap (λ l. take at xs ++ l) (append_assoc (take (place - at) (drop (at + size) xs)) (take size (drop at xs)) (drop (place + size) xs)) ∙ sym (turned_later xs at size place (omega arith) l)))

  -- a run moved to an earlier place
  pub moved_earlier : (xs : List X) (at size place : ℕ) → place ≤ at → at + size ≤ length xs
      → turned place (at + size) (at - place) xs ≡ take place (left xs at size) ++ (take size (drop at xs) ++ drop place (left xs at size))
  moved_earlier xs at size place l h =
      let split : (at + size) - place ≡ (at - place) + size = omega arith in
      let back : place + (at - place) ≡ at = omega arith in
      let part : between place (at + size) xs ≡ take ((at - place) + size) (drop place xs) = ap (λ n. take n (drop place xs)) split in
      let run : drop (at - place) (take ((at - place) + size) (drop place xs)) ≡ take size (drop at xs) = drop-take (at - place) size (drop place xs)
      ∙ (ap (take size) (drop-drop (at - place) place xs) ∙ ap (λ n. take size (drop n xs)) back) in
      let rest : take (at - place) (take ((at - place) + size) (drop place xs)) ≡ take (at - place) (drop place xs) = take-take (at - place) ((at - place) + size) (drop place xs) (omega arith) in
      (λ i. take place xs ++ (turn (at - place) (part i) ++ drop (at + size) xs))
      ∙ ((λ i. take place xs ++ ((run i ++ rest i) ++ drop (at + size) xs))
      ∙ (ap (λ l. take place xs ++ l) (append_assoc (take size (drop at xs)) (take (at - place) (drop place xs)) (drop (at + size) xs)) ∙ sym (turned_earlier xs at size place h l)))
