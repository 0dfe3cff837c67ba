-- A sheet that leaves a list or comes into it: the rules that take part afterwards.
use Rattle.std.proofs.Common.{◌≡◌, ℕ, ◌+◌, ◌<◌, ◌≤◌, List, [], ◌∷◌, ◌++◌, length, map, take, drop, get_or, true, false, Bool, not, cond, refl, sym, ap, ◌∙◌, arith}
use Rattle.std.proofs.Math.Logic.{∥∥₁_map, ∥∥₁_map₂}
use Rattle.std.proofs.lemmas.Bool.{cond-false}
use Rattle.std.proofs.lemmas.List.{length-append, length-drop, length-map, length-take, length-take-le, map-append, take-map, drop-map, take_at, drop_at, take-append-drop}
use Rattle.base_model.specs.Sheet.{Sheet}
use Rattle.sheet_model.specs.Sources.{PlacedRule}
use Rattle.edit_model.specs.SheetApply.{with_enabled}
use Rattle.sheet_set.specs.declared.kept_sheet.KeptSheet.{KeptSheet}
use Rattle.sheet_set.specs.Kept.{kept_seen, taking}
use Rattle.sheet_set.specs.Planned.{at_place, in_place}
use Rattle.sheet_set.specs.Rules.{AreSame, rules_at, taking_part}
use Rattle.sheet_set.proofs.MovedRules.{taking-off, taking-on, with_part, without_part}
use Rattle.sheet_set.proofs.Taking.{at-enabled, rules_count, taking-append}

-- the list without the sheet at a place
module _ (sheets : List KeptSheet) (place : ℕ) (it : KeptSheet) (within : place < length sheets) (is : it ≡ get_or sheets place it) where
  pub leaves-on : it.enabled ≡ true → (old : List PlacedRule) (at : ℕ) → at ≡ length (taking (take place sheets)) → AreSame old (taking sheets)
      → AreSame (take at old ++ drop it.count (drop at old)) (taking (take place sheets ++ drop (place + 1) sheets))
  leaves-on on old at is_at texts =
      let before = taking (take place sheets) in
      let after = taking (drop (place + 1) sheets) in
      ∥∥₁_map texts (λ t. without_part old before (rules_at 0 (kept_seen it)) after at it.count (t ∙ taking-on sheets place it within is on) (sym is_at) (rules_count it)
      ∙ sym (taking-append (take place sheets) (drop (place + 1) sheets)))

  pub leaves-off : it.enabled ≡ false → (old : List PlacedRule) → AreSame old (taking sheets) → AreSame old (taking (take place sheets ++ drop (place + 1) sheets))
  leaves-off off old texts =
      ∥∥₁_map texts (λ t. t ∙ (taking-off sheets place it within is off ∙ sym (taking-append (take place sheets) (drop (place + 1) sheets))))

-- a list with a sheet more
module _ (sheets : List KeptSheet) (place : ℕ) where
  parts : taking sheets ≡ taking (take place sheets) ++ taking (drop place sheets)
  parts = ap taking (sym (take-append-drop place sheets)) ∙ taking-append (take place sheets) (drop place sheets)

  with_one : (now : KeptSheet) → taking (take place sheets ++ now ∷ drop place sheets) ≡ taking (take place sheets) ++ (taking_part (kept_seen now) ++ taking (drop place sheets))
  with_one now = taking-append (take place sheets) (now ∷ drop place sheets)

  pub comes-on : (it now : KeptSheet) (old more : List PlacedRule) (at : ℕ) → at ≡ length (taking (take place sheets)) → kept_seen now ≡ with_enabled true (kept_seen it)
      → AreSame more (rules_at 0 (kept_seen it)) → AreSame old (taking sheets)
      → AreSame (take at old ++ (more ++ drop at old)) (taking (take place sheets ++ now ∷ drop place sheets))
  comes-on it now old more at is_at seen its texts =
      let before = taking (take place sheets) in
      let after = taking (drop place sheets) in
      let part : taking_part (kept_seen now) ≡ rules_at 0 (kept_seen it) = ap taking_part seen ∙ at-enabled (kept_seen it) true 0 in
      ∥∥₁_map₂ its texts (λ i t. with_part old more before after at (t ∙ parts) (sym is_at)
      ∙ (ap (λ l. before ++ (l ++ after)) (i ∙ sym part) ∙ sym (with_one now)))

  pub comes-off : (now : KeptSheet) (old : List PlacedRule) → now.enabled ≡ false → AreSame old (taking sheets)
      → AreSame old (taking (take place sheets ++ now ∷ drop place sheets))
  comes-off now old off texts =
      let before = taking (take place sheets) in
      let after = taking (drop place sheets) in
      let none : taking_part (kept_seen now) ≡ [] = cond-false now.enabled (rules_at 0 (kept_seen now)) [] off in
      ∥∥₁_map texts (λ t. t ∙ (parts ∙ (ap (λ l. before ++ (l ++ after)) (sym none) ∙ sym (with_one now))))

-- what stands for a list without an item, and with another one in its stead
module _ {A B : Type 0} (f : A → B) (items left : List A) (place : ℕ) (within : place < length items) (is : left ≡ take place items ++ drop (place + 1) items) where
  pub seen_left : map f left ≡ take place (map f items) ++ drop (place + 1) (map f items)
  seen_left =
      ap (map f) is
      ∙ (map-append f (take place items) (drop (place + 1) items)
      ∙ (ap (λ l. l ++ map f (drop (place + 1) items)) (sym (take-map f place items))
      ∙ ap (λ l. take place (map f items) ++ l) (sym (drop-map f (place + 1) items))))

  pub in_stead : (new : B) (list : List B) → list ≡ take place (map f left) ++ new ∷ drop place (map f left) → list ≡ take place (map f items) ++ new ∷ drop (place + 1) (map f items)
  in_stead new list made =
      let front = take place (map f items) in
      let behind = drop (place + 1) (map f items) in
      let long : length front ≡ place = length-take-le place (map f items) (omega (arith, length-map items f, within)) in
      made
      ∙ (ap (λ l. take place l ++ new ∷ drop place l) seen_left
      ∙ (ap (λ l. l ++ new ∷ drop place (front ++ behind)) (take_at front behind place long)
      ∙ ap (λ l. front ++ new ∷ l) (drop_at front behind place long)))

-- another sheet in the place of one, made of it
pub placed_over : (list : List Sheet) (place : ℕ) (change : Sheet → Sheet) (old new : Sheet) → at_place place list ≡ old ∷ [] → new ≡ change old
    → take place list ++ new ∷ drop (place + 1) list ≡ in_place place (map change (at_place place list)) list
placed_over list place change old new alone is =
    ap (λ s. take place list ++ s ∷ drop (place + 1) list) is
    ∙ sym (ap (λ l. take place list ++ (map change l ++ drop (place + 1) list)) alone)

-- a choice of a number or none
pub at_most : (b : Bool) (n : ℕ) → cond b n 0 ≤ n
at_most true n = omega arith
at_most false n = omega arith

pub other_choice : (b : Bool) (n : ℕ) → cond (not b) n 0 ≡ cond b 0 n
other_choice true n = refl
other_choice false n = refl

-- one item less
pub one_less : {A : Type 0} (items : List A) (place : ℕ) → place < length items → length (take place items ++ drop (place + 1) items) + 1 ≡ length items
one_less items place within =
    omega (arith, length-append (take place items) (drop (place + 1) items), length-take-le place items (omega arith), length-drop (place + 1) items)

-- two lists of one sheet
pub same_one : (a b : Sheet) → a ∷ [] ≡ b ∷ [] → a ≡ b
same_one a b is = cc

-- a list with a part cut out is no longer
pub no_longer : {A : Type 0} (items : List A) (at count : ℕ) → length (take at items ++ drop count (drop at items)) ≤ length items
no_longer items at count =
    omega (arith, length-append (take at items) (drop count (drop at items)), length-take at items, length-drop at items, length-drop count (drop at items))
