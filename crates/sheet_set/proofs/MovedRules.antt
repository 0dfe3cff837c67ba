-- Rules of a sheet that leave those of all or come among them, where only it is known whose they are.
use Rattle.std.proofs.Common.{◌≡◌, ℕ, ◌+◌, ◌<◌, ◌≤◌, List, [], ◌∷◌, ◌++◌, length, map, take, drop, get_or, true, false, sym, ap, ◌∙◌, arith, length-append}
use Rattle.std.proofs.Math.Logic.{∥∥₁_elim}
use Rattle.std.specs.Prelude.{Vec}
use Rattle.std.specs.Coded.{le_prop}
use Rattle.std.specs.declared.alloc.Global.{Global}
use Rattle.std.proofs.lemmas.Bool.{cond-true, cond-false}
use Rattle.std.proofs.lemmas.List.{map-append, take-map, drop-map, take_at, drop_at, take-append-drop}
use Rattle.selector_types.specs.declared.selector.Selector.{Selector}
use Rattle.sheet_set.specs.declared.sheet_rule.SheetRule.{SheetRule}
use Rattle.sheet_set.specs.declared.kept_sheet.KeptSheet.{KeptSheet}
use Rattle.sheet_set.specs.Kept.{kept_seen, taking}
use Rattle.sheet_set.specs.Rules.{AreSame, rules_at, rules_with, taking_part}
use Rattle.sheet_set.proofs.Left.{item_at}
use Rattle.sheet_set.proofs.Taking.{length-with, taking-append}

-- a list of three parts: what is at an index, and what is around it
module _ {A : Type 0} (whole first part last : List A) (at count : ℕ) (is : whole ≡ first ++ (part ++ last)) (before : length first ≡ at) (long : length part ≡ count) where
  behind : drop at whole ≡ part ++ last
  behind = ap (drop at) is ∙ drop_at first (part ++ last) at before

  pub part_is : take count (drop at whole) ≡ part
  part_is = ap (take count) behind ∙ take_at part last count long

  pub without_part : take at whole ++ drop count (drop at whole) ≡ first ++ last
  without_part =
      ap (λ l. l ++ drop count (drop at whole)) (ap (take at) is ∙ take_at first (part ++ last) at before)
      ∙ ap (λ l. first ++ l) (ap (drop count) behind ∙ drop_at part last count long)

-- and one of two, with more between them
pub with_part : {A : Type 0} (whole more first last : List A) (at : ℕ) → whole ≡ first ++ last → length first ≡ at → take at whole ++ (more ++ drop at whole) ≡ first ++ (more ++ last)
with_part whole more first last at is before =
    ap (λ l. l ++ (more ++ drop at whole)) (ap (take at) is ∙ take_at first last at before)
    ∙ ap (λ l. first ++ (more ++ l)) (ap (drop at) is ∙ drop_at first last at before)

-- what stands beside a list does as it does
pub beside_cut : {A B : Type 0} (f : A → B) (whole : List A) (at count : ℕ) → take at (map f whole) ++ drop count (drop at (map f whole)) ≡ map f (take at whole ++ drop count (drop at whole))
beside_cut f whole at count =
    ap (λ l. l ++ drop count (drop at (map f whole))) (take-map f at whole)
    ∙ (ap (λ l. map f (take at whole) ++ l) (ap (drop count) (drop-map f at whole) ∙ drop-map f count (drop at whole))
    ∙ sym (map-append f (take at whole) (drop count (drop at whole))))

pub beside_put : {A B : Type 0} (f : A → B) (whole more : List A) (at : ℕ) → take at (map f whole) ++ (map f more ++ drop at (map f whole)) ≡ map f (take at whole ++ (more ++ drop at whole))
beside_put f whole more at =
    ap (λ l. l ++ (map f more ++ drop at (map f whole))) (take-map f at whole)
    ∙ (ap (λ l. map f (take at whole) ++ (map f more ++ l)) (drop-map f at whole)
    ∙ sym (map-append f (take at whole) (more ++ drop at whole) ∙ ap (λ l. map f (take at whole) ++ l) (map-append f more (drop at whole))))

-- the rules of a list of sheets around one of them
module _ (sheets : List KeptSheet) (place : ℕ) (it : KeptSheet) (within : place < length sheets) (is : it ≡ get_or sheets place it) where
  pub around : sheets ≡ take place sheets ++ it ∷ drop (place + 1) sheets
  around =
      sym (take-append-drop place sheets) ∙ ap (λ l. take place sheets ++ l) (item_at sheets place it within is)

  pub taking-around : taking sheets ≡ taking (take place sheets) ++ (taking_part (kept_seen it) ++ taking (drop (place + 1) sheets))
  taking-around = ap taking around ∙ taking-append (take place sheets) (it ∷ drop (place + 1) sheets)

  pub taking-on : it.enabled ≡ true → taking sheets ≡ taking (take place sheets) ++ (rules_at 0 (kept_seen it) ++ taking (drop (place + 1) sheets))
  taking-on on =
      taking-around
      ∙ ap (λ l. taking (take place sheets) ++ (l ++ taking (drop (place + 1) sheets))) (cond-true it.enabled (rules_at 0 (kept_seen it)) [] on)

  pub taking-off : it.enabled ≡ false → taking sheets ≡ taking (take place sheets) ++ taking (drop (place + 1) sheets)
  taking-off off =
      taking-around
      ∙ ap (λ l. taking (take place sheets) ++ (l ++ taking (drop (place + 1) sheets))) (cond-false it.enabled (rules_at 0 (kept_seen it)) [] off)

-- no more rules take part than are kept, and no fewer
pub total-within : (rules : List SheetRule) (lists : List (Vec Selector Global)) (sheets : List KeptSheet) → length rules ≡ length lists → AreSame (rules_with rules lists) (taking sheets) → length (taking sheets) ≤ length rules
total-within rules lists sheets same texts =
    ∥∥₁_elim texts le_prop (λ is. omega (arith, ap length is, length-with rules lists same))

pub total-least : (rules : List SheetRule) (lists : List (Vec Selector Global)) (sheets : List KeptSheet) → length rules ≡ length lists → AreSame (rules_with rules lists) (taking sheets) → length rules ≤ length (taking sheets)
total-least rules lists sheets same texts =
    ∥∥₁_elim texts le_prop (λ is. omega (arith, ap length is, length-with rules lists same))

pub front-within : (sheets : List KeptSheet) (place : ℕ) → length (taking (take place sheets)) ≤ length (taking sheets)
front-within sheets place =
    let whole = ap taking (take-append-drop place sheets) in
    let parts = ap length (taking-append (take place sheets) (drop place sheets)) in
    omega (arith, ap length whole, parts, length-append (taking (take place sheets)) (taking (drop place sheets)))
