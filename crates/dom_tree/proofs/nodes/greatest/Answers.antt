use Rattle.std.proofs.Common.{◌≡◌, ◌+◌, ◌<◌, ◌≤◌, ◌↔◌, ◌∷◌, ℕ, List, [], arith, drop, get_or, length, subst, sym}
use Rattle.std.specs.List.{AllByRecursion}
use Rattle.std.proofs.lemmas.List.{drop_all, drop_more}
use Rattle.dom_tree.proofs.nodes.greatest.Goals as goal
use Rattle.dom_tree.proofs.nodes.greatest.Goals.{then-most-number, else-most-number}

-- one number more, which the greatest so far is compared with
one_more : (numbers : List ℕ) (i most later n : ℕ) → i < length numbers → most ≤ later → get_or numbers i 0 ≤ later → (most ≤ n → get_or numbers i 0 ≤ n → later ≤ n)
    → AllByRecursion (λ number. number ≤ n) numbers ↔ ((most ≤ n) × AllByRecursion (λ number. number ≤ n) (drop i numbers))
    → AllByRecursion (λ number. number ≤ n) numbers ↔ ((later ≤ n) × AllByRecursion (λ number. number ≤ n) (drop (i + 1) numbers))
one_more numbers i most later n within above above_it least so_far =
    let each = AllByRecursion (λ number. number ≤ n) in
    let here : drop i numbers ≡ get_or numbers i 0 ∷ drop (i + 1) numbers = drop_more numbers i 0 within in (
      λ all. (let both = so_far.0 all in let left = subst each here both.1 in (least both.0 left.0, left.1)),
      λ both. so_far.1 (omega (arith, both.0), subst each (sym here) (omega (arith, both.0), both.1)),
    )

pub loop-number-init : goal.loop-number-init
loop-number-init c = λ n. (λ each. (omega arith, each), λ both. both.1)

pub loop-number-preserved : goal.loop-number-preserved
loop-number-preserved c = λ n.
    elim c.if-most-number.branch [
      | then-most-number w ↦ one_more c.args.numbers.now c.loop-number.number-index c.loop-number.most _ n (omega arith) (omega arith) (omega arith) (λ a b. omega arith) (c.loop-number.invariant n)
      | else-most-number w ↦ one_more c.args.numbers.now c.loop-number.number-index c.loop-number.most _ n (omega arith) (omega arith) (omega arith) (λ a b. omega arith) (c.loop-number.invariant n)
    ]

pub returns : goal.returns
returns c = λ n.
    let numbers = c.args.numbers.now in
    let none : drop c.loop-number.number-index numbers ≡ [] = drop_all c.loop-number.number-index numbers (omega arith) in (
      λ most. (c.loop-number.invariant n).1 (most, subst (AllByRecursion (λ number. number ≤ n)) (sym none) tt),
      λ all. ((c.loop-number.invariant n).0 all).0,
    )
