use Rattle.std.proofs.Common.{◌≤◌, ◌↔◌, ℕ, drop}
use Rattle.std.specs.List.{AllByRecursion}
use Rattle.dom_tree.proofs.nodes.greatest.Given as goal

abbrev pub invariant-loop-number : goal.invariant-loop-number
invariant-loop-number l = (n : ℕ) → AllByRecursion (λ number. number ≤ n) l.numbers ↔ ((l.most ≤ n) × AllByRecursion (λ number. number ≤ n) (drop l.number-index l.numbers))
