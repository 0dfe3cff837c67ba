use Rattle.std.proofs.Common.{◌++◌, ap, ◌∙◌, subst}
use Rattle.std.specs.List.Sorted.{IsPermutation}
use Rattle.std.proofs.lemmas.List.Sorted.{IsNonDecreasingBy-from_sort}
use Rattle.dom_tree.proofs.class_lists.sort_names.Goals as goal

pub returns : goal.returns
returns c = record {
  permutation = subst (λ l. IsPermutation l c.sort_unstable.new.self.items) (c.in_ok-extend_from_slice.ensures.items ∙ ap (λ l. l ++ c.args.names.now) c.clear.ensures.items)
      c.sort_unstable.ensures.permutation;
  rising = IsNonDecreasingBy-from_sort (λ x. x) c.sort_unstable.new.self.items c.sort_unstable.ensures.sorted;
}
