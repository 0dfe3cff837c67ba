use Rattle.std.proofs.Common.{sym, ◌∙◌, subst}
use Rattle.dom_tree.specs.Whole.{IsWhole}
use Rattle.dom_tree.proofs.doc.Doc.copy.Goals as goal

pub invariant_of-result : goal.invariant_of-result
invariant_of-result c =
    let numbers = c.in_ok-order.ensures in
    let labels = c.in_ok-labels.ensures in
    let tree = c.in_ok-columns.ensures in
    let order = numbers.order ∙ c.deref.ensures.value in
    let present = numbers.present ∙ c.deref-2.ensures.value in
    let all = labels.labels ∙ c.deref-3.ensures.value in
    let cuts = labels.cuts ∙ c.deref-4.ensures.value in
    subst IsWhole (λ i. record {
      table = sym tree.columns i;
      spans = sym tree.spans i;
      flat = sym tree.flat i;
      index = sym tree.index i;
      before = sym tree.before i;
      after = sym tree.after i;
      tally = sym tree.tally i;
      labels = sym all i;
      lists = sym labels.lists i;
      cuts = sym cuts i;
      order = sym order i;
      present = sym present i;
    }) c.self.invariant
