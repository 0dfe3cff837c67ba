use Rattle.std.proofs.Common.{List, ℕ, map, subst, sym}
use Rattle.std.specs.List.Sorted.{IsPermutation}
use Rattle.edit_model.specs.Touched as model
use Rattle.edit_model.specs.TouchedPairs.{at_element}
use Rattle.dom_edits.specs.TouchView.{touch_seen}
use Rattle.dom_edits.proofs.TouchLemmas.{one_sorted}
use Rattle.dom_edits.proofs.TouchedLists.{lists_none}
use Rattle.dom_edits.proofs.touched.Touched.at_one.Goals as goal

pub returns : goal.returns
returns c =
    subst (λ (pairs : List (model.Touch × ℕ)). IsPermutation (at_element c.args.x (map touch_seen c.args.touches.items)) pairs) (sym (lists_none c.in_order.result.items c.from_buf.result.items c.new.result.items c.new-2.result.items c.new.ensures.items c.new-2.ensures.items))
    (one_sorted c.args.touches.items c.in_order.result.items c.args.x c.from_buf.result.items c.from_buf.ensures.items c.in_order.ensures.same)
