use Rattle.std.proofs.Common.{[], ◌∷◌, ◌++◌, map, replicate, ap, ◌∙◌}
use Rattle.std.proofs.lemmas.List.{map_push, replicate-append-replicate}
use Rattle.layer_order.proofs.nesting.empty_lists.Goals as goal

pub loop-preserved : goal.loop-preserved
loop-preserved c =
    ap (map (λ v. v.items)) c.in_ok-push.ensures.items
    ∙ (map_push (λ v. v.items) c.loop.lists.items c.new.result
    ∙ (ap (λ ls. ls ++ c.new.result.items ∷ []) c.loop.invariant ∙ (ap (λ l. replicate c.loop.counter [] ++ l ∷ []) c.new.ensures.items ∙ replicate-append-replicate c.loop.counter 1 [])))
