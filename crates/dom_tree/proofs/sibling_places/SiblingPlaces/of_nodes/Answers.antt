use Rattle.std.proofs.Common.{ap, sym, ◌∙◌, arith, false, true, subst, length}
use Rattle.std.specs.List.{AllByRecursion}
use Rattle.scene_model.specs.Nodes.{Node}
use Rattle.dom_tree.specs.SiblingPlaces.{HasNameBelow}
use Rattle.dom_tree.proofs.SettleLemmas.{root_first, root_index, scene_places, scene_siblings, scene_tags, zeros, zeros_room, zeros_tallied}
use Rattle.dom_tree.proofs.sibling_places.SiblingPlaces.of_nodes.Goals as goal

pub settle_all-requires-clause-siblings : goal.settle_all-requires-clause-siblings
settle_all-requires-clause-siblings c =
    let room = zeros_room (c.in_ok-vec-4.ensures.items_if_clones_equal (λ y h. h)) c.name_count.ensures.count in
    scene_siblings c.args.columns.now c.requires.shape c.requires.children c.len-count.ensures (length c.in_ok-vec-4.field-0.items)
    (subst (λ n. AllByRecursion (λ (node : Node). HasNameBelow c.args.columns.now.names n node.tag) c.args.columns.now.nodes) (sym room) c.name_count.ensures.tags)

pub settle_all-requires-clause-tally : goal.settle_all-requires-clause-tally
settle_all-requires-clause-tally c = zeros_tallied (c.in_ok-vec-4.ensures.items_if_clones_equal (λ y h. h)) (omega (arith, c.name_count.ensures.count))

pub returns-clause-index : goal.returns-clause-index
returns-clause-index c =
    scene_places c.args.columns.now c.requires.shape c.requires.children c.len-count.ensures root_index
    (c.in_ok-vec.ensures.items_if_clones_equal (λ y h. h) ∙ ap zeros c.len-count.ensures) c.settle_all.ensures.index

pub returns-clause-before : goal.returns-clause-before
returns-clause-before c =
    scene_places c.args.columns.now c.requires.shape c.requires.children c.len-count.ensures (root_first false)
    (c.in_ok-vec-2.ensures.items_if_clones_equal (λ y h. h) ∙ ap zeros c.len-count.ensures) c.settle_all.ensures.before

pub returns-clause-after : goal.returns-clause-after
returns-clause-after c =
    scene_places c.args.columns.now c.requires.shape c.requires.children c.len-count.ensures (root_first true)
    (c.in_ok-vec-3.ensures.items_if_clones_equal (λ y h. h) ∙ ap zeros c.len-count.ensures) c.settle_all.ensures.after

pub returns-clause-tags : goal.returns-clause-tags
returns-clause-tags c =
    let room = c.settle_all.ensures.room ∙ zeros_room (c.in_ok-vec-4.ensures.items_if_clones_equal (λ y h. h)) c.name_count.ensures.count in
    scene_tags c.args.columns.now c.requires.shape c.requires.children c.len-count.ensures _
    (subst (λ n. AllByRecursion (λ (node : Node). HasNameBelow c.args.columns.now.names n node.tag) c.args.columns.now.nodes) (sym room) c.name_count.ensures.tags)
