use Rattle.std.proofs.Common.{ℕ, map, sym, ap, ◌∙◌}
use Rattle.property_table.specs.View.{property_of}
use Rattle.cascade_core.specs.Declarations.{in_order}
use Rattle.cascade_core.specs.View.{entry_of}
use Rattle.std.proofs.lemmas.List.{take_all}
use Rattle.std.proofs.lemmas.Simd.{map-map}
use Rattle.cascade_core.proofs.EntryLemmas.{matched_longhands}
use Rattle.cascade_core.proofs.WonLemmas.{put_custom}
use Rattle.cascade_core.proofs.places.Places.add.Goals as goal

pub returns-then-is_custom : goal.returns-then-is_custom
returns-then-is_custom c = λ ds h.
    put_custom (in_order c.args.declarations) c.args.self.now ds h c.args.d.now (sym c.is_custom.ensures ∙ c.if-is_custom.true)

pub returns : goal.returns
returns c = λ ds h.
    let all = take_all c.loop-id.id-index c.longhands-ids.result.now c.loop-id-test.false in
    let longhand = sym c.is_custom.ensures ∙ c.if-is_custom.false in
    let entry = λ (p : ℕ). entry_of p c.args.d.now in
    let each = sym (map-map entry property_of c.longhands-ids.result.now) ∙ ap (map entry) c.longhands-ids.ensures in
    rw (matched_longhands c.args.d.now longhand) (rw (all, each) at (c.loop-id.invariant ds h))
