use Rattle.std.proofs.Common.{option_map, sym, ap, ◌∙◌}
use Rattle.shorthands.specs.View.{short_of}
use Rattle.shorthands.specs.PartsView.{parts_seen}
use Rattle.cascade_core.proofs.PartLemmas.{all_places}
use Rattle.cascade_core.proofs.substituted_shorthand.SubstitutedShorthand.of.Goals as goal

pub returns : goal.returns
returns c = λ p.
    let ids = c.longhands-ids.ensures in
    let parts = c.as_slice-parts.ensures in
    let split = sym c.split.ensures ∙ ap (option_map parts_seen) c.in-Some-split.is in
    let taken = rw (ids, parts) at (sym c.are_taken.ensures ∙ c.if-not-are_taken.false) in
    rw (c.value_place.ensures, c.value_place-2.ensures, c.value_place-3.ensures, c.value_place-4.ensures, ids, parts)
    (rw (← all_places (short_of c.args.short) c.args.tokens.now (parts_seen c.in-Some-split.parts) split taken p, ← c.wide_keyword.ensures, c.in_default.is))
