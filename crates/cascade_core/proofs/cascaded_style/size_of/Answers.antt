use Rattle.std.proofs.Common.{sym, ◌∙◌}
use Rattle.std.specs.FinMap as finmap
use Rattle.value_model.specs.Table.{font_size_property}
use Rattle.cascade_model.proofs.ValuesLemmas.{size_within}
use Rattle.cascade_core.proofs.cascaded_style.size_of.Goals as goal

pub returns-then-not-contains : goal.returns-then-not-contains
returns-then-not-contains c =
    let unset = sym c.contains.ensures ∙ c.if-not-contains.true in
    rw (c.declared.ensures (finmap.get c.args.custom.now) font_size_property unset size_within)

pub returns : goal.returns
returns c = rw (c.own_size.ensures, c.in_ok-cascaded.ensures.value, c.over-longhands.ensures)
