use Rattle.std.specs.FinMap as finmap
use Rattle.custom_model.specs.Expand.{expansion}
use Rattle.custom_model.proofs.Said.{said_unplaced}
use Rattle.sheet_model.specs.Shorthands.{single}
use Rattle.property_table.specs.View.{property_of}
use Rattle.cascade_core.proofs.TokenLemmas.{expanded_means}
use Rattle.cascade_core.proofs.longhands.substituted_longhand.Goals as goal

pub returns-in-None : goal.returns-in-None
returns-in-None c =
    let expanded = rw (c.in-None.is, c.tokens.ensures, said_unplaced) at c.in_ok-substitute.ensures in
    rw (← expanded) at (expanded_means (property_of c.args.id) (single (property_of c.args.declared)) (expansion (finmap.get c.args.custom.now) c.args.value.now))

pub returns-in-Some : goal.returns-in-Some
returns-in-Some c =
    let expanded = rw (c.in-Some.is, c.tokens.ensures, said_unplaced) at c.in_ok-substitute.ensures in
    rw (c.longhand_of_tokens.ensures, c.deref.ensures.value)
    (rw (← expanded) at (expanded_means (property_of c.args.id) (single (property_of c.args.declared)) (expansion (finmap.get c.args.custom.now) c.args.value.now)))
