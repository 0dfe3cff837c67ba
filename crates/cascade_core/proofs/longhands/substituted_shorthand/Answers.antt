use Rattle.std.specs.FinMap as finmap
use Rattle.custom_model.specs.Expand.{expansion}
use Rattle.custom_model.proofs.Said.{said_unplaced}
use Rattle.sheet_model.specs.Shorthands.{shorthand}
use Rattle.shorthands.specs.View.{short_of}
use Rattle.cascade_core.proofs.TokenLemmas.{expanded_means}
use Rattle.cascade_core.proofs.longhands.substituted_shorthand.Goals as goal

pub returns-in-None : goal.returns-in-None
returns-in-None c = λ p.
    let expanded = rw (c.in-None.is, c.tokens.ensures, said_unplaced) at c.in_ok-substitute.ensures in
    rw (← expanded) at (expanded_means p (shorthand (short_of c.args.short)) (expansion (finmap.get c.args.custom.now) c.args.value.now))

pub returns-in-Some : goal.returns-in-Some
returns-in-Some c = λ p.
    let expanded = rw (c.in-Some.is, c.tokens.ensures, said_unplaced) at c.in_ok-substitute.ensures in
    rw (c.of.ensures p, c.deref.ensures.value)
    (rw (← expanded) at (expanded_means p (shorthand (short_of c.args.short)) (expansion (finmap.get c.args.custom.now) c.args.value.now)))
