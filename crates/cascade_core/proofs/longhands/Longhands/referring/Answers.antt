use Rattle.cascade_core.proofs.longhands.Longhands.referring.Goals as goal

pub returns-in-Custom-clause-value : goal.returns-in-Custom-clause-value
returns-in-Custom-clause-value c =
    rw (c.in-Custom.is, ← c.self-in-Custom.view_is) c.substituted_longhand-in-Custom.ensures
