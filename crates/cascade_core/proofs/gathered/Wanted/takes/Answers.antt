use Rattle.std.proofs.Common.{sym, ap, ◌∙◌, cond, filter, [], ◌∷◌}
use Rattle.property_table.specs.View.{property_of}
use Rattle.cascade_core.specs.View.{entry_of, head_of, lent_of}
use Rattle.cascade_core.specs.Wanted.{entry_by, wanted_by}
use Rattle.cascade_core.proofs.EntryLemmas.{of_property, of_customs}
use Rattle.cascade_core.proofs.gathered.Wanted.takes.Goals as goal

pub returns-in-Property : goal.returns-in-Property
returns-in-Property c =
    ap (λ w. filter (wanted_by w) (lent_of c.args.d.now)) c.in-Property.is
    ∙ (of_property (property_of c.in-Property.id) c.args.d.now
    ∙ ((λ i. cond (sym c.sets.ensures i) (entry_of (property_of c.in-Property.id) c.args.d.now ∷ []) [])
    ∙ ap (λ w. cond c.sets.result (entry_by w c.args.d.now ∷ []) []) (sym c.in-Property.is)))

pub returns-in-Custom : goal.returns-in-Custom
returns-in-Custom c =
    ap (λ w. filter (wanted_by w) (lent_of c.args.d.now)) c.in-Custom.is
    ∙ (of_customs c.args.d.now
    ∙ ((λ i. cond (sym c.is_custom.ensures i) (head_of c.args.d.now ∷ []) [])
    ∙ ap (λ w. cond c.is_custom.result (entry_by w c.args.d.now ∷ []) []) (sym c.in-Custom.is)))
