use Rattle.std.proofs.Common.{sym, ap, ◌∙◌}
use Rattle.std.proofs.lemmas.Slice.Eq.{slice_eq-Decides}
use Rattle.std.proofs.lemmas.Bool.Decides.{Decides-eqb}
use Rattle.rule_maps.specs.declared.table.Head.{Head}
use Rattle.std.specs.Str.{chars}
use Rattle.rule_maps.proofs.HeadLemmas.{named_under}
use Rattle.rule_maps.proofs.table.Table.find_from.Goals as goal

pub returns-then-eq : goal.returns-then-eq
returns-then-eq c =
    let table = c.args.self.now in
    named_under table.pairs.items (chars c.args.name.now) table.heads.items table.rising c.args.index c.index.result.now c.part.result.now c.requires.there
    (ap (λ (head : Head). head.name) (sym c.index.ensures) ∙ (sym c.as_str.ensures.characters ∙ ap chars ((slice_eq-Decides Decides-eqb _ _ _ c.eq.ensures).0 c.if-eq.true)))
    c.part.ensures
