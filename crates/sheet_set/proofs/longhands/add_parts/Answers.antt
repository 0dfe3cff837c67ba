use Rattle.std.proofs.Common.{◌++◌, flat_map, map, ap, sym, ◌∙◌}
use Rattle.std.proofs.lemmas.Result.{on_ok_weaker}
use Rattle.css_rules.specs.View.{declaration_of}
use Rattle.property_table.specs.View.{property_of}
use Rattle.shorthands.specs.View.{declared_of}
use Rattle.sheet_set.proofs.PartsLemmas.{all_taken}
use Rattle.sheet_set.proofs.longhands.add_parts.Goals as goal

pub returns-then-are_taken : goal.returns-then-are_taken
returns-then-are_taken c =
    let taken = all_taken (declaration_of c.args.declaration.now) (map property_of c.args.ids.now) (map (λ part. part.now) c.args.parts.now) (sym c.are_taken.ensures ∙ c.if-are_taken.true) in
    on_ok_weaker c.add_each.result (λ added. added ∙ ap (λ l. flat_map declared_of c.args.kept.now.items ++ l) (sym taken)) c.add_each.ensures
