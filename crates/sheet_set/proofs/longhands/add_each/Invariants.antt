use Rattle.std.proofs.Common.{◌≡◌, ◌++◌, flat_map, length, map}
use Rattle.css_rules.specs.View.{declaration_of}
use Rattle.property_table.specs.View.{property_of}
use Rattle.shorthands.specs.View.{declared_of}
use Rattle.sheet_set.specs.Parts.{each_declared}
use Rattle.sheet_set.proofs.KeptLemmas.{left_declared}
use Rattle.sheet_set.proofs.longhands.add_each.Given as goal

-- what is kept so far, and what the parts that are left declare, is the whole
abbrev pub invariant-loop-id : goal.invariant-loop-id
invariant-loop-id l =
    flat_map declared_of l.kept.items ++ left_declared (declaration_of l.declaration) property_of (λ part. part.now) l.ids l.parts (length l.yielded)
    ≡ flat_map declared_of l.fn.kept.items ++ each_declared (declaration_of l.declaration) (map property_of l.ids) (map (λ part. part.now) l.parts)
