use Rattle.std.proofs.Common.{◌≡◌, ◌++◌, drop}
use Rattle.std.specs.Prelude.{flat_map}
use Rattle.css_rules.specs.View.{declarations_of}
use Rattle.sheet_model.specs.Declared.{declared_in}
use Rattle.shorthands.specs.View.{declared_of}
use Rattle.sheet_set.proofs.parse_block.parse_block.Given as goal

-- what is kept so far, and what the declarations that are left declare, is the whole
abbrev pub invariant-loop-declaration : goal.invariant-loop-declaration
invariant-loop-declaration l =
    flat_map declared_of l.kept.items ++ flat_map declared_in (declarations_of (drop l.declaration-index l.declaration-items)) ≡ flat_map declared_in (declarations_of l.declaration-items)
