use Rattle.std.proofs.Common.{◌≡◌, ◌++◌, take}
use Rattle.layer_order.specs.View.{declarations}
use Rattle.sheet_set.proofs.Taking.{layers_in}
use Rattle.sheet_set.proofs.kept_layers.add_layers_of.Given as goal

abbrev pub invariant-loop-sheet : goal.invariant-loop-sheet
invariant-loop-sheet l = declarations l.found.items ≡ declarations l.initial.found.items ++ layers_in (take l.sheet-index l.sheets)
