-- Which declarations are gathered, and what each stands for among them.
use Rattle.std.specs.Prelude.{Bool, is_some}
use Rattle.cascade_model.specs.Key as model
use Rattle.cascade_model.specs.Winner.{declares_longhand}
use Rattle.property_table.specs.View.{property_of}
use Rattle.cascade_core.specs.Names.{name_of}
use Rattle.cascade_core.specs.View.{entry_of, head_of}
use Rattle.cascade_core.specs.declared.matched.LentMatched.{LentMatched}
use Rattle.cascade_core.specs.declared.gathered.Wanted.{Wanted}
use Rattle.cascade_core.specs.declared.gathered.Wanted.TheVariants.{Property, Custom}

abbrev pub wanted_by : Wanted → model.Matched → Bool
wanted_by (Property id) d = declares_longhand (property_of id) d
wanted_by Custom d = is_some (name_of d)

abbrev pub entry_by : Wanted → LentMatched → model.Matched
entry_by (Property id) d = entry_of (property_of id) d
entry_by Custom d = head_of d
