-- The words of limits.
use Rattle.std.specs.Prelude.{ℕ, List, codes}
use Rattle.stylo_base.specs.declared.refusal.Kind.{Kind}
use Rattle.stylo_base.specs.declared.refusal.Kind.TheVariants.{Input, Elements, Numbers, Depth, Attributes}
use Rattle.stylo_base.specs.declared.refusal.Kind.TheVariants.{Value, Sheets, Text, Batches, Device}

-- the word by which a kind of limit is printed
abbrev pub name_of : Kind → List ℕ
name_of Input = codes "input"
name_of Elements = codes "elements"
name_of Numbers = codes "numbers"
name_of Depth = codes "depth"
name_of Attributes = codes "attributes"
name_of Value = codes "value"
name_of Sheets = codes "sheets"
name_of Text = codes "text"
name_of Batches = codes "batches"
name_of Device = codes "device"
