-- The nodes of an insertion. No limit of theirs is one of the job: where a node passes one by itself, that limit stands
-- for all of them, and else they are kept, however many.
use Rattle.std.specs.Prelude.{◌≡◌, List, Option, Some, None, Ok, option_map, option_and_then}
use Rattle.std.specs.Option.{option_or}
use Rattle.std.specs.FinMap as finmap
use Rattle.serde_json.specs.Data.{Data}
use Rattle.serde_json.specs.Find.{as_object}
use Rattle.base_model.specs.Limits.{attribute_limit}
use Rattle.stylo_base.specs.declared.refusal.Kind.{Kind}
use Rattle.stylo_base.specs.declared.refusal.Kind.TheVariants as kinds
use Rattle.scene_model.specs.Element.{Attributes}
use Rattle.scene_model.specs.Nodes.{Node}
use Rattle.edit_model.specs.Apply as edits
use Rattle.edit_model.specs.Refusal.{Refusal, limit, attribute_count, past}
use Rattle.dom_edits.specs.declared.edits.NewNodes.{NewNodes}
use Rattle.dom_edits.specs.declared.edits.NewNodes.TheVariants.{Kept, Past}
use Rattle.dom_edits.specs.declared.edits.NodeLimit.{NodeLimit}
use Rattle.dom_edits.specs.declared.edits.NodeLimit.TheVariants.{Attributes as many_attributes, Value as long_value}
use Rattle.job_json.specs.Checked.{Checked, ◌>>=◌}
use Rattle.job_json.specs.Shape.{attrs_in, nodes_in}
use Rattle.job_json.specs.Limits.{Passed, attrs_past}

-- the limit by which nodes are refused for one of them
abbrev pub limit_of : Refusal → NodeLimit
limit_of (limit attribute_count most) = many_attributes
limit_of why = long_value

-- the limit that one of the nodes is the first to pass by itself
abbrev pub past_by_itself : List Node → Option NodeLimit
past_by_itself nodes = option_map limit_of (edits.nodes_past nodes)

abbrev pub kept_unless : Option NodeLimit → List Node → NewNodes
kept_unless None nodes = Kept nodes
kept_unless (Some which) nodes = Past which

abbrev pub new_nodes : List Node → NewNodes
new_nodes nodes = kept_unless (past_by_itself nodes) nodes

-- they are read as those of a job
abbrev pub new_nodes_in : Option Data → Checked NewNodes
new_nodes_in value = do
  nodes ← nodes_in value
  Ok (new_nodes nodes)

-- the same limit, as the members of an object of attributes tell it

abbrev pub limit_told : Kind → NodeLimit
limit_told kinds.Attributes = many_attributes
limit_told kind = long_value

abbrev pub passed_limit : Passed → NodeLimit
passed_limit passed = limit_told passed.0

-- how many attributes there are, and then their values
abbrev pub attributes_past : Attributes → Option Refusal
attributes_past attrs =
    option_or (past attribute_count attribute_limit (finmap.len attrs)) (edits.values_past attrs)

-- The members of an object of attributes tell the limit that the attributes pass.
abbrev pub TellsLimits : Option Data → Type 0
TellsLimits value = (attrs : Attributes) → attrs_in value ≡ Ok attrs
    → option_map passed_limit (attrs_past (option_and_then as_object value))
    ≡ option_map limit_of (attributes_past attrs)
