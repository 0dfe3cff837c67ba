-- What the types of the code stand for.
use Rattle.std.specs.Prelude.{ℕ, List, Option, map}
use Rattle.std.specs.FinMap as finmap
use Rattle.std.specs.Str.{chars}
use Rattle.scene_model.specs.Element as model
use Rattle.scene_model.specs.Nodes.{Node}
use Rattle.dom_tree.specs.declared.nodes.States.{States}
use Rattle.dom_tree.specs.declared.nodes.Attr.{Attr}
use Rattle.dom_tree.specs.declared.nodes.NodeInput.{NodeInput}

abbrev pub states_of : States → model.States
states_of s = record { hover = s.hover; active = s.active; focus = s.focus }

abbrev pub pair_of : Attr → model.Characters × model.Characters
pair_of attr = (chars attr.name.now, chars attr.value.now)

-- the map of a list of attributes: the first with a name decides
abbrev pub attributes_of : List Attr → model.Attributes
attributes_of list = finmap.from_entries (map pair_of list)

abbrev pub node_of : Option ℕ → NodeInput → Node
node_of parent input = record {
  parent = parent;
  tag = chars input.tag.now;
  attrs = attributes_of input.attrs.now;
  states = states_of input.states;
}
