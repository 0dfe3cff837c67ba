-- The graph of declared custom properties: each reference of one to another, by their places in the order of the names.
use Rattle.std.specs.Prelude.{ℕ, suc, List, [], ◌∷◌, ◌++◌, Option, Some, None}
use Rattle.std.specs.FinMap as finmap
use Rattle.base_model.specs.Text.{Characters}
use Rattle.custom_model.specs.Cycles.{DeclaredValues, references_of}
use Rattle.custom_properties.specs.Entry.{Entry}
use Rattle.css_tokens.specs.Place.{place_in}
use Rattle.cycle_search.specs.declared.mark.Edge.{Edge}

abbrev pub edge_to : ℕ → Option ℕ → List Edge
edge_to from None = []
edge_to from (Some to) = record { from = from; to = to } ∷ []

-- the edges from a place to those of these names that are declared
abbrev pub edges_to : List Entry → ℕ → List Characters → List Edge
edges_to all from [] = []
edges_to all from (name ∷ names) = edge_to from (place_in all name) ++ edges_to all from names

-- the edges of the entries from a place on
abbrev pub edges_of : List Entry → ℕ → List Entry → List Edge
edges_of all from [] = []
edges_of all from (entry ∷ entries) =
    edges_to all from (references_of (Some entry.1)) ++ edges_of all (suc from) entries

abbrev pub graph_of : List Entry → List Edge
graph_of all = edges_of all 0 all

abbrev pub graph : DeclaredValues → List Edge
graph declared = graph_of (finmap.entries declared)
