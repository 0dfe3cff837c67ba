-- The lines of the elements of a scene.
use Rattle.std.specs.Prelude.{ℕ, List, map, encode_utf8_all}
use Rattle.std.specs.List.{flat_map}
use Rattle.base_model.specs.Text.{Characters}
use Rattle.scene_model.specs.Element.{Element}
use Rattle.scene_model.specs.Lookups.{numbers, tag_of}
use Rattle.scene_model.specs.Scene.{Scene, elements_of}
use Rattle.sheet_model.specs.Sources.{Sources, sources_of}
use Rattle.cascade_model.specs.StyleOf.{style_of}
use Rattle.report_text.specs.Lines.{element_line}

-- an element's line: its number, its tag and its style
abbrev pub line_at : List Element → Sources → ℕ → Characters
line_at doc sources x = element_line x (tag_of doc x) (style_of doc sources x)

-- the line of every element, in tree order
abbrev pub element_lines : Scene → List Characters
element_lines scene = map (line_at (elements_of scene) (sources_of scene.sheets)) (numbers (elements_of scene))

-- in UTF-8
abbrev pub line_bytes : List Element → Sources → ℕ → List ℕ
line_bytes doc sources x = encode_utf8_all (line_at doc sources x)

-- the lines of some elements, and of all, in tree order
abbrev pub lines_bytes : Scene → List ℕ → List ℕ
lines_bytes scene xs = flat_map (line_bytes (elements_of scene) (sources_of scene.sheets)) xs

abbrev pub elements_bytes : Scene → List ℕ
elements_bytes scene = lines_bytes scene (numbers (elements_of scene))
