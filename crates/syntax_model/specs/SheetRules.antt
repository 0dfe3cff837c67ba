-- The rules of a sheet, and the layers that it declares (css-syntax-3, section 5.3.3; css-cascade-5, section 6.4).
use Rattle.std.specs.Prelude.{ℕ, zero, suc, ◌+◌, List, [], ◌∷◌, ◌++◌, map, Bool, true, false, if◌then◌else◌}
use Rattle.std.specs.Prelude.{Option, Some, None, unwrap_or, codes}
use Rattle.base_model.specs.Text.{Characters, is_word}
use Rattle.layer_model.specs.Name.{no_layer, part_limit}
use Rattle.syntax_model.specs.Token.{Token}
use Rattle.syntax_model.specs.Brackets.{closed, is_shallow}
use Rattle.syntax_model.specs.Preprocess.{preprocessed}
use Rattle.syntax_model.specs.TokensIn.{tokens_in}
use Rattle.syntax_model.specs.Rules.{Rule, style, layer, Context, SheetEdition, Piece, qualified_rule, at_rule}
use Rattle.syntax_model.specs.RulesIn.{pieces_in}
use Rattle.syntax_model.specs.LayersIn.{layers_declared, is_anonymous, block_layer}

-- What a part of a text gives: rules, and how many anonymous layers there are in the text up to its end.
pub record RulesFound : Type 0 where
  pub rules : List Rule
  pub anonymous : ℕ

abbrev pub found : List Rule → ℕ → RulesFound
found rules anonymous = record { rules = rules; anonymous = anonymous }

-- a qualified rule is dropped where its prelude has brackets nested too deep
abbrev pub qualified_found : Context → List Token → List Token → List Rule
qualified_found context prelude block =
    if is_shallow prelude then style (record { prelude = prelude; block = block; context = context }) ∷ [] else []

abbrev pub is_layer_name : Characters → Bool
is_layer_name name = is_word (codes "layer") name

-- an at-rule without a block: `@layer` declares each of its names
abbrev pub statement_found : Context → Characters → List Token → List Rule
statement_found context name prelude =
    if is_layer_name name then map layer (unwrap_or (layers_declared context prelude) []) else []

-- an anonymous layer counts, whatever becomes of it
abbrev pub counted : ℕ → List Token → ℕ
counted count prelude = if is_anonymous prelude then count + 1 else count

-- what reads a block that is in this context and comes after so many anonymous layers
abbrev pub BlockReader : Type 0
BlockReader = Context → ℕ → List Token → RulesFound

abbrev pub in_layer : BlockReader → Option Context → ℕ → List Token → RulesFound
in_layer read None count block = found [] count
in_layer read (Some inner) count block =
    let inside = read inner count block in found (layer inner ∷ inside.rules) inside.anonymous

-- `@layer` with a block: the layer is declared, and what is in the block is in it; any other at-rule is dropped
abbrev pub block_found : BlockReader → SheetEdition → Context → ℕ → Characters → List Token → List Token → RulesFound
block_found read edition context count name prelude block =
    if is_layer_name name then in_layer read (block_layer edition count context prelude) (counted count prelude) block
    else found [] count

abbrev pub piece_found : BlockReader → SheetEdition → Context → ℕ → Piece → RulesFound
piece_found read edition context count (qualified_rule prelude block) =
    found (qualified_found context prelude block) count
piece_found read edition context count (at_rule name prelude None) =
    found (statement_found context name prelude) count
piece_found read edition context count (at_rule name prelude (Some block)) =
    block_found read edition context count name prelude block

abbrev pub pieces_found : BlockReader → SheetEdition → Context → ℕ → List Piece → RulesFound
pieces_found read edition context count [] = found [] count
pieces_found read edition context count (piece ∷ pieces) =
    let first = piece_found read edition context count piece in
    let rest = pieces_found read edition context first.anonymous pieces in
    found (first.rules ++ rest.rules) rest.anonymous

-- The same of the block of a layer, in which layers are nested in so many levels at most. No name has more parts than
-- the limit, so that many levels are all.
abbrev pub block_within : ℕ → SheetEdition → BlockReader
block_within zero edition context count block = found [] count
block_within (suc levels) edition context count block =
    pieces_found (block_within levels edition) edition context count (pieces_in false block)

abbrev pub no_context : Context
no_context = record { layer = no_layer }

-- the rules of a sheet (css-syntax-3, section 5.3.3)
unfoldable pub rules_in : SheetEdition → List Token → List Rule
rules_in edition tokens =
    (pieces_found (block_within part_limit edition) edition no_context 0 (pieces_in true (closed tokens))).rules

-- the rules of a sheet's text
abbrev pub sheet_rules_in : SheetEdition → Characters → List Rule
sheet_rules_in edition text = rules_in edition (tokens_in (preprocessed text))
