-- Rules and declarations, as a parser of the standard gives them (css-syntax-3, section 5).
use Rattle.std.specs.Prelude.{ℕ, List, Bool, Option}
use Rattle.base_model.specs.Text.{Characters}
use Rattle.layer_model.specs.Name.{LayerName}
use Rattle.syntax_model.specs.Token.{Token}

-- what a rule is in: for now its cascade layer
pub record Context : Type 0 where
  pub layer : LayerName

-- a qualified rule: what is before its block, what is in it, and what it is in
pub record StyleBlock : Type 0 where
  pub prelude : List Token
  pub block : List Token
  pub context : Context

-- what the text of a sheet gives: a qualified rule, or a layer that it declares at this place
pub data Rule : Type 0 where
  style : StyleBlock → Rule
  layer : Context → Rule

-- which text of a sheet it is: the number of the sheet, and an edition that is 0 until the text is replaced
pub record SheetEdition : Type 0 where
  pub sheet : ℕ
  pub edition : ℕ

pub record Declaration : Type 0 where
  pub name : Characters
  pub value : List Token
  pub important : Bool

-- what begins a rule: an at-keyword, or nothing of its own
pub data Head : Type 0 where
  qualified_head : Head
  at_head : Characters → Head

-- what a list of tokens is cut into: a prelude and a block; or a name, a prelude and maybe a block
pub data Piece : Type 0 where
  qualified_rule : List Token → List Token → Piece
  at_rule : Characters → List Token → Option (List Token) → Piece
