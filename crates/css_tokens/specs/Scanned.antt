-- What the code finds in a text, as the pieces of the definitions.
use Rattle.std.specs.Prelude.{◌≡◌, ℕ, ◌==◌, List, [], ◌∷◌, Bool, true, not, ◌&&◌, ◌||◌, if◌then◌else◌}
use Rattle.base_model.specs.Ascii.{line_feed, full_stop, asterisk, comma_sign, colon_sign, semicolon_sign}
use Rattle.base_model.specs.Ascii.{left_parenthesis, right_parenthesis, left_bracket, right_bracket, left_brace, right_brace}
use Rattle.base_model.specs.Text.{Characters}
use Rattle.syntax_model.specs.Token as model
use Rattle.syntax_model.specs.Letters.{begins, is_digit, is_name_char}
use Rattle.syntax_model.specs.Signs.{reverse_solidus}
use Rattle.syntax_model.specs.TextUnits as units
use Rattle.syntax_model.specs.Pieces as pieces
use Rattle.css_tokens.specs.View.{kind_of}
use Rattle.css_tokens.specs.declared.scan.Scan.{Scan}
use Rattle.css_tokens.specs.declared.text_unit.TextUnit.{TextUnit}
use Rattle.css_tokens.specs.declared.text_unit.Grammar.{Grammar}
use Rattle.css_tokens.specs.declared.text_unit.Grammar.TheVariants as grammar
use Rattle.css_tokens.specs.declared.run.Said.{Said}
use Rattle.css_tokens.specs.declared.run.Said.TheVariants as said
use Rattle.css_tokens.specs.declared.production.Production.{Production}
use Rattle.css_tokens.specs.declared.production.Production.TheVariants as production

-- the unit that a `TextUnit` is
abbrev pub unit_of : TextUnit → units.TextUnit
unit_of unit = record { taken = unit.taken; said = unit.said }

-- the units of which a part of the grammar is made
abbrev pub unit_by : Grammar → Characters → units.TextUnit
unit_by grammar.Name = units.name_unit
unit_by (grammar.String quote) = units.string_unit quote
unit_by grammar.Url = units.url_unit
unit_by grammar.Remnants = units.remnant_unit
unit_by grammar.Comment = units.comment_unit

-- a character that is a unit alone and says itself, whatever is after it
abbrev pub is_plain : Grammar → ℕ → Bool
is_plain grammar.Name c = is_name_char c
is_plain (grammar.String quote) c = not ((c == quote) || ((c == line_feed) || (c == reverse_solidus)))
is_plain grammar.Url c = not (units.ends_url c)
is_plain grammar.Remnants c = not ((c == right_parenthesis) || (c == reverse_solidus))
is_plain grammar.Comment c = not (c == asterisk)

-- a text that begins with no such character may still begin with a unit
abbrev pub may_go_on : Grammar → Characters → Bool
may_go_on grammar.Comment text = begins (λ c. c == asterisk) text
may_go_on g text = begins (λ c. c == reverse_solidus) text

-- what a run says
abbrev pub said_in : Said → Characters
said_in (said.Plain text) = text.now
said_in (said.Units grammar text) = units.said_of (unit_by grammar) text.now

-- a character that is a token alone, whatever is after it
abbrev pub is_lone : ℕ → Bool
is_lone c =
    (c == comma_sign)
    || ((c == colon_sign)
    || ((c == semicolon_sign)
    || ((c == left_parenthesis)
    || ((c == right_parenthesis)
    || ((c == left_bracket) || ((c == right_bracket) || ((c == left_brace) || (c == right_brace))))))))

-- the production that a `Production` is
abbrev pub production_of : Production → pieces.Production
production_of production.Comment = pieces.comment_production
production_of production.White = pieces.white_production
production_of production.String = pieces.string_production
production_of production.Hash = pieces.hash_production
production_of production.Number = pieces.number_production
production_of production.Cdc = pieces.cdc_production
production_of production.Cdo = pieces.cdo_production
production_of production.At = pieces.at_keyword_production
production_of production.Ident = pieces.ident_production
production_of production.Mark = pieces.mark_production

-- the piece that was found
abbrev pub piece_of : Scan → pieces.Piece
piece_of scan = record {
  kind = kind_of scan.kind;
  name = said_in scan.name;
  spelling = scan.spelling.now;
  length = scan.len;
}

-- how many characters the first piece of a text has, and the tokens that it is
abbrev pub first_len : Characters → ℕ
first_len [] = 0
first_len (c ∷ cs) = pieces.production_len (pieces.production_at (c ∷ cs)) c cs

abbrev pub first_tokens : ℕ → Characters → List model.Token
first_tokens start [] = []
first_tokens start (c ∷ cs) = pieces.production_tokens (pieces.production_at (c ∷ cs)) start c cs

-- the same of what was found
abbrev pub found_tokens : ℕ → Scan → List model.Token
found_tokens start scan = if scan.is_comment then [] else pieces.token_of start (piece_of scan) ∷ []

-- this is the first piece of a text, and a token
pub record IsFirst (piece : pieces.Piece) (text : Characters) : Type 0 where
  pub len : piece.length ≡ first_len text
  pub tokens : (start : ℕ) → pieces.token_of start piece ∷ [] ≡ first_tokens start text

-- a point that begins no number
abbrev pub is_lone_point : ℕ → Characters → Bool
is_lone_point c cs = (c == full_stop) && not (begins is_digit cs)

-- a text begins with a mark of this kind
pub record IsMark (kind : model.TokenKind) (c : ℕ) (cs : Characters) : Type 0 where
  pub alone : (is_lone c || is_lone_point c cs) ≡ true
  pub same_kind : kind ≡ pieces.mark_kind c
