-- The kinds, brackets, spans and tokens of the code, as those of the definitions.
use Rattle.std.specs.Prelude.{Bool, Option}
use Rattle.base_model.specs.Text.{Characters}
use Rattle.syntax_model.specs.Token as model
use Rattle.syntax_model.specs.Brackets as model_bracket
use Rattle.css_tokens.specs.declared.token_kind.TokenKind.{TokenKind}
use Rattle.css_tokens.specs.declared.token_kind.TokenKind.TheVariants.{Ident, Function, AtKeyword, Hash, String}
use Rattle.css_tokens.specs.declared.token_kind.TokenKind.TheVariants.{BadString}
use Rattle.css_tokens.specs.declared.token_kind.TokenKind.TheVariants.{Url, BadUrl, Delim, Number, Percentage}
use Rattle.css_tokens.specs.declared.token_kind.TokenKind.TheVariants.{Dimension}
use Rattle.css_tokens.specs.declared.token_kind.TokenKind.TheVariants.{Whitespace, Cdo, Cdc, Colon, Semicolon, Comma}
use Rattle.css_tokens.specs.declared.token_kind.TokenKind.TheVariants.{OpenSquare, CloseSquare, OpenRound, CloseRound}
use Rattle.css_tokens.specs.declared.token_kind.TokenKind.TheVariants.{OpenCurly, CloseCurly}
use Rattle.syntax_model.specs.TokenKinds.{is_comma, is_semicolon}
use Rattle.css_tokens.specs.declared.token.Span.{Span}
use Rattle.css_tokens.specs.declared.separator.Separator.{Separator}
use Rattle.css_tokens.specs.declared.separator.Separator.TheVariants as separator
use Rattle.syntax_model.specs.Wide as model_wide
use Rattle.css_tokens.specs.declared.wide.Wide.{Wide}
use Rattle.css_tokens.specs.declared.wide.Wide.TheVariants as wide
use Rattle.css_tokens.specs.declared.bracket.Bracket.{Bracket}
use Rattle.css_tokens.specs.declared.bracket.Bracket.TheVariants.{Square, Round, Curly}

-- the kind that a `TokenKind` is
abbrev pub kind_of : TokenKind → model.TokenKind
kind_of Ident = model.ident
kind_of Function = model.function
kind_of AtKeyword = model.at_keyword
kind_of (Hash is_id) = model.hash is_id
kind_of String = model.string
kind_of BadString = model.bad_string
kind_of Url = model.url
kind_of BadUrl = model.bad_url
kind_of (Delim c) = model.delim c
kind_of (Number is_integer) = model.number is_integer
kind_of Percentage = model.percentage
kind_of (Dimension is_integer) = model.dimension is_integer
kind_of Whitespace = model.whitespace
kind_of Cdo = model.cdo
kind_of Cdc = model.cdc
kind_of Colon = model.colon
kind_of Semicolon = model.semicolon
kind_of Comma = model.comma
kind_of OpenSquare = model.open_square
kind_of CloseSquare = model.close_square
kind_of OpenRound = model.open_round
kind_of CloseRound = model.close_round
kind_of OpenCurly = model.open_curly
kind_of CloseCurly = model.close_curly

-- the bracket that a `Bracket` is
abbrev pub bracket_of : Bracket → model_bracket.Bracket
bracket_of Square = model_bracket.square
bracket_of Round = model_bracket.round
bracket_of Curly = model_bracket.curly

-- the kinds that a `Separator` is
abbrev pub separates : Separator → model.TokenKind → Bool
separates separator.Comma = is_comma
separates separator.Semicolon = is_semicolon

-- the span that a `Span` is
abbrev pub span_of : Span → model.Span
span_of span = record { start = span.start; end = span.end }

-- the token of these parts
abbrev pub token_seen : model.TokenKind → Characters → Characters → Option model.Span → model.Token
token_seen kind name spelling span = record { kind = kind; name = name; spelling = spelling; span = span }

-- the keyword that a `Wide` is
abbrev pub wide_of : Wide → model_wide.Wide
wide_of wide.Inherit = model_wide.inherit
wide_of wide.Initial = model_wide.initial
wide_of wide.Unset = model_wide.unset
wide_of wide.Revert = model_wide.revert
wide_of wide.RevertLayer = model_wide.revert_layer
