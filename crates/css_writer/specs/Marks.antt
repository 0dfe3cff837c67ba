-- The texts of the tokens that have neither name nor number, and are no delims.
use Rattle.std.specs.Prelude.{[], None}
use Rattle.base_model.specs.Text.{Characters}
use Rattle.syntax_model.specs.Token.{TokenKind, ident, function, at_keyword, hash, string, url, delim, number}
use Rattle.syntax_model.specs.Token.{percentage, dimension}
use Rattle.syntax_model.specs.Written.{token_text}

abbrev pub mark_text : TokenKind → Characters
mark_text ident = []
mark_text function = []
mark_text at_keyword = []
mark_text (hash is_id) = []
mark_text string = []
mark_text url = []
mark_text (delim c) = []
mark_text (number is_integer) = []
mark_text percentage = []
mark_text (dimension is_integer) = []
mark_text kind = token_text (record { kind = kind; name = []; spelling = []; span = None })
