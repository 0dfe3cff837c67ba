-- How the examples are written: a text, and what a function is to give for it.
use Rattle.std.proofs.Common.{true, false, List, [], ◌∷◌, ◌++◌, map}
use Rattle.std.specs.Prelude.{codes, not, filter}
use Prim.Native.String.{String}
use Rattle.base_model.specs.Text.{Characters, same_text}
use Rattle.syntax_model.specs.Token.{Token, ident, hash, delim, whitespace, function, at_keyword, string, bad_string}
use Rattle.syntax_model.specs.Token.{url, bad_url, number, percentage, dimension}
use Rattle.syntax_model.specs.Preprocess.{preprocessed}
use Rattle.syntax_model.specs.TokensIn.{tokens_in}
use Rattle.syntax_model.specs.Written.{token_text}

-- a text, and what is wanted of it
pub record Case : Type 0 where
  pub text : Characters
  pub wanted : Characters

abbrev pub case : String → String → Case
case text wanted = record { text = codes text; wanted = codes wanted }

-- the cases in which a function gives something else
abbrev pub others : (Characters → Characters) → List Case → List Case
others f cases = filter (λ c. not (same_text (f c.text) c.wanted)) cases

abbrev pub join : List Characters → Characters
join [] = []
join (text ∷ texts) = text ++ join texts

-- between angles, after what it belongs to
abbrev pub with_inner : Characters → Characters → Characters
with_inner outer inner = outer ++ codes "«" ++ inner ++ codes "»"

-- a token with its name in brackets, after `i` for an identifier, `h` for a hash that is one, `u` for any other hash,
-- or a token as it is spelled, with whitespace as `_`
abbrev pub shown : Token → Characters
shown token = elim token.kind [
  | ident ↦ codes "i(" ++ token.name ++ codes ")"
  | hash true ↦ codes "h(" ++ token.name ++ codes ")"
  | hash false ↦ codes "u(" ++ token.name ++ codes ")"
  | delim c ↦ codes "d(" ++ c ∷ [] ++ codes ")"
  | whitespace ↦ codes "_"
  | function ↦ codes "f(" ++ token.name ++ codes ")"
  | at_keyword ↦ codes "@(" ++ token.name ++ codes ")"
  | string ↦ codes "s(" ++ token.name ++ codes ")"
  | bad_string ↦ codes "bad-string"
  | url ↦ codes "url(" ++ token.name ++ codes ")"
  | bad_url ↦ codes "bad-url"
  | number true ↦ codes "n(" ++ token.spelling ++ codes ")"
  | number false ↦ codes "r(" ++ token.spelling ++ codes ")"
  | percentage ↦ codes "%(" ++ token.spelling ++ codes ")"
  | dimension true ↦ codes "n(" ++ token.spelling ++ codes ")(" ++ token.name ++ codes ")"
  | dimension false ↦ codes "r(" ++ token.spelling ++ codes ")(" ++ token.name ++ codes ")"
  | _ ↦ token_text token
]

abbrev pub spelled : List Token → Characters
spelled tokens = join (map token_text tokens)

abbrev pub tokens_shown : Characters → Characters
tokens_shown text = join (map shown (tokens_in (preprocessed text)))
