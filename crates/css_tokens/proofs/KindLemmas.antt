-- What `==` says of kinds, which are the same where they are one kind of the definitions.
use Rattle.std.proofs.Common.{◌≡◌, true, false, refl, sym, ap, ◌∙◌}
use Rattle.std.specs.Bool.{Decides}
use Rattle.std.proofs.lemmas.Bool.{false≢true, eq-eqb, eqb-true}
use Rattle.syntax_model.specs.Token as model
use Rattle.css_tokens.specs.View.{kind_of}
use Rattle.css_tokens.specs.declared.token_kind.TokenKind.{TokenKind}
use Rattle.css_tokens.specs.declared.token_kind.TokenKind.TheVariants as variant
use Rattle.css_tokens.specs.contracts.token_kind.TokenKindPartialEq.TheImpl.{ghosts}

-- the kind of the code that a kind is
named : model.TokenKind → TokenKind
named model.ident = variant.Ident
named model.function = variant.Function
named model.at_keyword = variant.AtKeyword
named (model.hash is_id) = variant.Hash is_id
named model.string = variant.String
named model.bad_string = variant.BadString
named model.url = variant.Url
named model.bad_url = variant.BadUrl
named (model.delim c) = variant.Delim c
named (model.number is_integer) = variant.Number is_integer
named model.percentage = variant.Percentage
named (model.dimension is_integer) = variant.Dimension is_integer
named model.whitespace = variant.Whitespace
named model.cdo = variant.Cdo
named model.cdc = variant.Cdc
named model.colon = variant.Colon
named model.semicolon = variant.Semicolon
named model.comma = variant.Comma
named model.open_square = variant.OpenSquare
named model.close_square = variant.CloseSquare
named model.open_round = variant.OpenRound
named model.close_round = variant.CloseRound
named model.open_curly = variant.OpenCurly
named model.close_curly = variant.CloseCurly

named-kind_of : (kind : TokenKind) → named (kind_of kind) ≡ kind
unfolding named
named-kind_of variant.Ident = refl
named-kind_of variant.Function = refl
named-kind_of variant.AtKeyword = refl
named-kind_of (variant.Hash is_id) = refl
named-kind_of variant.String = refl
named-kind_of variant.BadString = refl
named-kind_of variant.Url = refl
named-kind_of variant.BadUrl = refl
named-kind_of (variant.Delim c) = refl
named-kind_of (variant.Number is_integer) = refl
named-kind_of variant.Percentage = refl
named-kind_of (variant.Dimension is_integer) = refl
named-kind_of variant.Whitespace = refl
named-kind_of variant.Cdo = refl
named-kind_of variant.Cdc = refl
named-kind_of variant.Colon = refl
named-kind_of variant.Semicolon = refl
named-kind_of variant.Comma = refl
named-kind_of variant.OpenSquare = refl
named-kind_of variant.CloseSquare = refl
named-kind_of variant.OpenRound = refl
named-kind_of variant.CloseRound = refl
named-kind_of variant.OpenCurly = refl
named-kind_of variant.CloseCurly = refl

same_kind : (a b : TokenKind) → kind_of a ≡ kind_of b → a ≡ b
same_kind a b e = sym (named-kind_of a) ∙ (ap named e ∙ named-kind_of b)

eq-same : (a b : TokenKind) → ghosts.eq a b ≡ true → a ≡ b
eq-same variant.Ident variant.Ident e = refl
eq-same variant.Function variant.Function e = refl
eq-same variant.AtKeyword variant.AtKeyword e = refl
eq-same (variant.Hash true) (variant.Hash true) e = refl
eq-same (variant.Hash false) (variant.Hash false) e = refl
eq-same variant.String variant.String e = refl
eq-same variant.BadString variant.BadString e = refl
eq-same variant.Url variant.Url e = refl
eq-same variant.BadUrl variant.BadUrl e = refl
eq-same (variant.Delim a) (variant.Delim b) e = ap variant.Delim (eqb-true a b e)
eq-same (variant.Number true) (variant.Number true) e = refl
eq-same (variant.Number false) (variant.Number false) e = refl
eq-same variant.Percentage variant.Percentage e = refl
eq-same (variant.Dimension true) (variant.Dimension true) e = refl
eq-same (variant.Dimension false) (variant.Dimension false) e = refl
eq-same variant.Whitespace variant.Whitespace e = refl
eq-same variant.Cdo variant.Cdo e = refl
eq-same variant.Cdc variant.Cdc e = refl
eq-same variant.Colon variant.Colon e = refl
eq-same variant.Semicolon variant.Semicolon e = refl
eq-same variant.Comma variant.Comma e = refl
eq-same variant.OpenSquare variant.OpenSquare e = refl
eq-same variant.CloseSquare variant.CloseSquare e = refl
eq-same variant.OpenRound variant.OpenRound e = refl
eq-same variant.CloseRound variant.CloseRound e = refl
eq-same variant.OpenCurly variant.OpenCurly e = refl
eq-same variant.CloseCurly variant.CloseCurly e = refl
eq-same a b e = absurd (false≢true e)

eq-itself : (a : TokenKind) → ghosts.eq a a ≡ true
eq-itself variant.Ident = refl
eq-itself variant.Function = refl
eq-itself variant.AtKeyword = refl
eq-itself (variant.Hash true) = refl
eq-itself (variant.Hash false) = refl
eq-itself variant.String = refl
eq-itself variant.BadString = refl
eq-itself variant.Url = refl
eq-itself variant.BadUrl = refl
eq-itself (variant.Delim a) = eq-eqb a a refl
eq-itself (variant.Number true) = refl
eq-itself (variant.Number false) = refl
eq-itself variant.Percentage = refl
eq-itself (variant.Dimension true) = refl
eq-itself (variant.Dimension false) = refl
eq-itself variant.Whitespace = refl
eq-itself variant.Cdo = refl
eq-itself variant.Cdc = refl
eq-itself variant.Colon = refl
eq-itself variant.Semicolon = refl
eq-itself variant.Comma = refl
eq-itself variant.OpenSquare = refl
eq-itself variant.CloseSquare = refl
eq-itself variant.OpenRound = refl
eq-itself variant.CloseRound = refl
eq-itself variant.OpenCurly = refl
eq-itself variant.CloseCurly = refl

-- the derived `==` decides whether two kinds are one of the definitions
pub eq-Decides : (a b : TokenKind) → Decides (ghosts.eq a b) (kind_of a ≡ kind_of b)
eq-Decides a b = (λ e. ap kind_of (eq-same a b e), λ e. ap (ghosts.eq a) (sym (same_kind a b e)) ∙ eq-itself a)
