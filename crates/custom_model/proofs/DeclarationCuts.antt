-- The value of each declaration of a block, and the block of each rule, are cut from a text as `CutLemmas` says.
use Rattle.std.proofs.Common.{◌≡◌, ℕ, zero, suc, List, [], ◌∷◌, ◌++◌, length, reverse, Bool, true, false, cond, Option, Some, None, IfSome, refl, sym, subst}
use Rattle.std.specs.List.{AllByRecursion}
use Rattle.std.specs.Option.{option_to_list}
use Rattle.std.proofs.lemmas.Bool.{false≢true, and_parts, cond_both}
use Rattle.std.proofs.lemmas.List.{reverse-reverse}
use Rattle.std.proofs.lemmas.Option.{none-some, cond_some}
use Rattle.base_model.specs.Options.{◌>>=◌}
use Rattle.base_model.specs.Text.{Characters}
use Rattle.syntax_model.specs.Signs.{exclamation_mark}
use Rattle.syntax_model.specs.Token.{Token, TokenKind, ident, delim}
use Rattle.syntax_model.specs.TokenKinds.{is_at_keyword, is_between, is_colon, is_delim, is_ident, is_semicolon, without_white, trimmed}
use Rattle.syntax_model.specs.Brackets.{Bracket, closed, is_shallow, open_past}
use Rattle.syntax_model.specs.Outside.{length_before, up_to, from_first}
use Rattle.syntax_model.specs.Rules.{Declaration}
use Rattle.syntax_model.specs.RulesIn.{after_at_rule, after_colon, before_important, before_mark, declaration_in, declarations_from, declarations_in, ends_at_rule, is_important_word, named_declaration, shallow_alone}
use Rattle.syntax_model.proofs.UrlStrings.{is_quoted}
use Rattle.custom_model.proofs.CutLemmas.{OfText, of_text-closed, of_text-drop, of_text-last, of_text-trimmed, of_text-up_to, of_text-without_white, of_text-without_white_last}
use Rattle.base_model.proofs.Lists.{each-append}

each_of_some : {X : Type 0} (P : X → Type 0) (o : Option X) → IfSome o P → AllByRecursion P (option_to_list o)
each_of_some P None h = tt
each_of_some P (Some x) h = (h, tt)

-- what is before `!important`

delim_no_quote : (c : ℕ) (kind : TokenKind) → is_delim c kind ≡ true → is_quoted kind ≡ false
delim_no_quote c (delim d) h = refl
delim_no_quote c kind h = absurd (false≢true h)

ident_no_quote : (kind : TokenKind) → is_ident kind ≡ true → is_quoted kind ≡ false
ident_no_quote ident h = refl
ident_no_quote kind h = absurd (false≢true h)

before_mark_of : (tokens before : List Token) → OfText (reverse tokens) → before_mark tokens ≡ Some before → OfText (reverse before)
before_mark_of [] before h e = absurd (none-some before e)
before_mark_of (token ∷ tokens) before h e =
    let mark = cond_some (is_delim exclamation_mark token.kind) tokens before e in
    subst (λ ts. OfText (reverse ts)) mark.1 (of_text-last token tokens (delim_no_quote exclamation_mark token.kind mark.0) h)

before_important_of : (tokens before : List Token) → OfText (reverse tokens) → before_important tokens ≡ Some before → OfText (reverse before)
before_important_of [] before h e = absurd (none-some before e)
before_important_of (token ∷ tokens) before h e = by (is_important_word token) refl e where
  by : (b : Bool) → is_important_word token ≡ b → cond b (before_mark (without_white tokens)) None ≡ Some before → OfText (reverse before)
  by true word e =
      before_mark_of (without_white tokens) before (of_text-without_white_last tokens (of_text-last token tokens (ident_no_quote token.kind (and_parts (is_ident token.kind) _ word).0) h)) e
  by false word e = absurd (none-some before e)

-- the value of a declaration

abbrev pub DeclarationOfText : Declaration → Type 0
DeclarationOfText declaration = OfText declaration.value

named_of : (name : Characters) (tokens : List Token) → OfText tokens → DeclarationOfText (named_declaration name tokens)
named_of name tokens h = by (before_important (reverse (trimmed tokens))) refl where
  by : (o : Option (List Token)) → before_important (reverse (trimmed tokens)) ≡ o → DeclarationOfText (elim o [
    | Some before ↦ record { name = name; value = reverse (without_white before); important = true }
    | None ↦ record { name = name; value = trimmed tokens; important = false }
  ])
  by (Some before) e =
      of_text-without_white_last before (before_important_of (reverse (trimmed tokens)) before (subst OfText (sym (reverse-reverse (trimmed tokens))) (of_text-trimmed tokens h)) e)
  by None e = of_text-trimmed tokens h

alone_of : (declaration : Declaration) → DeclarationOfText declaration → IfSome (shallow_alone declaration) DeclarationOfText
alone_of declaration h =
    cond_both (is_shallow declaration.value) (Some declaration) None (λ o. IfSome o DeclarationOfText) (λ _. h) (λ _. tt)

after_colon_of : (tokens : List Token) → OfText tokens → IfSome (after_colon tokens) OfText
after_colon_of [] h = tt
after_colon_of (token ∷ tokens) h =
    cond_both (is_colon token.kind) (Some tokens) None (λ o. IfSome o OfText) (λ _. (h.0.1, h.1.1)) (λ _. tt)

declaration_of : (tokens : List Token) → OfText tokens → IfSome (declaration_in tokens) DeclarationOfText
declaration_of [] h = tt
declaration_of (token ∷ tokens) h =
    cond_both (is_ident token.kind) _ None (λ o. IfSome o DeclarationOfText)
    (λ _. by (after_colon (without_white tokens)) (after_colon_of (without_white tokens) (of_text-without_white tokens (h.0.1, h.1.1))))
    (λ _. tt) where
      by : (o : Option (List Token)) → IfSome o OfText → IfSome (o >>= (λ rest. shallow_alone (named_declaration token.name rest))) DeclarationOfText
      by None k = tt
      by (Some rest) k = alone_of (named_declaration token.name rest) (named_of token.name rest k)

after_at_rule_of : (pending : List Bracket) (tokens : List Token) → OfText tokens → OfText (after_at_rule pending tokens)
after_at_rule_of pending [] h = h
after_at_rule_of pending (token ∷ tokens) h =
    cond_both (ends_at_rule pending token) _ _ OfText (λ _. (h.0.1, h.1.1)) (λ _. after_at_rule_of (open_past pending token) tokens (h.0.1, h.1.1))

declarations_of : (most : ℕ) (tokens : List Token) → OfText tokens → AllByRecursion DeclarationOfText (declarations_from most tokens)
declarations_of zero tokens h = tt
declarations_of (suc most) [] h = tt
declarations_of (suc most) (token ∷ tokens) h =
    let P : List Declaration → Type 0 = AllByRecursion DeclarationOfText in
    let all : List Token = token ∷ tokens in
    cond_both (is_between token.kind) _ _ P
    (λ _. declarations_of most tokens (h.0.1, h.1.1))
    (λ _. cond_both (is_at_keyword token.kind) _ _ P
    (λ _. declarations_of most (after_at_rule [] tokens) (after_at_rule_of [] tokens (h.0.1, h.1.1)))
    (λ _. each-append DeclarationOfText (option_to_list (declaration_in (closed (up_to is_semicolon all)))) (declarations_from most (from_first is_semicolon all))
    (each_of_some DeclarationOfText (declaration_in (closed (up_to is_semicolon all))) (declaration_of (closed (up_to is_semicolon all)) (of_text-closed (up_to is_semicolon all) (of_text-up_to all h))))
    (declarations_of most (from_first is_semicolon all) (of_text-drop (length_before is_semicolon [] all) all h))))

-- the declarations of a block
pub block_declarations : (block : List Token) → OfText block → AllByRecursion DeclarationOfText (declarations_in block)
unfolding declarations_in
block_declarations block h = declarations_of (length block) block h
