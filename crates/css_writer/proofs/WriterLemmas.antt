-- The text of tokens, one after another.
use Rattle.std.proofs.Common.{◌≡◌, List, [], ◌∷◌, ◌++◌, length, refl, sym, ap, ◌∙◌, append_assoc, append-nil}
use Rattle.std.proofs.lemmas.List.{nil_from_length}
use Rattle.base_model.specs.Text.{Characters}
use Rattle.syntax_model.specs.Token.{Token}
use Rattle.syntax_model.specs.Written.{gap, token_text, written}

written_more : (token : Token) (tokens : List Token) → written (token ∷ tokens) ≡ token_text token ++ gap token.kind tokens ++ written tokens
unfolding written
written_more token tokens = refl

written_none : written [] ≡ []
unfolding written
written_none = refl

-- one token on
pub write_more : (all out one both : Characters) (token : Token) (rest after : List Token) → out ++ written rest ≡ all → rest ≡ token ∷ after → one ≡ out ++ token_text token → both ≡ one ++ gap token.kind after → both ++ written after ≡ all
write_more all out one both token rest after so_far is is_one is_both =
    let text : Characters = token_text token in
    let between : Characters = gap token.kind after in
    rw (is_both, is_one) (ap (λ cs. cs ++ written after) (append_assoc out text between)
    ∙ (append_assoc out (text ++ between) (written after)
    ∙ (ap (λ cs. out ++ cs) (sym (written_more token after)) ∙ (ap (λ ts. out ++ written ts) (sym is) ∙ so_far))))

-- the end
pub write_all : (all out : Characters) (rest : List Token) → out ++ written rest ≡ all → length rest ≡ 0 → out ≡ all
write_all all out rest so_far is = sym (append-nil out) ∙ (ap (λ cs. out ++ cs) (sym (ap written (nil_from_length rest is) ∙ written_none)) ∙ so_far)
