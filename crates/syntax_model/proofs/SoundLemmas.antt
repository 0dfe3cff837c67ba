-- Each token of a text is sound, but a bad string, a bad url and a `\` alone.
use Rattle.std.proofs.Common.{◌≡◌, ℕ, ◌+◌, Bool, true, false, eqb, [], ◌∷◌, drop, refl, sym, ap, ◌∙◌, inl, inr}
use Rattle.std.specs.Prelude.{◌&&◌, ◌||◌, not, codes}
use Rattle.std.specs.List.{list_all}
use Rattle.std.proofs.lemmas.Bool.{and_from, and_left, cases_Bool, cond_both, cond-false, eq-eqb, not_from_false, or_from, or_left, or_parts, or_right}
use Rattle.base_model.specs.Lists.{is_nil}
use Rattle.base_model.specs.Text.{Characters, is_word}
use Rattle.syntax_model.specs.Letters.{begins, is_name_start}
use Rattle.syntax_model.specs.TextUnits.{len_of, string_unit}
use Rattle.syntax_model.specs.Numbers.{number_len, starts_number}
use Rattle.syntax_model.specs.Token.{Token, hash, delim}
use Rattle.syntax_model.specs.TokenKinds.{is_delim}
use Rattle.syntax_model.specs.Pieces.{Piece, Production, ident_piece, is_line_feed, mark_kind, mark_production, name_in, name_len, named, number_piece, plain, quote_follows, production_at}
use Rattle.syntax_model.specs.Pieces.{production_tokens, starts_ident, starts_name, string_piece, token_of, url_piece}
use Rattle.syntax_model.specs.TokensIn.{tokens_in}
use Rattle.syntax_model.specs.Written.{is_broken, is_delim_char, is_sound}
use Rattle.syntax_model.proofs.MarkReads.{Alone, alone, mark_any, mark_at, no_number_before}
use Rattle.syntax_model.proofs.NameFacts.{ident_name_some, name_in_some, no_ident_written}
use Rattle.syntax_model.proofs.PieceLemmas.{production_any, url_any}
use Rattle.syntax_model.proofs.TokenEndLemmas.{at_end, ends_token}
use Rattle.syntax_model.proofs.TokenReads.{all_tokens}
use Rattle.syntax_model.proofs.SpellingLemmas.{number_alone, spelling_as}

-- broken or sound
abbrev pub is_known : Token → Bool
is_known token = is_broken token.kind || is_sound token

-- what a piece says is so
abbrev IsKnown : Piece → Type 0
IsKnown piece = is_known (token_of 0 piece) ≡ true

string_known : (c : ℕ) (cs : Characters) → IsKnown (string_piece c cs)
string_known c cs = cond_both (begins is_line_feed (drop (len_of (string_unit c) cs) cs)) _ _ IsKnown (λ _. refl) (λ _. refl)

hash_known : (b : Bool) (cs : Characters) → starts_name cs ≡ true → starts_ident cs ≡ b → IsKnown (named (hash b) (name_in cs) (1 + name_len cs))
hash_known true cs h k = and_from _ _ (not_from_false _ (name_in_some cs h)) refl
hash_known false cs h k =
    and_from _ _ (not_from_false _ (name_in_some cs h)) (and_from _ _ (not_from_false _ (no_ident_written cs h k)) refl)

number_known : (text : Characters) → starts_number text ≡ true → IsKnown (number_piece text)
number_known text h =
    let rest : Characters = drop (number_len text) text in
    cond_both (begins (λ c. eqb c 37) rest) _ _ IsKnown (λ _. and_from _ _ (number_alone text h).number refl)
    (λ _. cond_both (starts_ident rest) _ _ IsKnown
    (λ e. and_from _ _ (spelling_as text h) (not_from_false _ (ident_name_some rest e)))
    (λ _. and_from _ _ (spelling_as text h) refl))

url_known : (before : ℕ) (text : Characters) → IsKnown (url_piece before text)
url_known before text = url_any IsKnown before text (λ _. refl) (λ _. refl)

ident_known : (text : Characters) → starts_ident text ≡ true → IsKnown (ident_piece text)
ident_known text h =
    let taken : ℕ = name_len text in
    let rest : Characters = drop taken text in
    let some : not (is_nil (name_in text)) ≡ true = not_from_false _ (ident_name_some text h) in
    cond_both (not (begins (λ c. eqb c 40) rest)) _ _ IsKnown (λ _. and_from _ _ some refl)
    (λ _. cond_both (is_word (codes "url") (name_in text) && not (quote_follows (drop 1 rest))) _ _ IsKnown (λ _. url_known (taken + 1) (drop 1 rest)) (λ _. and_from _ _ some refl))

no_ident_alone : (c : ℕ) (cs : Characters) → eqb c 92 ≡ false → starts_ident (c ∷ cs) ≡ false → starts_ident (c ∷ []) ≡ false
no_ident_alone c cs other h =
    cond_both (eqb c 45) _ _ (λ b. b ≡ false) (λ _. refl) (λ k. or_from _ _ (or_parts (is_name_start c) _ (sym (cond-false _ _ _ k) ∙ h)).0 (and_left _ _ other))

mark_alone : (c : ℕ) (cs : Characters) → eqb c 92 ≡ false → Alone c cs → Alone c []
mark_alone c cs other facts = record {
  no_blank = facts.no_blank;
  no_quote = facts.no_quote;
  no_number = no_number_before c cs [] refl refl facts.no_number;
  no_ident = no_ident_alone c cs other facts.no_ident;
}

-- such a character, where it is no mark, is a delim
delim_alone : (c : ℕ) → production_at (c ∷ []) ≡ mark_production → is_delim c (mark_kind c) ≡ true → is_delim_char c ≡ true
delim_alone c h k = ap (λ (production : Production). elim production [ mark_production ↦ is_delim c (mark_kind c) | _ ↦ false ]) h ∙ k

delim_known : (c : ℕ) (cs : Characters) → production_at (c ∷ cs) ≡ mark_production → mark_kind c ≡ delim c → IsKnown (plain (delim c) 1)
delim_known c cs h is =
    elim (cases_Bool (eqb c 92)) [
      | inl e ↦ or_left _ _ e
      | inr e ↦
          let at = mark_at c [] (mark_alone c cs e (alone c cs h)) (ends_token at_end) in
          or_right (eqb c 92) _ (and_from _ _ (delim_alone c at (ap (is_delim c) is ∙ eq-eqb c c refl)) refl)
    ]

-- and a mark is sound
one_known : (c : ℕ) (cs : Characters) → production_at (c ∷ cs) ≡ mark_production → IsKnown (plain (mark_kind c) 1)
one_known c cs h =
    mark_any (λ kind. mark_kind c ≡ kind → IsKnown (plain kind 1)) c (delim_known c cs h)
    (λ _. refl) (λ _. refl) (λ _. refl) (λ _. refl) (λ _. refl) (λ _. refl) (λ _. refl) (λ _. refl) (λ _. refl) refl

-- the tokens of one production
production_known : (start c : ℕ) (cs : Characters) → list_all is_known (production_tokens (production_at (c ∷ cs)) start c cs) ≡ true
production_known start c cs =
    production_any (λ production. production_at (c ∷ cs) ≡ production → list_all is_known (production_tokens production start c cs) ≡ true) c cs
    (λ _ _. refl)
    (λ _ _. refl)
    (λ _ _. and_from _ _ (string_known c cs) refl)
    (λ _ h _. and_from _ _ (hash_known (starts_ident cs) cs h refl) refl)
    (λ h _. and_from _ _ (number_known (c ∷ cs) h) refl)
    (λ _ _. refl)
    (λ _ _. refl)
    (λ _ h _. and_from _ _ (and_from _ _ (not_from_false _ (ident_name_some cs h)) refl) refl)
    (λ h _. and_from _ _ (ident_known (c ∷ cs) h) refl)
    (λ h. and_from _ _ (one_known c cs h) refl)
    refl

-- Each token of a text is sound, or one of these.
pub sound_tokens : (text : Characters) → list_all is_known (tokens_in text) ≡ true
sound_tokens text = all_tokens is_known (λ _. Unit) (λ _ _ good. good) (λ start c cs _. production_known start c cs) text tt
