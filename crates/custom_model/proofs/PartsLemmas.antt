-- What is known of the parts of a value by its tokens.
use Rattle.std.proofs.Common.{◌≡◌, ℕ, zero, suc, List, [], ◌∷◌, length, Bool, true, false, cond, not, ◌&&◌, ◌||◌, Some, None, option_map, refl, sym, ◌∙◌, subst}
use Rattle.std.proofs.lemmas.Bool.{false≢true, and_parts, cond_both, or_parts}
use Rattle.std.proofs.lemmas.Option.{none-some, same_Some}
use Rattle.base_model.specs.Lists.{is_nil}
use Rattle.base_model.specs.Options.{◌>>=◌}
use Rattle.base_model.specs.Text.{Characters}
use Rattle.syntax_model.specs.Token.{Said, TokenKind, function, ident, close_round, comma}
use Rattle.syntax_model.specs.TokenKinds.{is_white, is_ident, is_comma, is_close_round, is_function}
use Rattle.syntax_model.specs.Brackets.{Bracket}
use Rattle.syntax_model.specs.Written.{is_broken, is_string, is_url_function}
use Rattle.custom_model.specs.Value.{CustomValue, unplaced}
use Rattle.custom_model.specs.Parts.{Parts, done, plain, reference, with_fallback, Reading, Reader, after, without_white, is_var, is_name, is_unfit, open_beyond, named_by, var_by, parts_by, parts_within, parts}
use Rattle.custom_model.proofs.KeptLemmas.{first_is, Sound, Kept, Fit, white_fit}

-- a string begins the parts, with whitespace or none before it
abbrev pub starts_string : Parts → Bool
starts_string done = false
starts_string (plain token rest) = cond (is_white token.kind) (starts_string rest) (is_string token.kind)
starts_string (reference name rest) = false
starts_string (with_fallback name fallback rest) = false

-- each token is sound, and a string comes after each function `url`
abbrev pub KeptParts : Parts → Type 0
KeptParts done = Unit
KeptParts (plain token rest) =
    Sound token × (is_url_function (unplaced token) ≡ true → starts_string rest ≡ true) × KeptParts rest
KeptParts (reference name rest) = KeptParts rest
KeptParts (with_fallback name fallback rest) = KeptParts fallback × KeptParts rest

-- what is known of what was read, if it was
abbrev On : (Parts × CustomValue → Type 0) → Reading → Type 0
On P None = Unit
On P (Some r) = P r

on_after : (P : Parts × CustomValue → Type 0) (before : Parts → Parts) (reading : Reading) → On (λ r. P (before r.0, r.1)) reading → On P (after before reading)
on_after P before None h = tt
on_after P before (Some r) h = h

on_weaker : (P Q : Parts × CustomValue → Type 0) (reading : Reading) → ((r : Parts × CustomValue) → P r → Q r) → On P reading → On Q reading
on_weaker P Q None w h = tt
on_weaker P Q (Some r) w h = w r h

on_then : (P Q : Parts × CustomValue → Type 0) (reading : Reading) (next : Parts × CustomValue → Reading) → ((r : Parts × CustomValue) → P r → On Q (next r)) → On P reading → On Q (reading >>= next)
on_then P Q None next w h = tt
on_then P Q (Some r) next w h = w r h

-- what was read of these tokens: where nothing broken is left, nothing broken was read
record ReadOf (tokens : CustomValue) (r : Parts × CustomValue) : Type 0 where
  fit : Fit r.1 → Fit tokens
  kept : Kept tokens → KeptParts r.0 × Kept r.1

-- and where it is all of a value, or of a fallback
record WholeOf (within : Bool) (tokens : CustomValue) (r : Parts × CustomValue) : Type 0 where
  read : ReadOf tokens r
  starts : Kept tokens → first_is is_string tokens ≡ true → starts_string r.0 ≡ true
  ends : within ≡ false → r.1 ≡ []

without_white_fit : (tokens : CustomValue) → Fit (without_white tokens) → Fit tokens
without_white_fit [] fit = tt
without_white_fit (token ∷ tokens) fit = by (is_white token.kind) refl (without_white_fit tokens) fit where
  by : (b : Bool) → is_white token.kind ≡ b → (Fit (without_white tokens) → Fit tokens) → Fit (cond b (without_white tokens) (token ∷ tokens)) → Fit (token ∷ tokens)
  by true e r fit = (white_fit token.kind e, r fit)
  by false e r fit = fit

without_white_kept : (tokens : CustomValue) → Kept tokens → Kept (without_white tokens)
without_white_kept [] kept = kept
without_white_kept (token ∷ tokens) kept = by (is_white token.kind) (without_white_kept tokens (kept.0.1, kept.1.1)) where
  by : (b : Bool) → Kept (without_white tokens) → Kept (cond b (without_white tokens) (token ∷ tokens))
  by true h = h
  by false h = kept

close_fit : (kind : TokenKind) → is_close_round kind ≡ true → is_broken kind ≡ false
close_fit close_round h = refl
close_fit kind h = absurd (false≢true h)

comma_fit : (kind : TokenKind) → is_comma kind ≡ true → is_broken kind ≡ false
comma_fit comma h = refl
comma_fit kind h = absurd (false≢true h)

ident_fit : (kind : TokenKind) → is_ident kind ≡ true → is_broken kind ≡ false
ident_fit ident h = refl
ident_fit kind h = absurd (false≢true h)

close_first : (token : Said) (tokens : CustomValue) → is_close_round token.kind ≡ true → first_is is_string (token ∷ tokens) ≡ false
close_first token tokens h = by token.kind h where
  by : (kind : TokenKind) → is_close_round kind ≡ true → cond (is_white kind) (first_is is_string tokens) (is_string kind) ≡ false
  by close_round h = refl
  by kind h = absurd (false≢true h)

function_first : (token : Said) (tokens : CustomValue) → is_function token.kind ≡ true → first_is is_string (token ∷ tokens) ≡ false
function_first token tokens h = by token.kind h where
  by : (kind : TokenKind) → is_function kind ≡ true → cond (is_white kind) (first_is is_string tokens) (is_string kind) ≡ false
  by function h = refl
  by kind h = absurd (false≢true h)

kept_rest : (token : Said) (tokens : CustomValue) → Kept (token ∷ tokens) → Kept tokens
kept_rest token tokens kept = (kept.0.1, kept.1.1)

-- one token before what was read
read_past : (token : Said) (tokens : CustomValue) (r : Parts × CustomValue) → is_broken token.kind ≡ false → ReadOf tokens r → ReadOf (token ∷ tokens) r
read_past token tokens r fit read =
    record { fit = λ f. (fit, read.fit f); kept = λ k. read.kept (kept_rest token tokens k) }

read_past_white : (tokens : CustomValue) (r : Parts × CustomValue) → ReadOf (without_white tokens) r → ReadOf tokens r
read_past_white tokens r read =
    record { fit = λ f. without_white_fit tokens (read.fit f); kept = λ k. read.kept (without_white_kept tokens k) }

module _ (again : Reader) (good : (within : Bool) (pending : List Bracket) (tokens : CustomValue) → On (WholeOf within tokens) (again within pending tokens)) where
  -- of the tokens after `var(` and its name
  Inside : Bool → CustomValue → Parts × CustomValue → Type 0
  Inside within tokens r = ReadOf tokens r × (within ≡ false → r.1 ≡ [])

  named_good : (within : Bool) (pending : List Bracket) (name : Characters) (tokens : CustomValue) → On (Inside within tokens) (named_by again within pending name tokens)
  unfolding Inside
  named_good within pending name [] = tt
  named_good within pending name (token ∷ tokens) =
      cond_both (is_close_round token.kind) _ _ (On (Inside within (token ∷ tokens)))
      (λ close. on_after (Inside within (token ∷ tokens)) (reference name) (again within pending tokens)
      (on_weaker (WholeOf within tokens) _ (again within pending tokens)
      (λ r w. let read : ReadOf tokens (reference name r.0, r.1) = record { fit = w.read.fit; kept = w.read.kept } in (read_past token tokens (reference name r.0, r.1) (close_fit token.kind close) read, w.ends))
      (good within pending tokens)))
      (λ _. cond_both (is_comma token.kind) _ _ (On (Inside within (token ∷ tokens)))
      (λ comma. on_then (WholeOf true tokens) (Inside within (token ∷ tokens)) (again true [] tokens) _
      (λ f first. on_after (Inside within (token ∷ tokens)) (with_fallback name f.0) (again within pending f.1)
      (on_weaker (WholeOf within f.1) _ (again within pending f.1)
      (λ r w.
      let read : ReadOf tokens (with_fallback name f.0 r.0, r.1) = record {
        fit = λ k. first.read.fit (w.read.fit k);
        kept = λ k. let one = first.read.kept k in let two = w.read.kept one.1 in ((one.0, two.0), two.1);
      } in
      (read_past token tokens (with_fallback name f.0 r.0, r.1) (comma_fit token.kind comma) read, w.ends))
      (good within pending f.1)))
      (good true [] tokens))
      (λ _. tt))

  var_good : (within : Bool) (pending : List Bracket) (tokens : CustomValue) → On (Inside within tokens) (var_by again within pending tokens)
  unfolding Inside
  var_good within pending [] = tt
  var_good within pending (token ∷ tokens) =
      cond_both (is_name token) _ _ (On (Inside within (token ∷ tokens)))
      (λ name. on_weaker (Inside within (without_white tokens)) _ (named_by again within pending token.name (without_white tokens))
      (λ r w. (read_past token tokens r (ident_fit token.kind (and_parts (is_ident token.kind) _ name).0) (read_past_white tokens r w.0), w.1))
      (named_good within pending token.name (without_white tokens)))
      (λ _. tt)

  end_good : (within : Bool) (token : Said) (tokens : CustomValue) → within ≡ true → is_close_round token.kind ≡ true → WholeOf within (token ∷ tokens) (done, tokens)
  end_good within token tokens inside close = record {
    read = record { fit = λ f. (close_fit token.kind close, f); kept = λ k. (tt, kept_rest token tokens k) };
    starts = λ _ h. absurd (false≢true (sym (close_first token tokens close) ∙ h));
    ends = λ e. absurd (false≢true (sym e ∙ inside));
  }

  var_whole : (within : Bool) (token : Said) (tokens : CustomValue) (r : Parts × CustomValue) → is_broken token.kind ≡ false → is_var token ≡ true → Inside within (without_white tokens) r → WholeOf within (token ∷ tokens) r
  unfolding Inside
  var_whole within token tokens r fit var w = record {
    read = read_past token tokens r fit (read_past_white tokens r w.0);
    starts = λ _ h. absurd (false≢true (sym (function_first token tokens (and_parts (is_function token.kind) _ var).0) ∙ h));
    ends = w.1;
  }

  plain_whole : (within : Bool) (token : Said) (tokens : CustomValue) (r : Parts × CustomValue) → is_broken token.kind ≡ false → WholeOf within tokens r → WholeOf within (token ∷ tokens) (plain token r.0, r.1)
  plain_whole within token tokens r fit w = record {
    read = record {
      fit = λ f. (fit, w.read.fit f);
      kept = λ k. let later = kept_rest token tokens k in let rest = w.read.kept later in ((k.0.0, (λ url. w.starts later (k.1.0 url)), rest.0), rest.1);
    };
    starts = λ k h. by (is_white token.kind) (w.starts (kept_rest token tokens k)) h;
    ends = w.ends;
  } where
    by : (b : Bool) → (first_is is_string tokens ≡ true → starts_string r.0 ≡ true) → cond b (first_is is_string tokens) (is_string token.kind) ≡ true → cond b (starts_string r.0) (is_string token.kind) ≡ true
    by true later h = later h
    by false later h = h

  parts_good : (within : Bool) (pending : List Bracket) (tokens : CustomValue) → On (WholeOf within tokens) (parts_by again within pending tokens)
  parts_good within pending [] =
      cond_both (within || not (is_nil pending)) _ _ (On (WholeOf within [])) (λ _. tt)
      (λ _. record { read = record { fit = λ f. f; kept = λ k. (tt, k) }; starts = λ _ h. absurd (false≢true h); ends = λ _. refl })
  parts_good within pending (token ∷ tokens) =
      let P : Reading → Type 0 = On (WholeOf within (token ∷ tokens)) in
      let open' : List Bracket = open_beyond pending token.kind in
      cond_both (within && (is_nil pending && is_close_round token.kind)) _ _ P
      (λ end. let parts = and_parts within _ end in end_good within token tokens parts.0 (and_parts (is_nil pending) _ parts.1).1)
      (λ _. cond_both (is_unfit pending token.kind) _ _ P (λ _. tt)
      (λ fits. let fit = (or_parts (is_broken token.kind) _ fits).0 in
      cond_both (is_var token) _ _ P
      (λ var. on_weaker (Inside within (without_white tokens)) (WholeOf within (token ∷ tokens)) (var_by again within pending (without_white tokens))
      (λ r w. var_whole within token tokens r fit var w) (var_good within pending (without_white tokens)))
      (λ _. on_after (WholeOf within (token ∷ tokens)) (plain token) (again within open' tokens)
      (on_weaker (WholeOf within tokens) _ (again within open' tokens) (λ r w. plain_whole within token tokens r fit w) (good within open' tokens)))))

within_good : (most : ℕ) (within : Bool) (pending : List Bracket) (tokens : CustomValue) → On (WholeOf within tokens) (parts_within most within pending tokens)
within_good zero within pending tokens = tt
within_good (suc most) within pending tokens = parts_good (parts_within most) (within_good most) within pending tokens

whole : (tokens : CustomValue) (reading : Reading) (read : Parts) → On (WholeOf false tokens) reading → option_map (λ r. r.0) reading ≡ Some read → Fit tokens × (Kept tokens → KeptParts read)
whole tokens None read h e = absurd (none-some read e)
whole tokens (Some r) read h e =
    (h.read.fit (subst (λ left. Fit left) (sym (h.ends refl)) tt), λ k. subst (λ p. KeptParts p) (same_Some r.0 read e) (h.read.kept k).0)

-- a value that is valid has no broken token
pub parts_fit : (tokens : CustomValue) (read : Parts) → parts tokens ≡ Some read → Fit tokens
unfolding parts
parts_fit tokens read e =
    (whole tokens (parts_within (suc (length tokens)) false [] tokens) read (within_good (suc (length tokens)) false [] tokens) e).0

-- and where it is kept, so are its parts
pub parts_kept : (tokens : CustomValue) (read : Parts) → parts tokens ≡ Some read → Kept tokens → KeptParts read
unfolding parts
parts_kept tokens read e =
    (whole tokens (parts_within (suc (length tokens)) false [] tokens) read (within_good (suc (length tokens)) false [] tokens) e).1
