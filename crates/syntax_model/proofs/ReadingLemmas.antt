-- A text reads as its tokens, and as no others.
use Rattle.std.proofs.Common.{◌≡◌, ◌≢◌, ◌↔◌, ℕ, zero, suc, ◌+◌, ◌-◌, ◌<◌, ◌≤◌, List, [], ◌∷◌, ◌++◌, length, take, drop, refl, sym, ap, ◌∙◌, arith}
use Rattle.std.proofs.Common.{inl, inr, length-append, length-drop, take-append-drop}
use Rattle.std.proofs.lemmas.List.{drop-drop, drop_at, length-take-le, take_at}
use Rattle.base_model.specs.Text.{Characters}
use Rattle.syntax_model.specs.Token.{Said, Token}
use Rattle.syntax_model.specs.Pieces.{Production, comment_production, piece_of, production_at, production_len, production_tokens}
use Rattle.syntax_model.specs.TokensIn.{tokens_in}
use Rattle.syntax_model.specs.Reading.{IsToken, Reads, Reading, nothing_left, skip_comment, take_token, token_at}
use Rattle.syntax_model.specs.Spans.{IsAt, StandInOrder}
use Rattle.syntax_model.proofs.FormLemmas.{tells_size}
use Rattle.syntax_model.proofs.PieceForms.{said_by}
use Rattle.syntax_model.proofs.PieceLemmas.{comment_or, first_is, takes_first_comment, tells_first}
use Rattle.syntax_model.proofs.TokensLemmas.{tokens_at, tokens_more}

-- no token of a comment, and one of any other production
no_token : (production : Production) (start c : ℕ) (cs : Characters) → production ≡ comment_production → production_tokens production start c cs ≡ []
no_token production start c cs comment = rw comment refl

production_token : (production : Production) (start c : ℕ) (cs : Characters) (n : ℕ) → production_len production c cs ≡ n → production ≢ comment_production
    → production_tokens production start c cs ≡ token_at start (said_by (piece_of production c cs)) n ∷ []
production_token comment_production start c cs n size other = absurd (other refl)
production_token production start c cs n size other = rw (← size) refl

-- a token is no comment
no_comment : (production : Production) (says : Said) (piece rest : Characters)
    → IsToken production says piece rest → production ≢ comment_production
no_comment comment_production says piece rest form = absurd form
no_comment production says piece rest form = λ e. cc

-- what is known of the first piece of a text, where it is a token
record IsFirst (c : ℕ) (cs : Characters) (says : Said) (piece : Characters) : Type 0 where
  other : production_at (c ∷ cs) ≢ comment_production
  size : production_len (production_at (c ∷ cs)) c cs ≡ length piece
  same : says ≡ said_by (piece_of (production_at (c ∷ cs)) c cs)

first_token : (c : ℕ) (cs : Characters) (says : Said) (piece rest : Characters) → c ∷ cs ≡ piece ++ rest
    → IsToken (production_at (c ∷ cs)) says piece rest → IsFirst c cs says piece
first_token c cs says piece rest is form =
    let other = no_comment (production_at (c ∷ cs)) says piece rest form in
    let tells = tells_first c cs other in
    record { other = other; size = tells_size tells says piece rest form is; same = tells.only says piece rest form is }

-- the tokens of the first piece, and then those of what comes after it
tokens_after : (start c : ℕ) (cs piece rest : Characters) → c ∷ cs ≡ piece ++ rest
    → production_len (production_at (c ∷ cs)) c cs ≡ length piece
    → tokens_at start (c ∷ cs) ≡ production_tokens (production_at (c ∷ cs)) start c cs ++ tokens_at (start + length piece) rest
tokens_after start c cs piece rest is size =
    let left : drop (length piece) (c ∷ cs) ≡ rest = rw is (drop_at piece rest (length piece) refl) in
    rw (tokens_more start c cs, size, left) refl

-- as no others
tokens_are : {start : ℕ} {text : Characters} {tokens : List Token} → Reads start text tokens → tokens ≡ tokens_at start text
tokens_are (nothing_left start) = refl
tokens_are (skip_comment start c cs piece rest tokens is comment form reads) =
    rw (tokens_after start c cs piece rest is ((takes_first_comment c cs comment).only piece rest form is), comment) (tokens_are reads)
tokens_are (take_token start c cs piece rest says tokens is form reads) =
    let first = first_token c cs says piece rest is form in
    let token = production_token (production_at (c ∷ cs)) start c cs (length piece) first.size first.other in
    rw (tokens_after start c cs piece rest is first.size, token, first.same, ← tokens_are reads) refl

-- as its tokens
reads_from : (n start : ℕ) (text : Characters) → length text ≤ n → Reads start text (tokens_at start text)
reads_from n start [] h = nothing_left start
reads_from zero start (c ∷ cs) h = absurd (omega (arith, h))
reads_from (suc n) start (c ∷ cs) h =
    let production : Production = production_at (c ∷ cs) in
    let taken : ℕ = production_len production c cs in
    let piece : Characters = take taken (c ∷ cs) in
    let rest : Characters = drop taken (c ∷ cs) in
    let is : c ∷ cs ≡ piece ++ rest = sym (take-append-drop taken (c ∷ cs)) in
    let size : taken ≡ length piece = sym (length-take-le taken (c ∷ cs) (first_is c cs).inside) in
    let left : length rest ≤ n = omega (arith, (first_is c cs).some, h, length-drop taken (c ∷ cs)) in
    let reads : Reads (start + length piece) rest (tokens_at (start + length piece) rest) = reads_from n (start + length piece) rest left in
    rw (tokens_after start c cs piece rest is size) (elim (comment_or production) [
      | inl comment ↦ rw (no_token production start c cs comment) (skip_comment start c cs piece rest _ is comment (takes_first_comment c cs comment).fits reads)
      | inr other ↦ rw (production_token production start c cs (length piece) size other)
          (take_token start c cs piece rest _ _ is (tells_first c cs other).takes.fits reads)
    ])

tokens_read : (text : Characters) → Reading text (tokens_in text)
unfolding tokens_in
tokens_read text = reads_from (length text) 0 text (omega arith)

pub reads_as : (text : Characters) (tokens : List Token) → Reading text tokens ↔ (tokens ≡ tokens_in text)
unfolding tokens_in
reads_as text tokens = ((λ reads. tokens_are reads), (λ e. rw e (tokens_read text)))

-- what stands in order from an offset on does so from an earlier one
stand_earlier : (from later : ℕ) (text : Characters) (tokens : List Token) → from ≤ later → StandInOrder later text tokens → StandInOrder from text tokens
stand_earlier from later text [] h stand = tt
stand_earlier from later text (token ∷ tokens) h stand = (stand.0, omega (arith, h, stand.1), stand.2, stand.3)

-- what is left of a text after a piece
left_after : (start : ℕ) (text piece rest : Characters) → drop start text ≡ piece ++ rest → drop (start + length piece) text ≡ rest
left_after start text piece rest is = sym (drop-drop (length piece) start text) ∙ (ap (drop (length piece)) is ∙ drop_at piece rest (length piece) refl)

stand_from : {start : ℕ} {rest : Characters} {tokens : List Token} (text : Characters) → drop start text ≡ rest → Reads start rest tokens → StandInOrder start text tokens
stand_from text left (nothing_left start) = tt
stand_from text left (skip_comment start c cs piece rest tokens is comment form reads) =
    stand_earlier start (start + length piece) text tokens (omega arith) (stand_from text (left_after start text piece rest (left ∙ is)) reads)
stand_from text left (take_token start c cs piece rest says tokens is form reads) =
    let n : ℕ = length piece in
    let past : drop (start + n) text ≡ rest = left_after start text piece rest (left ∙ is) in
    let some : 0 < n = rw (← (first_token c cs says piece rest is form).size) (first_is c cs).some in
    let same : start + n - start ≡ n = omega arith in
    let there : take (start + n - start) (c ∷ cs) ≡ piece = rw same (ap (take n) is ∙ take_at piece rest n refl) in
    let at : IsAt text (record { start = start; end = start + n }) (token_at start says n) = record {
      spanned = refl;
      some = omega (arith, some);
      inside = omega (arith, some, length-drop start text, ap length (left ∙ is), length-append piece rest);
      first = c;
      others = cs;
      here = left;
      piece = rw (past, there) form;
    } in
    (record { start = start; end = start + n }, omega arith, at, stand_from text past reads)

-- the tokens stand in order in the text
pub in_order : (text : Characters) (tokens : List Token) → Reading text tokens → StandInOrder 0 text tokens
in_order text tokens reads = stand_from text refl reads
