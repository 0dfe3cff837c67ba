-- The token of each production takes as many characters as the production says, and says what its piece says.
use Rattle.std.proofs.Common.{◌≡◌, ℕ, ◌+◌, ◌<◌, Bool, true, false, cond, eqb, ◌&&◌, ◌||◌, [], ◌∷◌, length, take, drop, refl, sym, ap, ◌∙◌, arith, inl, inr}
use Rattle.std.specs.Prelude.{not}
use Rattle.std.specs.List.{prefix_len}
use Rattle.std.proofs.lemmas.Bool.{cond_both, cond-true, cond-false, and_parts, and_right, or_cases, eqb-true, not-true, not-false}
use Rattle.std.proofs.lemmas.List.{drop-drop, take_at}
use Rattle.base_model.specs.Lists.{is_nil}
use Rattle.base_model.specs.Text.{Characters}
use Rattle.syntax_model.specs.Letters.{begins, is_blank, is_digit, is_e, is_sign}
use Rattle.syntax_model.specs.TextUnits.{TextUnit, comment_unit, len_of, name_unit, one_if, remnant_unit, said_of, starts_escape, string_escape, string_unit, url_unit}
use Rattle.syntax_model.specs.Numbers.{after_fraction, after_sign, after_whole, digits_len, exponent_len, fraction_len, is_integer}
use Rattle.syntax_model.specs.Numbers.{number_len, sign_len, starts_fraction}
use Rattle.syntax_model.specs.Token.{Said, at_keyword, bad_url, bare, dimension, hash, url, with_name, with_number}
use Rattle.syntax_model.specs.Pieces.{Piece, comment_len, ident_piece, is_closing, is_line_feed, name_in, name_len, number_piece, starts_cdc, starts_cdo, starts_comment, starts_ident}
use Rattle.syntax_model.specs.Pieces.{string_piece, url_piece}
use Rattle.syntax_model.specs.Reading.{begins_url, ends_well, is_opening, is_percent, starts_exponent, Either, Form, IsAfterName, IsAtKeyword, IsCharacter, IsClosedBy, IsClosing, IsComment}
use Rattle.syntax_model.specs.Reading.{IsExponent, IsFraction, IsHash, IsIdentLike, IsName, IsNothing, IsNumber, IsNumeral, IsNumeric, IsOpened, IsQuoted, IsRemnant}
use Rattle.syntax_model.specs.Reading.{IsSpan, IsString, IsStringEnd, IsSuffix, IsText, IsUrl, IsUrlEnd, Numeral, Says, Then}
use Rattle.syntax_model.proofs.TextUnitLemmas.{comment_fits, escape_some, is_some, name_fits, remnant_fits, string_fits, url_fits}
use Rattle.syntax_model.proofs.FormLemmas.{Takes, Tells, ends_run, takes_as, takes_no, takes_nothing, takes_one, takes_optional, takes_span, takes_text, takes_then, takes_units, takes_yes}
use Rattle.syntax_model.proofs.FormLemmas.{tells_by, tells_character, tells_no, tells_run, tells_says, tells_size, tells_then, tells_then_by, tells_yes}

-- what a piece says, apart from where it is
abbrev pub said_by : Piece → Said
said_by piece = record { kind = piece.kind; name = piece.name; spelling = piece.spelling }

-- a text has a piece at its beginning, of such a form, that says what its characters say
abbrev TellsPiece : (Said → Form) → Characters → Piece → Type 0
TellsPiece F text piece = Tells F text (said_by piece) piece.length

-- one character or two, by their numbers
takes_sign : (sign c : ℕ) (cs : Characters) → eqb c sign ≡ true → Takes (IsCharacter sign) (c ∷ cs) 1
takes_sign sign c cs e = rw (eqb-true c sign e) (takes_text (sign ∷ []) cs)

takes_two : (a b c d : ℕ) (cs : Characters) → (eqb c a && eqb d b) ≡ true → Takes (IsText (a ∷ b ∷ [])) (c ∷ d ∷ cs) 2
takes_two a b c d cs e =
    let parts = and_parts (eqb c a) (eqb d b) e in rw (eqb-true c a parts.0, eqb-true d b parts.1) (takes_text (a ∷ b ∷ []) cs)

-- a character alone ends no comment
one_commented : (c : ℕ) → (comment_unit (c ∷ [])).taken ≡ 1
one_commented c = ap (λ (u : TextUnit). u.taken) (cond-false _ _ _ (and_right (eqb c 42) false refl))

-- What follows the run of a comment, a string, a url or a bad url.
comment_end : (rest : Characters) → (comment_unit rest).taken ≡ 0 → Takes (IsClosedBy (42 ∷ 47 ∷ [])) rest (cond (is_nil rest) 0 2)
comment_end [] stops = takes_yes is_nil refl (takes_nothing [])
comment_end (c ∷ []) stops = absurd (omega (arith, stops, one_commented c))
comment_end (c ∷ d ∷ cs) stops =
    cond_both (eqb c 42 && eqb d 47) _ _ (λ (u : TextUnit). u.taken ≡ 0 → Takes (IsClosedBy (42 ∷ 47 ∷ [])) (c ∷ d ∷ cs) 2)
    (λ e _. takes_no is_nil refl (takes_two 42 47 c d cs e)) (λ _ none. absurd (omega (arith, none))) stops

string_escape_some : (cs : Characters) → 0 < (string_escape cs).taken
string_escape_some [] = omega arith
string_escape_some (c ∷ cs) = cond_both (eqb c 10) _ _ (λ (u : TextUnit). 0 < u.taken) (λ _. omega arith) (λ _. escape_some (c ∷ cs))

string_end : (quote : ℕ) (rest : Characters) → (string_unit quote rest).taken ≡ 0 → begins is_line_feed rest ≡ false
    → Takes (IsClosedBy (quote ∷ [])) rest (one_if (λ c. eqb c quote) rest)
string_end quote [] stops same_line = takes_yes is_nil refl (takes_nothing [])
string_end quote (c ∷ cs) stops same_line =
    let P : TextUnit → Type 0 = λ u. u.taken ≡ 0 → Takes (IsClosedBy (quote ∷ [])) (c ∷ cs) (one_if (λ c. eqb c quote) (c ∷ cs)) in
    cond_both (eqb c quote || eqb c 10) _ _ P
    (λ e _. elim (or_cases (eqb c quote) _ e) [
      | inl is ↦ takes_as (sym (cond-true (eqb c quote) 1 0 is)) (takes_no is_nil refl (takes_sign quote c cs is))
      | inr feed ↦ absurd (cc)
    ])
    (λ _. cond_both (eqb c 92) _ _ P (λ _ none. absurd (omega (arith, none, string_escape_some cs))) (λ _ none. absurd (omega (arith, none)))) stops

closing : (rest : Characters) → ends_well rest ≡ true → Takes IsClosing rest (one_if is_closing rest)
closing [] ends = takes_yes is_nil refl (takes_nothing [])
closing (c ∷ cs) ends = takes_as (sym (cond-true (is_closing c) 1 0 ends)) (takes_no is_nil refl (takes_one is_closing (c ∷ cs) ends))

remnant_end : (rest : Characters) → (remnant_unit rest).taken ≡ 0 → ends_well rest ≡ true
remnant_end [] stops = refl
remnant_end (c ∷ cs) stops =
    let P : TextUnit → Type 0 = λ u. u.taken ≡ 0 → is_closing c ≡ true in
    cond_both (starts_escape (c ∷ cs)) _ _ P (λ _ none. absurd (omega (arith, none, escape_some cs)))
    (λ _. cond_both (eqb c 41) _ _ P (λ e _. e) (λ _ none. absurd (omega (arith, none)))) stops

-- the productions
pub takes_comment : (c : ℕ) (cs : Characters) → starts_comment (c ∷ cs) ≡ true → Takes IsComment (c ∷ cs) (2 + comment_len (drop 1 cs))
takes_comment c [] starts = absurd (let no : false ≡ true = (and_parts (eqb c 47) _ starts).1 in cc)
takes_comment c (d ∷ cs) starts =
    takes_then (takes_two 47 42 c d cs starts)
    (takes_then (takes_units comment_unit comment_fits cs) (comment_end (drop (len_of comment_unit cs) cs) (ends_run comment_unit comment_fits cs)))

pub tells_string : (c : ℕ) (cs : Characters) → TellsPiece IsString (c ∷ cs) (string_piece c cs)
tells_string c cs =
    let unit : Characters → TextUnit = string_unit c in
    let taken : ℕ = len_of unit cs in
    let rest : Characters = drop taken cs in
    let to_end : (says : Said) (n m : ℕ) → 1 + (taken + n) ≡ m → Tells (IsStringEnd c (said_of unit cs)) rest says n → Tells IsString (c ∷ cs) says m =
    λ says n m size tells. rw (← size) (tells_then_by IsQuoted (tells_character c cs) (tells_then_by (IsStringEnd c) (tells_run unit (string_fits c) cs) tells)) in
    cond_both (begins is_line_feed rest) _ _ (TellsPiece IsString (c ∷ cs))
    (λ feed. to_end _ 0 _ (omega arith) (tells_yes (begins is_line_feed) feed (tells_says _ (takes_nothing rest))))
    (λ same_line. to_end _ _ _ (omega arith)
    (tells_no (begins is_line_feed) same_line (tells_says _ (string_end c rest (ends_run unit (string_fits c) cs) same_line))))

-- a name, and what a token with it says
tells_name : (token : Characters → Said) (text : Characters) → Tells (IsName token) text (token (name_in text)) (name_len text)
tells_name token text = tells_by token (tells_run name_unit name_fits text)

pub tells_hash : (c : ℕ) (cs : Characters) → eqb c 35 ≡ true → Tells IsHash (c ∷ cs) (with_name (hash (starts_ident cs)) (name_in cs)) (1 + name_len cs)
tells_hash c cs is =
    let Name : Bool → Said → Form = λ is_id. IsName (with_name (hash is_id)) in
    let Names : Said → Form = λ said. Either starts_ident (Name true said) (Name false said) in
    let by : (b : Bool) → starts_ident cs ≡ b → Tells Names cs (with_name (hash b) (name_in cs)) (name_len cs) = elim [
      | true ↦ λ e. tells_yes starts_ident e (tells_name (with_name (hash true)) cs)
      | false ↦ λ e. tells_no starts_ident e (tells_name (with_name (hash false)) cs)
    ] in
    tells_then (takes_sign 35 c cs is) (by (starts_ident cs) refl)

pub tells_at_keyword : (c : ℕ) (cs : Characters) → eqb c 64 ≡ true → Tells IsAtKeyword (c ∷ cs) (with_name at_keyword (name_in cs)) (1 + name_len cs)
tells_at_keyword c cs is = tells_then (takes_sign 64 c cs is) (tells_name (with_name at_keyword) cs)

-- A part of a number that may be there or not.
tells_either : (test : Characters → Bool) (x y : Bool) {F : Form} (text : Characters) {n : ℕ}
    → (test text ≡ true → Takes F text n)
    → Tells (λ b. Either test (Says x F b) (Says y IsNothing b)) text (cond (test text) x y) (cond (test text) n 0)
tells_either test x y {F} text {n} takes = by (test text) refl
  where
    by : (b : Bool) → test text ≡ b → Tells (λ w. Either test (Says x F w) (Says y IsNothing w)) text (cond b x y) (cond b n 0)
    by true e = tells_yes test e (tells_says x (takes e))
    by false e = tells_no test e (tells_says y (takes_nothing text))

takes_point : (text : Characters) → starts_fraction text ≡ true → Takes (Then (IsCharacter 46) (IsSpan is_digit)) text (1 + digits_len (drop 1 text))
takes_point [] starts = cc
takes_point (c ∷ cs) starts = takes_then (takes_sign 46 c cs (and_parts _ _ starts).0) (takes_span is_digit cs)

pub tells_fraction : (text : Characters) → Tells IsFraction text (cond (starts_fraction text) false true) (fraction_len text)
tells_fraction text = tells_either starts_fraction false true text (takes_point text)

tells_exponent : (whole : Bool) (text : Characters) → Tells (IsExponent whole) text (cond (starts_exponent text) false whole) (exponent_len text)
tells_exponent whole text =
    let after_e : Characters = drop 1 text in
    let sign : ℕ = sign_len after_e in
    let length : Characters → ℕ = λ xs. cond (begins is_e text && begins is_digit xs) (1 + sign + digits_len xs) 0 in
    let size : 1 + (sign + digits_len (after_sign after_e)) ≡ 1 + sign + digits_len (after_sign after_e) = omega arith in
    rw (← ap length (drop-drop sign 1 text), ← ap (λ n. cond (starts_exponent text) n 0) size)
    (tells_either starts_exponent false whole text (λ e. takes_then (takes_one is_e text (and_parts _ _ e).0)
    (takes_then (takes_optional is_sign after_e) (takes_span is_digit (after_sign after_e)))))

-- the type of a number
integer_by : (b d : Bool) (n m : ℕ) → cond d false (cond b false true) ≡ (eqb (cond b (1 + n) 0) 0 && eqb (cond d (1 + m) 0) 0)
integer_by true true n m = sym (ap (λ k. k && eqb (1 + m) 0) (is_some (1 + n) (omega arith)))
integer_by true false n m = sym (ap (λ k. k && true) (is_some (1 + n) (omega arith)))
integer_by false true n m = sym (is_some (1 + m) (omega arith))
integer_by false false n m = refl

integer_is : (text : Characters) → cond (starts_exponent (after_fraction text)) false (cond (starts_fraction (after_whole text)) false true) ≡ is_integer text
integer_is text =
    let left : Characters = after_fraction text in
    let sign : ℕ = sign_len (drop 1 left) in
    let place : after_sign (drop 1 left) ≡ drop (1 + sign) left = drop-drop sign 1 left in
    let size : ℕ = sign + digits_len (drop (1 + sign) left) in
    let starts : Bool = begins is_e left && begins is_digit (drop (1 + sign) left) in
    let digits : ℕ = digits_len (drop 1 (after_whole text)) in
    ap (λ xs. cond (begins is_e left && begins is_digit xs) false (cond (starts_fraction (after_whole text)) false true)) place
    ∙ (integer_by (starts_fraction (after_whole text)) starts digits size
    ∙ ap (λ k. eqb (fraction_len (after_whole text)) 0 && eqb (cond starts k 0) 0) (let same : 1 + size ≡ 1 + sign + digits_len (drop (1 + sign) left) = omega arith in same))

pub tells_number : (text : Characters) → Tells IsNumber text (is_integer text) (number_len text)
tells_number text =
    let whole : Bool = cond (starts_fraction (after_whole text)) false true in
    let size : sign_len text + (digits_len (after_sign text) + (fraction_len (after_whole text) + exponent_len (after_fraction text))) ≡ number_len text = omega arith in
    rw (← integer_is text, ← size)
    (tells_then (takes_optional is_sign text) (tells_then (takes_span is_digit (after_sign text))
    (tells_then_by IsExponent (tells_fraction (after_whole text)) (tells_exponent whole (after_fraction text)))))

tells_numeral : (text : Characters) → Tells IsNumeral text (record { integer = is_integer text; spelling = take (number_len text) text }) (number_len text)
tells_numeral text =
    let number : Tells IsNumber text (is_integer text) (number_len text) = tells_number text in
    record {
      takes = record {
        fits = record { spelled = refl; number = number.takes.fits };
        inside = number.takes.inside;
        only = λ piece rest is e. number.takes.only piece rest is.number e;
      };
      only = λ numeral piece rest is e.
          let size : number_len text ≡ length piece = tells_size number numeral.integer piece rest is.number e in
          let spelling : take (number_len text) text ≡ piece = ap (take (number_len text)) e ∙ take_at piece rest (number_len text) (sym size) in
          ap (λ b. record { integer = b; spelling = numeral.spelling }) (number.only numeral.integer piece rest is.number e)
          ∙ ap (λ xs. record { integer = is_integer text; spelling = xs }) (is.spelled ∙ sym spelling);
    }

pub tells_numeric : (text : Characters) → TellsPiece IsNumeric text (number_piece text)
tells_numeric text =
    let numeral : Numeral = record { integer = is_integer text; spelling = take (number_len text) text } in
    let taken : ℕ = number_len text in
    let rest : Characters = drop taken text in
    let to_end : (says : Said) (n m : ℕ) → taken + n ≡ m → Tells (IsSuffix numeral) rest says n → Tells IsNumeric text says m =
    λ says n m size tells. rw (← size) (tells_then_by IsSuffix (tells_numeral text) tells) in
    cond_both (begins is_percent rest) _ _ (TellsPiece IsNumeric text)
    (λ e. to_end _ 1 _ (omega arith) (tells_yes (begins is_percent) e (tells_says _ (takes_one is_percent rest e))))
    (λ none. cond_both (starts_ident rest) _ _ (TellsPiece IsNumeric text)
    (λ e. to_end _ _ _ refl (tells_no (begins is_percent) none (tells_yes starts_ident e (tells_name (with_number (dimension numeral.integer) numeral.spelling) rest))))
    (λ e. to_end _ 0 _ (omega arith) (tells_no (begins is_percent) none (tells_no starts_ident e (tells_says _ (takes_nothing rest))))))

tells_url : (before : ℕ) (text : Characters) → (n : ℕ) × Tells IsUrl text (said_by (url_piece before text)) n × ((url_piece before text).length ≡ before + n)
tells_url before text =
    let blank : ℕ = prefix_len is_blank text in
    let body : Characters = drop blank text in
    let taken : ℕ = len_of url_unit body in
    let after : Characters = drop taken body in
    let white : ℕ = prefix_len is_blank after in
    let rest : Characters = drop white after in
    let last : Characters = drop (len_of remnant_unit rest) rest in
    let End : Said → Form = λ said. Either ends_well (Says (with_name url (said_of url_unit body)) IsClosing said) (Says (bare bad_url) IsRemnant said) in
    let up_to : (says : Said) (n : ℕ) → Tells End rest says n → Tells IsUrl text says (blank + (taken + (white + n))) =
    λ says n tells. tells_then (takes_span is_blank text) (tells_then_by IsUrlEnd (tells_run url_unit url_fits body) (tells_then (takes_span is_blank after) tells)) in
    cond_both (ends_well rest) _ _ (λ (piece : Piece). (n : ℕ) × Tells IsUrl text (said_by piece) n × (piece.length ≡ before + n))
    (λ ends. (_, up_to _ _ (tells_yes ends_well ends (tells_says _ (closing rest ends))), omega arith))
    (λ goes_on. let remnant = takes_then (takes_units remnant_unit remnant_fits rest) (closing last (remnant_end last (ends_run remnant_unit remnant_fits rest))) in
    (_, up_to _ _ (tells_no ends_well goes_on (tells_says _ remnant)), omega arith))

pub tells_ident : (text : Characters) → TellsPiece IsIdentLike text (ident_piece text)
tells_ident text =
    let name : Characters = name_in text in
    let taken : ℕ = name_len text in
    let rest : Characters = drop taken text in
    let inner : Characters = drop 1 rest in
    let to_end : (says : Said) (n m : ℕ) → taken + n ≡ m → Tells (IsAfterName name) rest says n → Tells IsIdentLike text says m =
    λ says n m size tells. rw (← size) (tells_then_by IsAfterName (tells_run name_unit name_fits text) tells) in
    let past_open : (says : Said) (n m : ℕ) → taken + (1 + n) ≡ m → begins is_opening rest ≡ true → Tells (IsOpened name) inner says n → Tells IsIdentLike text says m =
    λ says n m size opens tells. to_end says (1 + n) m size (tells_yes (begins is_opening) opens (tells_then (takes_one is_opening rest opens) tells)) in
    cond_both (not (begins is_opening rest)) _ _ (TellsPiece IsIdentLike text)
    (λ e. to_end _ 0 _ (omega arith) (tells_no (begins is_opening) (not-true _ e) (tells_says _ (takes_nothing rest))))
    (λ e. cond_both (begins_url name inner) _ _ (TellsPiece IsIdentLike text)
    (λ is_url. let url = tells_url (taken + 1) inner in past_open _ url.0 _ (omega (arith, url.2)) (not-false _ e) (tells_yes (begins_url name) is_url url.1))
    (λ no_url. past_open _ 0 _ (omega arith) (not-false _ e) (tells_no (begins_url name) no_url (tells_says _ (takes_nothing inner)))))

pub takes_cdc : (text : Characters) → starts_cdc text ≡ true → Takes (IsText (45 ∷ 45 ∷ 62 ∷ [])) text 3
takes_cdc (a ∷ b ∷ c ∷ cs) starts =
    let more = and_parts (eqb b 45) (eqb c 62) (and_parts (eqb a 45) _ starts).1 in
    rw (eqb-true a 45 (and_parts _ _ starts).0, eqb-true b 45 more.0, eqb-true c 62 more.1) (takes_text (45 ∷ 45 ∷ 62 ∷ []) cs)
takes_cdc cs starts = cc

pub takes_cdo : (text : Characters) → starts_cdo text ≡ true → Takes (IsText (60 ∷ 33 ∷ 45 ∷ 45 ∷ [])) text 4
takes_cdo (a ∷ b ∷ c ∷ d ∷ cs) starts =
    let more = and_parts (eqb b 33) (eqb c 45 && eqb d 45) (and_parts (eqb a 60) _ starts).1 in
    let last = and_parts (eqb c 45) (eqb d 45) more.1 in
    rw (eqb-true a 60 (and_parts _ _ starts).0, eqb-true b 33 more.0, eqb-true c 45 last.0, eqb-true d 45 last.1) (takes_text (60 ∷ 33 ∷ 45 ∷ 45 ∷ []) cs)
takes_cdo cs starts = cc
