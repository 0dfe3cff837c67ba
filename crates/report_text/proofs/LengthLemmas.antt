-- How many bytes a text has, by its parts.
use Rattle.std.proofs.Common.{◌≡◌, ℕ, ◌+◌, ◌<◌, ◌^◌, true, List, [], ◌∷◌, ◌++◌, length, codes, decimal, encode_utf8_all, refl, ap, sym, ◌∙◌, arith, length-append, append_assoc}
use Rattle.std.specs.Str.{chars, IsUtf8}
use Rattle.std.proofs.lemmas.Fmt.{IsAscii-decimal}
use Rattle.std.proofs.lemmas.Str.{encodes-append, encodes-chars, encodes-IsAscii}
use lib.Utf8.{encode}
use Rattle.base_model.specs.Text.{Characters}
use Rattle.stylo_base.specs.Ascii.{is_all_ascii}
use Rattle.stylo_base.specs.KindName.{name_of}
use Rattle.stylo_base.specs.declared.refusal.EditRefused.{EditRefused}
use Rattle.stylo_base.specs.declared.refusal.EditRefused.TheVariants.{Limit}
use Rattle.stylo_base.specs.declared.refusal.Kind.{Kind}
use Rattle.stylo_base.specs.declared.refusal.Kind.TheVariants.{Input}
use Rattle.stylo_base.proofs.TextLemmas.{chars-ascii}
use Rattle.value_model.specs.Style.{Style}
use Rattle.value_model.specs.Printed.{printed_declarations}
use Rattle.custom_model.specs.Printed.{custom_declarations}
use Rattle.style_value.specs.StyleText.{longhands_text}
use Rattle.report_text.specs.Lines.{batch_line, element_line, refusal_text, refused_line, separator}
use Rattle.report_text.proofs.DeclarationLemmas.{kept_whole}

-- the bytes of a text in UTF-8
abbrev bytes : Characters → ℕ
bytes text = length (encode_utf8_all text)

pub bytes-append : (before after : Characters) → bytes (before ++ after) ≡ bytes before + bytes after
bytes-append before after = ap length (encodes-append before after) ∙ length-append (encode_utf8_all before) (encode_utf8_all after)

pub bytes-chars : (text : List ℕ) → IsUtf8 text → bytes (chars text) ≡ length text
bytes-chars text utf8 = ap length (encodes-chars text utf8)

bytes-decimal : (n : ℕ) → n < 2 ^ 64 → bytes (decimal n) ≡ length (decimal n)
bytes-decimal n small = ap length (encodes-IsAscii (decimal n) (IsAscii-decimal n small))

-- a word in ASCII and a number
pub counted_bytes : (word : List ℕ) (n : ℕ) → IsUtf8 word → is_all_ascii word ≡ true → n < 2 ^ 64 → bytes (word ++ decimal n) ≡ length word + length (decimal n)
counted_bytes word n utf8 ascii small =
    omega (arith, bytes-append word (decimal n), ap bytes (chars-ascii word ascii), bytes-chars word utf8, bytes-decimal n small)

-- a word, a number and what comes after them
behind : (word number rest : Characters) → bytes (word ++ (number ++ rest)) ≡ bytes (word ++ number) + bytes rest
behind word number rest = ap bytes (sym (append_assoc word number rest)) ∙ bytes-append (word ++ number) rest

-- the word of a limit has one byte a character
name_bytes : (kind : Kind) → bytes (name_of kind) ≡ length (name_of kind)
unfolding encode
name_bytes Input = refl
name_bytes _ = refl

pub limit_bytes : (kind : Kind) (most : ℕ) → bytes (refusal_text (Limit kind most)) ≡ 6 + length (name_of kind) + bytes (codes " " ++ decimal most)
unfolding encode
limit_bytes kind most =
    let number : Characters = codes " " ++ decimal most in
    let limit : bytes (codes "limit ") ≡ 6 = refl in
    omega (arith, bytes-append (codes "limit ") (name_of kind ++ number), bytes-append (name_of kind) number, name_bytes kind, limit)

-- the line of a batch, by its numbers with the word before each
pub batch_line_bytes : (batch accepted refused matched cascaded : ℕ)
    → bytes (batch_line batch accepted refused matched cascaded)
    ≡ bytes (codes "batch " ++ decimal batch) + bytes (codes ": " ++ decimal accepted) + bytes (codes " accepted, " ++ decimal refused)
    + bytes (codes " refused, " ++ decimal matched) + bytes (codes " matched, " ++ decimal cascaded) + 10
unfolding batch_line encode
batch_line_bytes batch accepted refused matched cascaded =
    let end : Characters = codes " cascaded\n" in
    let fifth : Characters = codes " matched, " ++ (decimal cascaded ++ end) in
    let fourth : Characters = codes " refused, " ++ (decimal matched ++ fifth) in
    let third : Characters = codes " accepted, " ++ (decimal refused ++ fourth) in
    let second : Characters = codes ": " ++ (decimal accepted ++ third) in
    let first_part = behind (codes "batch ") (decimal batch) second in
    let second_part = behind (codes ": ") (decimal accepted) third in
    let third_part = behind (codes " accepted, ") (decimal refused) fourth in
    let fourth_part = behind (codes " refused, ") (decimal matched) fifth in
    let fifth_part = behind (codes " matched, ") (decimal cascaded) end in
    let closing : bytes end ≡ 10 = refl in
    omega arith

-- the line of a refused edit has three bytes beside its place, with the word before it, and the reason
pub refused_line_bytes : (place : ℕ) (why : EditRefused) → bytes (refused_line place why) ≡ bytes (codes "refused " ++ decimal place) + 2 + bytes (refusal_text why) + 1
unfolding refused_line encode
refused_line_bytes place why =
    let end : Characters = codes "\n" in
    let reason : Characters = refusal_text why ++ end in
    let counted = behind (codes "refused ") (decimal place) (codes ": " ++ reason) in
    let behind_colon = bytes-append (codes ": ") reason in
    let before_end = bytes-append (refusal_text why) end in
    let colon : bytes (codes ": ") ≡ 2 = refl in
    let line_feed : bytes end ≡ 1 = refl in
    omega arith

-- the line of an element has four bytes beside its number, its tag and its declarations
pub element_line_bytes : (number : ℕ) (tag : List ℕ) (style : Style) → number < 2 ^ 64 → IsUtf8 tag → bytes (element_line number (chars tag) style) ≡ length (decimal number) + length tag + bytes (printed_declarations style) + 4
unfolding element_line encode
element_line_bytes number tag style small utf8 =
    let end : Characters = codes "}\n" in
    let declared : Characters = printed_declarations style ++ end in
    let open_brace : Characters = codes "{" ++ declared in
    let tagged : Characters = chars tag ++ open_brace in
    let space : bytes (codes " ") ≡ 1 = refl in
    let brace : bytes (codes "{") ≡ 1 = refl in
    let closing : bytes end ≡ 2 = refl in
    omega (arith, bytes-append (decimal number) (codes " " ++ tagged), bytes-append (codes " ") tagged, bytes-append (chars tag) open_brace, bytes-append (codes "{") declared, bytes-append (printed_declarations style) end, bytes-decimal number small, bytes-chars tag utf8, space, brace, closing)

-- the separator has one byte a character
separator_bytes : (before after : List ℕ) → bytes (separator before after) ≡ length (separator before after)
unfolding encode
separator_bytes [] after = refl
separator_bytes (b ∷ before) [] = refl
separator_bytes (b ∷ before) (a ∷ after) = refl

-- the declarations of a style, by the texts that are kept of them and what stands between
pub declared_bytes : (style : Style) (own custom between : List ℕ) → IsUtf8 own → IsUtf8 custom → chars own ≡ longhands_text style → chars custom ≡ custom_declarations style.custom → between ≡ separator own custom → length own + length between + length custom ≡ bytes (printed_declarations style)
declared_bytes style own custom between first second text texts is =
    let parted : Characters = separator own custom in
    omega (arith, ap bytes (kept_whole style own custom first second text texts), ap length is, separator_bytes own custom, bytes-append (chars own) (parted ++ chars custom), bytes-append parted (chars custom), bytes-chars own first, bytes-chars custom second)
