-- The declarations of a style as they are printed, and the texts that are kept of them.
use Rattle.std.proofs.Common.{◌≡◌, ℕ, ◌<◌, List, [], ◌∷◌, ◌++◌, Bool, true, false, if◌then◌else◌, length, map, sym, ap, ◌∙◌, refl, arith, append_assoc, append-nil, length-append, codes}
use Rattle.std.proofs.lemmas.Str.{chars-nil, encodes-chars}
use Rattle.std.specs.Str.{chars, IsUtf8}
use Rattle.std.specs.FinMap as finmap
use lib.Utf8.{encodes}
use Rattle.base_model.specs.Text.{Characters}
use Rattle.value_model.specs.Value.{Value, same_value, printed_value}
use Rattle.value_model.specs.Table.{PropertyRow, table}
use Rattle.custom_model.specs.Value.{CustomValue}
use Rattle.custom_model.specs.Printed.{custom_declarations, custom_text, custom_texts, each_after, joined, value_text}
use Rattle.syntax_model.specs.Written.{ident_text}
use Rattle.value_model.specs.Style.{Style}
use Rattle.value_model.specs.Printed.{declaration_text, declaration_texts, printed_declarations}
use Rattle.report_text.specs.Lines.{separator}

abbrev between : Characters
between = codes "; "

-- the first of the texts, if there is one, is not empty
abbrev IsSomeFirst : List Characters → Type 0
IsSomeFirst [] = Unit {0}
IsSomeFirst (text ∷ texts) = 0 < length text

each-append : (xs ys : List Characters) → each_after between (xs ++ ys) ≡ each_after between xs ++ each_after between ys
each-append [] ys = refl
each-append (x ∷ xs) ys =
    ap (λ l. between ++ (x ++ l)) (each-append xs ys)
    ∙ sym (append_assoc between (x ++ each_after between xs) (each_after between ys) ∙ ap (λ l. between ++ l) (append_assoc x (each_after between xs) (each_after between ys)))

nothing_after : (text : Characters) → separator text [] ≡ []
nothing_after [] = refl
nothing_after (c ∷ text) = refl

-- the texts of two lists, joined
joined-append : (xs ys : List Characters) → IsSomeFirst xs → IsSomeFirst ys → joined between xs ++ (separator (joined between xs) (joined between ys) ++ joined between ys) ≡ joined between (xs ++ ys)
joined-append [] ys some more = refl
joined-append (x ∷ xs) [] some more =
    let text : Characters = x ++ each_after between xs in
    ap (λ l. text ++ (l ++ [])) (nothing_after text)
    ∙ (append-nil text ∙ ap (λ l. x ++ each_after between l) (sym (append-nil xs)))
joined-append ([] ∷ xs) (y ∷ ys) some more = absurd (omega (arith, some))
joined-append ((c ∷ x) ∷ xs) ([] ∷ ys) some more = absurd (omega (arith, more))
joined-append ((c ∷ x) ∷ xs) ((d ∷ y) ∷ ys) some more =
    append_assoc (c ∷ x) (each_after between xs) (each_after between ((d ∷ y) ∷ ys))
    ∙ ap (λ l. (c ∷ x) ++ l) (sym (each-append xs ((d ∷ y) ∷ ys)))

-- a declaration's text has a colon
some_declaration : (row : PropertyRow) (value : Value) → 0 < length (declaration_text row value)
some_declaration row value =
    let rest : Characters = codes ": " ++ printed_value value in
    omega (arith, length-append row.name rest)

declarations_first : (rows : List PropertyRow) (values : List Value) → IsSomeFirst (declaration_texts rows values)
declarations_first [] values = tt
declarations_first (row ∷ rows) [] = tt
declarations_first (row ∷ rows) (value ∷ values) =
    one row rows value values (same_value value row.standing) (declarations_first rows values)
  where
    one : (row : PropertyRow) (rows : List PropertyRow) (value : Value) (values : List Value) (standing : Bool) → IsSomeFirst (declaration_texts rows values) → IsSomeFirst (if standing then declaration_texts rows values else declaration_text row value ∷ declaration_texts rows values)
    one row rows value values true rest = rest
    one row rows value values false rest = some_declaration row value

custom_first : (entries : List (Characters × CustomValue)) → IsSomeFirst (map custom_text entries)
custom_first [] = tt
custom_first (entry ∷ entries) =
    let rest : Characters = codes ": " ++ value_text entry.1 in
    omega (arith, length-append (ident_text entry.0) rest)

-- a text is empty where its bytes are
empty_bytes : (bytes : List ℕ) → IsUtf8 bytes → chars bytes ≡ [] → bytes ≡ []
empty_bytes bytes utf8 none = sym (encodes-chars bytes utf8) ∙ ap encodes none

some_texts : (b a : ℕ) (before after : List ℕ) (one other : Characters) → IsUtf8 (b ∷ before) → IsUtf8 (a ∷ after) → chars (b ∷ before) ≡ one → chars (a ∷ after) ≡ other → between ≡ separator one other
some_texts b a before after [] other first second is none =
    absurd (omega (arith, ap length (empty_bytes (b ∷ before) first is)))
some_texts b a before after (c ∷ one) [] first second is none =
    absurd (omega (arith, ap length (empty_bytes (a ∷ after) second none)))
some_texts b a before after (c ∷ one) (d ∷ other) first second is none = refl

separator_bytes : (before after : List ℕ) → IsUtf8 before → IsUtf8 after → separator before after ≡ separator (chars before) (chars after)
separator_bytes [] after first second = ap (λ l. separator l (chars after)) (sym chars-nil)
separator_bytes (b ∷ before) [] first second =
    sym (ap (separator (chars (b ∷ before))) chars-nil ∙ nothing_after (chars (b ∷ before)))
separator_bytes (b ∷ before) (a ∷ after) first second =
    some_texts b a before after (chars (b ∷ before)) (chars (a ∷ after)) first second refl refl

-- the texts that are kept, with what stands between, are the whole
pub kept_whole : (style : Style) (own custom : List ℕ) → IsUtf8 own → IsUtf8 custom → chars own ≡ joined between (declaration_texts table style.values) → chars custom ≡ custom_declarations style.custom → chars own ++ (separator own custom ++ chars custom) ≡ printed_declarations style
unfolding custom_texts
kept_whole style own custom first second text texts =
    let xs : List Characters = declaration_texts table style.values in
    let ys : List Characters = map custom_text (finmap.entries style.custom) in
    ap (λ l. chars own ++ (l ++ chars custom)) (separator_bytes own custom first second)
    ∙ (ap (λ l. l ++ (separator l (chars custom) ++ chars custom)) text
    ∙ (ap (λ l. joined between xs ++ (separator (joined between xs) l ++ l)) texts
    ∙ joined-append xs ys (declarations_first table style.values) (custom_first (finmap.entries style.custom))))

pub printed_whole : (style : Style) (own custom : List ℕ) (line led parted new : Characters) → IsUtf8 own → IsUtf8 custom → chars own ≡ joined between (declaration_texts table style.values) → chars custom ≡ custom_declarations style.custom → led ≡ line ++ chars own → parted ≡ led ++ separator own custom → new ≡ parted ++ chars custom → new ≡ line ++ printed_declarations style
printed_whole style own custom line led parted new one other text texts first second third =
    third
    ∙ (ap (λ l. l ++ chars custom) second
    ∙ (ap (λ l. (l ++ separator own custom) ++ chars custom) first
    ∙ (append_assoc (line ++ chars own) (separator own custom) (chars custom)
    ∙ (append_assoc line (chars own) (separator own custom ++ chars custom)
    ∙ ap (λ l. line ++ l) (kept_whole style own custom one other text texts)))))

-- where there is no custom property
pub printed_alone : (style : Style) (own custom : List ℕ) (line led : Characters) → IsUtf8 own → IsUtf8 custom → chars own ≡ joined between (declaration_texts table style.values) → chars custom ≡ custom_declarations style.custom → led ≡ line ++ chars own → custom ≡ [] → led ≡ line ++ printed_declarations style
printed_alone style own custom line led one other text texts first none =
    printed_whole style own custom line led led led one other text texts first
    (sym (ap (λ l. led ++ l) (ap (separator own) none ∙ nothing_after own) ∙ append-nil led))
    (sym (ap (λ l. led ++ l) (ap chars none ∙ chars-nil) ∙ append-nil led))
