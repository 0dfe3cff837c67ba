-- A value is known by its word and its number.
use Rattle.std.proofs.Common.{◌≡◌, ℕ, zero, suc, ◌+◌, ◌-◌, ◌/◌, ◌%◌, ℤ, pos, List, [], ◌∷◌, ◌++◌, map, Option, Some, option_map, slice_get, unwrap_or, codes, length, refl, sym, ap, ◌∙◌, arith}
use Rattle.std.specs.List.{AllByRecursion}
use Rattle.std.proofs.lemmas.Option.{slice_get-map}
use denote.Enum.Declared.{tag_of}
use Rattle.base_model.specs.Text.{Characters}
use Rattle.value_model.specs.Color as color_model
use Rattle.value_model.specs.Color.{rgba}
use Rattle.value_model.specs.Value as model
use Rattle.property_table.specs.ValueParts.{AreBytes, HasByteParts, value_of_word, values_of_words, keyword_value, color_bits, color_with, value_amount, value_word}
use Rattle.property_table.specs.View.{color_of, value_seen, word_of}
use Rattle.property_table.specs.declared.keyword.TheConstants.{KEYWORDS, WORDS}
use Rattle.property_table.specs.declared.keyword.Keyword as declared
use Rattle.property_table.specs.declared.keyword.Keyword.TheVariants as keyword
use Rattle.property_table.specs.contracts.keyword.Keyword.{the_type}
use Rattle.property_table.specs.declared.word.TheConstants.{FIRST_KEYWORD}
use Rattle.property_table.specs.declared.value.Value.{Value}
use Rattle.property_table.specs.declared.value.Value.TheVariants.{Keyword, Color, Pixels, Percent, Number, Em, Rem}
use Rattle.property_table.proofs.ValueLemmas.{value_seen-same}

-- the keywords are listed as their texts are
words_listed : map word_of KEYWORDS.now ≡ map (λ text. text.now) WORDS.now
words_listed = refl

-- the text of the keyword at an index
pub word_at : (i : ℕ) → slice_get (map (λ text. text.now) WORDS.now) i ≡ option_map word_of (slice_get KEYWORDS.now i)
word_at i = ap (λ (words : List Characters). slice_get words i) (sym words_listed) ∙ slice_get-map word_of KEYWORDS.now i

-- the keyword value of the keyword at an index, which comes after the words of other values
pub keyword_value_at : (word : ℕ) (found : Option declared.Keyword) → slice_get KEYWORDS.now (word - FIRST_KEYWORD) ≡ found → keyword_value word ≡ model.keyword (unwrap_or (option_map word_of found) (codes "inline"))
keyword_value_at word found h =
    ap (λ text. model.keyword (unwrap_or text (codes "inline"))) (word_at (word - FIRST_KEYWORD) ∙ ap (option_map word_of) h)

-- the parts are read back from the bits
pub color_back : (c : color_model.Color) → AreBytes c → color_with (pos (color_bits c)) ≡ c
color_back c h =
    let bits = color_bits c in
    let red : bits / 16_777_216 % 256 ≡ c.red = omega (arith, h.red, h.green, h.blue, h.alpha) in
    let green : bits / 65_536 % 256 ≡ c.green = omega (arith, h.red, h.green, h.blue, h.alpha) in
    let blue : bits / 256 % 256 ≡ c.blue = omega (arith, h.red, h.green, h.blue, h.alpha) in
    let alpha : bits % 256 ≡ c.alpha = omega (arith, h.red, h.green, h.blue, h.alpha) in
    ap (λ x. rgba x (bits / 65_536 % 256) (bits / 256 % 256) (bits % 256)) red
    ∙ (ap (λ x. rgba c.red x (bits / 256 % 256) (bits % 256)) green
    ∙ (ap (λ x. rgba c.red c.green x (bits % 256)) blue ∙ ap (λ x. rgba c.red c.green c.blue x) alpha))

-- a keyword is read back
keyword_back : (k : declared.Keyword) → value_of_word (FIRST_KEYWORD + tag_of the_type k) (pos 0) ≡ model.keyword (word_of k)
keyword_back keyword.Inline = refl
keyword_back _ = refl

-- a value is read back from its word and its number
pub column_back : (v : Value) → HasByteParts v → value_of_word (value_word v) (value_amount v) ≡ value_seen v
column_back (Keyword k) h = keyword_back k
column_back (Color c) h = ap model.color (color_back (color_of c) h)
column_back (Pixels z) h = refl
column_back (Percent z) h = refl
column_back (Number z) h = refl
column_back (Em z) h = refl
column_back (Rem z) h = refl

-- values of one word and one number are the same
pub columns_same : (a b : Value) → HasByteParts a → HasByteParts b → value_word a ≡ value_word b → value_amount a ≡ value_amount b → a ≡ b
columns_same a b h k word amount =
    value_seen-same a b (sym (column_back a h) ∙ (ap (λ w. value_of_word w (value_amount a)) word ∙ (ap (value_of_word (value_word b)) amount ∙ column_back b k)))

-- the same over lists
pub columns_back : (vs : List Value) → AllByRecursion HasByteParts vs → values_of_words (map value_word vs) (map value_amount vs) ≡ map value_seen vs
columns_back [] h = refl
columns_back (v ∷ vs) h =
    ap (λ x. x ∷ values_of_words (map value_word vs) (map value_amount vs)) (column_back v h.0)
    ∙ ap (λ xs. value_seen v ∷ xs) (columns_back vs h.1)

-- lists of values of the same words and numbers stand for the same values
pub all_columns_same : (xs ys : List Value) → AllByRecursion HasByteParts xs → AllByRecursion HasByteParts ys → map value_word xs ≡ map value_word ys → map value_amount xs ≡ map value_amount ys → map value_seen xs ≡ map value_seen ys
all_columns_same xs ys h k words amounts =
    sym (columns_back xs h)
    ∙ (ap (λ ws. values_of_words ws (map value_amount xs)) words
    ∙ (ap (values_of_words (map value_word ys)) amounts ∙ columns_back ys k))

-- lists of values that stand for the same values are the same
pub values_same : (xs ys : List Value) → map value_seen xs ≡ map value_seen ys → xs ≡ ys
values_same [] [] h = refl
values_same [] (y ∷ ys) h = cc
values_same (x ∷ xs) [] h = cc
values_same (x ∷ xs) (y ∷ ys) h =
    ap (λ v. v ∷ xs) (value_seen-same x y cc) ∙ ap (λ vs. y ∷ vs) (values_same xs ys cc)

-- columns of one length have as many values
pub length_columns : (words : List ℕ) (amounts : List ℤ) → length words ≡ length amounts → length (values_of_words words amounts) ≡ length words
length_columns [] amounts h = refl
length_columns (w ∷ words) [] h = omega (arith, h)
length_columns (w ∷ words) (z ∷ amounts) h = ap suc (length_columns words amounts (omega (arith, h)))

-- the value of an index of the columns
pub column_at : (words : List ℕ) (amounts : List ℤ) (i word : ℕ) (amount : ℤ) → slice_get words i ≡ Some word → slice_get amounts i ≡ Some amount → slice_get (values_of_words words amounts) i ≡ Some (value_of_word word amount)
column_at [] amounts i word amount h k = cc
column_at (w ∷ words) [] i word amount h k = cc
column_at (w ∷ words) (z ∷ amounts) zero word amount h k = cc
column_at (w ∷ words) (z ∷ amounts) (suc i) word amount h k = column_at words amounts i word amount h k

-- columns that a word and a number are appended to
pub column_push : (words : List ℕ) (amounts : List ℤ) (word : ℕ) (amount : ℤ) → length words ≡ length amounts → values_of_words (words ++ word ∷ []) (amounts ++ amount ∷ []) ≡ values_of_words words amounts ++ value_of_word word amount ∷ []
column_push [] [] word amount h = refl
column_push [] (z ∷ amounts) word amount h = absurd (omega (arith, h))
column_push (w ∷ words) [] word amount h = absurd (omega (arith, h))
column_push (w ∷ words) (z ∷ amounts) word amount h =
    ap (λ vs. value_of_word w z ∷ vs) (column_push words amounts word amount (omega (arith, h)))
