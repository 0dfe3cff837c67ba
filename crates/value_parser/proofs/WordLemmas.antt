-- Words in lower case.
use Rattle.std.proofs.Common.{◌≡◌, List, ℕ, Bool, true, map, slice_get, Some, refl, sym, ap, ◌∙◌}
use Rattle.std.specs.Str.{chars}
use Rattle.std.specs.List.{list_all}
use Rattle.base_model.specs.Text.{ascii_lower}
use Rattle.stylo_base.specs.Ascii.{is_all_ascii}
use Rattle.stylo_base.proofs.TextLemmas.{chars-ascii}
use Rattle.value_model.specs.Table.{PropertyRow, table}
use Rattle.property_table.specs.View.{word_of}
use Rattle.property_table.specs.declared.keyword.Keyword.{Keyword}
use Rattle.property_table.specs.declared.keyword.Keyword.TheVariants.{Inline}
use Rattle.property_table.proofs.RowLemmas.{alike_at}
use Rattle.value_parser.specs.View.{is_lower}

-- keywords are in lower case
lower_word : (keyword : Keyword) → ascii_lower (word_of keyword) ≡ word_of keyword
lower_word Inline = refl
lower_word _ = refl

-- so is the text of one
pub lower_text : (keyword : Keyword) (text : List ℕ) → text ≡ word_of keyword → is_all_ascii text ≡ true → ascii_lower (chars text) ≡ chars text
lower_text keyword text is ascii =
    let word : chars text ≡ word_of keyword = chars-ascii text ascii ∙ is in
    ap ascii_lower word ∙ (lower_word keyword ∙ sym word)

abbrev are_lower : PropertyRow → Bool
are_lower row = list_all is_lower row.forms

abbrev always : PropertyRow → Bool
always row = true

-- the words of the table are in lower case
all_lower : map are_lower table ≡ map always table
unfolding table
all_lower = refl

-- so are those of a row
pub row_lower : (i : ℕ) (row : PropertyRow) → slice_get table i ≡ Some row → list_all is_lower row.forms ≡ true
row_lower i row at = alike_at are_lower always table i row all_lower at
