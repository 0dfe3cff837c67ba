-- The property of a name, looked for row by row.
use Rattle.std.proofs.Common.{◌≡◌, ℕ, ◌<◌, ◌≤◌, ◌+◌, List, Bool, if◌then◌else◌, Option, Some, None, length, map, get_or, drop, slice_get, sym, ap, ◌∙◌, refl, arith}
use Rattle.std.specs.List.{position_from}
use Rattle.std.specs.Str.{chars}
use Rattle.std.proofs.lemmas.Iterator.Adapters.{position_from-zero}
use Rattle.std.proofs.lemmas.List.{at_drop_all}
use Rattle.base_model.specs.Text.{Characters, same_text, ascii_lower, is_word}
use Rattle.value_model.specs.Table as model
use Rattle.value_model.specs.Table.{table, property_named}
use Rattle.property_table.specs.View.{row_seen}
use Rattle.property_table.specs.declared.property.PropertyRow.{PropertyRow}
use Rattle.property_table.proofs.RowLemmas.{length-rows, row_at, drop_at, alike_at}

abbrev name_of : model.PropertyRow → Characters
name_of row = row.name

abbrev is_named : Characters → model.PropertyRow → Bool
is_named name row = is_word row.name name

abbrev lower_name_of : model.PropertyRow → Characters
lower_name_of row = ascii_lower row.name

-- the names of the table are in lower case
names_lower : map lower_name_of table ≡ map name_of table
unfolding table
names_lower = refl

-- the first row of that name, from an index of the table on
abbrev pub named_from : Characters → ℕ → Option ℕ
named_from name i = position_from (is_named name) i (drop i table)

pub named_from-zero : (name : Characters) → named_from name 0 ≡ property_named name
named_from-zero name = sym (position_from-zero (is_named name) table)

-- the row at an index has the name, or a later one has
pub named_row : (rows : List PropertyRow) (name : Characters) (i : ℕ) (d : PropertyRow) (test : Bool) → map row_seen rows ≡ table → i < length rows → test ≡ same_text (ascii_lower name) (ascii_lower (chars (get_or rows i d).name.now)) → named_from name i ≡ (if test then Some i else named_from name (i + 1))
named_row rows name i d test h lt is =
    let row : model.PropertyRow = row_seen (get_or rows i d) in
    let at : slice_get table i ≡ Some row = row_at rows i d h lt in
    let same : is_named name row ≡ test = ap (same_text (ascii_lower name)) (sym (alike_at lower_name_of name_of table i row names_lower at)) ∙ sym is in
    ap (position_from (is_named name) i) (drop_at table i row at)
    ∙ ap (λ b. if b then Some i else named_from name (i + 1)) same

-- there is no row after the last one
pub named_from-end : (rows : List PropertyRow) (name : Characters) (i : ℕ) → map row_seen rows ≡ table → length rows ≤ i → named_from name i ≡ None
named_from-end rows name i h past = at_drop_all (position_from (is_named name) i) table i (omega (arith, length-rows rows h))
