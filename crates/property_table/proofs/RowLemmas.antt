-- The rows of the code against those of the model.
use Rattle.std.proofs.Common.{◌≡◌, ℕ, ◌+◌, ◌<◌, List, [], ◌∷◌, ◌++◌, codes, length, get_or, drop, Some, map, slice_get, option_map, sym, ap, ◌∙◌, refl, arith}
use Rattle.std.specs.List.{range_with_len}
use Rattle.std.specs.Str.{chars}
use Rattle.std.proofs.lemmas.List.{get_or-map, length-map, drop_more}
use Rattle.std.proofs.lemmas.List.FromFn.{get_or-range_with_len, length-range_with_len}
use Rattle.std.proofs.lemmas.Option.{slice_get-map, slice_get-get_or, slice_get_within, get_or_from_slice_get, same_Some}
use denote.Enum.Bare.{tag_one}
use Rattle.base_model.specs.Text.{Characters}
use Rattle.value_model.specs.Table as model
use Rattle.property_table.specs.View.{property_of, row_seen}
use Rattle.property_table.specs.declared.property.PropId.{PropId}
use Rattle.property_table.specs.declared.property.TheConstants.{COUNT}
use Rattle.property_table.specs.declared.property.PropertyRow.{PropertyRow}
use Rattle.property_table.specs.contracts.property.PropId.{the_type}

-- no two properties have one row
pub property_of-same : (a b : PropId) → property_of a ≡ property_of b → a ≡ b
property_of-same a b h = tag_one the_type tt a b h

pub length-table : length model.table ≡ COUNT
unfolding model.table
length-table = refl

-- there are as many rows as in the table
pub length-rows : (rows : List PropertyRow) → map row_seen rows ≡ model.table → length rows ≡ length model.table
length-rows rows h = sym (length-map rows row_seen) ∙ ap length h

-- the row of the table at an index
pub row_at : (rows : List PropertyRow) (i : ℕ) (d : PropertyRow) → map row_seen rows ≡ model.table → i < length rows → slice_get model.table i ≡ Some (row_seen (get_or rows i d))
row_at rows i d h lt =
    ap (λ list. slice_get list i) (sym h)
    ∙ (slice_get-map row_seen rows i ∙ ap (option_map row_seen) (slice_get-get_or rows i d lt))

abbrev property_of_row : PropertyRow → ℕ
property_of_row row = property_of row.id

-- the property of the row at an index is that index
pub property_at : (rows : List PropertyRow) (i : ℕ) (d : PropertyRow) → map (λ (row : PropertyRow). property_of row.id) rows ≡ range_with_len 0 (length model.table) → i < length rows → property_of (get_or rows i d).id ≡ i
property_at rows i d h lt =
    let within : i < length model.table =
    omega (arith, length-map rows property_of_row, ap length h, length-range_with_len 0 (length model.table)) in
    sym (get_or-map property_of_row rows i d 0 lt)
    ∙ (ap (λ list. get_or list i 0) h ∙ (get_or-range_with_len 0 (length model.table) i 0 within ∙ omega arith))

-- what is left of a list, such as the table, from an index on: the item there and the rest
pub drop_at : {A : Type 0} (xs : List A) (i : ℕ) (x : A) → slice_get xs i ≡ Some x → drop i xs ≡ x ∷ drop (i + 1) xs
drop_at xs i x h =
    drop_more xs i x (slice_get_within xs i x h)
    ∙ ap (λ y. y ∷ drop (i + 1) xs) (get_or_from_slice_get xs i x x h)

-- functions that are alike on a list are so at an index
pub alike_at : {A B : Type 0} (f g : A → B) (xs : List A) (i : ℕ) (x : A) → map f xs ≡ map g xs → slice_get xs i ≡ Some x → f x ≡ g x
alike_at f g xs i x same at =
    let one : slice_get (map f xs) i ≡ Some (f x) = slice_get-map f xs i ∙ ap (option_map f) at in
    let other : slice_get (map g xs) i ≡ Some (g x) = slice_get-map g xs i ∙ ap (option_map g) at in
    same_Some (f x) (g x) (sym one ∙ (ap (λ l. slice_get l i) same ∙ other))

abbrev label_of : PropertyRow → Characters
label_of row = chars row.label.now

abbrev label_in : model.PropertyRow → Characters
label_in row = row.name ++ codes ": "

pub length-labelled : (rows : List PropertyRow) → map label_of rows ≡ map label_in model.table → length rows ≡ length model.table
length-labelled rows same = sym (length-map rows label_of) ∙ (ap length same ∙ length-map model.table label_in)

-- what is printed before a value, at the row of a property
pub label_at : (rows : List PropertyRow) (i property : ℕ) (d : PropertyRow) → map label_of rows ≡ map label_in model.table → i ≡ property → i < length model.table → chars (get_or rows i d).label.now ≡ (get_or model.table property model.color_row).name ++ codes ": "
label_at rows i property d same at lt =
    let within : i < length rows = omega (arith, lt, length-labelled rows same) in
    sym (get_or-map label_of rows i d [] within)
    ∙ (ap (λ l. get_or l i []) same
    ∙ (get_or-map label_in model.table i model.color_row [] lt
    ∙ ap (λ n. label_in (get_or model.table n model.color_row)) at))
