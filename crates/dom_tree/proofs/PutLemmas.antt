-- The place of a name among rows that are sorted, and the rows after a write there.
use Rattle.std.proofs.Common.{◌≡◌, ℕ, zero, suc, ◌+◌, ◌<◌, ◌≤◌, ◌==◌, Bool, true, false, cond, nat_lt, List, [], ◌∷◌, length, get_or, slice_get, slice_set, sym, ap, ◌∙◌, refl, arith}
use Rattle.std.specs.List.{prefix_len, insert}
use Rattle.std.specs.Option.{option_map_or}
use Rattle.std.proofs.lemmas.Bool.{cond-true, cond-false, eqb-true}
use Rattle.std.proofs.lemmas.Option.{get_or_from_slice_get, slice_get_past}
use Rattle.dom_tree.specs.declared.node_columns.AttrRow.{AttrRow}
use Rattle.dom_tree.specs.Kept.{put_row}
use Rattle.dom_tree.proofs.Places.{read_at}

abbrev pub place : ℕ → List AttrRow → ℕ
place name rows = prefix_len (λ row. nat_lt row.name name) rows

-- the row at an index is that of the name
abbrev pub is_there : ℕ → List AttrRow → ℕ → Bool
is_there name rows i = option_map_or (λ row. row.name == name) (slice_get rows i) false

pub there_read : (name : ℕ) (rows : List AttrRow) {i : ℕ} {row : AttrRow} {b : Bool} → i < length rows → row ≡ get_or rows i row → (row.name == name) ≡ b → is_there name rows i ≡ b
there_read name rows l is e = ap (λ o. option_map_or (λ (row : AttrRow). row.name == name) o false) (read_at rows l is) ∙ e

pub there_past : (name : ℕ) (rows : List AttrRow) (i : ℕ) → length rows ≤ i → is_there name rows i ≡ false
there_past name rows i h = ap (λ o. option_map_or (λ (row : AttrRow). row.name == name) o false) (slice_get_past rows i h)

module _ (name value : ℕ) where
  abbrev new : AttrRow
  new = record { name = name; value = value }

  -- a write over the row of the name, or else a row more
  abbrev put_at : List AttrRow → ℕ → List AttrRow
  put_at rows i = cond (is_there name rows i) (slice_set rows i new) (insert rows i new)

  after_one : (row : AttrRow) (b : Bool) (xs ys : List AttrRow) → row ∷ cond b xs ys ≡ cond b (row ∷ xs) (row ∷ ys)
  after_one row true xs ys = refl
  after_one row false xs ys = refl

  put_on : (row : AttrRow) (rows : List AttrRow) (b : Bool) (i : ℕ) → cond b (1 + place name rows) 0 ≡ i → ((j : ℕ) → place name rows ≡ j → put_row name value rows ≡ put_at rows j)
      → cond b (row ∷ put_row name value rows) (cond (row.name == name) (new ∷ rows) (new ∷ row ∷ rows)) ≡ put_at (row ∷ rows) i
  put_on row rows true zero e rest = absurd (omega (arith, e))
  put_on row rows true (suc i) e rest = ap (λ l. row ∷ l) (rest i (omega (arith, e))) ∙ after_one row (is_there name rows i) _ _
  put_on row rows false zero e rest = refl
  put_on row rows false (suc i) e rest = absurd (omega (arith, e))

  put_is : (rows : List AttrRow) (i : ℕ) → place name rows ≡ i → put_row name value rows ≡ put_at rows i
  put_is [] zero e = refl
  put_is [] (suc i) e = refl
  put_is (row ∷ rows) i e = put_on row rows (nat_lt row.name name) i e (λ j f. put_is rows j f)

  -- the place was found in rows that are these
  module _ (rows : List AttrRow) {shown : List AttrRow} {i : ℕ} (e : i ≡ place name shown) (s : shown ≡ rows) where
    put_here : put_row name value rows ≡ put_at rows i
    put_here = put_is rows i (sym (e ∙ ap (place name) s))

    pub put_set : {here row : AttrRow} → i < length rows → here ≡ get_or rows i here → row ≡ get_or rows i row → (here.name == name) ≡ true
        → slice_set rows i (record { name = row.name; value = value }) ≡ put_row name value rows
    put_set {here} {row} l is also same =
        let named = ap (λ (r : AttrRow). r.name) (also ∙ get_or_from_slice_get rows i here row (read_at rows l is)) ∙ eqb-true here.name name same in
        ap (λ n. slice_set rows i (record { name = n; value = value })) named ∙ sym (put_here ∙ cond-true _ (slice_set rows i new) (insert rows i new) (there_read name rows l is same))

    pub put_insert : is_there name rows i ≡ false → insert rows i new ≡ put_row name value rows
    put_insert other = sym (put_here ∙ cond-false _ (slice_set rows i new) (insert rows i new) other)
