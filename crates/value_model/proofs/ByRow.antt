-- Values that are made row by row, and a list that is changed from some values to others one by one.
use Rattle.std.proofs.Common.{◌≡◌, ℕ, ◌+◌, ◌≤◌, zero, suc, List, [], ◌∷◌, ◌++◌, if◌then◌else◌, Option, Some, None, length, set, take, drop, slice_get, option_map, refl, sym, ap, ◌∙◌, arith, add-one, add-zero}
use Rattle.std.proofs.lemmas.List.{append-nil, take_all, drop_all}
use Rattle.std.proofs.lemmas.Option.{none-some, same_Some}
use Rattle.value_model.specs.Value.{Value}
use Rattle.value_model.specs.Table.{PropertyRow}
use Rattle.value_model.specs.Style.{inherited_values}

-- the values of rows, of which the first has this index: each by its row and the value that is there
abbrev pub by_row : (ℕ → PropertyRow → Value → Value) → ℕ → List PropertyRow → List Value → List Value
by_row f i [] values = []
by_row f i (row ∷ rows) [] = []
by_row f i (row ∷ rows) (value ∷ values) = f i row value ∷ by_row f (i + 1) rows values

pub length-by_row : (f g : ℕ → PropertyRow → Value → Value) (i : ℕ) (rows : List PropertyRow) (values : List Value) → length (by_row f i rows values) ≡ length (by_row g i rows values)
length-by_row f g i [] values = refl
length-by_row f g i (row ∷ rows) [] = refl
length-by_row f g i (row ∷ rows) (value ∷ values) = ap suc (length-by_row f g (i + 1) rows values)

pub by_row-within : (f : ℕ → PropertyRow → Value → Value) (i : ℕ) (rows : List PropertyRow) (values : List Value) → length (by_row f i rows values) ≤ length rows
by_row-within f i [] values = omega arith
by_row-within f i (row ∷ rows) [] = omega arith
by_row-within f i (row ∷ rows) (value ∷ values) = omega (arith, by_row-within f (i + 1) rows values)

get-by_row : (f : ℕ → PropertyRow → Value → Value) (i : ℕ) (rows : List PropertyRow) (values : List Value) (k : ℕ) (row : PropertyRow) → slice_get rows k ≡ Some row → slice_get (by_row f i rows values) k ≡ option_map (f (i + k) row) (slice_get values k)
get-by_row f i [] values k row at = absurd (none-some row at)
get-by_row f i (first ∷ rows) [] k row at = refl
get-by_row f i (first ∷ rows) (value ∷ values) zero row at =
    ap (λ r. Some (f i r value)) (same_Some first row at) ∙ ap (λ n. Some (f n row value)) (sym (add-zero i))
get-by_row f i (first ∷ rows) (value ∷ values) (suc k) row at =
    let same : i + 1 + k ≡ i + suc k = omega arith in
    get-by_row f (i + 1) rows values k row at ∙ ap (λ n. option_map (f n row) (slice_get values k)) same

-- the value at an index of the table
pub by_row-at : (f : ℕ → PropertyRow → Value → Value) (rows : List PropertyRow) (values : List Value) (k : ℕ) (row : PropertyRow) → slice_get rows k ≡ Some row → slice_get (by_row f 0 rows values) k ≡ option_map (f k row) (slice_get values k)
by_row-at f rows values k row at =
    let same : 0 + k ≡ k = omega arith in
    get-by_row f 0 rows values k row at ∙ ap (λ n. option_map (f n row) (slice_get values k)) same

abbrev pub keeps : ℕ → PropertyRow → Value → Value
keeps i row value = value

abbrev pub unsets : ℕ → PropertyRow → Value → Value
unsets i row value = if row.inherited then value else row.initial

pub by_row-keeps : (i : ℕ) (rows : List PropertyRow) (values : List Value) → length values ≡ length rows → by_row keeps i rows values ≡ values
by_row-keeps i [] [] h = refl
by_row-keeps i [] (value ∷ values) h = absurd (omega (arith, h))
by_row-keeps i (row ∷ rows) [] h = refl
by_row-keeps i (row ∷ rows) (value ∷ values) h = ap (λ l. value ∷ l) (by_row-keeps (i + 1) rows values (omega arith))

pub by_row-unsets : (i : ℕ) (rows : List PropertyRow) (values : List Value) → by_row unsets i rows values ≡ inherited_values rows values
by_row-unsets i [] values = refl
by_row-unsets i (row ∷ rows) [] = refl
by_row-unsets i (row ∷ rows) (value ∷ values) =
    ap (λ l. unsets i row value ∷ l) (by_row-unsets (i + 1) rows values)

pub length-inherited : (rows : List PropertyRow) (values : List Value) → length values ≡ length rows → length (inherited_values rows values) ≡ length values
length-inherited rows values h =
    ap length (sym (by_row-unsets 0 rows values))
    ∙ (length-by_row unsets keeps 0 rows values ∙ ap length (by_row-keeps 0 rows values h))

pub inherited-at : (rows : List PropertyRow) (values : List Value) (k : ℕ) (row : PropertyRow) → slice_get rows k ≡ Some row → slice_get (inherited_values rows values) k ≡ option_map (unsets k row) (slice_get values k)
inherited-at rows values k row at =
    ap (λ l. slice_get l k) (sym (by_row-unsets 0 rows values)) ∙ by_row-at unsets rows values k row at

module _ {A : Type 0} where
  -- the first values of one list, and then those of another
  abbrev pub mixed : ℕ → List A → List A → List A
  mixed i new old = take i new ++ drop i old

  mixed-set : (new old : List A) (i : ℕ) (x : A) → length new ≡ length old → ((y : A) → slice_get new i ≡ Some y → x ≡ y) → set (mixed i new old) i x ≡ mixed (suc i) new old
  mixed-set [] [] zero x h is = refl
  mixed-set [] [] (suc i) x h is = refl
  mixed-set [] (b ∷ bs) i x h is = absurd (omega (arith, h))
  mixed-set (a ∷ rest) [] i x h is = absurd (omega (arith, h))
  mixed-set (a ∷ rest) (b ∷ bs) zero x h is = ap (λ y. y ∷ bs) (is a refl)
  mixed-set (a ∷ rest) (b ∷ bs) (suc i) x h is = ap (λ l. a ∷ l) (mixed-set rest bs i x (omega (arith, h)) is)

  mixed-kept : (new old : List A) (i : ℕ) → length new ≡ length old → slice_get new i ≡ slice_get old i → mixed i new old ≡ mixed (suc i) new old
  mixed-kept [] [] zero h same = refl
  mixed-kept [] [] (suc i) h same = refl
  mixed-kept [] (b ∷ bs) i h same = absurd (omega (arith, h))
  mixed-kept (a ∷ rest) [] i h same = absurd (omega (arith, h))
  mixed-kept (a ∷ rest) (b ∷ bs) zero h same = ap (λ y. y ∷ bs) (same_Some b a (sym same))
  mixed-kept (a ∷ rest) (b ∷ bs) (suc i) h same = ap (λ l. a ∷ l) (mixed-kept rest bs i (omega (arith, h)) same)

  -- the values before an index are the new ones
  pub record IsFilled (new old values : List A) (i : ℕ) : Type 0 where
    pub long : length new ≡ length old
    pub filled : values ≡ mixed i new old

  pub filled_set : (new old values : List A) (i : ℕ) (x : A) → ((y : A) → slice_get new i ≡ Some y → x ≡ y) → IsFilled new old values i → IsFilled new old (set values i x) (i + 1)
  filled_set new old values i x is f = record {
    long = f.long;
    filled = rw add-one (ap (λ l. set l i x) f.filled ∙ mixed-set new old i x f.long is);
  }

  pub filled_kept : (new old values : List A) (i : ℕ) → slice_get new i ≡ slice_get old i → IsFilled new old values i → IsFilled new old values (i + 1)
  filled_kept new old values i same f =
      record { long = f.long; filled = rw add-one (f.filled ∙ mixed-kept new old i f.long same) }

  -- at the end all are
  pub filled_all : (new old values : List A) (i : ℕ) → length new ≤ i → IsFilled new old values i → values ≡ new
  filled_all new old values i end f =
      f.filled
      ∙ (ap (λ l. l ++ drop i old) (take_all i new end)
      ∙ (ap (λ l. new ++ l) (drop_all i old (omega (arith, f.long))) ∙ append-nil new))

-- what is made of a value, if there is one
pub map_is : {A B : Type 0} (f : A → B) (o : Option A) (x y : B) → ((v : A) → o ≡ Some v → x ≡ f v) → option_map f o ≡ Some y → x ≡ y
map_is f None x y is h = absurd (none-some y h)
map_is f (Some v) x y is h = is v refl ∙ same_Some (f v) y h
