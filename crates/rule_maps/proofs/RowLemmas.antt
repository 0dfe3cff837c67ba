-- For `heads_of` and `Table::of`: heads are made of rows that are sorted.
use Rattle.std.proofs.Common.{◌≡◌, ℕ, zero, suc, ◌+◌, ◌-◌, ◌<◌, ◌≤◌, List, [], ◌∷◌, ◌++◌, length, map, take, drop, get_or}
use Rattle.std.proofs.Common.{Bool, true, false, cond, if◌then◌else◌, refl, sym, ap, ap₂, ◌∙◌, arith}
use Rattle.std.proofs.Common.{Less}
use Rattle.std.specs.List.{All, AllPairs}
use Rattle.std.proofs.lemmas.List.{append-nil, get_or-drop, get_or-take, length-take, take-map, map-append, take_all, get_or_default, drop-map}
use Rattle.std.proofs.lemmas.List.Quantifiers.{all_pairs_push}
use Rattle.std.proofs.lemmas.List.Concat.{flat_map-append}
use Rattle.std.proofs.lemmas.List.Elements.{filter-append}
use Rattle.std.proofs.lemmas.List.Sorted.{ranks_by, sorted_far}
use Rattle.std.proofs.lemmas.Slice.Eq.{bytes_eq-Decides}
use Rattle.base_model.specs.Text.{Characters, same_text}
use Rattle.rule_maps.specs.declared.pair.Pair.{Pair}
use Rattle.rule_maps.specs.declared.rows.Row.{Row}
use Rattle.rule_maps.specs.declared.table.Head.{Head}
use Rattle.rule_maps.specs.NameOrder.{name_cmp}
use Rattle.rule_maps.specs.Heads.{IsBefore, IsPart, part_of, part_under}
use Rattle.rule_maps.specs.Rows.{AreHeads, AreSorted, HaveSameNamed, IsRunEnd, name_of, named}
use Rattle.rule_maps.proofs.OrderLemmas.{name_total, less_from}

-- heads of the rows before an index
pub record AreHeadsTo (rows : List Row) (first : ℕ) (heads : List Head) : Type 0 where
  pub within : first ≤ length rows
  pub rising : AllPairs IsBefore heads
  pub parts : All (IsPart (length rows)) heads
  pub under : (name : Characters) → part_under heads rows name ≡ named name (take first rows)
  pub below : (k : ℕ) (d : Head) (e : Row) → k < length heads → first < length rows → name_cmp (get_or heads k d).name (name_of (get_or rows first e)) ≡ Less

pub heads_all : (rows : List Row) (first : ℕ) (heads : List Head) → length rows ≤ first → AreHeadsTo rows first heads → AreHeads rows heads
heads_all rows first heads l h = record {
  rising = h.rising;
  within = h.parts;
  under = λ name. h.under name ∙ ap (named name) (take_all first rows l);
}

pub heads_none : (rows : List Row) → AreHeadsTo rows 0 []
heads_none rows = record {
  within = omega arith;
  rising = λ i j d l m. absurd (omega (arith, m));
  parts = λ k d l. absurd (omega (arith, l));
  under = λ name. refl;
  below = λ k d e l m. absurd (omega (arith, l));
}

-- rows of one name
all_named : (name : Characters) (rows : List Row) → ((k : ℕ) (d : Row) → k < length rows → same_text name (name_of (get_or rows k d)) ≡ true) → named name rows ≡ rows
all_named name [] h = refl
all_named name (row ∷ rows) h =
    ap (λ b. cond b (row ∷ named name rows) (named name rows)) (h 0 row (omega arith))
    ∙ ap (λ l. row ∷ l) (all_named name rows (λ k d l. h (suc k) d (omega arith)))

none_named : (name : Characters) (rows : List Row) → ((k : ℕ) (d : Row) → k < length rows → same_text name (name_of (get_or rows k d)) ≡ false) → named name rows ≡ []
none_named name [] h = refl
none_named name (row ∷ rows) h =
    ap (λ b. cond b (row ∷ named name rows) (named name rows)) (h 0 row (omega arith))
    ∙ none_named name rows (λ k d l. h (suc k) d (omega arith))

of_one : (name one : Characters) (rows : List Row) → ((k : ℕ) (d : Row) → k < length rows → name_of (get_or rows k d) ≡ one)
    → named name rows ≡ (if same_text name one then rows else [])
of_one name one rows h = by (same_text name one) refl
  where
    by : (b : Bool) → same_text name one ≡ b → named name rows ≡ (if b then rows else [])
    by true e = all_named name rows (λ k d l. ap (same_text name) (h k d l) ∙ e)
    by false e = none_named name rows (λ k d l. ap (same_text name) (h k d l) ∙ e)

-- a part of a list and what is before it
take_none : (n : ℕ) → take {A = Row} n [] ≡ []
take_none zero = refl
take_none (suc n) = refl

take_split : (first end : ℕ) (rows : List Row) → first ≤ end → take end rows ≡ take first rows ++ take (end - first) (drop first rows)
take_split zero end rows l = ap (λ n. take n rows) (whole end)
  where
    whole : (n : ℕ) → n ≡ n - 0
    whole n = omega arith
take_split (suc first) zero rows l = absurd (omega arith)
take_split (suc first) (suc end) [] l = sym (take_none (suc end - suc first))
take_split (suc first) (suc end) (row ∷ rows) l =
    ap (λ list. row ∷ list) (take_split first end rows (omega arith) ∙ ap (λ n. take first rows ++ take n (drop first rows)) (less first end))
  where
    less : (f e : ℕ) → e - f ≡ suc e - suc f
    less f e = omega arith

-- what holds of each of a list and of one more
pushed : {X : Type 0} (P : X → Type 0) (xs : List X) (x : X) → ((k : ℕ) (d : X) → k < length xs → P (get_or xs k d)) → P x
    → (k : ℕ) (d : X) → k < length (xs ++ x ∷ []) → P (get_or (xs ++ x ∷ []) k d)
pushed P [] x h here zero d l = here
pushed P [] x h here (suc k) d l = absurd (omega (arith, l))
pushed P (y ∷ ys) x h here zero d l = h 0 d (omega arith)
pushed P (y ∷ ys) x h here (suc k) d l = pushed P ys x (λ j e m. h (suc j) e (omega arith)) here k d (omega arith)

module _ (rows : List Row) (sorted : AreSorted rows) (first end : ℕ) (run : IsRunEnd rows first end) (heads : List Head) (name : Characters)
    (row : Row) (copied : name ≡ name_of (get_or rows first row)) (h : AreHeadsTo rows first heads) where
  abbrev next : Head
  next = record { name = name; first = first; end = end }

  inside : first < length rows
  inside = omega (arith, run.after, run.within)

  is : (d : Row) → name ≡ name_of (get_or rows first d)
  is d = copied ∙ ap name_of (get_or_default rows first row d inside)

  run_named : (k : ℕ) (d : Row) → k < length (part_of rows next) → name_of (get_or (part_of rows next) k d) ≡ name
  run_named k d l =
      let m : k < end - first = omega (arith, l, length-take (end - first) (drop first rows)) in
      ap name_of (get_or-take (end - first) (drop first rows) k d m ∙ get_or-drop first rows k d)
      ∙ ((bytes_eq-Decides _ _).0 (run.alike (first + k) d (omega arith) (omega (arith, m, run.after))) ∙ sym (is d))

  split : take end rows ≡ take first rows ++ part_of rows next
  split = take_split first end rows (omega (arith, run.after))

  under_more : (n : Characters) → part_under (heads ++ next ∷ []) rows n ≡ named n (take end rows)
  under_more n =
      flat_map-append (λ (head : Head). if same_text n head.name then part_of rows head else []) heads (next ∷ [])
      ∙ (ap₂ ◌++◌ (h.under n) (append-nil (if same_text n name then part_of rows next else []) ∙ sym (of_one n name (part_of rows next) run_named))
      ∙ (sym (filter-append (λ r. same_text n (name_of r)) (take first rows) (part_of rows next)) ∙ ap (named n) (sym split)))

  rises : (d : Row) → end < length rows → name_cmp name (name_of (get_or rows end d)) ≡ Less
  rises d l =
      ap (λ n. name_cmp n (name_of (get_or rows end d))) (is d)
      ∙ less_from (name_of (get_or rows first d)) (name_of (get_or rows end d))
      (sorted_far _ (ranks_by name_total name_of) rows sorted first end d (omega (arith, run.after)) l) (run.ends d l)

  before_name : (k : ℕ) (d : Head) → k < length heads → name_cmp (get_or heads k d).name name ≡ Less
  before_name k d l = ap (name_cmp (get_or heads k d).name) (is row) ∙ h.below k d row l inside

  pub heads_more : AreHeadsTo rows end (heads ++ next ∷ [])
  heads_more = record {
    within = run.within;
    rising = all_pairs_push IsBefore heads next h.rising before_name;
    parts = pushed (IsPart (length rows)) heads next h.parts (record { rises = omega (arith, run.after); fits = run.within });
    under = under_more;
    below = λ k d e l m.
        pushed (λ head. name_cmp head.name (name_of (get_or rows end e)) ≡ Less) heads next
        (λ j f n. name_total.trans (get_or heads j f).name name (name_of (get_or rows end e)) (before_name j f n) (rises e m)) (rises e m) k d l;
  }

-- the heads of rows are heads of what stands beside them
part_beside : (rows : List Row) (head : Head) → part_of (map (λ (row : Row). row.pair) rows) head ≡ map (λ (row : Row). row.pair) (part_of rows head)
part_beside rows head =
    ap (take (head.end - head.first)) (drop_beside head.first rows) ∙ take-map (λ (row : Row). row.pair) (head.end - head.first) (drop head.first rows)
  where
    drop_beside : (n : ℕ) (rows : List Row) → drop n (map (λ (row : Row). row.pair) rows) ≡ map (λ (row : Row). row.pair) (drop n rows)
    drop_beside n rows = drop-map (λ (row : Row). row.pair) n rows

under_beside : (rows : List Row) (name : Characters) (heads : List Head)
    → part_under heads (map (λ (row : Row). row.pair) rows) name ≡ map (λ (row : Row). row.pair) (part_under heads rows name)
under_beside rows name [] = refl
under_beside rows name (head ∷ heads) =
    ap₂ ◌++◌ (by (same_text name head.name)) (under_beside rows name heads)
    ∙ sym (map-append (λ (row : Row). row.pair) (if same_text name head.name then part_of rows head else []) (part_under heads rows name))
  where
    by : (b : Bool) → (if b then part_of (map (λ (row : Row). row.pair) rows) head else []) ≡ map (λ (row : Row). row.pair) (if b then part_of rows head else [])
    by true = part_beside rows head
    by false = refl

-- the pairs under a name are those of its rows
pub pairs_under : (old rows : List Row) (heads : List Head) (pairs : List Pair) → HaveSameNamed old rows → AreHeads rows heads → pairs ≡ map (λ (row : Row). row.pair) rows
    → (name : Characters) → part_under heads pairs name ≡ map (λ (row : Row). row.pair) (named name old)
pairs_under old rows heads pairs same are is name =
    ap (λ l. part_under heads l name) is
    ∙ (under_beside rows name heads ∙ (ap (map (λ (row : Row). row.pair)) (are.under name ∙ same name)))
