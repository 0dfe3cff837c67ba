-- Places among siblings, written one after the other, and a tally by tag.
use Rattle.std.proofs.Common.{◌≡◌, ◌≢◌, ℕ, suc, ◌+◌, ◌-◌, ◌<◌, ◌≤◌, ◌==◌, ◌||◌, Bool, true, false, not, cond, sym, ap, ◌∙◌, subst, refl, inl, inr, arith, add-one, length-append}
use Rattle.std.proofs.Common.{List, [], ◌∷◌, ◌++◌, length, take, drop, filter, slice_set, get_or, Some, IfSome, option_map, unwrap_or, slice_get}
use Rattle.std.specs.List.{AllByRecursion}
use Rattle.std.proofs.Math.Bool.{or-false}
use Rattle.std.proofs.lemmas.Bool.{cases_eq, cond-true}
use Rattle.std.proofs.lemmas.List.{at_drop_all, at_drop_more, length-set, length-take-le}
use Rattle.std.proofs.lemmas.List.Elements.{filter-append}
use Rattle.std.proofs.lemmas.List.Filters.{length-filter_both}
use Rattle.std.proofs.lemmas.List.Folds.{list_any-append}
use Rattle.std.proofs.lemmas.Option.{slice_get-get_or, slice_get_within, same_Some}
use Rattle.base_model.specs.Text.{same_text}
use Rattle.scene_model.specs.Element.{Element, Characters}
use Rattle.scene_model.specs.Lookups.{counted, left_of, right_of, same_type, tag_of}
use Rattle.scene_model.specs.Nodes.{Node, listed}
use Rattle.scene_model.proofs.Any.{in_middle}
use Rattle.scene_model.proofs.Listed.{element_at-listed_some}
use Rattle.scene_model.proofs.Lists.{split_at}
use Rattle.scene_model.proofs.Numbers.{is_in, copies, differs, left_of_split, same_number}
use Rattle.scene_model.proofs.Siblings.{once_before, right_of_split}
use Rattle.stylo_base.specs.NameList.{StandOnce}
use Rattle.dom_tree.specs.Kept.{text_of}
use Rattle.dom_tree.specs.SiblingPlaces.{AreSiblings, AreWritten, AreZeros, HasTagBelow, IsTally, has_tag_named, index_among, type_place}
use Rattle.dom_tree.proofs.NameLemmas.{same_name, same_names, text_is}
use Rattle.dom_tree.proofs.Places.{each_at, get_set_same, get_set_other, item_at, read_at, taken}

-- one more of a list

abbrev one : Bool → ℕ
one b = cond b 1 0

counted_first : (p : ℕ → Bool) (y : ℕ) (ys : List ℕ) → counted p (y ∷ ys) ≡ one (p y) + counted p ys
counted_first p y ys = by (p y)
  where
    by : (b : Bool) → length (cond b (y ∷ filter p ys) (filter p ys)) ≡ one b + counted p ys
    by true = omega arith
    by false = omega arith

counted_last : (p : ℕ → Bool) (xs : List ℕ) (y : ℕ) → counted p (xs ++ y ∷ []) ≡ counted p xs + one (p y)
counted_last p xs y = omega (arith, ap length (filter-append p xs (y ∷ [])), length-append (filter p xs) (filter p (y ∷ [])), counted_first p y [])

few_counted : (p : ℕ → Bool) (xs : List ℕ) → counted p xs ≤ length xs
few_counted p xs = omega (arith, length-filter_both p (λ y. not (p y)) (λ _. refl) xs)

in_last : (x : ℕ) (xs : List ℕ) (y : ℕ) → x ≢ y → is_in x (xs ++ y ∷ []) ≡ is_in x xs
in_last x xs y other =
    list_any-append (λ z. z == x) xs (y ∷ []) ∙ (ap (λ b. is_in x xs || (b || false)) (differs y x (λ e. other (sym e))) ∙ or-false (is_in x xs))

-- numbers are written one after the other
pub written_next : {X : Type 0} (value : ℕ → X) (xs : List ℕ) (old new : List X) (y : ℕ) (n : X) → AreWritten value xs old new → 0 < y → y ≤ length old → n ≡ value y
    → AreWritten value (xs ++ y ∷ []) old (slice_set new (y - 1) n)
written_next value xs old new y n are low high e = record {
  count = length-set new (y - 1) n ∙ are.count;
  each = λ x h. elim (cases_eq x y) [
    | inl same ↦ subst (λ z. slice_get (slice_set new (y - 1) n) (z - 1) ≡ cond (is_in z (xs ++ y ∷ [])) (Some (value z)) (slice_get old (z - 1))) (sym same)
        (get_set_same new (y - 1) n (omega (arith, are.count)) ∙ (ap Some e ∙ sym (cond-true _ (Some (value y)) (slice_get old (y - 1)) (in_middle y xs []))))
    | inr other ↦ get_set_other new (y - 1) (x - 1) n (λ g. other (omega (arith, g))) ∙ (are.each x h ∙ ap (λ b. cond b (Some (value x)) (slice_get old (x - 1))) (sym (in_last x xs y other)))
  ];
}

-- the one at an index, of numbers that are within
pub written_at : {X : Type 0} (value : ℕ → X) (xs : List ℕ) (i : ℕ) {old new : List X} {n : X} → AreWritten value (take i xs) old new → i < length xs
    → AllByRecursion (λ x. (0 < x) × (x ≤ length old)) xs
    → n ≡ value (get_or xs i 0) → AreWritten value (take (i + 1) xs) old (slice_set new (get_or xs i 0 - 1) n)
written_at value xs i {old} {new} {n} are l within e =
    let at = slice_get-get_or xs i 0 l in
    let inside = each_at (λ x. (0 < x) × (x ≤ length old)) xs i (get_or xs i 0) within at in
    subst (λ list. AreWritten value list old (slice_set new (get_or xs i 0 - 1) n)) (sym (taken xs i (get_or xs i 0) at)) (written_next value (take i xs) old new
    (get_or xs i 0) n are inside.0 inside.1 e)

pub none_written : {X : Type 0} (value : ℕ → X) (old : List X) → AreWritten value [] old old
none_written value old = record { count = refl; each = λ x h. refl }

-- the tally of one more, or of one less

module _ (doc : List Element) (names : List Characters) (once : StandOnce names) {room : ℕ} (y t : ℕ) (within : t < length names) (named : text_of names t ≡ tag_of doc y) (here : t < room) where
  abbrev tag_is : ℕ → ℕ → Bool
  tag_is u = has_tag_named doc names u

  has_tag : (u : ℕ) → u < length names → tag_is u y ≡ (t == u)
  has_tag u l = ap (λ text. same_text text (text_of names u)) (sym named) ∙ same_names names t u once within l

  has_own : tag_is t y ≡ true
  has_own = has_tag t within ∙ same_number t

  of_type : (xs : List ℕ) → counted (tag_is t) xs ≡ counted (same_type doc y) xs
  of_type xs = ap (λ text. counted (λ z. same_text (tag_of doc z) text) xs) named

  module _ {xs counts : List ℕ} {n : ℕ} (tally : IsTally doc names room xs counts) (at : slice_get counts t ≡ Some n) where
    tallied : n ≡ counted (tag_is t) xs
    tallied = same_Some n (counted (tag_is t) xs) (sym at ∙ tally.each t here)

    -- the tally of a list that has as many of each other tag
    tally_set : (ys : List ℕ) (m : ℕ) → m ≡ counted (tag_is t) ys → ((u : ℕ) → one (tag_is u y) ≡ 0 → counted (tag_is u) xs ≡ counted (tag_is u) ys)
        → IsTally doc names room ys (slice_set counts t m)
    tally_set ys m own others = record {
      count = length-set counts t m ∙ tally.count;
      few = tally.few;
      each = λ u l. elim (cases_eq u t) [
        | inl same ↦ subst (λ u. slice_get (slice_set counts t m) u ≡ Some (counted (tag_is u) ys)) (sym same) (get_set_same counts t m (omega (arith, here, tally.count)) ∙ ap Some own)
        | inr other ↦
            let no_tag = ap one (has_tag u (omega (arith, l, tally.few)) ∙ differs t u (λ e. other (sym e))) in
            get_set_other counts t u m (λ e. other (sym e)) ∙ (tally.each u l ∙ ap Some (others u no_tag))
      ];
    }

  tally_up : {xs counts : List ℕ} {n : ℕ} → IsTally doc names room xs counts → slice_get counts t ≡ Some n → IsTally doc names room (xs ++ y ∷ []) (slice_set counts t (n + 1))
  tally_up {xs} {n = n} tally at =
      tally_set tally at (xs ++ y ∷ []) (n + 1) (omega (arith, tallied tally at, counted_last (tag_is t) xs y, ap one has_own)) (λ u none. omega (arith, counted_last (tag_is u) xs y, none))

  tally_down : {xs counts : List ℕ} {n : ℕ} → IsTally doc names room (y ∷ xs) counts → slice_get counts t ≡ Some n → (1 ≤ n) × IsTally doc names room xs (slice_set counts t (n - 1))
  tally_down {xs} {n = n} tally at =
      let here : n ≡ 1 + counted (tag_is t) xs = omega (arith, tallied tally at, counted_first (tag_is t) y xs, ap one has_own) in
      (omega (arith, here), tally_set tally at xs (n - 1) (omega (arith, here)) (λ u none. omega (arith, counted_first (tag_is u) y xs, none)))

-- one sibling of a list

pub record IsSibling (nodes : List Node) (names : List Characters) (room : ℕ) (xs : List ℕ) (i : ℕ) : Type 0 where
  pub once : StandOnce names
  pub are : AreSiblings (length nodes) (listed nodes) names room xs
  pub inside : i < length xs

pub sibling : {nodes : List Node} {names : List Characters} {room : ℕ} {xs : List ℕ} {i : ℕ} → StandOnce names → AreSiblings (length nodes) (listed nodes) names room xs → i < length xs
    → IsSibling nodes names room xs i
sibling once are inside = record { once = once; are = are; inside = inside }

module _ {nodes : List Node} {names : List Characters} {room : ℕ} {xs : List ℕ} {i : ℕ} (s : IsSibling nodes names room xs i) where
  abbrev doc : List Element
  doc = listed nodes

  abbrev y : ℕ
  y = get_or xs i 0

  at : slice_get xs i ≡ Some y
  at = slice_get-get_or xs i 0 s.inside

  split : xs ≡ take i xs ++ y ∷ drop (suc i) xs
  split = split_at xs i y at

  known : ((0 < y) × (y ≤ length nodes)) × (copies y xs ≡ y ∷ []) × HasTagBelow doc names room y
  known = s.are.each y (ap (is_in y) split ∙ in_middle y (take i xs) (drop (suc i) xs))

  pub sibling_within : (0 < y) × (y ≤ length nodes)
  sibling_within = known.0

  unmet : AllByRecursion (λ z. z ≢ y) (take i xs)
  unmet = once_before y (take i xs) (drop (suc i) xs) (ap (copies y) (sym split) ∙ known.1)

  before_it : left_of y xs ≡ take i xs
  before_it = ap (left_of y) split ∙ left_of_split y (take i xs) (drop (suc i) xs) unmet

  after_it : right_of y xs ≡ drop (i + 1) xs
  after_it = ap (right_of y) split ∙ (right_of_split y (take i xs) (drop (suc i) xs) unmet ∙ ap (λ k. drop k xs) (sym (add-one i)))

  pub index_told : i ≡ index_among xs y
  index_told = sym (ap length before_it ∙ length-take-le i xs (omega (arith, s.inside)))

  module _ {t name : ℕ} (same : t ≡ name) (within : name < length names) (tagged : IfSome (slice_get nodes (y - 1)) (λ node. text_of names name ≡ node.tag)) where
    inside : t < length names
    inside = subst (λ n. n < length names) (sym same) within

    named : text_of names t ≡ tag_of doc y
    named =
        let (node, here, e) = item_at nodes (y - 1) (λ (node : Node). text_of names name ≡ node.tag) (omega (arith, sibling_within)) tagged in
        let back : y ≡ y - 1 + 1 = omega (arith, sibling_within) in
        let found = ap (λ o. unwrap_or (option_map (λ (e : Element). e.tag) o) []) (element_at-listed_some nodes (y - 1) node here) in
        ap (text_of names) same ∙ (e ∙ sym (ap (tag_of doc) back ∙ found))

    -- the tally has room for its tag
    pub tag_counted : t < room
    tag_counted =
        let (u, l, there) = known.2 in
        let one_name = same_name names t u s.once inside (slice_get_within names u (tag_of doc y) there) (named ∙ sym (text_is names u (tag_of doc y) there)) in
        omega (arith, l, one_name)

    module _ {counts : List ℕ} {n : ℕ} (is : n ≡ get_or counts t n) where
      read : {zs : List ℕ} → IsTally doc names room zs counts → slice_get counts t ≡ Some n
      read tally = read_at counts (omega (arith, tally.count, tag_counted)) is

      told : {zs : List ℕ} → IsTally doc names room zs counts → n ≡ counted (same_type doc y) zs
      told {zs} tally = tallied doc names s.once y t inside named tag_counted tally (read tally) ∙ of_type doc names s.once y t inside named tag_counted zs

      -- upwards

      pub before_told : IsTally doc names room (take i xs) counts → n ≡ type_place doc false xs y
      before_told tally = told tally ∙ ap (counted (same_type doc y)) (sym before_it)

      pub counts_on : IsTally doc names room (take i xs) counts → n < length xs
      counts_on tally = omega (arith, s.inside, told tally, few_counted (same_type doc y) (take i xs), length-take-le i xs (omega (arith, s.inside)))

      pub counted_up : IsTally doc names room (take i xs) counts → IsTally doc names room (take (i + 1) xs) (slice_set counts t (n + 1))
      counted_up tally =
          subst (λ list. IsTally doc names room list (slice_set counts t (n + 1))) (sym (taken xs i y at)) (tally_up doc names s.once y t inside named tag_counted tally (read tally))

      -- downwards

      pub counted_down : IsTally doc names room (drop i xs) counts → (1 ≤ n) × IsTally doc names room (drop (i + 1) xs) (slice_set counts t (n - 1))
      counted_down tally =
          let here = subst (λ list. IsTally doc names room list counts) (at_drop_more (λ list. list) xs i 0 s.inside) tally in
          tally_down doc names s.once y t inside named tag_counted here (read here)

      pub after_told : IsTally doc names room (drop (i + 1) xs) counts → n ≡ type_place doc true xs y
      after_told tally = told tally ∙ ap (counted (same_type doc y)) (sym after_it)

  pub written_on : {X : Type 0} {value : ℕ → X} {old new : List X} {n : X} → AreWritten value (take i xs) old new → length nodes ≤ length old → n ≡ value y
      → AreWritten value (take (i + 1) xs) old (slice_set new (y - 1) n)
  written_on {value = value} {old} {new} {n} written room e =
      subst (λ list. AreWritten value list old (slice_set new (y - 1) n)) (sym (taken xs i y at))
      (written_next value (take i xs) old new y n written sibling_within.0 (omega (arith, room, sibling_within)) e)

-- of none at all, the tally of one document is that of any

pub none_tallied : (doc : List Element) {names : List Characters} {counts : List ℕ} → AreZeros names counts → IsTally doc names (length counts) [] counts
none_tallied _ zeros = record { count = zeros.count; few = zeros.few; each = zeros.each }

pub all_counted : {doc : List Element} {names : List Characters} {room i : ℕ} {counts : List ℕ} (xs : List ℕ) → IsTally doc names room (drop i xs) counts → length xs ≤ i → AreZeros names counts
all_counted {doc} {names} {room} {i} {counts} xs tally l =
    let none = subst (λ ys. IsTally doc names room ys counts) (at_drop_all (λ ys. ys) xs i l) tally in
    subst (λ n. IsTally [] names n [] counts) (sym tally.count) (record { count = none.count; few = none.few; each = none.each })
