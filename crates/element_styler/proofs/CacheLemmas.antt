-- For `MatchedRulesCache`: what is kept of styles is right, and stays so while the table of styles grows.
use Rattle.std.proofs.Common.{◌≡◌, ◌≢◌, ℕ, ℤ, ◌+◌, ◌<◌, ◌≤◌, refl, get_or, set, List, ◌++◌, length, take, drop, slice_get, Option, Some, None, option_map, sym, ap, ◌∙◌, subst, false, arith, below_more, get_or-set_other, get_or-set_same, take-append-drop, length-append, length-drop, length-set}
use Rattle.std.specs.List.{All}
use Rattle.std.proofs.lemmas.List.{get_or_append_left}
use Rattle.std.proofs.lemmas.List.Elements.{All-append, All-take, All-weaker}
use Rattle.std.proofs.lemmas.Option.{same_Some, slice_get-get_or, slice_get_within, get_or_from_slice_get}
use Rattle.base_model.proofs.Lists.{slice_get_some}
use Rattle.base_model.specs.Text.{Characters}
use Rattle.value_model.specs.Style.{Style, inherited_part}
use Rattle.sheet_model.specs.Sources.{Sources}
use Rattle.cascade_model.specs.Cascade.{cascaded}
use Rattle.style_value.specs.Parts.{part_at}
use Rattle.takes_model.proofs.TakesLemmas.{cascaded-inherited}
use Rattle.element_styler.specs.Cache.{HasRight, HaveRight, IsComputed, IsKnown, IsOver, IsRight, KnownFor, kept_key, number_of}
use Rattle.element_styler.specs.MatchedRules.{declared_by}
use Rattle.element_styler.specs.declared.matched_rules.MatchedRule.{MatchedRule}
use Rattle.element_styler.specs.declared.cache.Over.{Over}
use Rattle.element_styler.specs.declared.cache.Over.TheVariants.{Part, Parent}
use Rattle.element_styler.specs.declared.cache.Known.TheVariants.{Nothing, Takes, Style as KnownStyle}
use Rattle.element_styler.specs.declared.cache.Known.{Known}
use Rattle.element_styler.specs.declared.cache.Entry.{Entry}
use Rattle.element_styler.specs.declared.cache.Pair.{Pair}
use Rattle.element_styler.specs.declared.styler.ComputedStyle.{ComputedStyle}

-- an item keeps its place
pub kept_at : {A : Type 0} (table more : List A) (n : ℕ) (s : A) → take (length table) more ≡ table → slice_get table n ≡ Some s → slice_get more n ≡ Some s
kept_at table more n s kept at =
    let rest = drop (length table) more in
    let within : n < length table = slice_get_within table n s at in
    let whole : more ≡ table ++ rest = sym (take-append-drop (length table) more) ∙ ap (λ l. l ++ rest) kept in
    ap (λ l. slice_get l n) whole
    ∙ (slice_get-get_or (table ++ rest) n s (omega (arith, within, length-append table rest))
    ∙ ap Some (get_or_append_left table rest s n within ∙ get_or_from_slice_get table n s s at))

-- so what stands at a number of the table is what stood there
before_at : {A : Type 0} (table more : List A) (n : ℕ) → take (length table) more ≡ table → n < length table → slice_get more n ≡ slice_get table n
before_at table more n kept within = let (s, at) = slice_get_some table n within in kept_at table more n s kept at ∙ sym at

-- and the parents that a style is known over are those of before
over_before : (table more : List Style) (parents : Over) (over : Style) → take (length table) more ≡ table → number_of parents < length table → IsOver more parents over → IsOver table parents over
over_before table more (Part n) over kept within is = ap (option_map inherited_part) (sym (before_at table more n kept within)) ∙ is
over_before table more (Parent n) over kept within is = sym (before_at table more n kept within) ∙ is

within_more : {A : Type 0} (table more : List A) (n : ℕ) → take (length table) more ≡ table → n < length table → n < length more
within_more table more n kept within =
    let (s, at) = slice_get_some table n within in slice_get_within more n s (kept_at table more n s kept at)

module _ (sources : Sources) (size : ℤ) (table more : List Style) (kept : take (length table) more ≡ table) where
  right_more : (key : KnownFor) (style : ℕ) → IsRight sources size table key style → IsRight sources size more key style
  right_more key style right = record {
    there = within_more table more (number_of key.over) kept right.there;
    own_is = λ over is. kept_at table more style (cascaded false over size (declared_by sources key.rules key.text)) kept
        (right.own_is over (over_before table more key.over over kept right.there is));
  }

  entry_more : (entry : Entry) → HasRight sources size table entry → HasRight sources size more entry
  entry_more entry has style is = right_more (kept_key entry) style (has style is)

  pub all_right_more : (pairs : List Pair) → All (HaveRight sources size table) pairs → All (HaveRight sources size more) pairs
  all_right_more pairs right =
      All-weaker (HaveRight sources size table) (HaveRight sources size more) (λ pair have. record { newer = entry_more pair.newer have.newer; older = entry_more pair.older have.older }) pairs right

-- there is a style at the number of a part
part_within : (table : List Style) (n : ℕ) (part : Style) → part_at table n ≡ Some part → n < length table
part_within table n part at = by (slice_get table n) refl at
  where
    by : (o : Option Style) → slice_get table n ≡ o → option_map inherited_part o ≡ Some part → n < length table
    by None here none = absurd (cc)
    by (Some style) here some = slice_get_within table n style here

abbrev pub known_for : Over → List MatchedRule → Option Characters → KnownFor
known_for over rules text = record { over = over; rules = rules; text = text }

pub same_known : (a b : KnownFor) → a.over ≡ b.over → a.rules ≡ b.rules → a.text ≡ b.text → a ≡ b
same_known a b over rules text =
    ap (λ o. known_for o a.rules a.text) over ∙ (ap (λ r. known_for b.over r a.text) rules ∙ ap (known_for b.over b.rules) text)

module _ (sources : Sources) (size : ℤ) (table : List Style) where
  -- what is known of a style that was computed
  pub right_by_part : (part parent : ℕ) (rules : List MatchedRule) (text : Option Characters) (over : Style) (computed : ComputedStyle)
      → slice_get table parent ≡ Some over → part_at table part ≡ part_at table parent → computed.takes ≡ false
      → IsComputed size table over (declared_by sources rules text) computed → IsRight sources size table (known_for (Part part) rules text) computed.style
  right_by_part part parent rules text over computed at same free is =
      let here : part_at table part ≡ Some (inherited_part over) = same ∙ ap (option_map inherited_part) at in
      record {
        there = part_within table part (inherited_part over) here;
        own_is = λ other by. is.style ∙ ap Some (cascaded-inherited false over other size (declared_by sources rules text) (sym is.takes ∙ free) (same_Some _ _ (sym here ∙ by)));
      }

  pub right_by_parent : (parent : ℕ) (rules : List MatchedRule) (text : Option Characters) (over : Style) (computed : ComputedStyle) → slice_get table parent ≡ Some over
      → IsComputed size table over (declared_by sources rules text) computed → IsRight sources size table (known_for (Parent parent) rules text) computed.style
  right_by_parent parent rules text over computed at is = record {
    there = slice_get_within table parent over at;
    own_is = λ other by. is.style ∙ ap (λ s. Some (cascaded false s size (declared_by sources rules text))) (same_Some _ _ (sym at ∙ by));
  }

  -- what claims nothing is right
  pub nothing_right : (key : KnownFor) (known : Known) → known ≡ Nothing → IsKnown sources size table key known
  nothing_right key known none style is = absurd (cc)

  pub takes_right : (key : KnownFor) → IsKnown sources size table key Takes
  takes_right key style is = absurd (cc)

  pub style_right : (key : KnownFor) (style : ℕ) → IsRight sources size table key style → IsKnown sources size table key (KnownStyle style)
  style_right key style right other is = let same : style ≡ other = (cc) in subst (IsRight sources size table key) same right

  -- an entry for a key has what is known for it
  pub entry_right : (key : KnownFor) (entry : Entry) → kept_key entry ≡ key → HasRight sources size table entry → IsKnown sources size table key entry.known
  entry_right key entry same has = subst (λ k. IsKnown sources size table k entry.known) same has

  pub right_entry : (key : KnownFor) (entry : Entry) (known : Known) → kept_key entry ≡ key → entry.known ≡ known → IsKnown sources size table key known → HasRight sources size table entry
  right_entry key entry known same is right =
      subst (IsKnown sources size table (kept_key entry)) (sym is) (subst (λ k. IsKnown sources size table k known) (sym same) right)

  pub pair_at : (pairs : List Pair) (k : ℕ) (pair : Pair) → pair ≡ get_or pairs k pair → k < length pairs → All (HaveRight sources size table) pairs → HaveRight sources size table pair
  pair_at pairs k pair is within all = subst (HaveRight sources size table) (sym is) (all k pair within)

-- the entries before a slot know nothing
pub record KnowNothing (pair : Pair) : Type 0 where
  pub newer : pair.newer.known ≡ Nothing
  pub older : pair.older.known ≡ Nothing

abbrev pub AreEmpty : ℕ → List Pair → Type 0
AreEmpty n pairs = (k : ℕ) → k < n → (pair : Pair) → k < length pairs → KnowNothing (get_or pairs k pair)

-- nor do those of the slot, once they are emptied
pub empty_more : (pairs : List Pair) (n : ℕ) (emptied : Pair) → KnowNothing emptied → AreEmpty n pairs → AreEmpty (n + 1) (set pairs n emptied)
empty_more pairs n emptied none before =
    below_more (λ k. (pair : Pair) → k < length (set pairs n emptied) → KnowNothing (get_or (set pairs n emptied) k pair)) n
    (λ k below pair within. let apart : k ≢ n = omega arith in
    subst KnowNothing (sym (get_or-set_other pairs n k emptied pair apart)) (before k below pair (omega (arith, within, length-set pairs n emptied))))
    (λ pair within. subst KnowNothing (sym (get_or-set_same pairs n emptied pair (omega (arith, within, length-set pairs n emptied)))) none)

-- where none knows anything, all that is kept is right
pub all_empty_right : (sources : Sources) (size : ℤ) (table : List Style) (n : ℕ) (pairs : List Pair) → length pairs ≤ n → AreEmpty n pairs → All (HaveRight sources size table) pairs
all_empty_right sources size table n pairs all none k pair within =
    let one = get_or pairs k pair in
    let both = none k (omega (arith, within, all)) pair within in
    record { newer = nothing_right sources size table (kept_key one.newer) one.newer.known both.newer; older = nothing_right sources size table (kept_key one.older) one.older.known both.older }

-- and so it is of the list that is written back over one of the same length
pub all_back : {A : Type 0} (P : A → Type 0) (n : ℕ) (items was : List A) → length items ≡ length was → All P items → All P (take n (items ++ drop (length items) was))
all_back P n items was same all =
    let over : All P (drop (length items) was) = λ k d within. absurd (omega (arith, within, same, length-drop (length items) was)) in
    All-take P n (items ++ drop (length items) was) (All-append P items (drop (length items) was) all over)
