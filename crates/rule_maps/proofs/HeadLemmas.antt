-- For `find`: the pairs under a name, among heads that rise.
use Rattle.std.proofs.Common.{◌≡◌, ℕ, zero, suc, ◌+◌, ◌<◌, ◌≤◌, ⊎_elim, List, [], ◌∷◌, ◌++◌, length, map, get_or, slice_get}
use Rattle.std.proofs.Common.{Bool, false, if◌then◌else◌, Option, Some, None, IfSome, refl, sym, ap, ap₂, ◌∙◌, subst, arith, encode_utf8_all}
use Rattle.std.proofs.Common.{Less, Equal, Greater}
use Rattle.std.specs.Ordering.{is_eq, is_lt, nat_cmp, ordering_index, ordering_reverse}
use Rattle.std.specs.List.{AllPairs, HoldsAt}
use Rattle.std.specs.List.Sorted.{IsNonDecreasingBy, IsPartitionPoint}
use Rattle.std.proofs.lemmas.Bool.{cases_lt}
use Rattle.std.proofs.lemmas.Cmp.{nat_cmp_total, tied_itself}
use Rattle.std.proofs.lemmas.List.{append-nil, get_or-map, get_or_default, length-map}
use Rattle.std.proofs.lemmas.List.Sorted.{searchable_from_sorted}
use Rattle.std.proofs.lemmas.Option.{same_Some, none-some, slice_get_within, get_or_from_slice_get}
use Rattle.base_model.specs.Text.{Characters, same_text}
use Rattle.base_model.proofs.Lists.{slice_get_some}
use Rattle.stylo_base.specs.NameKey.{key_of}
use Rattle.rule_maps.specs.declared.table.Head.{Head}
use Rattle.rule_maps.specs.NameOrder.{name_cmp}
use Rattle.rule_maps.specs.Heads.{IsBefore, key_under, part_of, part_under}
use Rattle.rule_maps.proofs.OrderLemmas.{name_total, apart_by_key, equal_same, key_low, own_name, less_apart, less_apart_back}

-- heads that rise, without the first
tail_rises : (head : Head) (heads : List Head) → AllPairs IsBefore (head ∷ heads) → AllPairs IsBefore heads
tail_rises head heads up i j d l m = up (suc i) (suc j) d (omega arith) (omega arith)

first_before : (head : Head) (heads : List Head) → AllPairs IsBefore (head ∷ heads) → (k : ℕ) (d : Head) → k < length heads → IsBefore head (get_or heads k d)
first_before head heads up k d l = up 0 (suc k) d (omega arith) (omega arith)

module _ {X : Type 0} (list : List X) (name : Characters) where
  abbrev given : Bool → Head → List X
  given b head = if b then part_of list head else []

  none_under : (heads : List Head) → ((k : ℕ) (d : Head) → k < length heads → same_text name (get_or heads k d).name ≡ false) → part_under heads list name ≡ []
  none_under [] apart = refl
  none_under (head ∷ heads) apart =
      ap₂ ◌++◌ (ap (λ b. given b head) (apart 0 head (omega arith))) (none_under heads (λ k d l. apart (suc k) d (omega arith)))

  one_under : (heads : List Head) → AllPairs IsBefore heads → (index : ℕ) (head : Head) → slice_get heads index ≡ Some head → head.name ≡ name
      → part_under heads list name ≡ part_of list head
  one_under [] up index head e is = absurd (none-some head e)
  one_under (first ∷ heads) up zero head e is =
      let same : first ≡ head = same_Some first head e in
      let own : first.name ≡ name = ap (λ (h : Head). h.name) same ∙ is in
      ap₂ ◌++◌ (ap (λ b. given b first) (own_name name first.name (sym own)))
      (none_under heads (λ k d l. ap (λ n. same_text n (get_or heads k d).name) (sym own) ∙ less_apart first.name (get_or heads k d).name (first_before first heads up k d l)))
      ∙ (append-nil (part_of list first) ∙ ap (part_of list) same)
  one_under (first ∷ heads) up (suc index) head e is =
      let low = first_before first heads up index head (slice_get_within heads index head e) in
      let low_name : name_cmp first.name name ≡ Less = ap (name_cmp first.name) (sym is ∙ ap (λ (h : Head). h.name) (sym (get_or_from_slice_get heads index head head e))) ∙ low in
      ap₂ ◌++◌ (ap (λ b. given b first) (less_apart_back first.name name low_name)) (one_under heads (tail_rises first heads up) index head e is)

  -- what a search finds

  pub found_under : (heads : List Head) → AllPairs IsBefore heads → (index : ℕ) (part : List X) → index < length heads
      → HoldsAt (λ head. name_cmp head.name name ≡ Equal) heads index → IfSome (slice_get heads index) (λ head. part ≡ part_of list head)
      → part ≡ part_under heads list name
  found_under heads up index part within equal is = by (slice_get heads index) refl is
    where
      by : (o : Option Head) → slice_get heads index ≡ o → IfSome o (λ head. part ≡ part_of list head) → part ≡ part_under heads list name
      by None e h = let (head, f) = slice_get_some heads index within in absurd (none-some head (sym e ∙ f))
      by (Some head) e h =
          h ∙ sym (one_under heads up index head e (ap (λ (k : Head). k.name) (sym (get_or_from_slice_get heads index head head e)) ∙ equal_same _ name (equal head)))

  module _ (heads : List Head) (up : AllPairs IsBefore heads) where
    searchable : IsNonDecreasingBy (λ head. ordering_index (name_cmp head.name name)) heads
    searchable =
        searchable_from_sorted name_total (λ (head : Head). head.name) heads name
        (λ k d low within. ap is_lt (name_total.antisymm (get_or heads (k + 1) d).name (get_or heads k d).name ∙ ap ordering_reverse (up k (k + 1) d (omega arith) within)))

    pub none_found : (place : ℕ)
        → (IsNonDecreasingBy (λ head. ordering_index (name_cmp head.name name)) heads
        → IsPartitionPoint (λ head. name_cmp head.name name ≡ Less) (λ head. name_cmp head.name name ≡ Greater) heads place)
        → [] ≡ part_under heads list name
    none_found place parted =
        let parts = parted searchable in
        sym (none_under heads (λ k d within. ⊎_elim
        (λ below. less_apart_back (get_or heads k d).name name (parts.0 k d (omega arith) below))
        (λ above. less_apart name (get_or heads k d).name (turned (get_or heads k d).name (parts.1 k d above within))) (cases_lt k place)))
      where
        turned : (other : Characters) → name_cmp other name ≡ Greater → name_cmp name other ≡ Less
        turned other e = name_total.antisymm name other ∙ ap ordering_reverse e

  -- where the text of a head is the name, the part of it is what is under the name

  pub named_under : (heads : List Head) → AllPairs IsBefore heads → (index : ℕ) (d : Head) (part : List X) → index < length heads
      → (get_or heads index d).name ≡ name → IfSome (slice_get heads index) (λ head. part ≡ part_of list head)
      → part ≡ part_under heads list name
  named_under heads up index d part within is h =
      found_under heads up index part within
      (λ (other : Head). ap (λ n. name_cmp n name) (ap (λ (head : Head). head.name) (get_or_default heads index other d within) ∙ is) ∙ tied_itself name_total name)
      h

  -- where none has the key of the name, nothing is under it

  module _ (heads : List Head) (up : AllPairs IsBefore heads) (key : ℕ) where
    abbrev pub keys : List ℕ
    keys = map key_under heads

    keys_rise : IsNonDecreasingBy (λ k. ordering_index (nat_cmp k key)) keys
    keys_rise i j d low within =
        let inside : j < length heads = subst (λ n. j < n) (length-map heads key_under) within in
        let (head, _) = slice_get_some heads j inside in
        let rise = searchable_from_sorted nat_cmp_total key_under heads key
        (λ k other low within. key_low (get_or heads k other).name (get_or heads (k + 1) other).name (up k (k + 1) other (omega arith) within)) in
        subst (λ k. ordering_index (nat_cmp k key) ≤ ordering_index (nat_cmp (get_or keys j d) key)) (sym (get_or-map key_under heads i head d (omega arith)))
        (subst (λ k. ordering_index (nat_cmp (key_under (get_or heads i head)) key) ≤ ordering_index (nat_cmp k key)) (sym (get_or-map key_under heads j head d inside))
        (rise i j head low inside))

    pub none_keyed : (all : List ℕ) (place : ℕ) → all ≡ keys → key ≡ key_of (encode_utf8_all name)
        → (IsNonDecreasingBy (λ k. ordering_index (nat_cmp k key)) all
        → IsPartitionPoint (λ k. nat_cmp k key ≡ Less) (λ k. nat_cmp k key ≡ Greater) all place)
        → [] ≡ part_under heads list name
    none_keyed all place are is parted =
        let parts = subst (λ l. IsPartitionPoint (λ k. nat_cmp k key ≡ Less) (λ k. nat_cmp k key ≡ Greater) l place) are
        (parted (subst (IsNonDecreasingBy (λ k. ordering_index (nat_cmp k key))) (sym are) keys_rise)) in
        sym (none_under heads (λ k d within. ⊎_elim
        (λ below. apart_by_key name (get_or heads k d).name (ap is_eq (at k d within ∙ parts.0 k 0 (omega arith) below)))
        (λ above. apart_by_key name (get_or heads k d).name (ap is_eq (at k d within ∙ parts.1 k 0 above (subst (λ n. k < n) (sym (length-map heads key_under)) within))))
        (cases_lt k place)))
      where
        at : (k : ℕ) (d : Head) → k < length heads → nat_cmp (key_under (get_or heads k d)) (key_of (encode_utf8_all name)) ≡ nat_cmp (get_or keys k 0) key
        at k d within = ap₂ nat_cmp (sym (get_or-map key_under heads k d 0 within)) (sym is)
