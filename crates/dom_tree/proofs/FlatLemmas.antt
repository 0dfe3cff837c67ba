-- Lists as parts of one flat list, after one more.
use Rattle.std.proofs.Common.{◌≡◌, ℕ, ◌+◌, ◌<◌, ◌≤◌, ◌⊎◌, List, [], ◌∷◌, ◌++◌, length, take, get_or, Some, option_map, slice_get, sym, ap, ◌∙◌, subst, inl, inr, refl, arith}
use Rattle.std.specs.List.{AllByRecursion}
use Rattle.std.proofs.lemmas.Bool.{cases_eq}
use Rattle.std.proofs.lemmas.List.{length-map, length_push, map-append, take_all}
use Rattle.std.proofs.lemmas.Option.{same_Some, slice_get-get_or, slice_get-map, slice_get_within}
use Rattle.base_model.proofs.Lists.{each-append, get_push_below, get_push_last}
use Rattle.scene_model.proofs.Lists.{each_weaker}
use Rattle.dom_tree.specs.declared.span.Span.{Span}
use Rattle.dom_tree.specs.ChildLists.{AreParts, IsBefore, lists_of}
use Rattle.dom_tree.specs.Kept.{part_of}
use Rattle.dom_tree.proofs.ColumnLemmas.{IsWithin, last_within, part_kept, part_last, still_within}
use Rattle.dom_tree.proofs.Places.{each_at, read_at, taken}

pub lists_kept : (flat more : List ℕ) {later : List ℕ} (e : later ≡ flat ++ more) (spans : List Span) → AllByRecursion (IsWithin flat) spans → lists_of later spans ≡ lists_of flat spans
lists_kept flat more e [] are = refl
lists_kept flat more e (span ∷ spans) are = λ i. part_kept flat more e span are.0 i ∷ lists_kept flat more e spans are.1 i

-- one more span, of what is put at the end of the flat list
module _ {flat : List ℕ} {spans : List Span} (are : AreParts flat spans) (more : List ℕ) {later : List ℕ} {longer : List Span} (span : Span)
    (e : later ≡ flat ++ more) (f : longer ≡ spans ++ span ∷ []) (first : span.first ≡ length flat) (count : span.count ≡ length more) where
  old_or_last : (i : ℕ) (s : Span) → slice_get (spans ++ span ∷ []) i ≡ Some s → (slice_get spans i ≡ Some s) ⊎ ((i ≡ length spans) × (s ≡ span))
  old_or_last i s at = elim (cases_eq i (length spans)) [
    | inl last ↦ inr (last, same_Some s span (sym at ∙ get_push_last spans i span last))
    | inr other ↦
        let within = slice_get_within (spans ++ span ∷ []) i s at in
        inl (sym (get_push_below spans i span (omega (arith, within, length_push spans span, other))) ∙ at)
  ]

  before_last : (i : ℕ) (s : Span) → slice_get spans i ≡ Some s → IsBefore s span
  before_last i s at = omega (arith, each_at (IsWithin flat) spans i s are.within at, first)

  pub parts_pushed : AreParts later longer
  parts_pushed = subst (AreParts later) (sym f) (record {
    within = each-append (IsWithin later) spans (span ∷ []) (each_weaker (IsWithin flat) (IsWithin later) (λ span h. still_within flat more e span h) spans are.within)
        (last_within flat more e span first count, tt);
    apart = λ i j s t at also other. elim (old_or_last i s at) [
      | inl h ↦ elim (old_or_last j t also) [
        | inl k ↦ are.apart i j s t h k other
        | inr k ↦ inl (subst (IsBefore s) (sym k.1) (before_last i s h))
      ]
      | inr h ↦ elim (old_or_last j t also) [
        | inl k ↦ inr (subst (IsBefore t) (sym h.1) (before_last j t k))
        | inr k ↦ absurd (other (h.0 ∙ sym k.0))
      ]
    ];
  })

  pub lists_pushed : lists_of later longer ≡ lists_of flat spans ++ more ∷ []
  lists_pushed =
      ap (lists_of later) f ∙ (map-append (part_of later) spans (span ∷ []) ∙ (λ i. lists_kept flat more e spans are.within i ++ part_last flat more e span first count i ∷ []))

-- the spans of the lists up to one
pub record AreFlat (found : List (List ℕ)) (flat : List ℕ) (spans : List Span) (k : ℕ) : Type 0 where
  pub parts : AreParts flat spans
  pub seen : lists_of flat spans ≡ take k found

pub none_flat : (found : List (List ℕ)) {flat : List ℕ} {spans : List Span} → spans ≡ [] → AreFlat found flat spans 0
none_flat found {flat} none = subst (λ s. AreFlat found flat s 0) (sym none) (record { parts = record { within = tt; apart = λ i j s t at also other. absurd (cc) }; seen = refl })

-- after one more
pub flat_more : {found : List (List ℕ)} {flat : List ℕ} {spans : List Span} {k : ℕ} {list more later : List ℕ} {longer : List Span} → AreFlat found flat spans k → slice_get found k ≡ Some list
    → (span : Span) → more ≡ list → later ≡ flat ++ more → longer ≡ spans ++ span ∷ [] → span.first ≡ length flat → span.count ≡ length more → AreFlat found later longer (k + 1)
flat_more {found} {k = k} {list} {more} are at span same e f first count = record {
  parts = parts_pushed are.parts more span e f first count;
  seen = lists_pushed are.parts more span e f first count ∙ ((λ i. are.seen i ++ same i ∷ []) ∙ sym (taken found k list at));
}

pub flat_next : {found : List (List ℕ)} {flat : List ℕ} {spans : List Span} {k : ℕ} {list more later : List ℕ} {longer : List Span} → AreFlat found flat spans k → k < length found
    → list ≡ get_or found k list
    → (span : Span) → more ≡ list → later ≡ flat ++ more → longer ≡ spans ++ span ∷ [] → span.first ≡ length flat → span.count ≡ length more → AreFlat found later longer (k + 1)
flat_next {found} are l is span same e f first count = flat_more are (read_at found l is) span same e f first count

-- the list of a span that was read
pub part_read : (flat : List ℕ) (spans : List Span) {read more : List ℕ} {shown : List Span} {k : ℕ} (none : Span) → shown ≡ spans → read ≡ flat → k < length shown
    → more ≡ part_of read (get_or shown k none)
    → slice_get (lists_of flat spans) k ≡ Some more
part_read flat spans {k = k} none same is l found =
    slice_get-map (part_of flat) spans k
    ∙ (ap (option_map (part_of flat)) (slice_get-get_or spans k none (omega (arith, l, ap length same))) ∙ sym (ap Some (found ∙ (λ i. part_of (is i) (get_or (same i) k none)))))

pub whole_seen : (old : List ℕ) (parts : List Span) {flat : List ℕ} {spans shown : List Span} {k : ℕ} → AreFlat (lists_of old parts) flat spans k → shown ≡ parts → length shown ≤ k
    → lists_of flat spans ≡ lists_of old parts
whole_seen old parts {k = k} are same all = are.seen ∙ take_all k (lists_of old parts) (omega (arith, all, ap length same, length-map parts (part_of old)))
