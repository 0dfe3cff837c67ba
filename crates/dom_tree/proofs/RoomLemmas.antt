-- What is kept of a document, once room was made: the same lists in other places.
use Rattle.std.proofs.Common.{◌≡◌, ℕ, ◌+◌, ◌-◌, ◌<◌, ◌≤◌, Bool, List, ◌++◌, length, take, Option, Some, IfSome, slice_get, sym, ap, ◌∙◌, subst, refl, inl, inr, arith, length-append}
use Rattle.std.proofs.Math.ListN.{replicate}
use Rattle.std.proofs.lemmas.Bool.{cases_lt}
use Rattle.std.proofs.lemmas.List.{length-map, length-replicate, take_all}
use Rattle.stylo_base.specs.NameList.{StandOnce}
use Rattle.scene_model.specs.Element.{Characters}
use Rattle.change_model.proofs.Columns.{get_left}
use Rattle.dom_tree.specs.declared.labels.Label.{Label}
use Rattle.dom_tree.specs.declared.span.Span.{Span}
use Rattle.dom_tree.specs.ChildLists.{AreChildren, AreParts, lists_of}
use Rattle.dom_tree.specs.Kept.{KeepsTexts, Table, part_of}
use Rattle.dom_tree.specs.Labels.{HasMore}
use Rattle.dom_tree.specs.SiblingPlaces.{AreZeros}
use Rattle.dom_tree.specs.Whole.{IsWhole, Parts, document, in_order}
use Rattle.dom_tree.proofs.AppendLemmas.{get_behind}
use Rattle.dom_tree.proofs.DocEditLemmas.{IsMore, more_names}
use Rattle.dom_tree.proofs.Places.{replicate_at}

pub room_whole : {p : Parts} {spans : List Span} {flat : List ℕ} → IsWhole p → AreParts flat spans → lists_of flat spans ≡ lists_of p.flat p.spans → IsWhole (record p { spans = spans; flat = flat })
room_whole {p} whole parts same = record {
  few = whole.few;
  given = whole.given;
  sound = whole.sound;
  listed = whole.listed;
  known = whole.known;
  apart = parts;
  children_of = subst (AreChildren (length p.table.nodes) (in_order p.table.nodes p.order)) (sym same) whole.children_of;
  index_of = whole.index_of;
  before_of = whole.before_of;
  after_of = whole.after_of;
  zeros = whole.zeros;
  tags = whole.tags;
  once = whole.once;
  labels_of = whole.labels_of;
  cuts_of = whole.cuts_of;
}

-- and all else is as before
pub all_room : {p : Parts} {spans : List Span} {flat index before after tally : List ℕ} {labels : List Label} {order : List ℕ} {present : List Bool} → IsWhole p → AreParts flat spans
    → lists_of flat spans ≡ lists_of p.flat p.spans → index ≡ p.index → before ≡ p.before → after ≡ p.after → tally ≡ p.tally → labels ≡ p.labels → order ≡ p.order → present ≡ p.present
    → IsWhole (record p { spans = spans; flat = flat; index = index; before = before; after = after; tally = tally; labels = labels; order = order; present = present })
all_room {p} {spans} {flat} whole parts same a b c d e f g =
    subst IsWhole (λ i. record p { spans = spans; flat = flat; index = sym a i; before = sym b i; after = sym c i; tally = sym d i; labels = sym e i; order = sym f i; present = sym g i })
    (room_whole whole parts same)

pub document_same : (table later : Table) {order again : List ℕ} → later.nodes ≡ table.nodes → again ≡ order → document later again ≡ document table order
document_same table later e f = λ i. record { elements = in_order (e i) (f i); last = length (e i) }

pub spans_long : (flat again : List ℕ) (spans shown : List Span) → lists_of again shown ≡ lists_of flat spans → length shown ≡ length spans
spans_long flat again spans shown same = sym (length-map shown (part_of again)) ∙ (ap length same ∙ length-map spans (part_of flat))

pub told_again : {lists now : List (List ℕ)} (i : ℕ) → now ≡ lists → (P : List ℕ → Type 0) → IfSome (slice_get lists i) P → IfSome (slice_get now i) P
told_again i same P h = subst (λ l. IfSome (slice_get l i) P) (sym same) h

-- a longer tally

pub zeros_grown : {names : List Characters} {old new : List ℕ} {n k : ℕ} → AreZeros names old → n ≡ length names → k ≡ length old → new ≡ take n old ++ replicate (n - k) 0
    → AreZeros names new × (length new ≡ length names)
zeros_grown {names} {old} {new} {n} {k} zeros e f is = (record { count = refl; few = omega (arith, long, e); each = one }, omega (arith, long, e))
  where
    whole : take n old ≡ old
    whole = take_all n old (omega (arith, e, zeros.few))

    all : new ≡ old ++ replicate (n - k) 0
    all = is ∙ ap (λ l. l ++ replicate (n - k) 0) whole

    long : length new ≡ n
    long = omega (arith, ap length all, length-append old (replicate (n - k) 0), length-replicate {A = ℕ} (n - k) 0, f, zeros.few, e)

    one : (t : ℕ) → t < length new → slice_get new t ≡ Some 0
    one t l = ap (λ l. slice_get l t) all ∙ elim (cases_lt t (length old)) [
      | inl here ↦ get_left old (replicate (n - k) 0) t here ∙ zeros.each t here
      | inr past ↦
          let place : t ≡ length old + (t - length old) = omega (arith, past) in
          ap (slice_get (old ++ replicate (n - k) 0)) place ∙ (get_behind old (replicate (n - k) 0) (t - length old) ∙ replicate_at (n - k) (t - length old) 0 (omega (arith, l, long, past, f)))
    ]

pub widened : {p : Parts} {tally : List ℕ} → IsWhole p → AreZeros p.table.names tally → length p.tally ≤ length tally → IsWhole (record p { tally = tally })
widened {p} {tally} whole zeros l = record {
  few = whole.few;
  given = whole.given;
  sound = whole.sound;
  listed = whole.listed;
  known = whole.known;
  apart = whole.apart;
  children_of = whole.children_of;
  index_of = whole.index_of;
  before_of = whole.before_of;
  after_of = whole.after_of;
  zeros = zeros;
  tags = λ x is. (let (name, below, at) = whole.tags x is in (name, omega (arith, below, l), at));
  once = whole.once;
  labels_of = whole.labels_of;
  cuts_of = whole.cuts_of;
}

pub is_more : {p : Parts} {names : List Characters} {lists : List (List Characters)} {cuts : List (Option ℕ)} → HasMore p.table.names p.lists names lists cuts → IsMore p names lists cuts
is_more more = record { kept = more.texts; once = more.once; also = more.also; cut = more.cut }

pub more_again : {p : Parts} {names : List Characters} → IsWhole p → KeepsTexts p.table.names names → StandOnce names → IsMore p names p.lists p.cuts
more_again whole texts once = more_names whole texts once
