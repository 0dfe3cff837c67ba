-- What a batch of edits comes to, computed edit by edit: for examples.
use Rattle.std.proofs.Common.{◌≡◌, ℕ, ◌+◌, List, [], ◌∷◌, filter, length, Bool, true, false, ◌||◌, not, Option, Some, None, refl, sym, ap, ◌∙◌}
use Rattle.std.specs.List.{list_all, list_any, AllByRecursion}
use Rattle.std.specs.Option.{option_map_or}
use Rattle.std.specs.Ordering.{int_eq}
use Rattle.std.proofs.lemmas.Bool.{or_left, or_right, false≢true}
use Rattle.base_model.specs.Origin.{Origin}
use Rattle.base_model.specs.Text.{Characters}
use Rattle.base_model.specs.Sheet.{Sheet}
use Rattle.base_model.proofs.Lists.{each_weaker, each_any}
use Rattle.scene_model.specs.Element.{Element}
use Rattle.scene_model.specs.Lookups.{numbers, parent_of, IsElement}
use Rattle.scene_model.specs.Ancestors.{ancestors}
use Rattle.scene_model.specs.Numbers.{is_in}
use Rattle.scene_model.specs.Valid.{IsValid}
use Rattle.scene_model.specs.Nodes.{Node, IsNodeList}
use Rattle.scene_model.specs.Document.{document_of}
use Rattle.scene_model.specs.Scene.{Scene, elements_of}
use Rattle.scene_model.proofs.Lists.{filter_same}
use Rattle.scene_model.proofs.Numbers.{each_is_in}
use Rattle.scene_model.proofs.Found.{is_element-numbers, parent_of-element}
use Rattle.change_model.specs.Sound.{IsSound}
use Rattle.change_model.proofs.Below.{downwards}
use Rattle.change_model.proofs.Started.{IsSound-document_of}
use Rattle.value_model.specs.Style.{Style, font_size_of}
use Rattle.selector_model.specs.Selector.{Selector}
use Rattle.cascade_model.specs.StyleOf.{root_of}
use Rattle.cascade_model.proofs.StyleAlong.{root_of-first}
use Rattle.edit_model.specs.Edit.{DocEdit, SheetEdit, Edit, of_document, of_sheets, IsShapedEdit}
use Rattle.edit_model.specs.Refusal.{Refusal, Outcome, refused, accepted, outcome_of}
use Rattle.edit_model.specs.Apply.{after, refusal, is_fresh}
use Rattle.edit_model.specs.Marked.{is_marked}
use Rattle.edit_model.specs.SheetApply.{number_in, sheets_after, last_after, sheet_refusal}
use Rattle.edit_model.proofs.Lists.{each_of_all}
use Rattle.session_model.specs.Marking.{marking_selectors}
use Rattle.session_model.specs.Same.{same_style}
use Rattle.sheet_edit_model.specs.SheetMarks.{is_marked_by_sheets}
use Rattle.session_model.specs.Standing.{Standing, style_in, root_size_in, kept_at, is_style, has_size, is_matched, parent_differs, root_size_differs, is_cascaded, is_open, matched_count, cascaded_count, started, restyled, with_document, with_sheets, sheet_list, scene_applied, changed, change_of, edit_marks, edit_freshens, edited_by, edited}
use Rattle.session_model.specs.StandingInvariant.{AllKeep, IsReached, at_start, by_restyle}
use Rattle.session_model.specs.Batches.{edited_all, RefusedEdit, onto_refused, refused_from, with_accepted, accepted_among}
use Rattle.session_model.proofs.BatchLemmas.{edited_all-reached}
use Rattle.session_model.proofs.FlagLemmas.{each_number}
use Rattle.session_model.proofs.KeepsLemmas.{kept-changed}
use Rattle.session_model.proofs.ListedLemmas.{listed-styles}
use Rattle.session_model.proofs.OpenLemmas.{root-cascaded, not_cascaded-child}
use Rattle.session_model.proofs.InvariantLemmas.{sound-reached, keeps-reached}

abbrev pub sheet : ℕ → Origin → Characters → Sheet
sheet n origin text = record { number = n; origin = origin; enabled = true; text = text; edition = 0 }

-- Where the children of all that is matched are matched too, nothing else is cascaded.

module _ (st : Standing) (v : IsValid (elements_of st.scene)) (all : AllKeep st) (closed : (x p : ℕ) → parent_of (elements_of st.scene) x ≡ Some p → is_matched st p ≡ true → is_matched st x ≡ true) where
  matched_alone : (x : ℕ) → IsElement (elements_of st.scene) x → is_cascaded st x ≡ is_matched st x
  matched_alone = downwards (elements_of st.scene) v (λ x. IsElement (elements_of st.scene) x → is_cascaded st x ≡ is_matched st x) step
    where
      own : (x : ℕ) (b : Bool) → is_matched st x ≡ b → (b ≡ false → is_cascaded st x ≡ false) → is_cascaded st x ≡ is_matched st x
      own x true h k = ap (λ c. c || (parent_differs st x || root_size_differs st)) h ∙ sym h
      own x false h k = k refl ∙ sym h

      below : (x p : ℕ) (b : Bool) → is_matched st p ≡ b → parent_of (elements_of st.scene) x ≡ Some p → is_matched st x ≡ false → is_cascaded st p ≡ is_matched st p → is_cascaded st x ≡ false
      below x p true h e m r = absurd (false≢true (sym m ∙ closed x p e h))
      below x p false h e m r = not_cascaded-child st v all x p e (r ∙ h) m

      by_parent : (x : ℕ) → ((p : ℕ) → parent_of (elements_of st.scene) x ≡ Some p → is_cascaded st p ≡ is_matched st p) → IsElement (elements_of st.scene) x → (o : Option ℕ) → parent_of (elements_of st.scene) x ≡ o → is_cascaded st x ≡ is_matched st x
      by_parent x r there None e = root-cascaded st v all x (root_of-first (elements_of st.scene) v x there e)
      by_parent x r there (Some p) e =
          own x (is_matched st x) refl (λ m. below x p (is_matched st p) refl e m (r p e))

      step : (x : ℕ) → ((p : ℕ) → parent_of (elements_of st.scene) x ≡ Some p → IsElement (elements_of st.scene) p → is_cascaded st p ≡ is_matched st p) → IsElement (elements_of st.scene) x → is_cascaded st x ≡ is_matched st x
      step x r there =
          by_parent x (λ p e. r p e (v.parents x p e).0) there (parent_of (elements_of st.scene) x) refl

  same_counts : cascaded_count st ≡ matched_count st
  same_counts =
      ap length (filter_same (is_cascaded st) (is_matched st) (numbers (elements_of st.scene)) (each_weaker (IsElement (elements_of st.scene)) (λ x. is_cascaded st x ≡ is_matched st x) matched_alone (numbers (elements_of st.scene)) (each_number (elements_of st.scene))))

-- a scene after an edit of its document, and after one of its sheets

abbrev pub with_edit : Scene → DocEdit → Scene
with_edit scene edit = record scene { document = after scene.document edit }

abbrev pub with_sheet_edit : Scene → SheetEdit → Scene
with_sheet_edit scene edit =
    record scene { sheets = sheets_after scene.last_sheet edit scene.sheets; last_sheet = last_after scene.last_sheet edit }

-- the scene that a standing has, and what is marked and fresh in it
pub record Stands (st : Standing) (scene : Scene) (marked fresh : List ℕ) : Type 0 where
  pub scene_is : st.scene ≡ scene
  pub marked_is : st.marked ≡ marked
  pub fresh_is : st.fresh ≡ fresh

-- how many of the edits are accepted and which are refused, where the first of them has this place, and how it stands then
pub record Comes (st : Standing) (edits : List Edit) (place count : ℕ) (refusals : List RefusedEdit) (scene : Scene) (marked fresh : List ℕ) : Type 0 where
  pub counted : accepted_among st edits ≡ count
  pub told : refused_from place st edits ≡ refusals
  pub stands : Stands (edited_all st edits) scene marked fresh

pub ends : {st : Standing} {scene : Scene} {marked fresh : List ℕ} (place : ℕ) → Stands st scene marked fresh → Comes st [] place 0 [] scene marked fresh
ends place is = record { counted = refl; told = refl; stands = is }

module _ {st : Standing} {scene : Scene} {marked fresh : List ℕ} (is : Stands st scene marked fresh) where
  applies : (edit : Edit) (o : Outcome Scene) → scene_applied scene edit ≡ o → scene_applied st.scene edit ≡ o
  applies edit o h = ap (λ s. scene_applied s edit) is.scene_is ∙ h

  -- a refused edit
  pub refuses : (edit : Edit) (why : Refusal) → scene_applied scene edit ≡ refused why → {edits : List Edit} {place : ℕ} {refusals : List RefusedEdit} {last : Scene} {ms fs : List ℕ} (count : ℕ) → (Stands (edited st edit) scene marked fresh → Comes (edited st edit) edits (place + 1) count refusals last ms fs) → Comes st (edit ∷ edits) place count (record { place = place; why = why } ∷ refusals) last ms fs
  refuses edit why h {edits} {place} {refusals} count next =
      let o = applies edit (refused why) h in
      let same : edited st edit ≡ st = ap (edited_by st edit) o in
      let rest = next (record {
        scene_is = ap (λ s. s.scene) same ∙ is.scene_is;
        marked_is = ap (λ s. s.marked) same ∙ is.marked_is;
        fresh_is = ap (λ s. s.fresh) same ∙ is.fresh_is;
      }) in
      record {
        counted = ap (λ q. with_accepted q (accepted_among (edited st edit) edits)) o ∙ rest.counted;
        told = ap (λ q. onto_refused place q (refused_from (place + 1) (edited st edit) edits)) o ∙ ap (λ l. record { place = place; why = why } ∷ l) rest.told;
        stands = rest.stands;
      }

  -- an accepted edit: whom it marks besides those that are marked, and whom it makes fresh
  accepts : (edit : Edit) (new : Scene) → scene_applied scene edit ≡ accepted new → (ns gs : List ℕ) → filter (λ x. is_in x marked || edit_marks scene edit new x) (numbers (elements_of new)) ≡ ns → filter (λ x. is_in x fresh || edit_freshens scene edit x) (numbers (elements_of new)) ≡ gs → {edits : List Edit} {place : ℕ} {refusals : List RefusedEdit} {last : Scene} {ms fs : List ℕ} (count : ℕ) → (Stands (edited st edit) new ns gs → Comes (edited st edit) edits (place + 1) count refusals last ms fs) → Comes st (edit ∷ edits) place (count + 1) refusals last ms fs
  accepts edit new h ns gs m f {edits} {place} count next =
      let o = applies edit (accepted new) h in
      let becomes : edited st edit ≡ changed st (change_of st.scene edit new) = ap (edited_by st edit) o in
      let rest = next (record {
        scene_is = ap (λ s. s.scene) becomes;
        marked_is = ap (λ s. s.marked) becomes
            ∙ (ap (λ l. filter (λ x. is_in x l || edit_marks st.scene edit new x) (numbers (elements_of new))) is.marked_is
            ∙ (ap (λ s. filter (λ x. is_in x marked || edit_marks s edit new x) (numbers (elements_of new))) is.scene_is ∙ m));
        fresh_is = ap (λ s. s.fresh) becomes
            ∙ (ap (λ l. filter (λ x. is_in x l || edit_freshens st.scene edit x) (numbers (elements_of new))) is.fresh_is
            ∙ (ap (λ s. filter (λ x. is_in x fresh || edit_freshens s edit x) (numbers (elements_of new))) is.scene_is ∙ f));
      }) in
      record {
        counted = ap (λ q. with_accepted q (accepted_among (edited st edit) edits)) o ∙ ap (λ n. n + 1) rest.counted;
        told = ap (λ q. onto_refused place q (refused_from (place + 1) (edited st edit) edits)) o ∙ rest.told;
        stands = rest.stands;
      }

  pub accepts_document : (edit : DocEdit) → refusal scene.document edit ≡ None → (selectors : List Selector) → marking_selectors scene.sheets ≡ selectors → (ns gs : List ℕ) → filter (λ x. is_in x marked || is_marked (elements_of scene) (after scene.document edit).elements selectors x) (numbers (after scene.document edit).elements) ≡ ns → filter (λ x. is_in x fresh || is_fresh scene.document edit x) (numbers (after scene.document edit).elements) ≡ gs → {edits : List Edit} {place : ℕ} {refusals : List RefusedEdit} {last : Scene} {ms fs : List ℕ} (count : ℕ) → (Stands (edited st (of_document edit)) (with_edit scene edit) ns gs → Comes (edited st (of_document edit)) edits (place + 1) count refusals last ms fs) → Comes st (of_document edit ∷ edits) place (count + 1) refusals last ms fs
  accepts_document edit h selectors are ns gs m f =
      accepts (of_document edit) (with_edit scene edit)
      (ap (λ o. with_document scene (outcome_of o (after scene.document edit))) h) ns gs
      (ap (λ l. filter (λ x. is_in x marked || is_marked (elements_of scene) (after scene.document edit).elements l x) (numbers (after scene.document edit).elements)) are ∙ m) f

  pub accepts_sheets : (edit : SheetEdit) → sheet_refusal (sheet_list scene) edit ≡ None → (ns : List ℕ) → filter (λ x. is_in x marked || is_marked_by_sheets (elements_of scene) scene.sheets (sheets_after scene.last_sheet edit scene.sheets) (number_in scene.last_sheet edit) x) (numbers (elements_of scene)) ≡ ns → (gs : List ℕ) → filter (λ x. is_in x fresh || false) (numbers (elements_of scene)) ≡ gs → {edits : List Edit} {place : ℕ} {refusals : List RefusedEdit} {last : Scene} {ms fs : List ℕ} (count : ℕ) → (Stands (edited st (of_sheets edit)) (with_sheet_edit scene edit) ns gs → Comes (edited st (of_sheets edit)) edits (place + 1) count refusals last ms fs) → Comes st (of_sheets edit ∷ edits) place (count + 1) refusals last ms fs
  accepts_sheets edit h ns m gs f =
      accepts (of_sheets edit) (with_sheet_edit scene edit)
      (ap (λ o. with_sheets scene (outcome_of o (record { listed = sheets_after scene.last_sheet edit scene.sheets; last = last_after scene.last_sheet edit }))) h) ns gs m f

-- Counts, where the children of all that is matched are matched too.

abbrev pub among : List ℕ → List ℕ → ℕ → Bool
among marked fresh x = is_in x marked || is_in x fresh

abbrev closed_at : List Element → (ℕ → Bool) → ℕ → Bool
closed_at els matched x = option_map_or (λ p. not (matched p) || matched x) (parent_of els x) true

abbrev pub are_closed : List Element → List ℕ → List ℕ → Bool
are_closed els marked fresh = list_all (closed_at els (among marked fresh)) (numbers els)

closed_child : (els : List Element) (marked fresh : List ℕ) → are_closed els marked fresh ≡ true → (x p : ℕ) → parent_of els x ≡ Some p → among marked fresh p ≡ true → among marked fresh x ≡ true
closed_child els marked fresh h x p e m =
    let found = each_is_in (λ y. closed_at els (among marked fresh) y ≡ true) x (numbers els) (each_of_all (closed_at els (among marked fresh)) (numbers els) h) (sym (is_element-numbers els x) ∙ parent_of-element els x p e) in
    implied (among marked fresh p) (among marked fresh x) (sym (ap (λ o. option_map_or (λ q. not (among marked fresh q) || among marked fresh x) o true) e) ∙ found) m
  where
    implied : (a b : Bool) → (not a || b) ≡ true → a ≡ true → b ≡ true
    implied true b g k = g
    implied false b g k = absurd (cc)

module _ {st : Standing} {scene : Scene} {marked fresh : List ℕ} (is : Stands st scene marked fresh) where
  matches : (x : ℕ) → is_matched st x ≡ among marked fresh x
  matches x = ap (λ l. is_in x l || is_in x st.fresh) is.marked_is ∙ ap (λ l. is_in x marked || is_in x l) is.fresh_is

  pub matched_is : (n : ℕ) → length (filter (among marked fresh) (numbers (elements_of scene))) ≡ n → matched_count st ≡ n
  matched_is n h =
      ap length (filter_same (is_matched st) (among marked fresh) (numbers (elements_of st.scene)) (each_any (λ x. is_matched st x ≡ among marked fresh x) matches (numbers (elements_of st.scene))))
      ∙ (ap (λ s. length (filter (among marked fresh) (numbers (elements_of s)))) is.scene_is ∙ h)

  pub cascaded_is : IsReached st → are_closed (elements_of scene) marked fresh ≡ true → (n : ℕ) → length (filter (among marked fresh) (numbers (elements_of scene))) ≡ n → cascaded_count st ≡ n
  cascaded_is reached h n k =
      let els = ap elements_of is.scene_is in
      same_counts st (sound-reached st reached).valid (keeps-reached st reached) (λ x p e m. matches x ∙ closed_child (elements_of scene) marked fresh h x p (sym (ap (λ l. parent_of l x) els) ∙ e) (sym (matches p) ∙ m))
      ∙ matched_is n k

-- an element is open where it or one above it is matched
pub open_is : {st : Standing} {scene : Scene} {marked fresh : List ℕ} → Stands st scene marked fresh → (x : ℕ) (b : Bool) → (among marked fresh x || list_any (among marked fresh) (ancestors (elements_of scene) x)) ≡ b → is_open st x ≡ b
open_is {st} {scene} {marked} {fresh} is x b h =
    ap (λ s. list_matched s (elements_of st.scene)) is.marked_is ∙ (ap (λ l. with_fresh l (elements_of st.scene)) is.fresh_is ∙ (ap (λ s. with_fresh fresh (elements_of s)) is.scene_is ∙ h))
  where
    list_matched : List ℕ → List Element → Bool
    list_matched l els = among l st.fresh x || list_any (among l st.fresh) (ancestors els x)

    with_fresh : List ℕ → List Element → Bool
    with_fresh l els = among marked l x || list_any (among marked l) (ancestors els x)

-- a job's scene
abbrev pub job : List Node → List Sheet → Scene
job nodes sheets = record { document = document_of nodes; sheets = sheets; last_sheet = length sheets }

-- after its first restyle
abbrev pub at_first : Scene → Standing
at_first scene = restyled (started scene)

-- Styles that come out different.

-- the style that is kept of an element that stays
pub kept_then : (scene : Scene) → IsSound scene.document → (edit : Edit) (new : Scene) → scene_applied scene edit ≡ accepted new → (x : ℕ) → IsElement (elements_of scene) x → IsElement (elements_of new) x → kept_at (edited (at_first scene) edit) x ≡ Some (style_in scene x)
kept_then scene sound edit new h x old there =
    ap (λ o. kept_at (edited_by (at_first scene) edit o) x) h
    ∙ (kept-changed (at_first scene) (change_of scene edit new) x there ∙ listed-styles scene sound x old)

cascades_by : (a b c : Bool) → (b || c) ≡ true → (a || (b || c)) ≡ true
cascades_by true b c h = refl
cascades_by false b c h = h

module _ {st : Standing} {scene : Scene} {marked fresh : List ℕ} (is : Stands st scene marked fresh) where
  pub by_parent : (x p : ℕ) (kept : Style) → parent_of (elements_of scene) x ≡ Some p → kept_at st p ≡ Some kept → same_style kept (style_in scene p) ≡ false → is_cascaded st x ≡ true
  by_parent x p kept e k other =
      let differs : parent_differs st x ≡ true = ap (λ s. option_map_or (λ q. not (is_style (style_in s q) (kept_at st q))) (parent_of (elements_of s) x) false) is.scene_is
      ∙ (ap (λ o. option_map_or (λ q. not (is_style (style_in scene q) (kept_at st q))) o false) e
      ∙ (ap (λ o. not (is_style (style_in scene p) o)) k ∙ ap not other)) in
      cascades_by (is_matched st x) (parent_differs st x) (root_size_differs st) (or_left (parent_differs st x) (root_size_differs st) differs)

  pub by_size : (x r : ℕ) (kept : Style) → root_of (elements_of scene) ≡ Some r → kept_at st r ≡ Some kept → int_eq (font_size_of kept.values) (root_size_in scene) ≡ false → is_cascaded st x ≡ true
  by_size x r kept e k other =
      let differs : root_size_differs st ≡ true = ap (λ s. option_map_or (λ q. not (has_size (root_size_in s) (kept_at st q))) (root_of (elements_of s)) false) is.scene_is
      ∙ (ap (λ o. option_map_or (λ q. not (has_size (root_size_in scene) (kept_at st q))) o false) e
      ∙ (ap (λ o. not (has_size (root_size_in scene) o)) k ∙ ap not other)) in
      cascades_by (is_matched st x) (parent_differs st x) (root_size_differs st) (or_right (parent_differs st x) (root_size_differs st) differs)

  -- the root where it is not matched, and what is matched
  pub root_stays : IsReached st → (r : ℕ) → root_of (elements_of scene) ≡ Some r → among marked fresh r ≡ false → is_cascaded st r ≡ false
  root_stays reached r e m =
      root-cascaded st (sound-reached st reached).valid (keeps-reached st reached) r (ap (λ s. root_of (elements_of s)) is.scene_is ∙ e)
      ∙ (matches is r ∙ m)

  pub matched_too : (x : ℕ) → among marked fresh x ≡ true → is_cascaded st x ≡ true
  matched_too x m = ap (λ b. b || (parent_differs st x || root_size_differs st)) (matches is x ∙ m)

  pub count_is : (order : List ℕ) → numbers (elements_of scene) ≡ order → (n : ℕ) → length (filter (is_cascaded st) order) ≡ n → cascaded_count st ≡ n
  count_is order e n h =
      ap (λ s. length (filter (is_cascaded st) (numbers (elements_of s)))) is.scene_is
      ∙ (ap (λ l. length (filter (is_cascaded st) l)) e ∙ h)

-- what a batch reports, and the order of the elements then
abbrev pub Reports : Standing → List Edit → ℕ → List RefusedEdit → ℕ → ℕ → List ℕ → Type 0
Reports st edits count refusals matched cascaded order =
    (accepted_among st edits ≡ count) × (refused_from 1 st edits ≡ refusals) × (matched_count (edited_all st edits) ≡ matched)
    × (cascaded_count (edited_all st edits) ≡ cascaded)
    × (numbers (elements_of (edited_all st edits).scene) ≡ order)

pub reports : {st : Standing} {edits : List Edit} {count : ℕ} {refusals : List RefusedEdit} {last : Scene} {marked fresh : List ℕ} → Comes st edits 1 count refusals last marked fresh → IsReached st → AllByRecursion IsShapedEdit edits → are_closed (elements_of last) marked fresh ≡ true → (n : ℕ) → length (filter (among marked fresh) (numbers (elements_of last))) ≡ n → (order : List ℕ) → numbers (elements_of last) ≡ order → Reports st edits count refusals n n order
reports {st} {edits} comes reached w closed n h order is = (
  comes.counted,
  comes.told,
  matched_is comes.stands n h,
  cascaded_is comes.stands (edited_all-reached st edits reached w) closed n h,
  ap (λ s. numbers (elements_of s)) comes.stands.scene_is ∙ is,
)

pub first : (scene : Scene) → Stands (at_first scene) scene [] []
first scene = record { scene_is = refl; marked_is = refl; fresh_is = refl }

pub first_reached : (nodes : List Node) → IsNodeList nodes → (sheets : List Sheet) → IsReached (at_first (job nodes sheets))
first_reached nodes w sheets = by_restyle _ (at_start _ (IsSound-document_of nodes w))

-- and after a batch and its restyle
pub next : {st : Standing} {edits : List Edit} {place count : ℕ} {refusals : List RefusedEdit} {last : Scene} {marked fresh : List ℕ} → Comes st edits place count refusals last marked fresh → Stands (restyled (edited_all st edits)) last [] []
next comes = record { scene_is = comes.stands.scene_is; marked_is = refl; fresh_is = refl }
