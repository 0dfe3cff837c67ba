-- Lines that are kept, over the edits of a batch, its restyle, and the printing of its elements.
use Rattle.std.proofs.Common.{◌≡◌, ℕ, ◌==◌, Bool, true, false, List, [], ◌∷◌, ◌++◌, filter, Option, Some, None, IfSome, refl, sym, ap, ◌∙◌, subst}
use Rattle.std.specs.Prelude.{encode_utf8_all}
use Rattle.std.specs.List.{AllByRecursion, range_with_len}
use Rattle.std.proofs.lemmas.Bool.{eqb-true, eqb-false}
use Rattle.base_model.proofs.Lists.{each_any, each-map}
use Rattle.scene_model.specs.Element.{Element}
use Rattle.scene_model.specs.Lookups.{IsElement, is_element, tag_of}
use Rattle.scene_model.specs.Numbers.{is_in}
use Rattle.scene_model.specs.Scene.{Scene, elements_of}
use Rattle.scene_model.proofs.Lists.{each-filter}
use Rattle.change_model.specs.Sound.{IsSound}
use Rattle.value_model.specs.Style.{Style}
use Rattle.edit_model.specs.Edit.{Edit, DocEdit, IsShaped, IsShapedEdit, SheetEdit, of_document, of_sheets}
use Rattle.edit_model.specs.Refusal.{Outcome, Refusal, accepted, outcome_of, refused}
use Rattle.edit_model.specs.Apply.{after, refusal}
use Rattle.edit_model.specs.SheetApply.{sheet_refusal, sheets_after, last_after}
use Rattle.edit_model.specs.Steady.{SameTags}
use Rattle.edit_model.proofs.Accepted.{tags-after}
use Rattle.session_model.specs.Standing.{Standing, change_of, edited, edited_by, is_cascaded, kept_at, listed_at, restyled, rising, scene_applied, sheet_list, style_in, with_document, with_sheets}
use Rattle.session_model.specs.StandingInvariant.{IsReached, at_start, by_edit, by_restyle}
use Rattle.session_model.specs.Batches.{edited_all}
use Rattle.session_model.proofs.BatchLemmas.{edited_all-reached}
use Rattle.session_model.proofs.InvariantLemmas.{keeps-reached, sound-reached}
use Rattle.session_model.proofs.KeepsLemmas.{kept-changed}
use Rattle.session_model.proofs.ListedLemmas.{among-numbers, listed-other}
use Rattle.session_model.proofs.RestyleLemmas.{kept-others}
use Rattle.report_text.specs.Lines.{element_line}
use Rattle.report_text.proofs.AppendLemmas.{alone}
use Rattle.style_cli.specs.Printing.{ServesAs}

-- what is kept is of elements

abbrev IsThere : List Element → ℕ × Style → Type 0
IsThere els e = is_element els e.0 ≡ true

there_by : (st : Standing) (edit : Edit) (o : Outcome Scene) → AllByRecursion (IsThere (elements_of st.scene)) st.kept → AllByRecursion (IsThere (elements_of (edited_by st edit o).scene)) (edited_by st edit o).kept
there_by st edit (refused why) all = all
there_by st edit (accepted now) all =
    each-filter (IsThere (elements_of st.scene)) (IsThere (elements_of now)) (λ e. is_element (elements_of now) e.0) (λ e there _. there) st.kept all

all_there : (st : Standing) → IsReached st → AllByRecursion (IsThere (elements_of st.scene)) st.kept
all_there st (at_start scene sound) = tt
all_there st (by_edit old edit w reached) =
    there_by old edit (scene_applied old.scene edit) (all_there old reached)
all_there st (by_restyle old reached) =
    let els = elements_of old.scene in
    each-map (IsThere els) (λ x. (x, style_in old.scene x)) (rising old.scene.document)
    (each-filter (λ x. Unit {0}) (λ x. is_element els x ≡ true) (is_element els) (λ x there _. there) (range_with_len 1 old.scene.document.last) (each_any (λ x. Unit {0}) (λ x. tt) (range_with_len 1 old.scene.document.last)))

listed_there : (els : List Element) (x : ℕ) (style : Style) (list : List (ℕ × Style)) → AllByRecursion (IsThere els) list → listed_at list x ≡ Some style → is_element els x ≡ true
listed_there els x style [] all is = absurd (cc)
listed_there els x style ((y, s) ∷ list) all is = by (y == x) refl (listed_there els x style list all.1)
  where
    by : (b : Bool) → (y == x) ≡ b → (listed_at list x ≡ Some style → is_element els x ≡ true) → is_element els x ≡ true
    by true e rest = ap (is_element els) (sym (eqb-true y x e)) ∙ all.0
    by false e rest = rest (sym (listed-other x y s list e) ∙ is)

kept_there : (st : Standing) → IsReached st → (x : ℕ) (style : Style) → kept_at st x ≡ Some style → IsElement (elements_of st.scene) x
kept_there st reached x style is = listed_there (elements_of st.scene) x style st.kept (all_there st reached) is

-- an edit leaves the tags as they are

document_tags : (old : Scene) → IsSound old.document → (edit : DocEdit) → IsShaped edit → (o : Option Refusal) → refusal old.document edit ≡ o → (now : Scene) → with_document old (outcome_of o (after old.document edit)) ≡ accepted now → SameTags (elements_of old) (elements_of now)
document_tags old sound edit w None h now e =
    let same : record old { document = after old.document edit } ≡ now = cc in
    subst (λ (s : Scene). SameTags (elements_of old) (elements_of s)) same (tags-after old.document sound edit w h)
document_tags old sound edit w (Some why) h now e = absurd (cc)

sheet_tags : (old : Scene) (edit : SheetEdit) (o : Option Refusal) (now : Scene) → with_sheets old (outcome_of o (record { listed = sheets_after old.last_sheet edit old.sheets; last = last_after old.last_sheet edit })) ≡ accepted now → SameTags (elements_of old) (elements_of now)
sheet_tags old edit None now e =
    let same : record old { sheets = sheets_after old.last_sheet edit old.sheets; last_sheet = last_after old.last_sheet edit } ≡ now = cc in
    subst (λ (s : Scene). SameTags (elements_of old) (elements_of s)) same (λ y here there. refl)
sheet_tags old edit (Some why) now e = absurd (cc)

scene_tags : (old : Scene) → IsSound old.document → (edit : Edit) → IsShapedEdit edit → (now : Scene) → scene_applied old edit ≡ accepted now → SameTags (elements_of old) (elements_of now)
scene_tags old sound (of_document edit) w now e =
    document_tags old sound edit w (refusal old.document edit) refl now e
scene_tags old sound (of_sheets edit) w now e = sheet_tags old edit (sheet_refusal (sheet_list old) edit) now e

-- the line of an element with a tag, in UTF-8
abbrev bytes_with : ℕ → List ℕ → Style → List ℕ
bytes_with x tag style = encode_utf8_all (element_line x tag style)

-- what is kept is this, if anything is
abbrev IsOne : {A : Type 0} → Option A → A → Type 0
IsOne o one = IfSome o (λ kept. kept ≡ one)

-- Edits leave what serves. It is told of lines in some way: the lines themselves, or their lengths.

serves_by : {A : Type 0} (told : List ℕ → A) (st : Standing) → IsReached st → (edit : Edit) → IsShapedEdit edit → (kept : ℕ → Option A) → ServesAs told st kept → (o : Outcome Scene) → scene_applied st.scene edit ≡ o → ServesAs told (edited_by st edit o) kept
serves_by told st reached edit w kept serves (refused why) e = serves
serves_by told st reached edit w kept serves (accepted now) e = λ x style is.
    let there = listed_there (elements_of now) x style (filter (λ k. is_element (elements_of now) k.0) st.kept) (there_by st edit (accepted now) (all_there st reached)) is in
    let before : kept_at st x ≡ Some style = sym (kept-changed st (change_of st.scene edit now) x there) ∙ is in
    let tags = scene_tags st.scene (sound-reached st reached) edit w now e x (kept_there st reached x style before) there in
    subst (λ tag. IsOne (kept x) (told (bytes_with x tag style))) tags (serves x style before)

pub serves-edited : {A : Type 0} (told : List ℕ → A) (st : Standing) → IsReached st → (edits : List Edit) → AllByRecursion IsShapedEdit edits → (kept : ℕ → Option A) → ServesAs told st kept → ServesAs told (edited_all st edits) kept
serves-edited told st reached [] w kept serves = serves
serves-edited told st reached (edit ∷ edits) w kept serves =
    serves-edited told (edited st edit) (by_edit st edit w.0 reached) edits w.1 kept (serves_by told st reached edit w.0 kept serves (scene_applied st.scene edit) refl)

-- and so does a restyle, once what is kept of what it cascades is forgotten

weaker_one : {A : Type 0} (new old : Option A) (one : A) → IfSome new (λ a. old ≡ Some a) → IsOne old one → IsOne new one
weaker_one None old one left is = tt
weaker_one (Some a) old one left is = subst (λ o. IsOne o one) left is

no_one : {A : Type 0} (o : Option A) (one : A) → o ≡ None → IsOne o one
no_one o one none = subst (λ p. IsOne p one) (sym none) tt

pub serves-restyled : {A : Type 0} (told : List ℕ → A) (st : Standing) → IsReached st → (kept left : ℕ → Option A) (listed : List ℕ) → ServesAs told st kept → listed ≡ (restyled st).recent → ((x : ℕ) → is_in x listed ≡ true → left x ≡ None) → ((x : ℕ) → IfSome (left x) (λ one. kept x ≡ Some one)) → ServesAs told (restyled st) left
serves-restyled told st reached kept left listed serves recent gone stays = λ x style is.
    let there = kept_there (restyled st) (by_restyle st reached) x style is in
    by x style is there (is_in x listed) refl
  where
    by : (x : ℕ) (style : Style) → kept_at (restyled st) x ≡ Some style → IsElement (elements_of st.scene) x → (b : Bool) → is_in x listed ≡ b → IsOne (left x) (told (bytes_with x (tag_of (elements_of st.scene) x) style))
    by x style is there true e = no_one (left x) (told (bytes_with x (tag_of (elements_of st.scene) x) style)) (gone x e)
    by x style is there false e =
        let not_cascaded : is_cascaded st x ≡ false = sym (among-numbers (elements_of st.scene) (is_cascaded st) x there) ∙ (ap (is_in x) (sym recent) ∙ e) in
        let before : kept_at st x ≡ Some style = sym (kept-others st (sound-reached st reached) (keeps-reached st reached) x there not_cascaded) ∙ is in
        weaker_one (left x) (kept x) (told (bytes_with x (tag_of (elements_of st.scene) x) style)) (stays x) (serves x style before)

-- a batch and its restyle
pub serves-batch : {A : Type 0} (told : List ℕ → A) (st now : Standing) → IsReached st → (edits : List Edit) → AllByRecursion IsShapedEdit edits → now ≡ restyled (edited_all st edits) → (kept left : ℕ → Option A) (listed : List ℕ) → ServesAs told st kept → listed ≡ now.recent → ((x : ℕ) → is_in x listed ≡ true → left x ≡ None) → ((x : ℕ) → IfSome (left x) (λ one. kept x ≡ Some one)) → ServesAs told now left
serves-batch told st now reached edits w is kept left listed serves recent gone stays =
    let after = edited_all st edits in
    let same = recent ∙ ap (λ (s : Standing). s.recent) is in
    subst (λ s. ServesAs told s left) (sym is) (serves-restyled told after (edited_all-reached st edits reached w) kept left listed (serves-edited told st reached edits w kept serves) same gone stays)

-- a line is made
pub made_line : (x : ℕ) (start new told tag : List ℕ) (style own : Style) → start ≡ [] → new ≡ start ++ element_line x told style → told ≡ tag → style ≡ own → new ≡ element_line x tag own
made_line x start new told tag style own empty is tagged same =
    alone start new (element_line x told style) empty is
    ∙ (ap (λ t. element_line x t style) tagged ∙ ap (element_line x tag) same)

-- and it is kept

pub serves-kept : {A : Type 0} (told : List ℕ → A) (st : Standing) (old new : ℕ → Option A) (n : ℕ) (own : Style) (one : A) → ServesAs told st old → kept_at st n ≡ Some own → one ≡ told (encode_utf8_all (element_line n (tag_of (elements_of st.scene) n) own)) → IfSome (new n) (λ kept. kept ≡ one) → ((x : ℕ) → (x ≡ n → ⊥) → new x ≡ old x) → ServesAs told st new
serves-kept told st old new n own one serves kept made is others = λ x style at. by x style at (x == n) refl
  where
    own_one : (x : ℕ) (style : Style) → x ≡ n → kept_at st x ≡ Some style → one ≡ told (bytes_with x (tag_of (elements_of st.scene) x) style)
    own_one x style same at =
        let own_style : own ≡ style = cc (ap (kept_at st) same) in
        made ∙ ap told (ap (λ s. bytes_with n (tag_of (elements_of st.scene) n) s) own_style ∙ ap (λ y. bytes_with y (tag_of (elements_of st.scene) y) style) (sym same))

    by : (x : ℕ) (style : Style) → kept_at st x ≡ Some style → (b : Bool) → (x == n) ≡ b → IsOne (new x) (told (bytes_with x (tag_of (elements_of st.scene) x) style))
    by x style at true e =
        let same = eqb-true x n e in
        subst (IsOne (new x)) (own_one x style same at) (subst (λ y. IsOne (new y) one) (sym same) is)
    by x style at false e =
        subst (λ o. IsOne o (told (bytes_with x (tag_of (elements_of st.scene) x) style))) (sym (others x (eqb-false x n e))) (serves x style at)

-- what is kept of an element's line is told of it
pub kept_one : {A : Type 0} (told : List ℕ → A) (st : Standing) (kept : ℕ → Option A) (x : ℕ) (style : Style) (one : A) → ServesAs told st kept → kept_at st x ≡ Some style → kept x ≡ Some one → one ≡ told (encode_utf8_all (element_line x (tag_of (elements_of st.scene) x) style))
kept_one told st kept x style one serves at is =
    subst (λ o. IsOne o (told (bytes_with x (tag_of (elements_of st.scene) x) style))) is (serves x style at)
