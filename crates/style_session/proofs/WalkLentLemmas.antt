-- For `Walk::begin`: what a session lends to a restyle is what its standing tells.
use Rattle.std.proofs.Common.{◌≡◌, ℕ, ℤ, List, Bool, true, false, not, Option, Some, None, option_map, refl, sym, ap, subst, ◌∙◌}
use Rattle.std.proofs.Math.Logic.{∥∥₁_elim}
use Rattle.std.specs.Prelude.{◌↔◌, IsSome, IsTrue}
use Rattle.std.specs.Arc.{arc_value}
use Rattle.std.specs.Borrow.{Bor}
use Rattle.std.specs.Coded.{Coded, Coded-set, code_by, coded×, coded_ℕ, coded_bool, coded_list, coded_option}
use Rattle.std.specs.declared.sync.Arc.{Arc}
use Rattle.std.proofs.lemmas.Bool.{or_parts}
use Rattle.std.proofs.lemmas.Bool.Decides.{same_from_decides}
use Rattle.std.proofs.lemmas.Option.{none-some, same_Some}
use Rattle.scene_model.specs.Element.{Element}
use Rattle.scene_model.specs.Lookups.{parent_of, IsElement}
use Rattle.scene_model.specs.Valid.{IsValid}
use Rattle.value_model.specs.Style.{Style, font_size_of, initial_size, initial_style, style_code}
use Rattle.sheet_model.specs.Sources.{Sources}
use Rattle.cascade_model.specs.Cascade.{cascaded}
use Rattle.cascade_model.specs.Matching.{matching}
use Rattle.cascade_model.specs.StyleOf.{root_of, root_size_at, root_size_of, style_of}
use Rattle.cascade_model.proofs.StyleAlong.{parent_of-root, root_size_of-root, style_of-child, style_of-root}
use Rattle.sheet_set.specs.View.{sources_seen}
use Rattle.element_styler.specs.Fits.{Fits}
use Rattle.element_styler.specs.Follows.{Follows}
use Rattle.element_styler.specs.declared.prepared.Inputs.{Inputs}
use Rattle.element_styler.specs.declared.prepared.Prepared.{Prepared}
use Rattle.session_model.specs.Same.{same_style}
use Rattle.session_model.specs.Standing.{is_cascaded, is_matched, is_style, kept_at, root_size_differs, style_in}
use Rattle.session_model.specs.StandingInvariant.{AllKeep}
use Rattle.session_model.specs.Walk.{Styled}
use Rattle.session_model.proofs.KeepsLemmas.{kept-not_cascaded, root_element}
use Rattle.session_model.proofs.OpenLemmas.{kept_root, root-cascaded, size-root}
use Rattle.session_model.proofs.SameLemmas.{same_style-Decides}
use Rattle.session_model.proofs.SlotLemmas.{listed-placed}
use Rattle.session_model.proofs.WalkLemmas.{results-now}
use Rattle.style_session.specs.KeptView.{style_at}
use Rattle.style_session.specs.Lent.{ServesInputs, lent}
use Rattle.style_session.specs.PendingView.{is_fresh_in, is_pending_in}
use Rattle.style_session.specs.SessionView.{scene_seen}
use Rattle.style_session.specs.declared.derived.StyleCache.{StyleCache}
use Rattle.style_session.specs.declared.lists.Lists.{Lists}
use Rattle.style_session.proofs.SessionLemmas.{matched-with}
use Rattle.style_session.proofs.WalkLemmas.{AreCascaded}

styled_code : Coded Styled
styled_code =
    code_by (ℕ × (Style × Bool)) (coded× coded_ℕ (coded× style_code coded_bool))
    (λ s. (s.number, (s.style, s.matched)))
    (λ p. record { number = p.0; style = p.1.0; matched = p.1.1 })
    (λ _. refl)

-- the marked and the fresh elements
pub matched-seen : (lists : Lists) (x : ℕ) → IsElement lists.inputs.now.doc.now.elements x → is_pending_in lists.pending.now x ≡ is_matched (lent lists) x
matched-seen lists x there =
    let inputs = lists.inputs.now in
    let kept = lists.kept.now in
    sym (matched-with (scene_seen inputs.doc.now inputs.sheets.now) lists.pending.now.marked (is_fresh_in lists.pending.now) (style_at kept) kept.recent x there)

-- the kept style of an element
pub lent-kept : (lists : Lists) (x : ℕ) → IsElement lists.inputs.now.doc.now.elements x → kept_at (lent lists) x ≡ style_at lists.kept.now x
lent-kept lists x there = listed-placed (style_at lists.kept.now) lists.inputs.now.doc.now lists.sound x there

-- a test of two styles tells whether the kept one is this
pub other_style : (r : Bool) (kept style : Style) (o : Option Style) → (IsTrue r ↔ (kept ≡ style)) → Some kept ≡ o → not r ≡ not (is_style style o)
other_style r kept style o h e =
    ap not (same_from_decides r (same_style kept style) h (same_style-Decides kept style)) ∙ ap (λ o. not (is_style style o)) e

-- a style that is kept is found

pub kept-found : {A : Type 0} (o : Option (Bor (Arc Style A))) (slot : Option Style) (style : Style) → option_map (λ (kept : Bor (Arc Style A)). arc_value kept.now) o ≡ slot → slot ≡ Some style
    → IsSome o
kept-found None slot style e h = absurd (none-some style (e ∙ h))
kept-found (Some kept) slot style e h = refl

pub kept-there : {A : Type 0} (o : Option (Bor (Arc Style A))) (slot : Option Style) → option_map (λ (kept : Bor (Arc Style A)). arc_value kept.now) o ≡ slot → IsSome slot → IsSome o
kept-there None slot e h = subst IsSome (sym e) h
kept-there (Some kept) slot e h = refl

pub kept-is : {A : Type 0} (o : Option (Bor (Arc Style A))) (kept : Bor (Arc Style A)) (slot : Option Style) (style : Style) → o ≡ Some kept
    → option_map (λ (kept : Bor (Arc Style A)). arc_value kept.now) o ≡ slot → slot ≡ Some style → arc_value kept.now ≡ style
kept-is {A = A} o kept slot style is e h =
    same_Some _ _ (sym (ap (option_map (λ (kept : Bor (Arc Style A)). arc_value kept.now)) is) ∙ (e ∙ h))

-- the root's style, where it is computed and where it is kept

pub root-over : (doc : List Element) (seen sources : Sources) (r : ℕ) → ∥ seen ≡ sources ∥₁ → IsValid doc → root_of doc ≡ Some r
    → cascaded true initial_style initial_size (matching doc seen r) ≡ style_of doc sources r
root-over doc seen sources r same v is =
    ∥∥₁_elim same (Coded-set style_code _ _) (λ same.
    ap (λ s. cascaded true initial_style initial_size (matching doc s r)) same ∙ sym (style_of-root doc sources v r (parent_of-root doc v r is)))

pub root_size-over : (doc : List Element) (seen sources : Sources) (r : ℕ) → ∥ seen ≡ sources ∥₁ → IsValid doc → root_of doc ≡ Some r → root_size_at doc seen r ≡ root_size_of doc sources
root_size-over doc seen sources r same v is =
    ap (λ (s : Style). font_size_of s.values) (root-over doc seen sources r same v is) ∙ sym (root_size_of-root doc sources v r is)

-- what is neither marked nor fresh keeps its style
pub kept-own : (lists : Lists) (x : ℕ) → IsElement lists.inputs.now.doc.now.elements x → is_cascaded (lent lists) x ≡ false
    → kept_at (lent lists) x ≡ Some (style_in (lent lists).scene x)
kept-own lists x there h =
    let st = lent lists in
    ∥∥₁_elim lists.keeps (Coded-set (coded_option style_code) _ _)
    (λ (all : AllKeep st). kept-not_cascaded st lists.sound.valid x (all x there (or_parts (is_matched st x) _ h).0) h)

pub root-kept : (lists : Lists) (r : ℕ) → root_of lists.inputs.now.doc.now.elements ≡ Some r → is_matched (lent lists) r ≡ false
    → style_at lists.kept.now r ≡ Some (style_in (lent lists).scene r)
root-kept lists r is h =
    let st = lent lists in
    let doc = lists.inputs.now.doc.now.elements in
    let there = root_element doc r is in
    sym (lent-kept lists r there)
    ∙ ∥∥₁_elim lists.keeps (Coded-set (coded_option style_code) _ _)
    (λ (all : AllKeep st). (kept_root st lists.sound.valid r there (all r there h) (parent_of-root doc lists.sound.valid r is)).0)

-- the root is cascaded exactly where it is matched, and only then its font size can be another one

pub lent-root : (lists : Lists) (r : ℕ) → root_of lists.inputs.now.doc.now.elements ≡ Some r → is_cascaded (lent lists) r ≡ is_matched (lent lists) r
lent-root lists r is =
    let st = lent lists in
    ∥∥₁_elim lists.keeps (Coded-set coded_bool _ _) (λ (all : AllKeep st). root-cascaded st lists.sound.valid all r is)

pub lent-size : (lists : Lists) (r : ℕ) → root_of lists.inputs.now.doc.now.elements ≡ Some r → is_matched (lent lists) r ≡ false
    → root_size_differs (lent lists) ≡ false
lent-size lists r is h =
    let st = lent lists in
    ∥∥₁_elim lists.keeps (Coded-set coded_bool _ _) (λ (all : AllKeep st). size-root st lists.sound.valid all r is h)

-- what the definition's walk hands on
pub lent-results : (lists : Lists) → AreCascaded (lent lists)
lent-results lists =
    let st = lent lists in
    ∥∥₁_elim lists.keeps (Coded-set (coded_list styled_code) _ _) (λ (all : AllKeep st). results-now st lists.sound.valid all)

-- what serves still does where no less is right of the styles, and the ancestors are the same
pub serves-more : (inputs : Inputs) (was now : StyleCache)
    → ((sources : Sources) (prepared : Prepared) → Fits sources was.size prepared was.styler → Fits sources now.size prepared now.styler)
    → now.styler.above ≡ was.styler.above → ServesInputs inputs was → ServesInputs inputs now
serves-more inputs was now more same serves = record {
  fits = more (sources_seen inputs.sheets.now) inputs.prepared.now serves.fits;
  follows = subst (Follows inputs.doc.now.elements) (sym same) serves.follows;
}

-- each other element is styled over its parent
pub child-over : (doc : List Element) (seen sources : Sources) (size : ℤ) (x p : ℕ) → ∥ seen ≡ sources ∥₁ → IsValid doc → parent_of doc x ≡ Some p → size ≡ root_size_of doc sources
    → cascaded false (style_of doc sources p) size (matching doc seen x) ≡ style_of doc sources x
child-over doc seen sources size x p same v parent root =
    ∥∥₁_elim same (Coded-set style_code _ _) (λ same.
    ap (λ s. cascaded false (style_of doc sources p) size (matching doc s x)) same
    ∙ (ap (λ z. cascaded false (style_of doc sources p) z (matching doc sources x)) root ∙ sym (style_of-child doc sources v x p parent)))
