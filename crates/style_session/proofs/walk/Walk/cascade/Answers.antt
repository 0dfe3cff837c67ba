use Rattle.std.proofs.Common.{◌≡◌, ℕ, Bool, not, Some, map, slice_get, refl, sym, ap, ◌∙◌}
use Rattle.std.proofs.lemmas.Option.{slice_get_within}
use Rattle.std.proofs.lemmas.Result.{on_ok_weaker}
use Rattle.scene_model.specs.Lookups.{parent_of}
use Rattle.sheet_model.specs.Sources.{sources_of}
use Rattle.sheet_set.specs.View.{kept_seen, sources_seen}
use Rattle.session_model.specs.Standing.{is_style, style_in}
use Rattle.session_model.specs.Walk.{Styled}
use Rattle.style_session.specs.KeptView.{style_at}
use Rattle.style_session.specs.Lent.{lent}
use Rattle.style_session.specs.declared.derived.StyleCache.{StyleCache}
use Rattle.style_session.proofs.WalkLemmas.{met-cascaded, walk-grown, walk-handed, walk-meets}
use Rattle.style_session.proofs.WalkLentLemmas.{child-over, lent-kept}
use Rattle.style_session.proofs.SessionSheets.{sources-texts}
use Rattle.style_session.proofs.walk.Walk.cascade.Goals as goal

pub style_of-requires-clause-met : goal.style_of-requires-clause-met
style_of-requires-clause-met c = c.requires.next.parent c.unwrap-parent.result (sym c.parent.ensures.parent ∙ c.unwrap-parent.ensures)

pub meet-requires-clause-place : goal.meet-requires-clause-place
meet-requires-clause-place c =
    let over = c.in_ok-over.ensures.ok in
    record { there = c.requires.next.there; due = over.walk.due_room; known = over.walk.room c.args.number c.requires.next.there }

pub meet-requires-clause-style : goal.meet-requires-clause-style
meet-requires-clause-style c =
    let over = style_in (lent c.args.lists.now).scene c.unwrap-parent.result in
    slice_get_within c.child.new.self.table c.in_ok-style.style _ (c.in_ok-style.ensures.style over c.in_ok-over.ensures.ok.at)

pub hand_on-requires : goal.hand_on-requires
hand_on-requires c =
    let over = style_in (lent c.args.lists.now).scene c.unwrap-parent.result in
    slice_get_within c.child.new.self.table c.in_ok-style.style _ (c.in_ok-style.ensures.style over c.in_ok-over.ensures.ok.at)

pub returns-clause-ok : goal.returns-clause-ok
returns-clause-ok c =
    let lists = c.args.lists.now in
    let inputs = lists.inputs.now in
    let doc = inputs.doc.now.elements in
    let sheets = inputs.sheets.now in
    let next = c.requires.next in
    let over = c.in_ok-over.ensures.ok in
    let valid = lists.sound.valid in
    let x : ℕ = c.args.number in
    let p : ℕ = c.unwrap-parent.result in
    let st = lent lists in
    let own = style_in st.scene x in
    let slot = style_at lists.kept.now x in
    let parent : parent_of doc x ≡ Some p = sym c.parent.ensures.parent ∙ c.unwrap-parent.ensures in
    let at : slice_get c.child.new.self.table c.in_ok-style.style ≡ Some own =
    c.in_ok-style.ensures.style (style_in st.scene p) over.at
    ∙ ap Some (child-over doc (sources_seen sheets) (sources_of (map kept_seen sheets.sheets.items)) c.style_of.new.cache.size x p
    (sources-texts sheets) valid parent over.walk.size) in
    let cache : StyleCache = record c.style_of.new.cache { styler = c.child.new.self } in
    let one : Bool → Styled = λ matched. record { number = x; style = own; matched = matched } in
    let kept = lent-kept lists x next.there in
    let differs = ap (λ o. not (is_style own o)) (sym kept) in
    let walk = walk-meets st cache x c.in_ok-style.style (not (is_style own slot)) c.style_of.new.self c.meet.new.self valid
    (walk-grown st c.style_of.new.cache cache c.style_of.new.self c.in_ok-style.ensures.kept refl over.walk)
    (c.in_ok-meet.ensures own at) at differs in
    on_ok_weaker c.hand_on.result
    (λ handed. record {
      walk = walk-handed st cache (one c.is_matched.result) c.meet.new.self c.hand_on.new.self handed walk;
      met = λ front has.
          met-cascaded st front x c.in_ok-style.style (not (is_style own slot)) (one c.is_matched.result) c.style_of.new.self c.meet.new.self c.hand_on.new.self
          valid next.there next.cascaded (ap one c.is_matched.ensures) differs (c.in_ok-meet.ensures own at) handed (over.met front has);
    })
    (c.hand_on.ensures own at)
