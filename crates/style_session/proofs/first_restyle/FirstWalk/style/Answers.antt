use Rattle.std.proofs.Common.{◌≡◌, ℕ, Some, slice_get, map, refl, subst, sym, ap, ◌∙◌}
use Rattle.std.specs.Prelude.{IsSome}
use Rattle.std.proofs.lemmas.Option.{slice_get_within}
use Rattle.std.proofs.lemmas.Result.{on_ok_weaker}
use Rattle.scene_model.specs.Lookups.{parent_of}
use Rattle.sheet_model.specs.Sources.{sources_of}
use Rattle.sheet_set.specs.View.{kept_seen, sources_seen}
use Rattle.session_model.specs.Standing.{style_in}
use Rattle.style_session.specs.Lent.{scene_lent}
use Rattle.style_session.specs.declared.derived.StyleCache.{StyleCache}
use Rattle.style_session.proofs.FirstWalkLemmas.{first-grown, first-keeps, kept-more}
use Rattle.style_session.proofs.WalkLentLemmas.{child-over, serves-more}
use Rattle.style_session.proofs.SessionSheets.{sources-texts}
use Rattle.style_session.proofs.first_restyle.FirstWalk.style.Goals as goal

pub style_of-requires : goal.style_of-requires
style_of-requires c =
    let p = c.unwrap-parent.result in
    let next = c.requires.next in
    let hangs = sym c.parent.ensures.parent ∙ c.unwrap-parent.ensures in
    let there = (next.sound.valid.parents c.args.number p hangs).0 in
    record {
      place = record { kept = next.walk.places p there; known = next.walk.room p there };
      kept = subst IsSome (sym (next.parent p hangs)) refl;
    }

pub returns-in_err-over-clause-serves : goal.returns-in_err-over-clause-serves
returns-in_err-over-clause-serves c =
    let more = c.in_err-over.ensures.more in
    serves-more c.args.inputs.now c.args.cache.now c.style_of.new.cache more.fits more.above c.requires.serves

pub child-requires-clause-parent : goal.child-requires-clause-parent
child-requires-clause-parent c =
    let p = c.unwrap-parent.result in
    let is = c.requires.next.parent p (sym c.parent.ensures.parent ∙ c.unwrap-parent.ensures) in
    slice_get_within c.style_of.new.cache.styler.table c.in_ok-over.over _ (c.in_ok-over.ensures.style _ is (c.requires.next.walk.known p))

pub child-requires-clause-serves : goal.child-requires-clause-serves
child-requires-clause-serves c =
    let more = c.in_ok-over.ensures.more in
    serves-more c.args.inputs.now c.args.cache.now c.style_of.new.cache more.fits more.above c.requires.serves

pub keep-requires-clause-place : goal.keep-requires-clause-place
keep-requires-clause-place c =
    let next = c.requires.next in
    record { kept = next.walk.places c.args.number next.there; known = next.walk.room c.args.number next.there }

pub keep-requires-clause-style : goal.keep-requires-clause-style
keep-requires-clause-style c =
    let p = c.unwrap-parent.result in
    let is = c.requires.next.parent p (sym c.parent.ensures.parent ∙ c.unwrap-parent.ensures) in
    slice_get_within c.child.new.self.table c.in_ok-style.style _ (c.in_ok-style.ensures.style _ (c.in_ok-over.ensures.style _ is (c.requires.next.walk.known p)))

pub returns-clause-ok : goal.returns-clause-ok
returns-clause-ok c =
    let inputs = c.args.inputs.now in
    let sheets = inputs.sheets.now in
    let next = c.requires.next in
    let more = c.in_ok-over.ensures.more in
    let x : ℕ = c.args.number in
    let p : ℕ = c.unwrap-parent.result in
    let scene = scene_lent inputs in
    let parent : parent_of inputs.doc.now.elements x ≡ Some p = sym c.parent.ensures.parent ∙ c.unwrap-parent.ensures in
    let over = c.in_ok-over.ensures.style (style_in scene p) (next.parent p parent) (next.walk.known p) in
    let grown = first-grown scene c.args.cache.now c.style_of.new.cache c.args.self.now more.table more.size next.walk in
    let at : slice_get c.child.new.self.table c.in_ok-style.style ≡ Some (style_in scene x) =
    c.in_ok-style.ensures.style (style_in scene p) over
    ∙ ap Some (child-over inputs.doc.now.elements (sources_seen sheets) (sources_of (map kept_seen sheets.sheets.items)) c.style_of.new.cache.size x p
    (sources-texts sheets) next.sound.valid parent grown.size) in
    let cache : StyleCache = record c.style_of.new.cache { styler = c.child.new.self } in
    on_ok_weaker c.keep.result
    (λ keeps. record {
      walk = first-keeps scene cache x c.in_ok-style.style c.args.self.now c.keep.new.self (next.walk.room x next.there) at
          (first-grown scene c.style_of.new.cache cache c.args.self.now c.in_ok-style.ensures.kept refl grown) keeps;
      kept = λ front are. kept-more scene front x c.in_ok-style.style c.args.self.now c.keep.new.self keeps are;
    })
    (c.keep.ensures (style_in scene x) at)
