use Rattle.std.proofs.Common.{◌≡◌, ◌<◌, ℕ, Bool, true, List, [], length, not, map, sym, ap, subst, ◌∙◌}
use Rattle.std.proofs.lemmas.Option.{slice_get_within}
use Rattle.std.proofs.lemmas.Result.{on_ok_weaker}
use Rattle.value_model.specs.Style.{Style, font_size_of}
use Rattle.sheet_model.specs.Sources.{sources_of}
use Rattle.cascade_model.proofs.StyleAlong.{root_size_of-root}
use Rattle.sheet_set.specs.View.{kept_seen}
use Rattle.session_model.specs.Standing.{is_matched, is_style, style_in}
use Rattle.session_model.specs.Walk.{Styled}
use Rattle.session_model.proofs.KeepsLemmas.{root_element}
use Rattle.style_session.specs.KeptView.{style_at}
use Rattle.style_session.specs.Lent.{lent}
use Rattle.style_session.specs.Walking.{Widens}
use Rattle.style_session.proofs.WalkLemmas.{all-below, has_met-widens, met-cascaded, met-none, met-passed, size_differs-root, walk-bare, walk-begun, walk-handed, walk-meets}
use Rattle.style_session.proofs.WalkLentLemmas.{kept-found, kept-is, kept-own, lent-kept, lent-root, lent-size, root-kept, serves-more}
use Rattle.style_session.proofs.walk.Walk.begin.Goals as goal

pub is_matched-requires : goal.is_matched-requires
is_matched-requires c = root_element c.args.lists.now.inputs.now.doc.now.elements c.args.root c.requires.bare.root

-- the root keeps its style

pub unwrap-requires : goal.unwrap-requires
unwrap-requires c =
    let lists = c.args.lists.now in
    let r = c.args.root in
    kept-found c.style.result (style_at lists.kept.now r) (style_in (lent lists).scene r) c.style.ensures
    (root-kept lists r c.requires.bare.root (sym c.is_matched.ensures ∙ c.if-not-is_matched.true))

pub returns-then-not-is_matched-clause-ok : goal.returns-then-not-is_matched-clause-ok
returns-then-not-is_matched-clause-ok c =
    let lists = c.args.lists.now in
    let inputs = lists.inputs.now in
    let r = c.args.root in
    let st = lent lists in
    let there = root_element inputs.doc.now.elements r c.requires.bare.root in
    let still = sym c.is_matched.ensures ∙ c.if-not-is_matched.true in
    let calm = lent-root lists r c.requires.bare.root ∙ still in
    let kept = kept-is c.style.result c.unwrap.result (style_at lists.kept.now r) (style_in st.scene r) c.unwrap.ensures c.style.ensures
    (root-kept lists r c.requires.bare.root still) in
    record {
      walk = walk-bare st c.fit.new.self c.args.self.now c.requires.bare.bare
          (c.fit.ensures.size ∙ (c.font_size.ensures ∙ (ap (λ (s : Style). font_size_of s.values) (c.deref.ensures ∙ kept)
          ∙ sym (root_size_of-root inputs.doc.now.elements (sources_of (map kept_seen inputs.sheets.now.sheets.items)) lists.sound.valid r c.requires.bare.root))))
          (lent-size lists r c.requires.bare.root still);
      met = met-passed st [] r c.args.self.now there (kept-own lists r there calm) calm (met-none st c.args.self.now c.requires.bare.bare.styled);
    }

pub returns-then-not-is_matched-clause-serves : goal.returns-then-not-is_matched-clause-serves
returns-then-not-is_matched-clause-serves c =
    serves-more c.args.lists.now.inputs.now c.args.cache.now c.fit.new.self c.fit.ensures.fits c.fit.ensures.above c.requires.serves

-- it is matched

pub root-requires-clause-root : goal.root-requires-clause-root
root-requires-clause-root c = record { sound = c.args.lists.now.sound; root = c.requires.bare.root }

pub cascade_later-requires : goal.cascade_later-requires
cascade_later-requires c =
    all-below c.args.lists.now.inputs.now.doc.now.elements c.args.self.now.due.room c.in_tree_order.result.now c.requires.bare.bare.due_room c.in_tree_order.ensures.order

pub meet-requires-clause-place : goal.meet-requires-clause-place
meet-requires-clause-place c =
    let there = root_element c.args.lists.now.inputs.now.doc.now.elements c.args.root c.requires.bare.root in
    record {
      there = there;
      due = λ y in_doc. subst (λ n. y < n) (sym c.cascade_later.ensures.room) (c.requires.bare.bare.due_room y in_doc);
      known = subst (λ n. c.args.root < n) (sym (ap (λ v. length v.items) c.cascade_later.ensures.known)) (c.requires.bare.bare.room c.args.root there);
    }

pub meet-requires-clause-style : goal.meet-requires-clause-style
meet-requires-clause-style c = slice_get_within c.root.new.self.styler.table c.in_ok-style.style _ c.in_ok-style.ensures.ok.at

pub hand_on-requires : goal.hand_on-requires
hand_on-requires c = slice_get_within c.root.new.self.styler.table c.in_ok-style.style _ c.in_ok-style.ensures.ok.at

pub returns-clause-ok : goal.returns-clause-ok
returns-clause-ok c =
    let lists = c.args.lists.now in
    let doc = lists.inputs.now.doc.now.elements in
    let r = c.args.root in
    let st = lent lists in
    let own = style_in st.scene r in
    let slot = style_at lists.kept.now r in
    let at = c.in_ok-style.ensures.ok.at in
    let sized = c.in_ok-style.ensures.ok.size in
    let valid = lists.sound.valid in
    let there = root_element doc r c.requires.bare.root in
    let kept = lent-kept lists r there in
    let matched : is_matched st r ≡ true = sym c.is_matched.ensures ∙ c.if-not-is_matched.false in
    let one : Bool → Styled = λ b. record { number = r; style = own; matched = b } in
    let differs = ap (λ o. not (is_style own o)) (sym kept) in
    let begun = walk-begun st c.root.new.self c.is_other_size-differs.result c.args.self.now c.cascade_later.new.self c.requires.bare.bare sized
    (c.is_other_size-differs.ensures ∙ size_differs-root st r c.root.new.self.size slot c.requires.bare.root sized kept)
    (subst (λ (order : List ℕ). Widens order c.is_other_size-differs.result c.args.self.now c.cascade_later.new.self) c.in_tree_order.ensures.order c.cascade_later.ensures) in
    let walk = walk-meets st c.root.new.self r c.in_ok-style.style (not (is_style own slot)) c.cascade_later.new.self c.meet.new.self valid begun
    (c.in_ok-meet.ensures own at) at differs in
    on_ok_weaker c.hand_on.result
    (λ handed. record {
      walk = walk-handed st c.root.new.self (one true) c.meet.new.self c.hand_on.new.self handed walk;
      met = met-cascaded st [] r c.in_ok-style.style (not (is_style own slot)) (one true) c.cascade_later.new.self c.meet.new.self c.hand_on.new.self valid there
          (lent-root lists r c.requires.bare.root ∙ matched) (ap one (sym matched)) differs (c.in_ok-meet.ensures own at) handed
          (has_met-widens st c.in_tree_order.result.now c.is_other_size-differs.result c.args.self.now c.cascade_later.new.self c.cascade_later.ensures c.requires.bare.bare.styled);
    })
    (c.hand_on.ensures own at)
