use Rattle.std.proofs.Common.{[], refl}
use Rattle.std.proofs.lemmas.Option.{slice_get_within}
use Rattle.std.proofs.lemmas.Result.{on_ok_weaker}
use Rattle.session_model.specs.Standing.{style_in}
use Rattle.session_model.proofs.KeepsLemmas.{root_element}
use Rattle.style_session.specs.Lent.{scene_lent}
use Rattle.style_session.proofs.FirstWalkLemmas.{first-bare, first-keeps, kept-more, kept-none}
use Rattle.style_session.proofs.first_restyle.FirstWalk.begin.Goals as goal

pub keep-requires-clause-place : goal.keep-requires-clause-place
keep-requires-clause-place c =
    let there = root_element c.args.inputs.now.doc.now.elements c.args.root c.requires.bare.root.root in
    record { kept = c.requires.bare.bare.places c.args.root there; known = c.requires.bare.bare.room c.args.root there }

pub keep-requires-clause-style : goal.keep-requires-clause-style
keep-requires-clause-style c = slice_get_within c.root.new.self.styler.table c.in_ok-style.style _ c.in_ok-style.ensures.ok.at

pub returns-clause-ok : goal.returns-clause-ok
returns-clause-ok c =
    let scene = scene_lent c.args.inputs.now in
    let r = c.args.root in
    let is = c.in_ok-style.ensures.ok in
    let within = c.requires.bare.bare.room r (root_element c.args.inputs.now.doc.now.elements r c.requires.bare.root.root) in
    on_ok_weaker c.keep.result
    (λ keeps. record {
      walk = first-keeps scene c.root.new.self r c.in_ok-style.style c.args.self.now c.keep.new.self within is.at
          (first-bare scene c.root.new.self c.args.self.now c.requires.bare.bare is.size) keeps;
      kept = kept-more scene [] r c.in_ok-style.style c.args.self.now c.keep.new.self keeps (kept-none scene [] c.args.self.now c.requires.bare.bare.empty refl);
    })
    (c.keep.ensures (style_in scene r) is.at)
