use Rattle.std.proofs.Common.{◌≡◌, IfOk, Some, map, slice_get, subst, sym, ◌∙◌}
use Rattle.std.specs.Arc.{arc_value}
use Rattle.std.proofs.lemmas.Option.{same_Some, slice_get_within}
use Rattle.std.proofs.lemmas.Result.{IfOk-weaker}
use Rattle.value_model.specs.Style.{Style}
use Rattle.sheet_model.specs.Sources.{sources_of}
use Rattle.sheet_set.specs.View.{kept_seen, sources_seen}
use Rattle.session_model.specs.Standing.{root_size_in, style_in}
use Rattle.style_session.specs.Lent.{scene_lent}
use Rattle.style_session.proofs.WalkLentLemmas.{root-over, root_size-over, serves-more}
use Rattle.style_session.proofs.SessionSheets.{sources-texts}
use Rattle.style_session.proofs.derived.StyleCache.root.Goals as goal

pub root-requires-clause-ready : goal.root-requires-clause-ready
root-requires-clause-ready c = record { prepared = c.requires.serves.fits.prepared_is; follows = c.requires.serves.follows }

pub style-requires : goal.style-requires
style-requires c = slice_get_within c.root.new.self.table c.in_ok-style.field-0.style _ c.in_ok-style.ensures.style

pub returns-in_err-style-clause-serves : goal.returns-in_err-style-clause-serves
returns-in_err-style-clause-serves c = c.in_err-style.ensures.serves c.args.self.now.size c.requires.serves.fits

pub returns-in_err-made-clause-serves : goal.returns-in_err-made-clause-serves
returns-in_err-made-clause-serves c = c.in_ok-style.ensures.serves c.args.self.now.size c.requires.serves.fits

pub returns-clause-ok : goal.returns-clause-ok
returns-clause-ok c =
    let inputs = c.args.inputs.now in
    let sheets = inputs.sheets.now in
    let own : Style = style_in (scene_lent inputs) c.args.root in
    let made : arc_value c.in_ok-made.made ≡ own =
    c.in_ok-made.ensures
    ∙ (same_Some _ _ (sym c.style.ensures ∙ c.in_ok-style.ensures.style)
    ∙ root-over inputs.doc.now.elements (sources_seen sheets) (sources_of (map kept_seen sheets.sheets.items)) c.args.root (sources-texts sheets)
    c.requires.root.sound.valid c.requires.root.root) in
    let sized : c.fit.new.self.size ≡ root_size_in (scene_lent inputs) =
    c.fit.ensures.size
    ∙ (c.in_ok-style.ensures.size
    ∙ root_size-over inputs.doc.now.elements (sources_seen sheets) (sources_of (map kept_seen sheets.sheets.items)) c.args.root (sources-texts sheets)
    c.requires.root.sound.valid c.requires.root.root) in
    IfOk-weaker c.adopt.result (λ style. slice_get c.adopt.new.self.table style ≡ Some own) _ (λ style at. record { at = at; size = sized })
    (subst (λ (s : Style). IfOk c.adopt.result (λ style. slice_get c.adopt.new.self.table style ≡ Some s)) made c.adopt.ensures.style)

pub returns-clause-serves : goal.returns-clause-serves
returns-clause-serves c =
    let inputs = c.args.inputs.now in
    let rooted = record c.args.self.now { styler = c.root.new.self } in
    serves-more inputs c.fit.new.self (record c.fit.new.self { styler = c.adopt.new.self })
    (λ sources prepared fits. c.adopt.ensures.fits sources c.fit.new.self.size prepared fits) c.adopt.ensures.above
    (serves-more inputs rooted c.fit.new.self c.fit.ensures.fits c.fit.ensures.above (c.in_ok-style.ensures.serves c.args.self.now.size c.requires.serves.fits))
