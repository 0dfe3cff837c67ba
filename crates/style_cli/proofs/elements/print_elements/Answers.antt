use Rattle.std.proofs.Common.{List, ℕ, ap, sym, refl, ◌∙◌, subst, arith, rules}
use Rattle.std.specs.List.{AllByRecursion}
use Rattle.base_model.proofs.Results.{on_err}
use Rattle.scene_model.specs.Document.{Document}
use Rattle.scene_model.specs.Lookups.{IsElement, numbers}
use Rattle.scene_model.specs.Scene.{elements_of}
use Rattle.sheet_model.specs.Sources.{sources_of}
use Rattle.session_model.proofs.FlagLemmas.{each_number}
use Rattle.report_text.specs.Elements.{line_bytes, lines_bytes}
use Rattle.style_cli.specs.Printing.{Serves}
use Rattle.style_lines.specs.Loops.{GrewByFront}
use Rattle.style_lines.proofs.Fronts.{next_begun, next_written}
use Rattle.style_cli.proofs.elements.print_elements.Goals as goal

pub printing-init : goal.printing-init
printing-init g c =
    let scene = c.args.session.now.scene in
    let order = c.in_tree_order-number-items.ensures.order ∙ ap (λ (d : Document). numbers d.elements) c.doc.ensures in
    record {
      elements = subst (AllByRecursion (IsElement (elements_of scene))) (sym order) (each_number (elements_of scene));
      later = omega arith;
      serves = subst (Serves c.args.session.now) (sym c.count_anew.ensures) c.requires.serves;
      written = search rules;
    }

pub returns-in_err-print_line-clause-err : goal.returns-in_err-print_line-clause-err
returns-in_err-print_line-clause-err g c =
    let scene = c.args.session.now.scene in
    let items = c.in_tree_order-number-items.result.now in
    let order = c.in_tree_order-number-items.ensures.order ∙ ap (λ (d : Document). numbers d.elements) c.doc.ensures in
    on_err c.from_residual.result _ (subst (λ (xs : List ℕ). GrewByFront (g.K.Sink.held c.args.sink.now) (g.K.Sink.held c.print_line.new.sink) (lines_bytes scene xs)) order
    (next_begun (line_bytes (elements_of scene) (sources_of scene.sheets)) items c.printing.number-index 0 (g.K.Sink.held c.args.sink.now) (g.K.Sink.held c.printing.sink) (g.K.Sink.held c.print_line.new.sink) _ c.printing-test.true refl c.printing.invariant.written c.in_err-print_line.ensures.err))

pub printing-preserved : goal.printing-preserved
printing-preserved g c =
    let scene = c.args.session.now.scene in
    let items = c.in_tree_order-number-items.result.now in
    record {
      elements = c.printing.invariant.elements;
      later = search rules;
      serves = c.in_ok-print_line.ensures.serves;
      written = next_written (line_bytes (elements_of scene) (sources_of scene.sheets)) items c.printing.number-index 0 (g.K.Sink.held c.args.sink.now) (g.K.Sink.held c.printing.sink) (g.K.Sink.held c.print_line.new.sink) _ c.printing-test.true refl c.printing.invariant.written c.in_ok-print_line.ensures.ok;
    }
