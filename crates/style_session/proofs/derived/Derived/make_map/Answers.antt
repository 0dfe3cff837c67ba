use Rattle.std.proofs.Common.{◌≡◌, List, flat_map, sym, ap, subst, ◌∙◌}
use Rattle.std.specs.Prelude.{Vec}
use Rattle.std.specs.List.Sorted.{IsPermutation}
use Rattle.std.specs.declared.alloc.Global.{Global}
use Rattle.selector_model.specs.Selector as model
use Rattle.selector_types.specs.View as types
use Rattle.selector_types.specs.declared.selector.Selector.{Selector}
use Rattle.sheet_set.specs.View.{sources_seen}
use Rattle.invalidation_map.specs.Rows.{rows_of}
use Rattle.invalidation_map.specs.RowView.{rows_in}
use Rattle.session_model.specs.Marking.{selectors_of}
use Rattle.style_session.proofs.SessionSheets.{selectors-with}
use Rattle.style_session.proofs.derived.Derived.make_map.Goals as goal

pub returns-in_ok-of-clause-ready : goal.returns-in_ok-of-clause-ready
returns-in_ok-of-clause-ready c =
    let sheets = c.args.sheets.now in
    let all : flat_map (λ (list : Vec Selector Global). types.selectors_of list.items) c.selectors.result.now ≡ selectors_of (sources_seen sheets) =
    ap (flat_map (λ (list : Vec Selector Global). types.selectors_of list.items)) c.selectors.ensures.list ∙ sym (selectors-with sheets) in
    record {
      styles = c.requires.styles;
      map = subst (λ (found : List model.Selector). IsPermutation (rows_of found) (rows_in c.in_ok-of.field-0)) all c.in_ok-of.ensures;
    }
