use Rattle.std.proofs.Common.{◌≡◌, ◌+◌, ◌++◌, length, map, vec_len}
use Rattle.std.specs.Vec.Iter.{into_iter_items, into_iter_len}
use Rattle.layer_order.specs.View.{sheets_from}
use Rattle.sheet_set.specs.Kept.{kept_seen, taking}
use Rattle.sheet_set.specs.Rules.{AreSame, rules_with}
use Rattle.sheet_set.proofs.sheets.Sheets.of_list.Given as goal

-- what is there so far, and the sheets that are left
abbrev pub invariant-loop-sheet : goal.invariant-loop-sheet
invariant-loop-sheet l =
    let all = into_iter_items l.initial.sheet-iterator in
    let left = into_iter_items l.sheet-iterator in record {
      kept : map kept_seen l.list.items ++ sheets_from (vec_len l.list + 1) left ≡ sheets_from 1 all;
      rules : AreSame (rules_with l.rules.items l.selectors.items) (taking l.list.items);
      paired : vec_len l.rules ≡ vec_len l.selectors;
      counted : into_iter_len l.sheet-iterator ≡ length left;
      number : vec_len l.list + into_iter_len l.sheet-iterator ≡ into_iter_len l.initial.sheet-iterator;
    }
