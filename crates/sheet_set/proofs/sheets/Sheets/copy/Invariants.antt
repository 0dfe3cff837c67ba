use Rattle.std.proofs.Common.{◌≡◌, map, take, vec_len}
use Rattle.sheet_set.specs.Kept.{kept_seen, taking}
use Rattle.sheet_set.specs.Rules.{AreSame, rules_with}
use Rattle.sheet_set.proofs.sheets.Sheets.copy.Given as goal

-- what is there so far
abbrev pub invariant-loop-sheet : goal.invariant-loop-sheet
invariant-loop-sheet l = record {
  kept : map kept_seen l.list.items ≡ map kept_seen (take l.sheet-index l.self.sheets.items);
  rules : AreSame (rules_with l.rules.items l.selectors.items) (taking l.list.items);
  paired : vec_len l.rules ≡ vec_len l.selectors;
}
