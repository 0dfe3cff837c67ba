use Rattle.std.proofs.Common.{◌≡◌, ℕ, true, Option, Some, None, is_some, option_map, map, sym, ap}
use Rattle.std.specs.Prelude.{IfSome}
use Rattle.std.specs.List.{list_any}
use Rattle.edit_model.specs.Refusal.{unknown_sheet, unless}
use Rattle.edit_model.specs.SheetApply.{is_of}
use Rattle.dom_edits.specs.EditView.{refusal_answered}
use Rattle.sheet_set.specs.Kept.{kept_seen}
use Rattle.sheet_set.proofs.SheetAt.{any-at}
use Rattle.sheet_set.proofs.refused.unknown.Goals as goal

if_there : (o : Option ℕ) (P : ℕ → Type 0) (Q : Type 0) → true ≡ is_some o → IfSome o P → ((place : ℕ) → P place → Q) → Q
if_there None P Q e h to = absurd (cc)
if_there (Some place) P Q e h to = to place h

pub returns-then-is_some : goal.returns-then-is_some
returns-then-is_some c =
    let n = c.args.number in
    let sheets = c.args.sheets.now in
    let any : list_any (is_of n) (map kept_seen sheets) ≡ true = if_there c.place_of.result _ _ c.if-is_some.ensures c.place_of.ensures.some (λ place found. any-at n sheets place found.0 found.1) in
    sym (ap (λ b. option_map refusal_answered (unless b (unknown_sheet n))) any)
