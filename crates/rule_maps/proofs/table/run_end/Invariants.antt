use Rattle.std.proofs.Common.{◌≡◌, ℕ, ◌<◌, ◌≤◌, true, slice_index_or}
use Rattle.base_model.specs.Text.{same_text}
use Rattle.rule_maps.specs.declared.rows.Row.{Row}
use Rattle.rule_maps.specs.Rows.{name_of}
use Rattle.rule_maps.proofs.table.run_end.Given as goal

-- those before are of the name
abbrev pub invariant-loop-end : goal.invariant-loop-end
invariant-loop-end l =
    (k : ℕ) (d : Row) → l.first ≤ k → k < l.end → same_text (name_of (slice_index_or l.rows k d)) l.name ≡ true
