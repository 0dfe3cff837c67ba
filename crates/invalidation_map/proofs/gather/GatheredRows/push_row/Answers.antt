use Rattle.std.proofs.Common.{◌≡◌, List, ◌++◌, Option, Some, is_ok, option_map, option_to_list, ap, subst, sym, ◌∙◌}
use Rattle.selector_model.specs.Key.{Key}
use Rattle.selector_types.specs.SimpleView.{key_seen}
use Rattle.dependency_map.specs.DepView.{dep_of, path_of}
use Rattle.dom_edits.specs.TouchView.{touch_seen}
use Rattle.edit_model.specs.Touched as model
use Rattle.edit_model.specs.Dependencies.{Step}
use Rattle.invalidation_map.specs.declared.shared.DependencyRow.{DependencyRow}
use Rattle.invalidation_map.specs.Rows.{Row, row_of}
use Rattle.invalidation_map.specs.SharedRows.{AreWithin, rows_seen}
use Rattle.invalidation_map.proofs.SharedLemmas.{all_within, rows_pushed, within_tried}
use Rattle.invalidation_map.proofs.gather.GatheredRows.push_row.Goals as goal

abbrev some_row : model.Touch → List Step → Key → Option Row
some_row touch path key = Some (record { touch = touch; path = path; key = key })

pub invariant_of-self : goal.invariant_of-self
invariant_of-self c = record { within = all_within c.args.self.now.shared c.places.new.self c.places.ensures.kept c.args.self.now.rows.items c.args.self.now.within }

pub invariant_of-self-2 : goal.invariant_of-self-2
invariant_of-self-2 c =
    let old = c.args.self.now in
    let row : DependencyRow = record { touch = c.in-Some.touch; path = c.in_ok-path.path; key = c.in_ok-path.key; alone = c.is_alone-alone.result } in
    record {
      within = subst (AreWithin c.places.new.self) (sym c.push.ensures.items)
          (within_tried old.shared c.places.new.self c.places.ensures.kept old.rows.items old.within row _ _ c.in_ok-path.ensures.placed (is_ok c.push.result) c.is_alone-alone.ensures);
    }

pub returns : goal.returns
returns c =
    let old = c.args.self.now.shared in
    let rows = c.args.self.now.rows.items in
    let new = c.places.new.self in
    let row : DependencyRow = record { touch = c.in-Some.touch; path = c.in_ok-path.path; key = c.in_ok-path.key; alone = c.is_alone-alone.result } in
    let key = key_seen c.args.key.now in
    subst (λ (list : List DependencyRow). rows_seen new list ≡ rows_seen old rows ++ option_to_list (row_of key (dep_of c.args.dep.now))) (sym c.in_ok-push.ensures.items)
    (rows_pushed old new c.places.ensures.kept rows c.args.self.now.within row (path_of c.as_slice-steps.result.now) key c.in_ok-path.ensures.placed
    ∙ ap (λ o. rows_seen old rows ++ option_to_list o)
    (ap (λ (path : List Step). some_row (touch_seen c.in-Some.touch) path key) (ap path_of c.as_slice-steps.ensures.value)
    ∙ ap (option_map (λ (touch : model.Touch). record { touch = touch; path = path_of c.args.dep.now.path.items; key = key }))
    (ap (option_map touch_seen) (sym c.in-Some.is) ∙ c.in_ok-touch.ensures)))
