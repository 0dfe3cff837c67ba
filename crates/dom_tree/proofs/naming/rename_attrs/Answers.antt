use Rattle.std.proofs.Common.{◌≡◌, rules, subst, sym}
use Rattle.std.specs.List.{AllByRecursion}
use Rattle.dom_tree.specs.Kept.{IsNamed}
use Rattle.dom_tree.proofs.NameLemmas.{KeepsTexts-more, renamed}
use Rattle.dom_tree.proofs.AttrLemmas.{each_front, no_rows, next_row}
use Rattle.dom_tree.proofs.naming.rename_attrs.Goals as goal

pub loop-row-init : goal.loop-row-init
loop-row-init c =
    let all : c.into_iter-row-iterator.result.iter.rest.now ≡ c.args.rows.now = search rules in
    record { so_far = no_rows c.clear.ensures.items all; named = subst (AllByRecursion (IsNamed c.args.from.now)) (sym all) c.requires.named; once = c.requires.once }

pub returns-in_err-value-clause-kept : goal.returns-in_err-value-clause-kept
returns-in_err-value-clause-kept c = KeepsTexts-more _ _ _ (KeepsTexts-more _ _ _ c.loop-row.invariant.so_far.kept c.intern.ensures.kept) c.intern-in-loop-row.ensures.kept

pub loop-row-preserved : goal.loop-row-preserved
loop-row-preserved c =
    let name = c.intern.ensures in
    let value = c.intern-in-loop-row.ensures in
    let is_name = renamed c.args.from.now c.intern.new.self c.in-Some.row.now.name c.in_ok-name.name c.in_ok-name.ensures.index c.text.ensures in
    let is_value = renamed c.args.from.now c.intern-in-loop-row.new.self c.in-Some.row.now.value c.in_ok-value.value c.in_ok-value.ensures.index c.text-in-loop-row.ensures in
    record {
      so_far = next_row c.loop-row.invariant.so_far _ _ name.kept value.kept value.distinct c.in-Some.row.now _ _ is_name is_value c.in-Some.ensures.steps c.in_ok-put.ensures.ok;
      named = each_front (IsNamed c.args.from.now) _ _ (subst (AllByRecursion (IsNamed c.args.from.now)) c.in-Some.ensures.steps c.loop-row.invariant.named);
      once = value.distinct;
    }

pub returns-in_err-put-clause-kept : goal.returns-in_err-put-clause-kept
returns-in_err-put-clause-kept c = KeepsTexts-more _ _ _ (KeepsTexts-more _ _ _ c.loop-row.invariant.so_far.kept c.intern.ensures.kept) c.intern-in-loop-row.ensures.kept
