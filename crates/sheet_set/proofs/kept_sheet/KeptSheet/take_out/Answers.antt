use Rattle.std.proofs.Common.{◌≡◌, ◌++◌, [], false, length, take, drop, ap, sym, subst, ◌∙◌, arith}
use Rattle.std.proofs.lemmas.List.{nil_from_length}
use Rattle.edit_model.specs.SheetApply.{with_enabled}
use Rattle.sheet_set.specs.Kept.{kept_seen}
use Rattle.sheet_set.specs.Rules.{AreSame, rules_at, rules_with}
use Rattle.sheet_set.proofs.Taking.{at-enabled, length-part, part_of, taken_out}
use Rattle.sheet_set.proofs.kept_sheet.KeptSheet.take_out.Goals as goal

pub invariant_of-self : goal.invariant_of-self
invariant_of-self c =
    let rules = c.args.rules.now in
    let lists = c.args.selectors.now in
    let at = c.args.at in
    let count = c.args.self.now.count in
    let sheet = kept_seen c.args.self.now in
    let its = c.move_part.new.to in
    let their = c.move_part-2.new.to in
    let same : length rules.items ≡ length lists.items = omega (arith, c.requires.paired, rules.ok, lists.ok) in
    let no_rules : c.args.room.rules.items ≡ [] = nil_from_length c.args.room.rules.items (omega (arith, c.args.room.empty, c.args.room.rules.ok)) in
    let no_lists : c.args.room.selectors.items ≡ [] = nil_from_length c.args.room.selectors.items (omega (arith, c.args.room.none, c.args.room.selectors.ok)) in
    let its_are : its.items ≡ take count (drop at rules.items) = c.move_part.ensures.moved ∙ ap (λ l. l ++ take count (drop at rules.items)) no_rules in
    let their_are : their.items ≡ take count (drop at lists.items) = c.move_part-2.ensures.moved ∙ ap (λ l. l ++ take count (drop at lists.items)) no_lists in
    let long : length its.items ≡ count = ap length its_are ∙ length-part at count rules.items c.requires.within in
    let there : length their.items ≡ count = ap length their_are ∙ length-part at count lists.items (omega (arith, same, c.requires.within)) in
    let are : rules_with its.items their.items ≡ take count (drop at (rules_with rules.items lists.items)) =
    ap (λ l. rules_with l their.items) its_are ∙ (ap (rules_with (take count (drop at rules.items))) their_are ∙ part_of at rules.items lists.items same count) in
    record {
      paired = omega (arith, long, there, its.ok, their.ok);
      held = omega (arith, long, its.ok);
      own = subst (λ l. AreSame l (rules_at 0 (with_enabled false sheet))) (sym are) (subst (AreSame (take count (drop at (rules_with rules.items lists.items)))) (sym (at-enabled sheet false 0)) c.requires.its);
      declared = c.args.self.now.declared;
      counted = c.args.self.now.counted;
    }

pub returns-clause-rules : goal.returns-clause-rules
returns-clause-rules c =
    let rules = c.args.rules.now in
    let lists = c.args.selectors.now in
    let at = c.args.at in
    let count = c.args.self.now.count in
    let same : length rules.items ≡ length lists.items = omega (arith, c.requires.paired, rules.ok, lists.ok) in
    ap (λ l. rules_with l c.move_part-2.new.list.items) c.move_part.ensures.left
    ∙ (ap (rules_with (take at rules.items ++ drop count (drop at rules.items))) c.move_part-2.ensures.left
    ∙ taken_out at rules.items lists.items same count)
