use Rattle.std.proofs.Common.{◌≡◌, ◌++◌, length, take, drop, vec_len, ap, ◌∙◌, arith}
use Rattle.std.proofs.lemmas.Bool.{cond-false}
use Rattle.sheet_set.specs.Rules.{rules_with}
use Rattle.sheet_set.proofs.Taking.{put_in}
use Rattle.sheet_set.proofs.kept_sheet.KeptSheet.bring_in.Goals as goal

pub put_part-requires-clause-room : goal.put_part-requires-clause-room
put_part-requires-clause-room c =
    let its : vec_len c.args.self.now.rules ≡ c.args.self.now.count = c.args.self.now.held ∙ cond-false c.args.self.now.enabled 0 c.args.self.now.count c.requires.off in
    omega (arith, its, c.requires.room)

pub put_part-requires-2-clause-room : goal.put_part-requires-2-clause-room
put_part-requires-2-clause-room c =
    let its : vec_len c.args.self.now.rules ≡ c.args.self.now.count = c.args.self.now.held ∙ cond-false c.args.self.now.enabled 0 c.args.self.now.count c.requires.off in
    omega (arith, its, c.args.self.now.paired, c.requires.paired, c.requires.selectors_room)

pub returns-clause-rules : goal.returns-clause-rules
returns-clause-rules c =
    let rules = c.args.rules.now in
    let lists = c.args.selectors.now in
    let own = c.args.self.now in
    let at = c.args.at in
    let same : length rules.items ≡ length lists.items = omega (arith, c.requires.paired, rules.ok, lists.ok) in
    let paired : length own.rules.items ≡ length own.selectors.items = omega (arith, own.paired, own.rules.ok, own.selectors.ok) in
    ap (λ l. rules_with l c.put_part-2.new.list.items) c.put_part.ensures.items
    ∙ (ap (rules_with (take at rules.items ++ (own.rules.items ++ drop at rules.items))) c.put_part-2.ensures.items
    ∙ put_in at rules.items lists.items same own.rules.items own.selectors.items paired)
