use Rattle.filter_tests.proofs.walks.walk.Goals as goal

pub count_unlike-requires : goal.count_unlike-requires
count_unlike-requires c = c.clear.ensures.right c.args.doc.now
