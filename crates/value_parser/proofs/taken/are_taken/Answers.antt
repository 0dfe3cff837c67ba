use Rattle.std.proofs.Common.{◌≡◌, rules, tests, ◌∙◌}
use Rattle.std.proofs.lemmas.Iterator.{YieldsList-from_slice, YieldsList-from_zip}
use Rattle.std.proofs.lemmas.Iterator.Consumers.{YieldsList-at}
use Rattle.std.proofs.lemmas.Iterator.Search.{all_from_yields_List}
use Rattle.value_parser.proofs.TakenLemmas.{is_taken, all_taken}
use Rattle.value_parser.proofs.taken.are_taken.Goals as goal

pub returns : goal.returns
returns c =
    let ids = c.args.ids.now in
    let parts = c.args.parts.now in
    let second : c.zip.result.b.rest.now ≡ parts = c.zip.ensures.second.0 in
    let road = YieldsList-from_zip (YieldsList-at c.zip.ensures.first (YieldsList-from_slice ids c.iter.ensures.rest)) (YieldsList-from_slice parts second) in
    all_from_yields_List is_taken c.all.new.self _ c.all.result c.all.ensures.ran road (λ x b q k. search (rules, tests))
    ∙ all_taken ids parts
