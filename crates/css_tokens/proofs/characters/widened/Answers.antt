use Rattle.std.proofs.Common.{◌≡◌, rules, map, ◌∙◌}
use Rattle.std.proofs.lemmas.Iterator.{YieldsList-from_map, YieldsList-from_slice, items_from_collect}
use Rattle.std.proofs.lemmas.Iterator.Consumers.{YieldsList-at}
use Rattle.std.proofs.lemmas.Result.{IfOk-weaker}
use Rattle.css_tokens.proofs.CharacterLemmas.{map_same}
use Rattle.css_tokens.proofs.characters.widened.Goals as goal

pub returns : goal.returns
returns c =
    IfOk-weaker c.collect.result (λ list. list.items ≡ map (λ b. b) c.args.bytes.now) _ (λ list e. e ∙ map_same c.args.bytes.now)
    (items_from_collect c.collect.result c.collect.ensures.ran (YieldsList-from_map _ (λ b. b) (YieldsList-at c.map.ensures.source (YieldsList-from_slice c.args.bytes.now c.iter.ensures.rest)) c.map.ensures.closure (λ x r q k. search rules)))
