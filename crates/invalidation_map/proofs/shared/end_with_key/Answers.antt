use Rattle.std.proofs.Common.{List, [], ◌∷◌, ◌++◌, subst, sym}
use Rattle.selector_types.specs.SimpleView.{key_seen}
use Rattle.invalidation_map.specs.declared.selector_key.SelectorKey.{SelectorKey}
use Rattle.invalidation_map.specs.Shared.{EndsWith, keys_seen}
use Rattle.invalidation_map.proofs.SharedLemmas.{ends_pushed}
use Rattle.invalidation_map.proofs.shared.end_with_key.Goals as goal

pub returns-in_ok-push-clause-last : goal.returns-in_ok-push-clause-last
returns-in_ok-push-clause-last c =
    subst (λ (list : List SelectorKey). EndsWith (keys_seen list) (key_seen c.args.key.now)) (sym c.in_ok-push.ensures.items)
    (subst (EndsWith (keys_seen (c.args.keys.now.items ++ c.in_ok-of.field-0 ∷ []))) c.in_ok-of.ensures
    (ends_pushed (λ (key : SelectorKey). key_seen key.key) c.args.keys.now.items c.in_ok-of.field-0))
