use Rattle.std.proofs.Common.{◌≡◌, ◌==◌, false, get_or, subst, sym, ap, ◌∙◌}
use Rattle.std.proofs.lemmas.List.{get_or-map}
use Rattle.scene_model.proofs.Numbers.{differs}
use Rattle.dom_edits.specs.TouchView.{touch_seen}
use Rattle.invalidation_map.proofs.KeyLemmas.{key_at, other_key}
use Rattle.invalidation_map.proofs.rows.InvalidationMap.is_of.Goals as goal

pub returns-else-index-key : goal.returns-else-index-key
returns-else-index-key c = λ d.
    let rows = c.args.self.now.rows.items in
    let here : c.index.result.now ≡ key_at (get_or rows c.args.place d) = c.index.ensures
    ∙ (ap (λ ks. get_or ks c.args.place c.index.result.now) c.args.self.now.keyed ∙ get_or-map key_at rows c.args.place d c.index.result.now c.requires.place) in
    let other : (c.index.result.now == c.args.key) ≡ false = differs c.index.result.now c.args.key c.if-index-key.false in
    other
    ∙ sym (other_key (touch_seen (get_or rows c.args.place d).touch) (touch_seen c.args.touch.now) c.args.key c.requires.key (subst (λ n. (n == c.args.key) ≡ false) here other))
