use Rattle.std.proofs.Common.{◌≡◌, ◌<◌, get_or, length, ap, sym, subst, ◌∙◌, rules}
use Rattle.std.proofs.lemmas.List.Elements.{All-set}
use Rattle.element_styler.specs.Cache.{HasRight, HaveRight, kept_key, lent_key}
use Rattle.element_styler.specs.declared.cache.Pair.{Pair}
use Rattle.element_styler.proofs.CacheLemmas.{nothing_right, pair_at, right_entry}
use Rattle.element_styler.proofs.cache.MatchedRulesCache.keep.Goals as goal
use Rattle.element_styler.proofs.cache.MatchedRulesCache.keep.Goals.{then-not-is_for, else-not-is_for}

pub returns-in_err-write : goal.returns-in_err-write
returns-in_err-write c sources size table right given =
    let pair = c.in-Some.pair.now in
    let pairs = c.args.self.now.pairs.items in
    let at : pair ≡ get_or pairs c.slot-slot.result pair = search rules in
    let below : c.slot-slot.result < length pairs = search rules in
    let have = pair_at sources size table pairs c.slot-slot.result pair at below right in
    let older : HasRight sources size table c.if-not-is_for.pair.older = elim c.if-not-is_for.branch [
      | then-not-is_for w ↦ subst (HasRight sources size table) (sym (ap (λ (p : Pair). p.older) w.pair-is ∙ w.swap.ensures.y_after)) have.newer
      | else-not-is_for w ↦ subst (HasRight sources size table) (sym (ap (λ (p : Pair). p.older) w.pair-is)) have.older
    ] in
    let newer = nothing_right sources size table (kept_key c.write.new.self) c.write.new.self.known c.in_err-write.ensures.nothing in
    All-set (HaveRight sources size table) pairs c.slot-slot.result _ (record { newer = newer; older = older }) right

pub returns-in_ok-write : goal.returns-in_ok-write
returns-in_ok-write c sources size table right given =
    let pair = c.in-Some.pair.now in
    let pairs = c.args.self.now.pairs.items in
    let at : pair ≡ get_or pairs c.slot-slot.result pair = search rules in
    let below : c.slot-slot.result < length pairs = search rules in
    let have = pair_at sources size table pairs c.slot-slot.result pair at below right in
    let older : HasRight sources size table c.if-not-is_for.pair.older = elim c.if-not-is_for.branch [
      | then-not-is_for w ↦ subst (HasRight sources size table) (sym (ap (λ (p : Pair). p.older) w.pair-is ∙ w.swap.ensures.y_after)) have.newer
      | else-not-is_for w ↦ subst (HasRight sources size table) (sym (ap (λ (p : Pair). p.older) w.pair-is)) have.older
    ] in
    let newer = right_entry sources size table (lent_key c.args.key.now) c.write.new.self c.args.known c.in_ok-write.ensures.key c.in_ok-write.ensures.known given in
    All-set (HaveRight sources size table) pairs c.slot-slot.result _ (record { newer = newer; older = older }) right
