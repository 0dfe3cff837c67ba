use Rattle.std.proofs.Common.{◌≡◌, ◌<◌, List, length, rules, subst, Less, Equal, Greater}
use Rattle.std.specs.List.{HoldsAt}
use Rattle.std.specs.List.Sorted.{IsNonDecreasingBy, IsPartitionPoint}
use Rattle.std.specs.Ordering.{ordering_index}
use Rattle.std.specs.Str.{chars}
use Rattle.std.proofs.lemmas.Fn.{always_returns_same}
use Rattle.rule_maps.specs.declared.table.Head.{Head}
use Rattle.rule_maps.specs.NameOrder.{name_cmp}
use Rattle.rule_maps.proofs.HeadLemmas.{found_under, none_found}
use Rattle.rule_maps.proofs.table.Table.find_by_text.Goals as goal

pub returns-in-Ok : goal.returns-in-Ok
returns-in-Ok c =
    let name = chars c.args.name.now in
    let table = c.args.self.now in
    let index = c.in-Ok.index in
    let by_name = c.in-Ok.ensures.position (λ (head : Head). name_cmp head.name name) (always_returns_same _ _ _ (λ a r f called. search rules)) in
    found_under table.pairs.items name table.heads.items table.rising index c.part.result.now
    (subst (λ (heads : List Head). index < length heads) c.deref.ensures.value c.in-Ok.ensures.bound)
    (subst (λ (heads : List Head). HoldsAt (λ head. name_cmp head.name name ≡ Equal) heads index) c.deref.ensures.value by_name) c.part.ensures

pub returns-in-Err : goal.returns-in-Err
returns-in-Err c =
    let name = chars c.args.name.now in
    let table = c.args.self.now in
    let place = c.in-Err.field-0 in
    let by_name = c.in-Err.ensures.position (λ (head : Head). name_cmp head.name name) (always_returns_same _ _ _ (λ a r f called. search rules)) in
    none_found table.pairs.items name table.heads.items table.rising place
    (subst
    (λ (heads : List Head). IsNonDecreasingBy (λ head. ordering_index (name_cmp head.name name)) heads
    → IsPartitionPoint (λ head. name_cmp head.name name ≡ Less) (λ head. name_cmp head.name name ≡ Greater) heads place)
    c.deref.ensures.value by_name)
