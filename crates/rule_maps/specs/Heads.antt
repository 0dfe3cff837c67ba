-- The heads of a table: names that rise, each with a part of one list.
use Rattle.std.specs.Prelude.{◌≡◌, ℕ, ◌-◌, ◌≤◌, List, [], take, drop, encode_utf8_all, flat_map, if◌then◌else◌}
use Rattle.std.specs.declared.cmp.Ordering.TheVariants.{Less}
use Rattle.base_model.specs.Text.{Characters, same_text}
use Rattle.stylo_base.specs.NameKey.{key_of}
use Rattle.rule_maps.specs.NameOrder.{name_cmp}
use Rattle.rule_maps.specs.declared.table.Head.{Head}

abbrev pub key_under : Head → ℕ
key_under head = key_of (encode_utf8_all head.name)

abbrev pub IsBefore : Head → Head → Type 0
IsBefore a b = name_cmp a.name b.name ≡ Less

-- it is a part of so many items
pub record IsPart (count : ℕ) (head : Head) : Type 0 where
  pub rises : head.first ≤ head.end
  pub fits : head.end ≤ count

abbrev pub part_of : {X : Type 0} → List X → Head → List X
part_of list head = take (head.end - head.first) (drop head.first list)

-- the items under a name
abbrev pub part_under : {X : Type 0} → List Head → List X → Characters → List X
part_under heads list name =
    flat_map (λ head. if same_text name head.name then part_of list head else []) heads
