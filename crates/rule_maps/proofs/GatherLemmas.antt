-- For `Gathered::push_all` and `RuleMap::of`: selectors that are gathered one after another.
use Rattle.std.proofs.Common.{◌≡◌, ℕ, ◌+◌, ◌<◌, ◌≤◌, List, [], ◌∷◌, ◌++◌, length, map, drop, get_or, refl, sym, ap, ap₂, ◌∙◌}
use Rattle.std.specs.Prelude.{Vec}
use Rattle.std.specs.declared.alloc.Global.{Global}
use Rattle.std.proofs.lemmas.List.{append-nil, append_assoc, at_drop_more, drop_all}
use Rattle.base_model.specs.Text.{Characters}
use Rattle.ancestor_filter.specs.Names.{slot}
use Rattle.selector_model.specs.Selector as model
use Rattle.selector_types.specs.declared.selector.Selector.{Selector}
use Rattle.selector_types.specs.View.{selector_of, selectors_of}
use Rattle.rule_map_model.specs.Buckets.{Bucket, of_id, of_class, of_type, of_attribute, of_any}
use Rattle.rule_map_model.specs.Places.{IsMapOf, Placed, of_bucket, placed, placed_from, placed_in, places}
use Rattle.rule_map_model.proofs.PlaceLemmas.{of_bucket-append}
use Rattle.rule_maps.specs.declared.gather.Gathered.{Gathered}
use Rattle.rule_maps.specs.declared.map.RuleMap.{RuleMap}
use Rattle.rule_maps.specs.declared.rows.Row.{Row}
use Rattle.rule_maps.specs.declared.table.Table.{Table}
use Rattle.rule_maps.specs.Gathered.{Gathers, gathered_in, row_places}
use Rattle.rule_maps.specs.Rows.{named}
use Rattle.rule_maps.specs.RulesView.{rules_seen}
use Rattle.rule_maps.specs.SlotView.{place_seen}
use Rattle.rule_maps.specs.View.{in_bucket, places_under, under}

-- So far: with these it is what it becomes with all.
pub record Leaves (first now : Gathered) (left all : List Placed) : Type 0 where
  pub each : (bucket : Bucket) → gathered_in now bucket ++ of_bucket bucket left ≡ gathered_in first bucket ++ of_bucket bucket all

pub leaves_all : (first : Gathered) (all : List Placed) → Leaves first first all all
leaves_all first all = record { each = λ bucket. refl }

pub leaves_next : (first now next : Gathered) (left one rest all : List Placed) → left ≡ one ++ rest → Gathers now next one → Leaves first now left all
    → Leaves first next rest all
leaves_next first now next left one rest all e pushed h = record {
  each = λ bucket.
      ap (λ l. l ++ of_bucket bucket rest) (pushed.each bucket)
      ∙ (append_assoc (gathered_in now bucket) (of_bucket bucket one) (of_bucket bucket rest)
      ∙ (ap (λ l. gathered_in now bucket ++ l) (sym (of_bucket-append bucket one rest) ∙ ap (of_bucket bucket) (sym e)) ∙ h.each bucket));
}

pub leaves_none : (first now : Gathered) (left all : List Placed) → left ≡ [] → Leaves first now left all → Gathers first now all
leaves_none first now left all e h = record {
  each = λ bucket.
      sym (append-nil (gathered_in now bucket)) ∙ (ap (λ l. gathered_in now bucket ++ of_bucket bucket l) (sym e) ∙ h.each bucket);
}

-- the selectors of a rule from an index on
abbrev pub in_rule_from : ℕ → List Selector → ℕ → List Placed
in_rule_from rule selectors i = placed_in slot rule i (selectors_of (drop i selectors))

pub in_rule_next : (rule i number : ℕ) (selectors : List Selector) (selector : Selector) → i < length selectors → selector ≡ get_or selectors i selector → number ≡ i
    → in_rule_from rule selectors i ≡ (placed slot rule number (selector_of selector) ∷ []) ++ in_rule_from rule selectors (i + 1)
in_rule_next rule i number selectors selector l is e =
    at_drop_more (λ ss. placed_in slot rule i (selectors_of ss)) selectors i selector l
    ∙ ap₂ (λ n (s : Selector). placed slot rule n (selector_of s) ∷ in_rule_from rule selectors (i + 1)) (sym e) (sym is)

pub in_rule_none : (rule i : ℕ) (selectors : List Selector) → length selectors ≤ i → in_rule_from rule selectors i ≡ []
in_rule_none rule i selectors l = ap (λ ss. placed_in slot rule i (selectors_of ss)) (drop_all i selectors l)

-- the rules from an index on
abbrev pub rules_from : List (Vec Selector Global) → ℕ → List Placed
rules_from rules i = placed_from slot i (rules_seen (drop i rules))

pub rules_next : (i number : ℕ) (rules : List (Vec Selector Global)) (rule : Vec Selector Global) → i < length rules → rule ≡ get_or rules i rule → number ≡ i
    → (items : List Selector) → items ≡ rule.items
    → rules_from rules i ≡ placed_in slot number 0 (selectors_of items) ++ rules_from rules (i + 1)
rules_next i number rules rule l is e items same =
    at_drop_more (λ rs. placed_from slot i (rules_seen rs)) rules i rule l
    ∙ (ap₂ (λ n (r : Vec Selector Global). placed_in slot n 0 (selectors_of r.items) ++ rules_from rules (i + 1)) (sym e) (sym is)
    ∙ ap (λ ss. placed_in slot number 0 (selectors_of ss) ++ rules_from rules (i + 1)) (sym same))

pub rules_none : (i : ℕ) (rules : List (Vec Selector Global)) → length rules ≤ i → rules_from rules i ≡ []
rules_none i rules l = ap (λ rs. placed_from slot i (rules_seen rs)) (drop_all i rules l)

-- tables of what was gathered

places_of_pairs : (rows : List Row) → map place_seen (map (λ (row : Row). row.pair) rows) ≡ row_places rows
places_of_pairs [] = refl
places_of_pairs (row ∷ rows) = ap (λ l. place_seen row.pair ∷ l) (places_of_pairs rows)

-- under each name of a table are the pairs of its rows
abbrev IsTableOf : Table → List Row → Type 0
IsTableOf table rows = (name : Characters) → under table name ≡ map (λ (row : Row). row.pair) (named name rows)

table_places : (table : Table) (rows : List Row) → IsTableOf table rows → (name : Characters) → places_under table name ≡ row_places (named name rows)
table_places table rows is name = ap (map place_seen) (is name) ∙ places_of_pairs (named name rows)

pub map_is : (first now : Gathered) (all : List (List model.Selector)) (rule_map : RuleMap) → ((bucket : Bucket) → gathered_in first bucket ≡ [])
    → Gathers first now (placed_from slot 0 all) → IsTableOf rule_map.ids now.ids.items → IsTableOf rule_map.classes now.classes.items
    → IsTableOf rule_map.types now.types.items → IsTableOf rule_map.attributes now.attributes.items → rule_map.rest.items ≡ now.rest.items
    → IsMapOf slot all (in_bucket rule_map)
map_is first now all rule_map none gathered ids classes types attributes rest = record { each = each }
  where
    told : (bucket : Bucket) → gathered_in now bucket ≡ of_bucket bucket (placed_from slot 0 all)
    told bucket = gathered.each bucket ∙ ap (λ l. l ++ of_bucket bucket (placed_from slot 0 all)) (none bucket)

    each : (bucket : Bucket) → in_bucket rule_map bucket ≡ places slot all bucket
    each (of_id name) = table_places rule_map.ids now.ids.items ids name ∙ told (of_id name)
    each (of_class class) = table_places rule_map.classes now.classes.items classes class ∙ told (of_class class)
    each (of_type tag) = table_places rule_map.types now.types.items types tag ∙ told (of_type tag)
    each (of_attribute name) = table_places rule_map.attributes now.attributes.items attributes name ∙ told (of_attribute name)
    each of_any = ap (map place_seen) rest ∙ told of_any
