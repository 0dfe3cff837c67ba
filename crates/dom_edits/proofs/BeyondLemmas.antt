-- The nodes that stand for those that are not kept.
use Rattle.std.proofs.Common.{◌≡◌, ℕ, zero, suc, ◌+◌, ◌<◌, ◌≤◌, ◌&&◌, Bool, true, false, cond, List, [], ◌∷◌, map, length, nat_le, Option, Some, None, is_some, refl, sym, ap, ◌∙◌, arith}
use Rattle.std.specs.FinMap as maps
use Rattle.std.specs.Cmp.Lexicographic.{slice_cmp}
use Rattle.std.specs.List.{list_all}
use Rattle.std.specs.Option.{option_or}
use Rattle.std.specs.Ordering.{nat_cmp}
use Rattle.std.proofs.lemmas.Bool.{lt-leb}
use Rattle.std.proofs.lemmas.Cmp.{nat_list_cmp_total}
use Rattle.base_model.specs.Limits.{attribute_limit, value_limit}
use Rattle.base_model.specs.Text.{Characters}
use Rattle.scene_model.specs.Element.{Attributes}
use Rattle.scene_model.specs.Nodes.{Node, IsNodeList}
use Rattle.edit_model.specs.Apply.{nodes_past, values_past}
use Rattle.edit_model.specs.Refusal.{attribute_count, bytes_of, limit, past, unless, value_bytes}
use Rattle.edit_model.specs.Sizes.{letters, many}
use Rattle.edit_model.proofs.LimitCases.{bytes-letters, len-many, no_entries, over, within}
use Rattle.dom_edits.specs.EditView.{nodes_beyond, refused_by, root_with}
use Rattle.dom_edits.specs.declared.edits.NodeLimit.{NodeLimit}
use Rattle.dom_edits.specs.declared.edits.NodeLimit.TheVariants as limits

-- one attribute

alone_entries : (text : Characters) → maps.entries {X = Characters} {R = slice_cmp nat_cmp} (maps.insert maps.empty [] text) ≡ ([], text) ∷ []
alone_entries text = maps.entries-insert nat_list_cmp_total maps.empty [] text ∙ ap (maps.put (slice_cmp nat_cmp) [] text) no_entries

-- a node that passes a limit

many_past : (n : ℕ) → attribute_limit < n → nodes_past (root_with (many n)) ≡ Some (limit attribute_count attribute_limit)
many_past n h =
    ap (λ o. option_or (option_or o (values_past (many n))) None) (over attribute_count attribute_limit (maps.len (many n)) (omega (arith, h, len-many n)))

long_past : (text : Characters) → value_limit < bytes_of text → nodes_past (root_with (maps.insert maps.empty [] text)) ≡ Some (limit value_bytes value_limit)
long_past text h =
    let attrs : Attributes = maps.insert maps.empty [] text in
    ap (λ o. option_or (option_or o (values_past attrs)) None) (within attribute_count attribute_limit (maps.len attrs) (omega (arith, maps.len-entries attrs, ap length (alone_entries text))))
    ∙ (ap (λ (es : List (Characters × Characters)). option_or (unless (list_all (λ t. nat_le (bytes_of t) value_limit) (map (λ (e : Characters × Characters). e.1) es)) (limit value_bytes value_limit)) None) (alone_entries text)
    ∙ ap (λ b. option_or (unless (b && true) (limit value_bytes value_limit)) None) (lt-leb (bytes_of text) value_limit h))

pub beyond_past : (which : NodeLimit) → nodes_past (nodes_beyond which) ≡ Some (refused_by which)
unfolding nodes_beyond
beyond_past limits.Attributes = many_past (attribute_limit + 1) (omega arith)
beyond_past limits.Value = long_past (letters (value_limit + 1)) (omega (arith, bytes-letters (value_limit + 1)))

pub beyond_shaped : (which : NodeLimit) → IsNodeList (nodes_beyond which)
unfolding nodes_beyond
beyond_shaped limits.Attributes = record { some = omega arith; parents = (refl, tt) }
beyond_shaped limits.Value = record { some = omega arith; parents = (refl, tt) }
