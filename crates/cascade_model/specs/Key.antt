-- In which order declarations are compared (css-cascade-5, section 6.1).
use Rattle.std.specs.Prelude.{ℕ, ◌-◌, Bool, if◌then◌else◌}
use Rattle.std.specs.declared.cmp.Ordering.{Ordering}
use Rattle.std.specs.Ordering.{ordering_then, nat_cmp, bool_cmp}
use Rattle.base_model.specs.Specificity.{Specificity, specificity_cmp}
use Rattle.base_model.specs.Origin.{Origin, origin_rank}
use Rattle.sheet_model.specs.Declared.{Target, Given}

-- A declaration that applies to an element.
pub record Matched : Type 0 where
  pub target : Target
  pub given : Given
  pub origin : Origin
  pub important : Bool
  -- of the `style` attribute
  pub attached : Bool
  -- the rank of its cascade layer, which is higher for what comes later
  pub layer : ℕ
  -- the greatest among the selectors of its rule that hold at the element
  pub specificity : Specificity
  -- the number of its sheet, and the position of that among the enabled ones
  pub sheet : ℕ
  pub position : ℕ
  -- how many declarations come before it in the text of its own sheet
  pub index : ℕ

-- Important ones of the user agent are highest, then of the user, of the author; then normal ones of the author, of the
-- user, of the user agent.
abbrev pub band : Origin → Bool → ℕ
band origin important = if important then 5 - origin_rank origin else origin_rank origin

-- the later layer wins, and among important ones the earlier
abbrev pub layer_cmp : Bool → ℕ → ℕ → Ordering
layer_cmp important a b = if important then nat_cmp b a else nat_cmp a b

-- Which of two declarations of one property wins, by these in turn: origin and importance; attached; layer;
-- specificity; the position of the sheet, and the index in it. In one band all are important, or none is.
abbrev pub key_cmp : Matched → Matched → Ordering
key_cmp a b =
    ordering_then (nat_cmp (band a.origin a.important) (band b.origin b.important))
    (ordering_then (bool_cmp a.attached b.attached)
    (ordering_then (layer_cmp a.important a.layer b.layer)
    (ordering_then (specificity_cmp a.specificity b.specificity)
    (ordering_then (nat_cmp a.position b.position) (nat_cmp a.index b.index)))))

-- The level of a declaration, by which `revert-layer` goes back: its origin, whether it is attached, and its layer.
abbrev pub level_cmp : Matched → Matched → Ordering
level_cmp a b =
    ordering_then (nat_cmp (origin_rank a.origin) (origin_rank b.origin))
    (ordering_then (bool_cmp a.attached b.attached) (nat_cmp a.layer b.layer))
