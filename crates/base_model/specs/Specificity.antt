-- How specific a selector is: the counts, and how they compare (selectors-4, section 17).
use Rattle.std.specs.Prelude.{ℕ, ◌+◌, Bool, if◌then◌else◌}
use Rattle.std.specs.declared.cmp.Ordering.{Ordering}
use Rattle.std.specs.Ordering.{ordering_then, nat_cmp, is_lt}

-- ids; classes, attributes and pseudo-classes; types: compared in that order
pub record Specificity : Type 0 where
  pub ids : ℕ
  pub classes : ℕ
  pub types : ℕ

abbrev pub nothing : Specificity
nothing = record { ids = 0; classes = 0; types = 0 }

abbrev pub one_id : Specificity
one_id = record { ids = 1; classes = 0; types = 0 }

abbrev pub one_class : Specificity
one_class = record { ids = 0; classes = 1; types = 0 }

abbrev pub one_type : Specificity
one_type = record { ids = 0; classes = 0; types = 1 }

abbrev pub plus : Specificity → Specificity → Specificity
plus a b = record { ids = a.ids + b.ids; classes = a.classes + b.classes; types = a.types + b.types }

abbrev pub specificity_cmp : Specificity → Specificity → Ordering
specificity_cmp a b =
    ordering_then (nat_cmp a.ids b.ids) (ordering_then (nat_cmp a.classes b.classes) (nat_cmp a.types b.types))

abbrev pub is_less : Specificity → Specificity → Bool
is_less a b = is_lt (specificity_cmp a b)

abbrev pub greater : Specificity → Specificity → Specificity
greater a b = if is_less a b then b else a
