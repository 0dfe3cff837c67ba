-- Specificities are equal where their three numbers are.
use Rattle.std.proofs.Common.{◌≡◌}
use Rattle.base_model.specs.Specificity.{Specificity}

pub same_counts : (a b : Specificity) → a.ids ≡ b.ids → a.classes ≡ b.classes → a.types ≡ b.types → a ≡ b
same_counts a b h k l = λ i. record { ids = h i; classes = k i; types = l i }
