-- The test of what two styles are known over is that of equality.
use Rattle.std.proofs.Common.{◌≡◌, ap}
use Rattle.std.specs.Bool.{Decides}
use Rattle.std.proofs.lemmas.Bool.Decides.{Decides-eqb, Decides-like}
use Rattle.element_styler.specs.declared.cache.Over.{Over}
use Rattle.element_styler.specs.declared.cache.Over.TheVariants.{Part, Parent}
use Rattle.element_styler.specs.Cache.{number_of}
use Rattle.element_styler.specs.contracts.cache.OverPartialEq.TheImpl.{ghosts}

pub over_eq-Decides : (a b : Over) → Decides (ghosts.eq a b) (a ≡ b)
over_eq-Decides (Part m) (Part n) = Decides-like (ghosts.eq (Part m) (Part n)) (ap Part) (ap number_of) (Decides-eqb m n)
over_eq-Decides (Part m) (Parent n) = (λ e. absurd (cc), λ e. absurd (cc))
over_eq-Decides (Parent m) (Part n) = (λ e. absurd (cc), λ e. absurd (cc))
over_eq-Decides (Parent m) (Parent n) = Decides-like (ghosts.eq (Parent m) (Parent n)) (ap Parent) (ap number_of) (Decides-eqb m n)
