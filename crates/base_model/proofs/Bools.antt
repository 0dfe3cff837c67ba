-- Truth values.
use Rattle.std.proofs.Common.{◌≡◌, Bool, ap}
use Rattle.std.specs.Prelude.{if◌then◌else◌}

-- two equal tests choose alike
pub chosen : {X : Type 0} (b c : Bool) → b ≡ c → (x y : X) → (if b then x else y) ≡ (if c then x else y)
chosen b c e x y = ap (λ b. if b then x else y) e
