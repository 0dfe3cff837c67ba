use Rattle.std.proofs.Common.{◌≡◌, ◌*ℤ◌, FitsSigned, unsigned_abs, ap, ◌∙◌, rules}
use Rattle.std.specs.Int.{w64, w128}
use Rattle.std.proofs.lemmas.Int.{to_z-of_z}
use Rattle.base_model.specs.Thousandths.{clamped, rounded}
use Rattle.stylo_base.proofs.fixed.Fixed.scale.Goals as goal

pub returns : goal.returns
returns c =
    let self_fits : FitsSigned w64 c.self.inside.thousandths = search rules in
    let left : c.from.result ≡ c.args.self = c.from.ensures ∙ (to_z-of_z w64 c.self.inside.thousandths self_fits ∙ c.self.view_is) in
    let right : c.from-2.result ≡ c.args.n = c.from-2.ensures ∙ to_z-of_z w64 c.args.n c.ranges.n in
    let divisor : c.unsigned_abs.result ≡ unsigned_abs c.args.d = c.unsigned_abs.ensures.value ∙ ap unsigned_abs (to_z-of_z w64 c.args.d c.ranges.d) in
    let fits : FitsSigned w128 (c.from.result *ℤ c.from-2.result) = search rules in
    let wide_left : FitsSigned w128 c.from.result = search rules in
    let wide_right : FitsSigned w128 c.from-2.result = search rules in
    let quotient_fits : FitsSigned w128 c.divide.result = search rules in
    let quotient = simp to_z-of_z at c.divide.ensures in
    let result = simp to_z-of_z at c.clamp.ensures in
    let same : rounded (c.from.result *ℤ c.from-2.result) c.unsigned_abs.result ≡ rounded (c.args.self *ℤ c.args.n) (unsigned_abs c.args.d) =
    ap (λ x. rounded (x *ℤ c.from-2.result) c.unsigned_abs.result) left
    ∙ (ap (λ x. rounded (c.args.self *ℤ x) c.unsigned_abs.result) right ∙ ap (rounded (c.args.self *ℤ c.args.n)) divisor) in
    result ∙ ap clamped (quotient ∙ same)
