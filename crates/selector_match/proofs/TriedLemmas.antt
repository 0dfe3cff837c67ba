-- A selector with another to the left of it, as the code has it.
use Rattle.std.proofs.Common.{◌≡◌, ℕ, List, true, Some, sym, ap, ◌∙◌, subst}
use Rattle.std.specs.Prelude.{Box}
use Rattle.std.specs.declared.alloc.Global.{Global}
use Rattle.scene_model.specs.Element.{Element}
use Rattle.scene_model.specs.Valid.{IsValid}
use Rattle.selector_model.specs.Selector as model
use Rattle.selector_model.specs.Holds.{holds, meets}
use Rattle.selector_types.specs.declared.complex.Complex.{Complex}
use Rattle.selector_types.specs.declared.complex.Left.{Left}
use Rattle.selector_types.specs.declared.complex.Test.TheViews.{out-Complex, out-Left}
use Rattle.selector_types.specs.ComplexView.{combinator_of, complex_of, compound_of}
use Rattle.selector_types.proofs.Layers.{complex_out-some}
use Rattle.selector_match.specs.declared.match_result.MatchResult.{MatchResult}
use Rattle.selector_match.specs.Results.{Tells, holds_left}
use Rattle.selector_match.proofs.ResultLemmas.{combined_told}

-- l is what is to the left, and a and b what the code read of it
pub tried_combined : (doc : List Element) (complex : Complex) (l : Box Left Global) (a b : Left) (k : model.Combinator) (x : ℕ) (o : MatchResult) → IsValid doc → (out-Complex complex).left ≡ Some l → a ≡ l.value → b ≡ l.value → combinator_of (out-Left a).combinator ≡ k → meets doc (compound_of (out-Complex complex).subject) x ≡ true → Tells doc (holds_left doc k (complex_of (out-Left b).rest)) x o → Tells doc (holds doc (complex_of complex)) x o
tried_combined doc complex l a b k x o v left same_a same_b kind met told =
    let subject : model.Compound = compound_of (out-Complex complex).subject in
    let whole : complex_of complex ≡ model.combined subject k (complex_of (out-Left b).rest) =
    complex_out-some complex l left ∙ (ap (λ (c : Left). model.combined subject (combinator_of (out-Left c).combinator) (complex_of (out-Left l.value).rest)) (sym same_a) ∙ (ap (λ c. model.combined subject c (complex_of (out-Left l.value).rest)) kind ∙ ap (λ (c : Left). model.combined subject k (complex_of (out-Left c).rest)) (sym same_b))) in
    subst (λ s. Tells doc (holds doc s) x o) (sym whole) (combined_told doc v subject k (complex_of (out-Left b).rest) x o met told)
