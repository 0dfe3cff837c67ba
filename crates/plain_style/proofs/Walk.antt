-- For style_all: each element is styled over its parent, and one more is styled.
use Rattle.std.proofs.Common.{◌≡◌, ℕ, ℤ, ◌+◌, ◌<◌, false, List, [], ◌∷◌, ◌++◌, map, length, take, get_or, Some, sym, ap, ◌∙◌, add-one}
use Rattle.std.proofs.lemmas.List.{map-append}
use Rattle.std.proofs.Math.Seq.{take-suc}
use Rattle.scene_model.specs.Element.{Element}
use Rattle.scene_model.specs.Lookups.{parent_of}
use Rattle.scene_model.specs.Valid.{IsValid}
use Rattle.value_model.specs.Style.{Style}
use Rattle.sheet_model.specs.Sources.{Sources}
use Rattle.cascade_model.specs.Matching.{matching}
use Rattle.cascade_model.specs.Cascade.{cascaded}
use Rattle.cascade_model.specs.StyleOf.{root_size_of, style_of}
use Rattle.cascade_model.proofs.StyleAlong.{style_of-child}

-- each other element is styled over its parent
pub over_parent : (doc : List Element) (sources : Sources) (x p : ℕ) (size : ℤ) → IsValid doc → parent_of doc x ≡ Some p → size ≡ root_size_of doc sources → cascaded false (style_of doc sources p) size (matching doc sources x) ≡ style_of doc sources x
over_parent doc sources x p size valid parent root =
    ap (λ z. cascaded false (style_of doc sources p) z (matching doc sources x)) root ∙ sym (style_of-child doc sources valid x p parent)

pub styled_more : {A : Type 0} (value : A → Style) (style : ℕ → Style) (items new : List A) (last : A) (order : List ℕ) (k : ℕ) → k < length order → new ≡ items ++ last ∷ []
    → map value items ≡ map style (take k order) → value last ≡ style (get_or order k 0) → map value new ≡ map style (take (k + 1) order)
styled_more value style items new last order k below e old same =
    ap (map value) e ∙ map-append value items (last ∷ []) ∙ ap (λ l. l ++ value last ∷ []) old ∙ ap (λ s. map style (take k order) ++ s ∷ []) same ∙ sym (ap (λ m. map style (take m order)) (add-one k) ∙ ap (map style) (take-suc order k 0 below) ∙ map-append style (take k order) (get_or order k 0 ∷ []))
