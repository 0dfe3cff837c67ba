-- The comparison of declarations is a total order.
use Rattle.std.proofs.Common.{◌≡◌, ℕ, Bool, true, false, if◌then◌else◌, refl, sym, ap, ◌∙◌, nat_lt}
use Rattle.std.proofs.lemmas.Bool.{true≢false, false≢true}
use Rattle.std.proofs.lemmas.Cmp.{nat_cmp_total, on_total, then_total, back_total, ranked, by_ranked}
use Rattle.std.specs.Cmp.{IsTotalOrder, bool_cmp_total}
use Rattle.std.specs.declared.cmp.Ordering.{Ordering}
use Rattle.std.specs.declared.cmp.Ordering.TheVariants.{Less, Equal, Greater}
use Rattle.std.specs.Ordering.{ordering_then, ordering_reverse, nat_cmp, bool_cmp, on, then_cmp, flip_args}
use Rattle.base_model.specs.Specificity.{Specificity, specificity_cmp}
use Rattle.base_model.specs.Origin.{Origin, user_agent, user, author}
use Rattle.cascade_model.specs.Key.{Matched, band, layer_cmp, key_cmp}

-- a comparison that answers as a total order does is one
same_total : {K : Type 0} (R S : K → K → Ordering) → ((x y : K) → R x y ≡ S x y) → IsTotalOrder S → IsTotalOrder R
same_total R S same o = record {
  antisymm = λ x y. same x y ∙ (o.antisymm x y ∙ ap ordering_reverse (sym (same y x)));
  trans = λ x y z h k. same x z ∙ o.trans x y z (sym (same x y) ∙ h) (sym (same y z) ∙ k);
  congr = λ x y z h. same x z ∙ (o.congr x y z (sym (same x y) ∙ h) ∙ sym (same y z));
}

-- the band tells importance
band-important : (origin : Origin) (important : Bool) → nat_lt 2 (band origin important) ≡ important
band-important user_agent true = refl
band-important user_agent false = refl
band-important user true = refl
band-important user false = refl
band-important author true = refl
band-important author false = refl

same_importance : (a b : Matched) → band a.origin a.important ≡ band b.origin b.important → a.important ≡ b.important
same_importance a b h =
    sym (band-important a.origin a.important) ∙ (ap (nat_lt 2) h ∙ band-important b.origin b.important)

-- the layer of a normal declaration, and of an important one
abbrev upwards : Matched → ℕ
upwards d = if d.important then 0 else d.layer

abbrev downwards : Matched → ℕ
downwards d = if d.important then d.layer else 0

then-equal : (o : Ordering) → ordering_then o Equal ≡ o
then-equal Less = refl
then-equal Equal = refl
then-equal Greater = refl

-- by the layers of normal declarations, and by those of important ones the other way round
abbrev by_layers : Matched → Matched → Ordering
by_layers = then_cmp (on upwards nat_cmp) (flip_args (on downwards nat_cmp))

layers_alike : (i j : Bool) (m n : ℕ) → i ≡ j → layer_cmp i m n ≡ ordering_then (nat_cmp (if i then 0 else m) (if j then 0 else n)) (nat_cmp (if j then n else 0) (if i then m else 0))
layers_alike true true m n h = refl
layers_alike true false m n h = absurd (true≢false h)
layers_alike false true m n h = absurd (false≢true h)
layers_alike false false m n h = sym (then-equal (nat_cmp m n))

same_layers : (a b : Matched) → a.important ≡ b.important → layer_cmp a.important a.layer b.layer ≡ by_layers a b
same_layers a b h = layers_alike a.important b.important a.layer b.layer h

-- the same comparison, of parts that each are a total order
abbrev by_parts : Matched → Matched → Ordering
by_parts =
    then_cmp (on (λ (d : Matched). band d.origin d.important) nat_cmp) (then_cmp (on (λ (d : Matched). d.attached) bool_cmp) (then_cmp by_layers (then_cmp (on (λ (d : Matched). d.specificity) specificity_cmp) (then_cmp (on (λ (d : Matched). d.position) nat_cmp) (on (λ (d : Matched). d.index) nat_cmp)))))

-- what is compared third counts only where what is compared first is equal
third_counts : (x y : ℕ) (second third other rest : Ordering) → (x ≡ y → third ≡ other) → ordering_then (nat_cmp x y) (ordering_then second (ordering_then third rest)) ≡ ordering_then (nat_cmp x y) (ordering_then second (ordering_then other rest))
third_counts x y second third other rest h =
    let compared : Ordering → Ordering → Ordering = λ o t. ordering_then o (ordering_then second (ordering_then t rest)) in
    by_ranked _ _ _ {G = compared (nat_cmp x y) third ≡ compared (nat_cmp x y) other} (nat_cmp x y) (ranked x y (nat_cmp x y) refl) (λ e _. ap (λ o. compared o third) e ∙ sym (ap (λ o. compared o other) e)) (λ _ same. ap (compared (nat_cmp x y)) (h same)) (λ e _. ap (λ o. compared o third) e ∙ sym (ap (λ o. compared o other) e))

pub specificity_cmp-total : IsTotalOrder specificity_cmp
specificity_cmp-total =
    then_total (on_total (λ (s : Specificity). s.ids) nat_cmp_total) (then_total (on_total (λ (s : Specificity). s.classes) nat_cmp_total) (on_total (λ (s : Specificity). s.types) nat_cmp_total))

by_parts-total : IsTotalOrder by_parts
by_parts-total =
    then_total (on_total (λ (d : Matched). band d.origin d.important) nat_cmp_total) (then_total (on_total (λ (d : Matched). d.attached) bool_cmp_total) (then_total (then_total (on_total upwards nat_cmp_total) (back_total (on_total downwards nat_cmp_total))) (then_total (on_total (λ (d : Matched). d.specificity) specificity_cmp-total) (then_total (on_total (λ (d : Matched). d.position) nat_cmp_total) (on_total (λ (d : Matched). d.index) nat_cmp_total)))))

pub key_cmp-total : IsTotalOrder key_cmp
key_cmp-total =
    same_total key_cmp by_parts (λ a b. third_counts _ _ _ _ _ _ (λ same. same_layers a b (same_importance a b same))) by_parts-total
