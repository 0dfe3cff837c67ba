-- Laws of steps that may give nothing.
use Rattle.std.proofs.Common.{◌≡◌, Option, Some, None, refl}
use Rattle.std.specs.Prelude.{option_map}
use Rattle.base_model.specs.Options.{◌>>=◌}

pub assoc-bind : {A B C : Type 0} (o : Option A) (f : A → Option B) (g : B → Option C)
    → ((o >>= f) >>= g) ≡ (o >>= (λ x. f x >>= g))
assoc-bind None f g = refl
assoc-bind (Some x) f g = refl

pub unit-bind : {A : Type 0} (o : Option A) → (o >>= (λ x. Some x)) ≡ o
unit-bind None = refl
unit-bind (Some x) = refl

pub none-bind : {A B : Type 0} (o : Option A) (f : A → Option B) → ((x : A) → f x ≡ None) → (o >>= f) ≡ None
none-bind None f e = refl
none-bind (Some x) f e = e x

pub ap-bind : {A B : Type 0} (o : Option A) (f g : A → Option B) → ((x : A) → f x ≡ g x) → (o >>= f) ≡ (o >>= g)
ap-bind None f g e = refl
ap-bind (Some x) f g e = e x

pub map-bind : {A B C : Type 0} (o : Option A) (f : A → B) (g : B → Option C)
    → (option_map f o >>= g) ≡ (o >>= (λ x. g (f x)))
map-bind None f g = refl
map-bind (Some x) f g = refl

pub bind-map : {A B C : Type 0} (o : Option A) (f : A → Option B) (g : B → C)
    → option_map g (o >>= f) ≡ (o >>= (λ x. option_map g (f x)))
bind-map None f g = refl
bind-map (Some x) f g = refl
