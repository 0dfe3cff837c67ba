-- Lemmas on lists: what holds of each element, filters and joined lists.
use Rattle.std.proofs.Common.{◌≡◌, ℕ, zero, suc, List, [], ◌∷◌, ◌++◌, map, filter, flat_map, take, drop, slice_get, Bool, true, false, cond, Some, refl, ap, ◌∙◌, arith}
use Rattle.std.specs.List.{AllByRecursion}
use Rattle.std.proofs.lemmas.List.Elements.{filter-append}
use Rattle.std.proofs.lemmas.List.Concat.{flat_map-append}
use Rattle.std.proofs.lemmas.Option.{same_Some}
use Rattle.std.proofs.lemmas.Bool.{cond-false}
pub use Rattle.base_model.proofs.Lists.{each_weaker}
use Rattle.base_model.proofs.Lists.{each-append}

-- what holds of each element

pub each_both : {X : Type 0} (P Q : X → Type 0) (xs : List X) → AllByRecursion P xs → AllByRecursion Q xs → AllByRecursion (λ x. P x × Q x) xs
each_both P Q [] h k = tt
each_both P Q (x ∷ xs) h k = ((h.0, k.0), each_both P Q xs h.1 k.1)

pub each-flat_map : {X Y : Type 0} (P : Y → Type 0) (f : X → List Y) (xs : List X) → AllByRecursion (λ x. AllByRecursion P (f x)) xs → AllByRecursion P (flat_map f xs)
each-flat_map P f [] h = tt
each-flat_map P f (x ∷ xs) h = each-append P (f x) (flat_map f xs) h.0 (each-flat_map P f xs h.1)

each_kept : {X : Type 0} (P : X → Type 0) (b : Bool) (x : X) (ys : List X) → (b ≡ true → P x) → AllByRecursion P ys → AllByRecursion P (cond b (x ∷ ys) ys)
each_kept P true x ys h k = (h refl, k)
each_kept P false x ys h k = k

-- what a filter keeps passes it
pub each-filter : {X : Type 0} (P Q : X → Type 0) (p : X → Bool) → ((x : X) → p x ≡ true → P x → Q x) → (xs : List X) → AllByRecursion P xs → AllByRecursion Q (filter p xs)
each-filter P Q p w [] h = tt
each-filter P Q p w (x ∷ xs) h = each_kept Q (p x) x (filter p xs) (λ e. w x e h.0) (each-filter P Q p w xs h.1)

pub each_passes : {X : Type 0} (Q : X → Type 0) (p : X → Bool) → ((x : X) → p x ≡ true → Q x) → (xs : List X) → AllByRecursion Q (filter p xs)
each_passes Q p w [] = tt
each_passes Q p w (x ∷ xs) = each_kept Q (p x) x (filter p xs) (w x) (each_passes Q p w xs)

-- filters

pub filter_nothing : {X : Type 0} (p : X → Bool) (xs : List X) → AllByRecursion (λ x. p x ≡ false) xs → filter p xs ≡ []
filter_nothing p [] h = refl
filter_nothing p (x ∷ xs) h = cond-false (p x) (x ∷ filter p xs) (filter p xs) h.0 ∙ filter_nothing p xs h.1

pub filter_same : {X : Type 0} (p q : X → Bool) (xs : List X) → AllByRecursion (λ x. p x ≡ q x) xs → filter p xs ≡ filter q xs
filter_same p q [] h = refl
filter_same p q (x ∷ xs) h = grind (arith, h.0, filter_same p q xs h.1)

kept_twice : {X : Type 0} (p q : X → Bool) (b c : Bool) (x : X) (xs : List X) → p x ≡ b → q x ≡ c → filter p (filter q xs) ≡ filter q (filter p xs) → filter p (cond c (x ∷ filter q xs) (filter q xs)) ≡ filter q (cond b (x ∷ filter p xs) (filter p xs))
kept_twice p q true true x xs e g h = rw (e, g) (ap (λ l. x ∷ l) h)
kept_twice p q true false x xs e g h = rw g h
kept_twice p q false true x xs e g h = rw e h
kept_twice p q false false x xs e g h = h

pub filter_comm : {X : Type 0} (p q : X → Bool) (xs : List X) → filter p (filter q xs) ≡ filter q (filter p xs)
filter_comm p q [] = refl
filter_comm p q (x ∷ xs) = kept_twice p q (p x) (q x) x xs refl refl (filter_comm p q xs)

-- what passes p passes q too
kept_once : {X : Type 0} (p q : X → Bool) (c : Bool) (x : X) (xs : List X) → q x ≡ c → (p x ≡ true → c ≡ true) → filter p (filter q xs) ≡ filter p xs → filter p (cond c (x ∷ filter q xs) (filter q xs)) ≡ cond (p x) (x ∷ filter p xs) (filter p xs)
kept_once p q true x xs e w h = ap (λ l. cond (p x) (x ∷ l) l) h
kept_once p q false x xs e w h = grind (arith, h, w)

pub filter-filter : {X : Type 0} (p q : X → Bool) → ((x : X) → p x ≡ true → q x ≡ true) → (xs : List X) → filter p (filter q xs) ≡ filter p xs
filter-filter p q w [] = refl
filter-filter p q w (x ∷ xs) = kept_once p q (q x) x xs refl (w x) (filter-filter p q w xs)

kept_mapped : {X Y : Type 0} (f : X → Y) (b : Bool) (x : X) (xs : List X) → cond b (f x ∷ map f xs) (map f xs) ≡ map f (cond b (x ∷ xs) xs)
kept_mapped f true x xs = refl
kept_mapped f false x xs = refl

pub filter-map : {X Y : Type 0} (p : Y → Bool) (f : X → Y) (xs : List X) → filter p (map f xs) ≡ map f (filter (λ x. p (f x)) xs)
filter-map p f [] = refl
filter-map p f (x ∷ xs) = ap (λ l. cond (p (f x)) (f x ∷ l) l) (filter-map p f xs) ∙ kept_mapped f (p (f x)) x (filter (λ y. p (f y)) xs)

-- joined lists

pub flat_map_same : {X Y : Type 0} (f g : X → List Y) (xs : List X) → AllByRecursion (λ x. f x ≡ g x) xs → flat_map f xs ≡ flat_map g xs
flat_map_same f g [] h = refl
flat_map_same f g (x ∷ xs) h = ap (λ l. l ++ flat_map f xs) h.0 ∙ ap (λ l. g x ++ l) (flat_map_same f g xs h.1)

-- each of the lists is its element alone
pub flat_map_itself : {X : Type 0} (f : X → List X) (xs : List X) → AllByRecursion (λ x. f x ≡ x ∷ []) xs → flat_map f xs ≡ xs
flat_map_itself f [] h = refl
flat_map_itself f (x ∷ xs) h = ap (λ l. l ++ flat_map f xs) h.0 ∙ ap (λ l. x ∷ l) (flat_map_itself f xs h.1)

pub filter-flat_map : {X Y : Type 0} (p : Y → Bool) (f : X → List Y) (xs : List X) → filter p (flat_map f xs) ≡ flat_map (λ x. filter p (f x)) xs
filter-flat_map p f [] = refl
filter-flat_map p f (x ∷ xs) = filter-append p (f x) (flat_map f xs) ∙ ap (λ l. filter p (f x) ++ l) (filter-flat_map p f xs)

pub flat_map-flat_map : {X Y Z : Type 0} (g : Y → List Z) (f : X → List Y) (xs : List X) → flat_map g (flat_map f xs) ≡ flat_map (λ x. flat_map g (f x)) xs
flat_map-flat_map g f [] = refl
flat_map-flat_map g f (x ∷ xs) = flat_map-append g (f x) (flat_map f xs) ∙ ap (λ l. flat_map g (f x) ++ l) (flat_map-flat_map g f xs)

-- an element with what is before it and after it
pub split_at : {X : Type 0} (xs : List X) (k : ℕ) (x : X) → slice_get xs k ≡ Some x → xs ≡ take k xs ++ x ∷ drop (suc k) xs
split_at [] k x h = absurd (cc)
split_at (y ∷ xs) zero x h = ap (λ z. z ∷ xs) (same_Some y x h)
split_at (y ∷ xs) (suc k) x h = ap (λ l. y ∷ l) (split_at xs k x h)
