-- The layers that names declare, as a set keeps them.
use Rattle.std.proofs.Common.{◌≡◌, ◌≢◌, ℕ, ◌+◌, ◌<◌, ◌==◌, get_or, Bool, true, false, cond, List, [], ◌∷◌, ◌++◌, length, take, refl, sym, ap, ◌∙◌, subst, append-nil}
use Rattle.std.proofs.lemmas.Bool.{cond-true, cond-false, eq-eqb, ne_eqb}
use Rattle.std.proofs.lemmas.List.{take_more, map-append}
use Rattle.base_model.specs.Origin as model
use Rattle.base_model.specs.Origin.{origin_rank}
use Rattle.layer_model.specs.Name.{LayerName}
use Rattle.layer_model.specs.Order.{fronts, with_name, with_names, declared, names_of}
use Rattle.layer_model.proofs.Declared.{Grown, Grown-declared, fronts-last, declared-push}
use Rattle.layer_order.specs.Chain.{IsIn}
use Rattle.layer_order.specs.Known.{AreDeclared}
use Rattle.layer_order.specs.View.{declarations, origin_of}
use Rattle.layer_order.specs.declared.origin.Origin.{Origin}

pub grown : (known : List LayerName) → AreDeclared known → Grown known
grown known a = subst Grown (sym a.are) (Grown-declared a.names)

-- a name that is added after the layers that it is in
pub added : (old mid new : List LayerName) (outer name kept : LayerName) → mid ≡ with_names old (fronts outer) → IsIn outer name → kept ≡ name → new ≡ with_name mid kept → new ≡ with_names old (fronts name)
added old mid new outer name kept m i k n =
    let whole = outer ++ i.part ∷ [] in
    n ∙ (ap (with_name mid) (k ∙ i.is) ∙ (ap (λ ns. with_name ns whole) m ∙ (sym (fronts-last old outer i.part) ∙ ap (λ a. with_names old (fronts a)) (sym i.is))))

names_more : (o : model.Origin) (xs : List (model.Origin × LayerName)) (d : model.Origin × LayerName) → names_of o (xs ++ d ∷ []) ≡ names_of o xs ++ names_of o (d ∷ [])
names_more o [] d = refl
names_more o (x ∷ xs) d = by (origin_rank x.0 == origin_rank o) (names_more o xs d)
  where
    by : (b : Bool) → names_of o (xs ++ d ∷ []) ≡ names_of o xs ++ names_of o (d ∷ []) → cond b (x.1 ∷ names_of o (xs ++ d ∷ [])) (names_of o (xs ++ d ∷ [])) ≡ cond b (x.1 ∷ names_of o xs) (names_of o xs) ++ names_of o (d ∷ [])
    by true e = ap (λ ns. x.1 ∷ ns) e
    by false e = e

names_taken : (o : model.Origin) (list : List (Origin × LayerName)) (i : ℕ) (d : Origin × LayerName) → i < length list → d ≡ get_or list i d → names_of o (declarations (take (i + 1) list)) ≡ names_of o (declarations (take i list)) ++ names_of o (declarations (d ∷ []))
names_taken o list i d within is =
    let taken = take_more list i d within ∙ ap (λ x. take i list ++ x ∷ []) (sym is) in
    ap (λ xs. names_of o (declarations xs)) taken
    ∙ (ap (names_of o) (map-append (λ x. (origin_of x.0, x.1)) (take i list) (d ∷ [])) ∙ names_more o (declarations (take i list)) (origin_of d.0, d.1))

-- a declaration of the origin adds its layers
pub more_declared : (o : model.Origin) (list : List (Origin × LayerName)) (i : ℕ) (d : Origin × LayerName) → i < length list → d ≡ get_or list i d → origin_rank (origin_of d.0) ≡ origin_rank o → (old new : List LayerName) → old ≡ declared (names_of o (declarations (take i list))) → new ≡ with_names old (fronts d.1) → new ≡ declared (names_of o (declarations (take (i + 1) list)))
more_declared o list i d within is same old new before e =
    let names = names_of o (declarations (take i list)) in
    let one = cond-true (origin_rank (origin_of d.0) == origin_rank o) (d.1 ∷ []) [] (eq-eqb _ _ same) in
    e ∙ (ap (λ ns. with_names ns (fronts d.1)) before ∙ (sym (declared-push names d.1) ∙ ap declared (ap (λ ns. names ++ ns) (sym one) ∙ sym (names_taken o list i d within is))))

-- and one of another origin none
pub none_declared : (o : model.Origin) (list : List (Origin × LayerName)) (i : ℕ) (d : Origin × LayerName) → i < length list → d ≡ get_or list i d → origin_rank (origin_of d.0) ≢ origin_rank o → (old : List LayerName) → old ≡ declared (names_of o (declarations (take i list))) → old ≡ declared (names_of o (declarations (take (i + 1) list)))
none_declared o list i d within is other old before =
    let names = names_of o (declarations (take i list)) in
    let none = cond-false (origin_rank (origin_of d.0) == origin_rank o) (d.1 ∷ []) [] (ne_eqb _ _ other) in
    before ∙ ap declared (sym (append-nil names) ∙ (ap (λ ns. names ++ ns) (sym none) ∙ sym (names_taken o list i d within is)))

pub nothing_declared : declared [] ≡ []
unfolding declared
nothing_declared = refl
