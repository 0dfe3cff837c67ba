-- The layers that names declare: with a name each layer that it goes through, and none twice.
use Rattle.std.proofs.Common.{◌≡◌, ℕ, zero, suc, ◌≤◌, Bool, true, false, cond, List, [], ◌∷◌, ◌++◌, ◌⊎◌, inl, inr, flat_map, map, length, refl, sym, ap, ◌∙◌, subst, arith, append_assoc, append-nil, length-append}
use Rattle.std.proofs.lemmas.Bool.{false≢true, false_from_ne_true, cond-true}
use Rattle.std.proofs.lemmas.Grind.{flat_map-append}
use Rattle.std.proofs.lemmas.List.{map-append}
use Rattle.layer_model.specs.Name.{Part, LayerName}
use Rattle.layer_model.specs.Order.{is_known, fronts, with_name, with_names, declared}
use Rattle.layer_model.proofs.Names.{has_last, same_last}
use Rattle.layer_model.proofs.Known.{known-one, known-first, known-cases, known-either, known-left, known-right, StandOnce, StandOnce-push}

-- a longer name goes through one layer more
pub fronts-within : (outer : LayerName) (part : Part) → fronts (outer ++ part ∷ []) ≡ fronts outer ++ (outer ++ part ∷ []) ∷ []
fronts-within [] part = refl
fronts-within (p ∷ outer) part =
    let add = λ (n : LayerName). p ∷ n in
    ap (λ ns. (p ∷ []) ∷ map add ns) (fronts-within outer part)
    ∙ ap (λ ns. (p ∷ []) ∷ ns) (map-append add (fronts outer) ((outer ++ part ∷ []) ∷ []))

pub with_names-append : (known xs ys : List LayerName) → with_names known (xs ++ ys) ≡ with_names (with_names known xs) ys
with_names-append known [] ys = refl
with_names-append known (x ∷ xs) ys = with_names-append (with_name known x) xs ys

-- what a list of layers, each with those that it is in, keeps while it grows
pub record Grown (known : List LayerName) : Type 0 where
  pub closed : (outer rest : LayerName) (part : Part) → is_known known ((outer ++ part ∷ []) ++ rest) ≡ true → is_known known (outer ++ part ∷ []) ≡ true
  pub once : StandOnce known
  pub named : is_known known [] ≡ false
  pub short : (name : LayerName) → is_known known name ≡ true → length name ≤ length known

pub Grown-none : Grown []
Grown-none = record {
  closed = λ outer rest part h. absurd (false≢true h);
  once = tt;
  named = refl;
  short = λ name h. absurd (false≢true h);
}

-- what is in no layer, or in one that is there
abbrev pub MayHold : List LayerName → LayerName → Type 0
MayHold known outer = (outer ≡ []) ⊎ (is_known known outer ≡ true)

never_empty : (outer : LayerName) (part : Part) → outer ++ part ∷ [] ≡ [] → ⊥
never_empty [] part h = cc
never_empty (p ∷ outer) part h = cc

front_closed : (known : List LayerName) → Grown known → (outer : LayerName) (part : Part) → MayHold known outer → (name rest : LayerName) (p : Part) → (name ++ p ∷ []) ++ rest ≡ outer ++ part ∷ [] → is_known (known ++ (outer ++ part ∷ []) ∷ []) (name ++ p ∷ []) ≡ true
front_closed known grown outer part may name [] p e =
    let new = outer ++ part ∷ [] in
    let same : name ++ p ∷ [] ≡ new = sym (append-nil (name ++ p ∷ [])) ∙ e in
    known-right known (new ∷ []) (name ++ p ∷ []) (ap (is_known (new ∷ [])) same ∙ known-first new [])
front_closed known grown outer part may name (q ∷ rest) p e =
    let last = has_last q rest in
    let moved = append_assoc (name ++ p ∷ []) last.outer (last.part ∷ []) ∙ (ap (λ n. (name ++ p ∷ []) ++ n) (sym last.is) ∙ e) in
    let same = (same_last ((name ++ p ∷ []) ++ last.outer) outer last.part part moved).0 in
    elim may as (λ _. is_known (known ++ (outer ++ part ∷ []) ∷ []) (name ++ p ∷ []) ≡ true) [
      | inl none ↦ absurd (empty_front name p last.outer (same ∙ none))
      | inr there ↦ known-left known ((outer ++ part ∷ []) ∷ []) (name ++ p ∷ []) (grown.closed name last.outer p (ap (is_known known) same ∙ there))
    ]
  where
    empty_front : (name : LayerName) (p : Part) (more : LayerName) → (name ++ p ∷ []) ++ more ≡ [] → ⊥
    empty_front [] p more h = cc
    empty_front (r ∷ name) p more h = cc

Grown-push : (known : List LayerName) → Grown known → (outer : LayerName) (part : Part) → MayHold known outer → is_known known (outer ++ part ∷ []) ≡ false → Grown (known ++ (outer ++ part ∷ []) ∷ [])
Grown-push known grown outer part may new =
    let name = outer ++ part ∷ [] in
    let more = length-append known (name ∷ []) in
    let long = length-append outer (part ∷ []) in
    let few : length outer ≤ length known = elim may as (λ _. length outer ≤ length known) [
      | inl none ↦ (let e = ap (length {A = Part}) none in omega arith)
      | inr there ↦ grown.short outer there
    ] in
    record {
      closed = λ front rest p h. elim (known-either known (name ∷ []) ((front ++ p ∷ []) ++ rest) h) [
        | inl k ↦ known-left known (name ∷ []) (front ++ p ∷ []) (grown.closed front rest p k)
        | inr one ↦ front_closed known grown outer part may front rest p (known-one name ((front ++ p ∷ []) ++ rest) one)
      ];
      once = StandOnce-push known name grown.once new;
      named = false_from_ne_true (is_known (known ++ name ∷ []) []) (λ h. elim (known-either known (name ∷ []) [] h) as (λ _. ⊥) [
        | inl k ↦ false≢true (sym grown.named ∙ k)
        | inr one ↦ never_empty outer part (sym (known-one name [] one))
      ]);
      short = λ other h. elim (known-either known (name ∷ []) other h) as (λ _. length other ≤ length (known ++ name ∷ [])) [
        | inl k ↦ (let s = grown.short other k in omega arith)
        | inr one ↦ (let e = ap (length {A = Part}) (known-one name other one) in omega arith)
      ];
    }

pub Grown-with_name : (known : List LayerName) → Grown known → (outer : LayerName) (part : Part) → MayHold known outer → Grown (with_name known (outer ++ part ∷ []))
Grown-with_name known grown outer part may = by (is_known known (outer ++ part ∷ [])) refl
  where
    by : (b : Bool) → is_known known (outer ++ part ∷ []) ≡ b → Grown (cond b known (known ++ (outer ++ part ∷ []) ∷ []))
    by true e = grown
    by false e = Grown-push known grown outer part may e

-- a name is there once it is added, and what was there stays
pub known-with_name : (known : List LayerName) (name : LayerName) → is_known (with_name known name) name ≡ true
known-with_name known name = by (is_known known name) refl
  where
    by : (b : Bool) → is_known known name ≡ b → is_known (cond b known (known ++ name ∷ [])) name ≡ true
    by true e = e
    by false e = known-right known (name ∷ []) name (known-first name [])

kept-with_name : (known : List LayerName) (more name : LayerName) → is_known known name ≡ true → is_known (with_name known more) name ≡ true
kept-with_name known more name h = by (is_known known more)
  where
    by : (b : Bool) → is_known (cond b known (known ++ more ∷ [])) name ≡ true
    by true = h
    by false = known-left known (more ∷ []) name h

pub kept-with_names : (known names : List LayerName) (name : LayerName) → is_known known name ≡ true → is_known (with_names known names) name ≡ true
kept-with_names known [] name h = h
kept-with_names known (more ∷ names) name h = kept-with_names (with_name known more) names name (kept-with_name known more name h)

-- a list after the layers that a name goes through are added
pub record Fronted (known : List LayerName) (name : LayerName) : Type 0 where
  pub grown : Grown (with_names known (fronts name))
  pub holds : MayHold (with_names known (fronts name)) name

-- which are those of what it is in, and then itself
pub fronts-last : (known : List LayerName) (outer : LayerName) (part : Part) → with_names known (fronts (outer ++ part ∷ [])) ≡ with_name (with_names known (fronts outer)) (outer ++ part ∷ [])
fronts-last known outer part =
    ap (with_names known) (fronts-within outer part) ∙ with_names-append known (fronts outer) ((outer ++ part ∷ []) ∷ [])

fronted_more : (known : List LayerName) (outer : LayerName) (part : Part) → Fronted known outer → Fronted known (outer ++ part ∷ [])
fronted_more known outer part f =
    let e = sym (fronts-last known outer part) in
    record {
      grown = subst Grown e (Grown-with_name (with_names known (fronts outer)) f.grown outer part f.holds);
      holds = inr (ap (λ k. is_known k (outer ++ part ∷ [])) (sym e) ∙ known-with_name (with_names known (fronts outer)) (outer ++ part ∷ []));
    }

fronted : (n : ℕ) (known : List LayerName) → Grown known → (name : LayerName) → length name ≡ n → Fronted known name
fronted n known grown [] l = record { grown = grown; holds = inl refl }
fronted zero known grown (p ∷ name) l = absurd (omega arith)
fronted (suc n) known grown (p ∷ name) l =
    let last = has_last p name in
    let long = length-append last.outer (last.part ∷ []) in
    let e = ap (length {A = Part}) last.is in
    subst (Fronted known) (sym last.is) (fronted_more known last.outer last.part (fronted n known grown last.outer (omega arith)))

pub Grown-fronts : (known : List LayerName) → Grown known → (name : LayerName) → Fronted known name
Grown-fronts known grown name = fronted (length name) known grown name refl

-- what a layer that is there is in, is there too
pub holds-outer : (known : List LayerName) → Grown known → (outer : LayerName) (part : Part) → is_known known (outer ++ part ∷ []) ≡ true → MayHold known outer
holds-outer known grown [] part h = inl refl
holds-outer known grown (q ∷ rest) part h =
    let last = has_last q rest in
    let e = ap (λ m. m ++ part ∷ []) last.is in
    inr (ap (is_known known) last.is ∙ grown.closed last.outer (part ∷ []) last.part (ap (is_known known) (sym e) ∙ h))

-- so a layer that is there adds nothing

nothing_new : (n : ℕ) (known : List LayerName) → Grown known → (name : LayerName) → length name ≡ n → MayHold known name → with_names known (fronts name) ≡ known
nothing_new n known grown [] l may = refl
nothing_new zero known grown (p ∷ name) l may = absurd (omega arith)
nothing_new (suc n) known grown (p ∷ name) l may =
    let last = has_last p name in
    let long = length-append last.outer (last.part ∷ []) in
    let e = ap (length {A = Part}) last.is in
    let there : is_known known (p ∷ name) ≡ true = elim may [ inl none ↦ absurd cc | inr k ↦ k ] in
    let itself = ap (is_known known) (sym last.is) ∙ there in
    let outer = nothing_new n known grown last.outer (omega arith) (holds-outer known grown last.outer last.part itself) in
    ap (λ m. with_names known (fronts m)) last.is
    ∙ (fronts-last known last.outer last.part
    ∙ (ap (λ k. with_name k (last.outer ++ last.part ∷ [])) outer ∙ cond-true (is_known known (last.outer ++ last.part ∷ [])) known _ itself))

pub known_adds_nothing : (known : List LayerName) → Grown known → (name : LayerName) → is_known known name ≡ true → with_names known (fronts name) ≡ known
known_adds_nothing known grown name h = nothing_new (length name) known grown name refl (inr h)

-- all the layers that names declare

pub Grown-names : (known : List LayerName) → Grown known → (names : List LayerName) → Grown (with_names known (flat_map fronts names))
Grown-names known grown [] = grown
Grown-names known grown (name ∷ names) =
    subst Grown (sym (with_names-append known (fronts name) (flat_map fronts names))) (Grown-names (with_names known (fronts name)) (Grown-fronts known grown name).grown names)

pub Grown-declared : (names : List LayerName) → Grown (declared names)
unfolding declared
Grown-declared names = Grown-names [] Grown-none names

holds-names : (known : List LayerName) → Grown known → (names : List LayerName) (name : LayerName) → is_known names name ≡ true → MayHold (with_names known (flat_map fronts names)) name
holds-names known grown [] name h = absurd (false≢true h)
holds-names known grown (other ∷ names) name h =
    let f = Grown-fronts known grown other in
    let e = with_names-append known (fronts other) (flat_map fronts names) in
    elim (known-cases other name names h) [
      | inl same ↦ elim f.holds [
        | inl none ↦ inl (same ∙ none)
        | inr k ↦ inr (ap (λ ns. is_known ns name) e ∙ kept-with_names (with_names known (fronts other)) (flat_map fronts names) name (ap (is_known (with_names known (fronts other))) same ∙ k))
      ]
      | inr k ↦ subst (λ ns. MayHold ns name) (sym e) (holds-names (with_names known (fronts other)) f.grown names name k)
    ]

-- among them is each of the names, but for that of no layer
pub holds-declared : (names : List LayerName) (name : LayerName) → is_known names name ≡ true → MayHold (declared names) name
unfolding declared
holds-declared names name h = holds-names [] Grown-none names name h

-- what one name more declares
pub declared-push : (names : List LayerName) (name : LayerName) → declared (names ++ name ∷ []) ≡ with_names (declared names) (fronts name)
unfolding declared
declared-push names name =
    ap (with_names []) (flat_map-append fronts names (name ∷ []))
    ∙ (with_names-append [] (flat_map fronts names) (fronts name ++ []) ∙ ap (with_names (with_names [] (flat_map fronts names))) (append-nil (fronts name)))
