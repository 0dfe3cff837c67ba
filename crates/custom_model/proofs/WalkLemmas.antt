-- Walks along edges, and how short they can be.
use Rattle.std.proofs.Common.{◌≡◌, ◌≢◌, ℕ, zero, suc, ◌+◌, ◌<◌, ◌≤◌, List, [], ◌∷◌, ◌++◌, length, true, ◌||◌, ◌⊎◌, inl, inr, ⊎_elim, refl, sym, subst, length-append, arith}
use Rattle.std.specs.List.{AllByRecursion}
use Rattle.std.proofs.lemmas.Bool.{or_cases, or_left, or_right, false≢true}
use Rattle.base_model.specs.Text.{Characters, same_text}
use Rattle.custom_model.specs.Cycles.{walks}
use Rattle.custom_model.proofs.Among.{Among, among_any, any_among, each_among, text_is, cases_text, without, without_less, among_without}
use Rattle.base_model.proofs.Texts.{text_is_itself}

-- the names that edges lead to from each name
abbrev pub Edges : Type 0
Edges = Characters → List Characters

-- a walk from one name to another, by the names that it passes between
abbrev pub Walk : Edges → Characters → List Characters → Characters → Type 0
Walk leads from [] to = Among to (leads from)
Walk leads from (next ∷ via) to = Among next (leads from) × Walk leads next via to

module _ (leads : Edges) where
  pub walk_of : (k : ℕ) (from to : Characters) → walks k leads from to ≡ true → (via : List Characters) × (length via < k) × Walk leads from via to
  walk_of zero from to e = absurd (false≢true e)
  walk_of (suc k) from to e =
      let next = among_any (λ next. same_text next to || walks k leads next to) (leads from) e in
      ⊎_elim
      (λ s. ([], omega arith, subst (λ n. Among n (leads from)) (text_is next.0 to s) next.1))
      (λ w. let more = walk_of k next.0 to w in (next.0 ∷ more.0, omega (arith, more.1), (next.1, more.2)))
      (or_cases (same_text next.0 to) (walks k leads next.0 to) next.2)

  pub walks_by : (k : ℕ) (from : Characters) (via : List Characters) (to : Characters) → length via < k → Walk leads from via to → walks k leads from to ≡ true
  walks_by zero from via to l w = absurd (omega arith)
  walks_by (suc k) from [] to l w =
      any_among (λ next. same_text next to || walks k leads next to) to (leads from) w (or_left _ _ (text_is_itself to))
  walks_by (suc k) from (next ∷ via) to l w =
      any_among (λ next. same_text next to || walks k leads next to) next (leads from) w.0 (or_right _ _ (walks_by k next via to (omega arith) w.1))

  -- a walk is one of more edges at most too
  pub walks_more : (k m : ℕ) (from to : Characters) → k ≤ m → walks k leads from to ≡ true → walks m leads from to ≡ true
  walks_more k m from to l e = let w = walk_of k from to e in walks_by m from w.0 to (omega (arith, w.1)) w.2

  join : (from : Characters) (via : List Characters) (mid : Characters) (more : List Characters) (to : Characters) → Walk leads from via mid → Walk leads mid more to → Walk leads from (via ++ mid ∷ more) to
  join from [] mid more to v w = (v, w)
  join from (next ∷ via) mid more to v w = (v.0, join next via mid more to v.1 w)

  -- one walk after another
  pub walks_join : (k m : ℕ) (from mid to : Characters) → walks k leads from mid ≡ true → walks m leads mid to ≡ true → walks (k + m) leads from to ≡ true
  walks_join k m from mid to e g =
      let v = walk_of k from mid e in
      let w = walk_of m mid to g in
      let long = length-append v.0 (mid ∷ w.0) in
      walks_by (k + m) from (v.0 ++ mid ∷ w.0) to (omega (arith, v.1, w.1, long)) (join from v.0 mid w.0 to v.2 w.2)

  -- an edge alone
  pub walks_edge : (from to : Characters) → Among to (leads from) → walks 1 leads from to ≡ true
  walks_edge from to m = walks_by 1 from [] to (omega arith) m

  pub walks_step : (k : ℕ) (from next to : Characters) → Among next (leads from) → walks k leads next to ≡ true → walks (suc k) leads from to ≡ true
  walks_step k from next to m e = let w = walk_of k next to e in walks_by (suc k) from (next ∷ w.0) to (omega (arith, w.1)) (m, w.2)

  -- a walk from `next`, and after it one from `from` that does not come back to it
  Late : Characters → Characters → List Characters → Characters → Type 0
  Late from next via to =
      AllByRecursion (λ n. from ≢ n) (next ∷ via)
      ⊎ ((less : List Characters) × Walk leads from less to × AllByRecursion (λ n. from ≢ n) less × ((n : Characters) → Among n less → Among n via))

  late : (from next : Characters) (via : List Characters) (to : Characters) → Walk leads next via to → Late from next via to
  unfolding Late
  late from next [] to w =
      ⊎_elim (λ s. inr ([], subst (λ n. Walk leads n [] to) (sym s) w, tt, λ n m. m)) (λ h. inl (h, tt)) (cases_text from next)
  late from next (then ∷ via) to w =
      ⊎_elim
      (λ apart. ⊎_elim
      (λ s. inr (then ∷ via, subst (λ n. Walk leads n (then ∷ via) to) (sym s) w, apart, λ n m. m))
      (λ h. inl (h, apart))
      (cases_text from next))
      (λ r. inr (r.0, r.1, r.2, λ n m. inr (r.3 n m)))
      (late from then via to w.1)

  -- the walk that leaves `from` for good
  leaving : (from : Characters) (via : List Characters) (to : Characters) → Walk leads from via to → (less : List Characters) × Walk leads from less to × AllByRecursion (λ n. from ≢ n) less × ((n : Characters) → Among n less → Among n via)
  unfolding Late
  leaving from [] to w = ([], w, tt, λ n m. m)
  leaving from (next ∷ via) to w =
      ⊎_elim (λ apart. (next ∷ via, w, apart, λ n m. m)) (λ r. (r.0, r.1, r.2, λ n m. inr (r.3 n m))) (late from next via to w.1)

  abbrev Short : List Characters → Characters → Characters → Type 0
  Short all from to = (less : List Characters) × (length less < length all) × Walk leads from less to

  shorter_by : (all : List Characters) (from : Characters) (via : List Characters) (to : Characters) → Among from all → ((n : Characters) → Among n via → Among n all) → AllByRecursion (λ n. from ≢ n) via → Walk leads from via to
      → ((next : Characters) (more : List Characters) → Among next (without from all) → ((n : Characters) → Among n more → Among n (without from all)) → Walk leads next more to → Short (without from all) next to)
      → Short all from to
  shorter_by all from [] to m known apart w again = let less = without_less from all m in ([], omega arith, w)
  shorter_by all from (next ∷ via) to m known apart w again =
      let kept : (n : Characters) → Among n (next ∷ via) → Among n (without from all) = λ n k. among_without from n all (known n k) (each_among (λ x. from ≢ x) n (next ∷ via) apart k) in
      let r = again next via (kept next (inl refl)) (λ n k. kept n (inr k)) w.1 in
      let less = without_less from all m in
      (next ∷ r.0, omega (arith, r.1), (w.0, r.2))

  shorter : (most : ℕ) (all : List Characters) → length all ≤ most → (from : Characters) (via : List Characters) (to : Characters) → Among from all → ((n : Characters) → Among n via → Among n all) → Walk leads from via to → Short all from to
  shorter zero all l from via to m known w = let less = without_less from all m in absurd (omega arith)
  shorter (suc most) all l from via to m known w =
      let r = leaving from via to w in
      let less = without_less from all m in
      shorter_by all from r.0 to m (λ n k. known n (r.3 n k)) r.2 r.1 (λ next more k keeps v. shorter most (without from all) (omega arith) next more to k keeps v)

  -- where each name with an edge is among these names
  module _ (all : List Characters) (known : (from next : Characters) → Among next (leads from) → Among from all) where
    between_known : (from : Characters) (via : List Characters) (to : Characters) → Walk leads from via to → (n : Characters) → Among n (from ∷ via) → Among n all
    between_known from [] to w n m = ⊎_elim (λ e. subst (λ x. Among x all) (sym e) (known from to w)) (λ a. absurd a) m
    between_known from (next ∷ via) to w n m =
        ⊎_elim (λ e. subst (λ x. Among x all) (sym e) (known from next w.0)) (λ k. between_known next via to w.1 n k) m

    -- a walk of any length gives one of at most as many edges as there are names
    pub walks_short : (k : ℕ) (from to : Characters) → walks k leads from to ≡ true → walks (length all) leads from to ≡ true
    walks_short k from to e =
        let w = walk_of k from to e in
        let each = between_known from w.0 to w.2 in
        let r = shorter (length all) all (omega arith) from w.0 to (each from (inl refl)) (λ n m. each n (inr m)) w.2 in
        walks_by (length all) from r.0 to r.1 r.2
