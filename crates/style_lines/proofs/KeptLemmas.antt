-- Lines that are kept at places among bytes, and lines that are forgotten.
use Rattle.std.proofs.Common.{◌≡◌, ◌≢◌, ◌⊎◌, inl, inr, ℕ, zero, suc, ◌+◌, ◌-◌, ◌<◌, ◌≤◌, ◌==◌, Bool, true, false, List, [], ◌∷◌, ◌++◌, length, map, take, drop, get_or, set, replicate, Option, Some, None, IfSome, sym, ap, ◌∙◌, subst, refl, arith, ◌||◌, length-drop, if◌then◌else◌}
use Rattle.std.proofs.lemmas.Bool.{eqb-true, eqb-false}
use Rattle.std.proofs.lemmas.List.{drop-append-le, get_or-set_other, get_or-set_same, take-append-le, take_all}
use Rattle.std.proofs.Math.Seq.{drop-append_seam}
use Rattle.scene_model.specs.Numbers.{is_in}
use Rattle.style_lines.specs.declared.lines.Place.{Place}
use Rattle.style_lines.specs.KeptLines.{AreWithin, kept_line, line_in, some_length}

abbrev no_place : Place
no_place = record { start = 0; len = 0 }

-- the line of a number, by its place
kept_in : (bytes : List ℕ) (places : List Place) (x : ℕ) → kept_line (map (line_in bytes) places) x ≡ line_in bytes (get_or places x no_place)
kept_in bytes [] x = refl
kept_in bytes (p ∷ places) zero = refl
kept_in bytes (p ∷ places) (suc x) = kept_in bytes places x

-- places that are made
pub more_same : {A : Type 0} (e : A) (list : List A) (n x : ℕ) → get_or (list ++ replicate n e) x e ≡ get_or list x e
more_same e [] zero x = refl
more_same e [] (suc n) zero = refl
more_same e [] (suc n) (suc x) = more_same e [] n x
more_same e (a ∷ list) n zero = refl
more_same e (a ∷ list) n (suc x) = more_same e list n x

pub more_places : (bytes : List ℕ) (places : List Place) (n x : ℕ) → kept_line (map (line_in bytes) (places ++ replicate n (record { start = 0; len = 0 }))) x ≡ kept_line (map (line_in bytes) places) x
more_places bytes places n x =
    kept_in bytes (places ++ replicate n no_place) x
    ∙ (ap (line_in bytes) (more_same no_place places n x) ∙ sym (kept_in bytes places x))

-- a line that is put behind the others

within_at : (bytes : List ℕ) (places : List Place) (x : ℕ) → AreWithin bytes places → (get_or places x no_place).start + (get_or places x no_place).len ≤ length bytes
within_at bytes [] x within = omega arith
within_at bytes (p ∷ places) zero within = within.0
within_at bytes (p ∷ places) (suc x) within = within_at bytes places x within.1

line_stays : (bytes line : List ℕ) (p : Place) → p.start + p.len ≤ length bytes → line_in (bytes ++ line) p ≡ line_in bytes p
line_stays bytes line p within = by (p.len == 0)
  where
    same : take p.len (drop p.start (bytes ++ line)) ≡ take p.len (drop p.start bytes)
    same =
        ap (take p.len) (drop-append-le p.start bytes line (omega (arith, within)))
        ∙ take-append-le p.len (drop p.start bytes) line (omega (arith, within, length-drop p.start bytes))

    by : (b : Bool) → (if b then None else Some (take p.len (drop p.start (bytes ++ line)))) ≡ (if b then None else Some (take p.len (drop p.start bytes)))
    by true = refl
    by false = ap Some same

pub put_own : (bytes line : List ℕ) (places : List Place) (n start len : ℕ) → n < length places → start ≡ length bytes → len ≡ length line → IfSome (kept_line (map (line_in (bytes ++ line)) (set places n (record { start = start; len = len }))) n) (λ kept. kept ≡ line)
put_own bytes line places n start len below begins long =
    subst (λ o. IfSome o (λ kept. kept ≡ line)) (sym (kept_in (bytes ++ line) (set places n placed) n ∙ ap (line_in (bytes ++ line)) (get_or-set_same places n placed no_place below))) (by (len == 0))
  where
    placed : Place
    placed = record { start = start; len = len }

    same : take len (drop start (bytes ++ line)) ≡ line
    same =
        ap (λ k. take len (drop k (bytes ++ line))) begins
        ∙ (ap (take len) (drop-append_seam bytes line) ∙ take_all len line (omega (arith, long)))

    by : (b : Bool) → IfSome (if b then None else Some (take len (drop start (bytes ++ line)))) (λ kept. kept ≡ line)
    by true = tt
    by false = same

pub put_others : (bytes line : List ℕ) (places : List Place) (n : ℕ) (place : Place) → AreWithin bytes places → (x : ℕ) → x ≢ n → kept_line (map (line_in (bytes ++ line)) (set places n place)) x ≡ kept_line (map (line_in bytes) places) x
put_others bytes line places n place within x other =
    kept_in (bytes ++ line) (set places n place) x
    ∙ (ap (line_in (bytes ++ line)) (get_or-set_other places n x place no_place other)
    ∙ (line_stays bytes line (get_or places x no_place) (within_at bytes places x within)
    ∙ sym (kept_in bytes places x)))

-- What stands at a number is forgotten: a value that tells nothing stands there then. Here it is `e`.

none_at : {A : Type 0} (e : A) (list : List A) (n : ℕ) → get_or (set list n e) n e ≡ e
none_at e [] n = refl
none_at e (a ∷ list) zero = refl
none_at e (a ∷ list) (suc n) = none_at e list n

-- and more
abbrev pub forgotten : {A : Type 0} → A → List ℕ → List A → List A
forgotten e [] list = list
forgotten e (n ∷ ns) list = forgotten e ns (set list n e)

-- what stands somewhere stood there before, or it is forgotten
abbrev Stays : {A : Type 0} → A → A → A → Type 0
Stays e new old = (new ≡ e) ⊎ (new ≡ old)

stays_on : {A : Type 0} (e a b c : A) → Stays e a b → Stays e b c → Stays e a c
stays_on e a b c (inl gone) other = inl gone
stays_on e a b c (inr same) (inl gone) = inl (same ∙ gone)
stays_on e a b c (inr same) (inr more) = inr (same ∙ more)

set_stays : {A : Type 0} (e : A) (list : List A) (n x : ℕ) → Stays e (get_or (set list n e) x e) (get_or list x e)
set_stays e list n x = by (x == n) refl
  where
    by : (b : Bool) → (x == n) ≡ b → Stays e (get_or (set list n e) x e) (get_or list x e)
    by true is = inl (ap (λ k. get_or (set list n e) k e) (eqb-true x n is) ∙ none_at e list n)
    by false is = inr (get_or-set_other list n x e e (eqb-false x n is))

forgotten_stays : {A : Type 0} (e : A) (ns : List ℕ) (list : List A) (x : ℕ) → Stays e (get_or (forgotten e ns list) x e) (get_or list x e)
forgotten_stays e [] list x = inr refl
forgotten_stays e (n ∷ ns) list x =
    stays_on e _ (get_or (set list n e) x e) _ (forgotten_stays e ns (set list n e) x) (set_stays e list n x)

none_stays : {A : Type 0} (e new old : A) → Stays e new old → old ≡ e → new ≡ e
none_stays e new old (inl gone) none = gone
none_stays e new old (inr same) none = same ∙ none

pub forgotten_gone : {A : Type 0} (e : A) (ns : List ℕ) (list : List A) (x : ℕ) → is_in x ns ≡ true → get_or (forgotten e ns list) x e ≡ e
forgotten_gone e [] list x h = cc
forgotten_gone e (n ∷ ns) list x h = by (n == x) refl h (forgotten_gone e ns (set list n e) x)
  where
    by : (b : Bool) → (n == x) ≡ b → (b || is_in x ns) ≡ true → (is_in x ns ≡ true → get_or (forgotten e ns (set list n e)) x e ≡ e) → get_or (forgotten e ns (set list n e)) x e ≡ e
    by true is g rest =
        none_stays e (get_or (forgotten e ns (set list n e)) x e) (get_or (set list n e) x e) (forgotten_stays e ns (set list n e) x) (ap (λ k. get_or (set list n e) k e) (sym (eqb-true n x is)) ∙ none_at e list n)
    by false is g rest = rest g

itself : {B : Type 0} (o : Option B) → IfSome o (λ one. o ≡ Some one)
itself None = tt
itself (Some one) = refl

-- what is told of it still was told before
pub forgotten_left : {A B : Type 0} (told : A → Option B) (e : A) (ns : List ℕ) (list : List A) (x : ℕ) → told e ≡ None → IfSome (told (get_or (forgotten e ns list) x e)) (λ one. told (get_or list x e) ≡ Some one)
forgotten_left told e ns list x none = by (get_or (forgotten e ns list) x e) (forgotten_stays e ns list x)
  where
    by : (new : _) → Stays e new (get_or list x e) → IfSome (told new) (λ one. told (get_or list x e) ≡ Some one)
    by new (inl gone) = subst (λ o. IfSome o (λ one. told (get_or list x e) ≡ Some one)) (sym (ap told gone ∙ none)) tt
    by new (inr same) = subst (λ o. IfSome o (λ one. told (get_or list x e) ≡ Some one)) (sym (ap told same)) (itself (told (get_or list x e)))

-- a length that is kept
pub some_own : (n : ℕ) → IfSome (some_length n) (λ kept. kept ≡ n)
some_own n = by (n == 0)
  where
    by : (b : Bool) → IfSome (if b then None else Some n) (λ kept. kept ≡ n)
    by true = tt
    by false = refl
