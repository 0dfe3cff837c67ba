-- Characters that tell by themselves which production fits.
use Rattle.std.proofs.Common.{◌≡◌, ℕ, Bool, true, false, eqb, ◌||◌, ◌∷◌, refl, ap, ◌∙◌, arith, inl, inr}
use Rattle.std.proofs.lemmas.Bool.{and_parts, eqb-true, not-true, or_cases}
use Rattle.std.proofs.lemmas.Bool.Decides.{nat_tests}
use Rattle.base_model.specs.Text.{Characters}
use Rattle.syntax_model.specs.Letters.{begins, is_digit, is_name_start}
use Rattle.syntax_model.specs.Numbers.{starts_number}
use Rattle.syntax_model.specs.Pieces.{ident_production, mark_production, production_at, starts_ident}
use Rattle.syntax_model.proofs.IdentLemmas.{cdc_first}
use Rattle.syntax_model.proofs.ProductionLemmas.{cdo_first, ident_production_at}
use Rattle.css_tokens.specs.Scanned.{is_lone, is_lone_point}

pub ident_first : (c : ℕ) (cs : Characters) → is_name_start c ≡ true → production_at (c ∷ cs) ≡ ident_production
ident_first c cs h = ident_production_at (c ∷ cs) starts (cdc_first c cs (grind (arith, nat_tests)))
  where
    starts : starts_ident (c ∷ cs) ≡ true
    starts = grind (arith, nat_tests)

no_number : (cs : Characters) → begins is_digit cs ≡ false → starts_number (46 ∷ cs) ≡ false
no_number cs h = h

-- a point before no digit
pub point_first : (c : ℕ) (cs : Characters) → is_lone_point c cs ≡ true → production_at (c ∷ cs) ≡ mark_production
point_first c cs h =
    let parts = and_parts (eqb c 46) _ h in
    ap (λ c. production_at (c ∷ cs)) (eqb-true c 46 parts.0) ∙ rw (no_number cs (not-true _ parts.1), cdc_first 46 cs refl, cdo_first 46 cs refl) refl

-- the first of several characters, or one of the others
first_or : (c n : ℕ) (b : Bool) (G : Type 0) → (c ≡ n → G) → (b ≡ true → G) → (eqb c n || b) ≡ true → G
first_or c n b G one others h = elim (or_cases (eqb c n) b h) [ inl e ↦ one (eqb-true c n e) | inr k ↦ others k ]

-- none of the tests before the last passes
module _ (c : ℕ) (cs : Characters) where
  abbrev IsMark : ℕ → Type 0
  IsMark c = production_at (c ∷ cs) ≡ mark_production

  same : (n : ℕ) → IsMark n → c ≡ n → IsMark c
  same n is e = ap (λ c. production_at (c ∷ cs)) e ∙ is

  pub lone_first : is_lone c ≡ true → IsMark c
  lone_first =
      first_or c 44 _ (IsMark c) (same 44 (rw (cdc_first 44 cs refl, cdo_first 44 cs refl) refl))
      (first_or c 58 _ (IsMark c) (same 58 (rw (cdc_first 58 cs refl, cdo_first 58 cs refl) refl))
      (first_or c 59 _ (IsMark c) (same 59 (rw (cdc_first 59 cs refl, cdo_first 59 cs refl) refl))
      (first_or c 40 _ (IsMark c) (same 40 (rw (cdc_first 40 cs refl, cdo_first 40 cs refl) refl))
      (first_or c 41 _ (IsMark c) (same 41 (rw (cdc_first 41 cs refl, cdo_first 41 cs refl) refl))
      (first_or c 91 _ (IsMark c) (same 91 (rw (cdc_first 91 cs refl, cdo_first 91 cs refl) refl))
      (first_or c 93 _ (IsMark c) (same 93 (rw (cdc_first 93 cs refl, cdo_first 93 cs refl) refl))
      (first_or c 123 _ (IsMark c) (same 123 (rw (cdc_first 123 cs refl, cdo_first 123 cs refl) refl))
      (λ h. same 125 (rw (cdc_first 125 cs refl, cdo_first 125 cs refl) refl) (eqb-true c 125 h)))))))))
