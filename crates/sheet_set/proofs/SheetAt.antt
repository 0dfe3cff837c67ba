-- The sheet at a place of those that are kept.
use Rattle.std.proofs.Common.{◌≡◌, ℕ, ◌-◌, ◌<◌, List, [], ◌∷◌, length, map, take, drop, sum_by, get_or, cond, true, sym, subst, ap, ◌∙◌, arith, length-drop}
use Rattle.std.specs.List.{AllByRecursion, list_any}
use Rattle.std.proofs.lemmas.List.{drop-map, get_or_default, length-map, take-map, take_all}
use Rattle.std.proofs.lemmas.List.Folds.{list_any_at}
use Rattle.std.proofs.lemmas.List.Sums.{sum_by-cons}
use Rattle.scene_model.proofs.Found.{any-map}
use Rattle.edit_model.specs.SheetApply.{AreNumbered, is_of}
use Rattle.sheet_set.specs.declared.kept_sheet.KeptSheet.{KeptSheet}
use Rattle.sheet_set.specs.Kept.{kept_seen}
use Rattle.sheet_set.specs.Planned.{at_place}
use Rattle.sheet_set.specs.Room.{waiting_at}
use Rattle.sheet_set.specs.Standing.{count_at}
use Rattle.sheet_set.specs.StepOf.{IsAlone}
use Rattle.sheet_set.proofs.Alone.{alone-from}
use Rattle.sheet_set.proofs.Left.{item_at}

module _ (sheets : List KeptSheet) (place : ℕ) (it : KeptSheet) (within : place < length sheets) (is : it ≡ get_or sheets place it) where
  pub one-at : take 1 (drop place sheets) ≡ it ∷ []
  one-at = ap (take 1) (item_at sheets place it within is)

  pub seen-at : at_place place (map kept_seen sheets) ≡ kept_seen it ∷ []
  seen-at = ap (take 1) (drop-map kept_seen place sheets ∙ ap (map kept_seen) (item_at sheets place it within is))

  pub count-of : count_at place sheets ≡ it.count
  count-of =
      let one = sum_by-cons (λ (kept : KeptSheet). kept.count) it [] in
      omega (arith, ap (sum_by (λ (kept : KeptSheet). kept.count)) one-at, one)

  pub waiting-of : waiting_at place sheets ≡ cond it.enabled 0 it.count
  waiting-of =
      let one = sum_by-cons (λ (kept : KeptSheet). cond kept.enabled 0 kept.count) it [] in
      omega (arith, ap (sum_by (λ (kept : KeptSheet). cond kept.enabled 0 kept.count)) one-at, one)

-- what is seen of the sheets before a place and of those from it on
pub seen-front : (sheets : List KeptSheet) (place : ℕ) → map kept_seen (take place sheets) ≡ take place (map kept_seen sheets)
seen-front sheets place = sym (take-map kept_seen place sheets)

pub seen-rest : (sheets : List KeptSheet) (place : ℕ) → map kept_seen (take (length sheets - place) (drop place sheets)) ≡ drop place (map kept_seen sheets)
seen-rest sheets place =
    ap (map kept_seen) (take_all (length sheets - place) (drop place sheets) (omega (arith, length-drop place sheets)))
    ∙ sym (drop-map kept_seen place sheets)

-- a sheet that is found, whatever stands for one that isn't there
found-at : (sheets : List KeptSheet) (place : ℕ) → place < length sheets → (P : KeptSheet → Type 0) → ((d : KeptSheet) → P (get_or sheets place d))
    → (it : KeptSheet) × ((it ≡ get_or sheets place it) × P it)
found-at [] place within P at = absurd (omega (arith, within))
found-at (kept ∷ sheets) place within P at =
    let it : KeptSheet = get_or (kept ∷ sheets) place kept in
    (it, (get_or_default (kept ∷ sheets) place kept it within, at kept))

pub kept-at : (sheets : List KeptSheet) (place : ℕ) → place < length sheets → (it : KeptSheet) × (it ≡ get_or sheets place it)
kept-at [] place within = absurd (omega (arith, within))
kept-at (kept ∷ sheets) place within =
    let it : KeptSheet = get_or (kept ∷ sheets) place kept in
    (it, get_or_default (kept ∷ sheets) place kept it within)

pub any-at : (n : ℕ) (sheets : List KeptSheet) (place : ℕ) → place < length sheets → ((d : KeptSheet) → is_of n (kept_seen (get_or sheets place d)) ≡ true)
    → list_any (is_of n) (map kept_seen sheets) ≡ true
any-at n sheets place within at =
    let (it, found) = found-at sheets place within (λ kept. is_of n (kept_seen kept) ≡ true) at in
    any-map (is_of n) kept_seen sheets ∙ list_any_at (λ kept. is_of n (kept_seen kept)) sheets place it within (at it)

pub alone-at : (n last : ℕ) (sheets : List KeptSheet) (place : ℕ) → place < length sheets → ((d : KeptSheet) → is_of n (kept_seen (get_or sheets place d)) ≡ true)
    → AreNumbered (record { listed = map kept_seen sheets; last = last }) → IsAlone n place (map kept_seen sheets)
alone-at n last sheets place within at numbered =
    let (it, found) = found-at sheets place within (λ kept. is_of n (kept_seen kept) ≡ true) at in
    let seen : at_place place (map kept_seen sheets) ≡ kept_seen it ∷ [] = seen-at sheets place it within found.0 in
    let others = alone-from n place (map kept_seen sheets) (kept_seen it) seen found.1 numbered.distinct in
    record {
      within = omega (arith, within, length-map sheets kept_seen);
      before = others.0;
      it = subst (AllByRecursion (λ s. is_of n s ≡ true)) (sym seen) (found.1, tt);
      after = others.1;
    }
