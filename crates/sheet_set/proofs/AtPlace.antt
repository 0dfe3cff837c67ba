-- A list of sheets around a place, and the edit of the sheet that stands there.
use Rattle.std.proofs.Common.{◌≡◌, ℕ, ◌+◌, ◌<◌, List, [], ◌∷◌, ◌++◌, length, map, filter, flat_map, take, drop, Bool, true, false, not, refl, sym, ap, ◌∙◌, subst, arith, append-nil, length-drop}
use Rattle.std.specs.Prelude.{◌==◌}
use Rattle.std.proofs.lemmas.List.{drop-drop, take-append-drop}
use Rattle.base_model.proofs.Lists.{each-drop, each-take}
use Rattle.base_model.specs.Sheet.{Sheet}
use Rattle.layer_model.specs.Swapped.{swapped}
use Rattle.selector_model.specs.Key.{Key}
use Rattle.sheet_model.specs.Sources.{layers_of_sheets}
use Rattle.edit_model.specs.SheetApply.{changed_in, is_of, is_other}
use Rattle.sheet_edit_model.specs.SheetMarks.{keys_in}
use Rattle.sheet_set.specs.Planned.{at_place, in_place}
use Rattle.sheet_set.specs.StepOf.{AreOthers}
use Rattle.sheet_set.proofs.Places.{changed-place, left-place}
use Rattle.sheet_set.proofs.Told.{Told, come-told, go-told, put-told, turn-told}

pub in-place-itself : (place : ℕ) (list : List Sheet) → in_place place (at_place place list) list ≡ list
in-place-itself place list =
    ap (λ l. take place list ++ (at_place place list ++ l)) (sym (drop-drop 1 place list))
    ∙ (ap (λ l. take place list ++ l) (take-append-drop 1 (drop place list)) ∙ take-append-drop place list)

pub one-there : (place : ℕ) (list : List Sheet) → place < length list → (s : Sheet) × (at_place place list ≡ s ∷ [])
one-there place list within = first (drop place list) (omega (arith, within, length-drop place list))
  where
    first : (rest : List Sheet) → 0 < length rest → (s : Sheet) × (take 1 rest ≡ s ∷ [])
    first [] h = absurd (omega (arith, h))
    first (s ∷ rest) h = (s, refl)

-- a sheet that comes to a place
pub come-at : (n place : ℕ) (list : List Sheet) → AreOthers n list → (turned : Bool) (keys : List Key) (sheet : Sheet) → is_of n sheet ≡ true
    → turned ≡ swapped (layers_of_sheets list) (layers_of_sheets (take place list ++ sheet ∷ drop place list)) → keys ≡ keys_in sheet
    → Told list (take place list ++ sheet ∷ drop place list) n turned keys
come-at n place list others turned keys sheet it swap are =
    let P : Sheet → Type 0 = λ s. is_of n s ≡ false in
    let xs : List Sheet = take place list in
    let ys : List Sheet = drop place list in
    let whole : xs ++ ys ≡ list = take-append-drop place list in
    let swap_there : turned ≡ swapped (layers_of_sheets (xs ++ ys)) (layers_of_sheets (xs ++ sheet ∷ ys)) =
    swap ∙ ap (λ l. swapped (layers_of_sheets l) (layers_of_sheets (xs ++ sheet ∷ ys))) (sym whole) in
    subst (λ l. Told l (xs ++ sheet ∷ ys) n turned keys) whole
    (come-told n xs ys (each-take P place list others) (each-drop P place list others) turned keys sheet it swap_there are)

-- the sheet at a place, which alone has the number
module _ (n place : ℕ) (list : List Sheet) (sheet : Sheet)
    (is : at_place place list ≡ sheet ∷ []) (before : AreOthers n (take place list)) (after : AreOthers n (drop (place + 1) list)) (it : is_of n sheet ≡ true) where
  whole : list ≡ take place list ++ sheet ∷ drop (place + 1) list
  whole = sym (in-place-itself place list) ∙ ap (λ l. in_place place l list) is

  pub removed-at : in_place place [] list ≡ filter (is_other n) list
  removed-at =
      sym (left-place n (take place list) sheet (drop (place + 1) list) before it after) ∙ ap (filter (is_other n)) (sym whole)

  pub changed-at : (change : Sheet → Sheet) → in_place place (map change (at_place place list)) list ≡ changed_in n change list
  changed-at change =
      ap (λ l. in_place place (map change l) list) is
      ∙ (sym (changed-place n (take place list) sheet (drop (place + 1) list) before it after change) ∙ ap (changed_in n change) (sym whole))

  module _ (turned : Bool) (keys : List Key) where
    pub go-at : turned ≡ swapped (layers_of_sheets list) (layers_of_sheets (in_place place [] list)) → keys ≡ flat_map keys_in (at_place place list) → Told list (in_place place [] list) n turned keys
    go-at swap are =
        let now : List Sheet = in_place place [] list in
        let swap_there : turned ≡ swapped (layers_of_sheets (take place list ++ sheet ∷ drop (place + 1) list)) (layers_of_sheets now) =
        swap ∙ ap (λ l. swapped (layers_of_sheets l) (layers_of_sheets now)) whole in
        subst (λ l. Told l now n turned keys) (sym whole)
        (go-told n (take place list) (drop (place + 1) list) before after turned keys sheet it swap_there (are ∙ (ap (flat_map keys_in) is ∙ append-nil (keys_in sheet))))

    module _ (change : Sheet → Sheet) (same : is_of n (change sheet) ≡ true)
        (swap : turned ≡ swapped (layers_of_sheets list) (layers_of_sheets (in_place place (map change (at_place place list)) list)))
        (are : keys ≡ flat_map keys_in (at_place place list) ++ flat_map keys_in (map change (at_place place list))) where
      now : List Sheet
      now = in_place place (change sheet ∷ []) list

      swap-there : turned ≡ swapped (layers_of_sheets (take place list ++ sheet ∷ drop (place + 1) list)) (layers_of_sheets (in_place place (change sheet ∷ []) list))
      swap-there =
          swap
          ∙ (ap (λ l. swapped (layers_of_sheets list) (layers_of_sheets (in_place place (map change l) list))) is
          ∙ ap (λ l. swapped (layers_of_sheets l) (layers_of_sheets (in_place place (change sheet ∷ []) list))) whole)

      are-there : keys ≡ keys_in sheet ++ keys_in (change sheet)
      are-there =
          are
          ∙ (ap (λ l. flat_map keys_in l ++ flat_map keys_in (map change l)) is
          ∙ (ap (λ l. l ++ (keys_in (change sheet) ++ [])) (append-nil (keys_in sheet)) ∙ ap (λ l. keys_in sheet ++ l) (append-nil (keys_in (change sheet)))))

      to-list : Told (take place list ++ sheet ∷ drop (place + 1) list) (in_place place (change sheet ∷ []) list) n turned keys
          → Told list (in_place place (map change (at_place place list)) list) n turned keys
      to-list told =
          subst (λ l. Told list (in_place place (map change l) list) n turned keys) (sym is)
          (subst (λ l. Told l (in_place place (change sheet ∷ []) list) n turned keys) (sym whole) told)

      pub put-at : (sheet.edition == (change sheet).edition) ≡ false → Told list (in_place place (map change (at_place place list)) list) n turned keys
      put-at differ =
          to-list (put-told n (take place list) (drop (place + 1) list) before after turned keys sheet (change sheet) it same swap-there are-there differ)

      pub turn-at : (change sheet).enabled ≡ not sheet.enabled → Told list (in_place place (map change (at_place place list)) list) n turned keys
      turn-at differ =
          to-list (turn-told n (take place list) (drop (place + 1) list) before after turned keys sheet (change sheet) it same swap-there are-there differ)
