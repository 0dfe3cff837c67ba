-- The steps by which edits of the sheet at a place come to their lists.
use Rattle.std.proofs.Common.{◌≡◌, ℕ, ◌+◌, ◌<◌, ◌≤◌, ◌==◌, List, [], ◌∷◌, length, map, filter, get_or, Bool, true, false, not, sym, subst, ap, ◌∙◌, arith}
use Rattle.std.specs.List.{AllByRecursion}
use Rattle.std.specs.Prelude.{vec_capacity}
use Rattle.std.proofs.lemmas.Bool.{cond-false, eqb-true, false_from_ne_true}
use Rattle.base_model.specs.Sheet.{Sheet}
use Rattle.base_model.specs.Text.{Characters, same_text}
use Rattle.edit_model.specs.SheetApply.{SheetList, changed_in, is_of, is_other, with_enabled, with_text}
use Rattle.sheet_set.specs.declared.kept_sheet.KeptSheet.{KeptSheet}
use Rattle.sheet_set.specs.declared.kept_sheet.RuleRoom.{RuleRoom}
use Rattle.sheet_set.specs.declared.sheet_step.SheetStep.TheVariants.{Stay, Go, Put, Turn}
use Rattle.sheet_set.specs.Kept.{kept_seen}
use Rattle.sheet_set.specs.Planned.{at_place, in_place, put_over, turned_over}
use Rattle.sheet_set.specs.Room.{CanLeave}
use Rattle.sheet_set.specs.Rules.{sheet_made}
use Rattle.sheet_set.specs.StepOf.{IsAlone, IsStepTo}
use Rattle.sheet_set.proofs.AtPlace.{changed-at, in-place-itself, removed-at}
use Rattle.sheet_set.proofs.SheetAt.{count-of, seen-at}
use Rattle.sheet_set.proofs.StepTold.{it-there}

module _ (sheets : List KeptSheet) (place : ℕ) (it : KeptSheet) (within : place < length sheets) (is : it ≡ get_or sheets place it) (n last : ℕ) (alone : IsAlone n place (map kept_seen sheets)) where
  abbrev seen : List Sheet
  seen = map kept_seen sheets

  at-it : at_place place (map kept_seen sheets) ≡ kept_seen it ∷ []
  at-it = seen-at sheets place it within is

  it-is : is_of n (kept_seen it) ≡ true
  it-is = it-there (λ s. is_of n s ≡ true) place (map kept_seen sheets) (kept_seen it) at-it alone.it

  abbrev listed : List Sheet → SheetList
  listed l = record { listed = l; last = last }

  can-leave : (room : RuleRoom) → it.count ≤ vec_capacity room.rules → it.count ≤ vec_capacity room.selectors → CanLeave sheets place room
  can-leave room rules lists = record {
    within = within;
    rules_room = omega (arith, rules, count-of sheets place it within is);
    lists_room = omega (arith, lists, count-of sheets place it within is);
  }

  changed : (change other : Sheet → Sheet) → other (kept_seen it) ≡ change (kept_seen it)
      → in_place place (map other (at_place place (map kept_seen sheets))) (map kept_seen sheets) ≡ changed_in n change (map kept_seen sheets)
  changed change other same =
      let same_at : map other (at_place place seen) ≡ map change (at_place place seen) = ap (map other) at-it ∙ (ap (λ s. s ∷ []) same ∙ sym (ap (map change) at-it)) in
      ap (λ l. in_place place l seen) same_at ∙ changed-at n place seen (kept_seen it) at-it alone.before alone.after it-is change

  -- what changes nothing
  pub stay-to : (change : Sheet → Sheet) → change (kept_seen it) ≡ kept_seen it → IsStepTo sheets last n (record { listed = changed_in n change (map kept_seen sheets); last = last }) Stay
  stay-to change same =
      let itself : map change (at_place place seen) ≡ at_place place seen = ap (map change) at-it ∙ (ap (λ s. s ∷ []) same ∙ sym at-it) in
      let stays : changed_in n change seen ≡ seen =
      sym (changed-at n place seen (kept_seen it) at-it alone.before alone.after it-is change)
      ∙ (ap (λ l. in_place place l seen) itself ∙ in-place-itself place seen) in
      record { is = ap listed (sym stays); at = tt; of = tt }

  pub go-to : (room : RuleRoom) → it.count ≤ vec_capacity room.rules → it.count ≤ vec_capacity room.selectors
      → IsStepTo sheets last n (record { listed = filter (is_other n) (map kept_seen sheets); last = last }) (Go place room)
  go-to room rules lists = record {
    is = ap listed (removed-at n place seen (kept_seen it) at-it alone.before alone.after it-is);
    at = can-leave room rules lists;
    of = alone;
  }

  pub turn-to : (on : Bool) → on ≡ not it.enabled → (room : RuleRoom) → it.count ≤ vec_capacity room.rules → it.count ≤ vec_capacity room.selectors
      → IsStepTo sheets last n (record { listed = changed_in n (with_enabled on) (map kept_seen sheets); last = last }) (Turn place room)
  turn-to on other room rules lists = record {
    is = ap listed (changed (with_enabled on) turned_over (ap (λ b. with_enabled b (kept_seen it)) (sym other)));
    at = can-leave room rules lists;
    of = alone;
  }

  pub put-to : (text : Characters) → same_text text it.text ≡ false → (new : KeptSheet) → kept_seen new ≡ sheet_made it.number it.origin false text (it.edition + 1)
      → (room : RuleRoom) → it.count ≤ vec_capacity room.rules → it.count ≤ vec_capacity room.selectors
      → IsStepTo sheets last n (record { listed = changed_in n (with_text text) (map kept_seen sheets); last = last }) (Put place new room)
  put-to text other new new_is room rules lists =
      let over : put_over (kept_seen new) (kept_seen it) ≡ with_text text (kept_seen it) =
      ap (with_enabled it.enabled) new_is ∙ sym (cond-false (same_text text it.text) (kept_seen it) (record (kept_seen it) { text = text; edition = it.edition + 1 }) other) in
      let later : new.edition ≡ it.edition + 1 = ap (λ s. s.edition) new_is in
      let differs : (it.edition == new.edition) ≡ false = false_from_ne_true (it.edition == new.edition) (λ e. absurd (omega (arith, eqb-true it.edition new.edition e, later))) in
      record {
        is = ap listed (changed (with_text text) (put_over (kept_seen new)) over);
        at = (can-leave room rules lists, ap (λ s. s.enabled) new_is);
        of = (alone, (ap (is_of n) new_is ∙ it-is, subst (AllByRecursion (λ s. (s.edition == new.edition) ≡ false)) (sym at-it) (differs, tt)));
      }
