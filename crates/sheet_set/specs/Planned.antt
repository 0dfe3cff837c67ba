-- What a step of an edit comes to, by the place in the list.
use Rattle.std.specs.Prelude.{ℕ, ◌+◌, List, [], ◌∷◌, ◌++◌, take, drop, map, not, Option, nat_le}
use Rattle.std.specs.Option.{option_or}
use Rattle.base_model.specs.Limits.{sheet_limit, number_limit, text_limit}
use Rattle.base_model.specs.Sheet.{Sheet}
use Rattle.base_model.specs.Text.{Characters}
use Rattle.edit_model.specs.Refusal.{Refusal, bad_place, number_count, sheet_count, text_bytes, unless, past, bytes_of}
use Rattle.edit_model.specs.SheetApply.{SheetList, with_enabled}
use Rattle.sheet_set.specs.declared.sheet_step.SheetStep.{SheetStep}
use Rattle.sheet_set.specs.declared.sheet_step.SheetStep.TheVariants.{Stay, Come, Go, Put, Turn}
use Rattle.sheet_set.specs.Kept.{kept_seen}

-- the sheet at a place, if there is one, and the list with others in its stead
abbrev pub at_place : ℕ → List Sheet → List Sheet
at_place place list = take 1 (drop place list)

abbrev pub in_place : ℕ → List Sheet → List Sheet → List Sheet
in_place place others list = take place list ++ (others ++ drop (place + 1) list)

-- another text under the switch of the one before
abbrev pub put_over : Sheet → Sheet → Sheet
put_over sheet old = with_enabled old.enabled sheet

abbrev pub turned_over : Sheet → Sheet
turned_over sheet = with_enabled (not sheet.enabled) sheet

abbrev pub stepped : SheetStep → List Sheet → List Sheet
stepped Stay list = list
stepped (Come place sheet on) list = take place list ++ with_enabled on (kept_seen sheet) ∷ drop place list
stepped (Go place room) list = in_place place [] list
stepped (Put place sheet room) list = in_place place (map (put_over (kept_seen sheet)) (at_place place list)) list
stepped (Turn place room) list = in_place place (map turned_over (at_place place list)) list

abbrev pub stepped_last : SheetStep → ℕ → ℕ
stepped_last (Come place sheet on) last = last + 1
stepped_last step last = last

abbrev pub planned : SheetStep → SheetList → SheetList
planned step l = record { listed = stepped step l.listed; last = stepped_last step l.last }

-- why one more sheet is refused
abbrev pub one_more_refused : ℕ → ℕ → ℕ → Characters → Option Refusal
one_more_refused count last index text =
    option_or (unless (nat_le index count) bad_place)
    (option_or (past sheet_count sheet_limit (count + 1))
    (option_or (past number_count number_limit (last + 1)) (past text_bytes text_limit (bytes_of text))))
