-- The sheets that the items say.
use Rattle.std.proofs.Common.{◌≡◌, ℕ, ◌+◌, ◌≤◌, nat_le, nat_lt, ◌&&◌, ◌||◌, not, List, [], ◌∷◌, ◌++◌, length, Bool, true, false, cond, Option, Some, None, option_and_then, Ok, Err, bytes_eq, refl, sym, ap, ap₂, ◌∙◌, arith}
use Rattle.std.specs.Prelude.{codes}
use Rattle.std.specs.List.{list_all}
use Rattle.std.specs.Option.{option_or}
use Rattle.std.proofs.lemmas.Bool.Decides.{nat_tests}
use Rattle.std.proofs.lemmas.List.{length_push}
use Rattle.std.proofs.lemmas.List.Folds.{list_all-append}
use Rattle.serde_json.specs.Data.{Data, Items, Members, put}
use Rattle.serde_json.specs.Find.{as_array, as_str}
use Rattle.serde_json.specs.View.{items_of}
use Rattle.base_model.specs.Limits.{sheet_limit, text_limit}
use Rattle.stylo_base.specs.declared.refusal.Kind.TheVariants.{Sheets, Text}
use Rattle.layer_order.specs.declared.sheet_input.SheetInput.{SheetInput}
use Rattle.job_json.specs.declared.sheet.SheetParts.{SheetParts}
use Rattle.job_json.specs.declared.sheet_items.SheetItems.{SheetItems}
use Rattle.job_json.specs.Checked.{Checked, ◌>>=◌, wanted}
use Rattle.job_json.specs.Words.{origin_from, enabled_from}
use Rattle.job_json.specs.Shape.{items_in, sheet_of, sheet_in}
use Rattle.job_json.specs.Limits.{Passed, Within, within, is_short_text, texts_past, sheets_past}
use Rattle.job_json.specs.Parts.{sheets_read}
use Rattle.job_json.specs.Kept.{IsSheetOf, sheet_kept, AreSheetsOf, HasSheets, KeepsSheet, bad_or}
use Rattle.job_json.proofs.CheckedLaws.{read_end}
use Rattle.job_json.proofs.Puts.{beside}

-- the sheet of the members
pub sheet_is : (s : SheetParts) (ms : Members) → IsSheetOf s ms → sheet_of ms ≡ sheet_kept s
sheet_is s ms kept = sym (rw (kept.origin, kept.enabled, kept.text) refl)

-- a member that a sheet does not have
pub input_beside : (s : SheetParts) (key : List ℕ) (d : Data) (ms : Members) (word : List ℕ) → key ≡ word
    → bytes_eq word (codes "origin") ≡ false → bytes_eq word (codes "enabled") ≡ false → bytes_eq word (codes "text") ≡ false
    → IsSheetOf s ms → IsSheetOf s (put key d ms)
input_beside s key d ms word is no_origin no_enabled no_text kept = record {
  origin = kept.origin ∙ ap origin_from (beside key d ms word (codes "origin") is no_origin);
  enabled = kept.enabled ∙ ap enabled_from (beside key d ms word (codes "enabled") is no_enabled);
  text = kept.text ∙ ap (option_and_then as_str) (beside key d ms word (codes "text") is no_text);
}

-- ---- one more sheet

no_longer : (long short : Bool) → (not long && (short && true)) ≡ not (long || not short)
no_longer true short = refl
no_longer false true = refl
no_longer false false = refl

was_short : (old new : Bool) (short : Bool) → new ≡ (old || not short) → new ≡ false → old ≡ false
was_short false new short is e = refl
was_short true new short is e = absurd (cc)

module _ (old new : SheetItems) (sheet : SheetInput) (sheets : List SheetInput) (has : HasSheets old sheets) (keeps : KeepsSheet old sheet new) where
  kept_now : new.is_long ≡ false → length (sheets ++ sheet ∷ []) ≤ sheet_limit → new.list.items ≡ sheets ++ sheet ∷ []
  kept_now short few =
      let room : nat_lt old.count sheet_limit ≡ true = let n = length_push sheets sheet in let m = has.count in grind (arith, nat_tests) in
      let before : old.list.items ≡ sheets = has.kept (was_short old.is_long new.is_long (is_short_text sheet) keeps.long short) (omega (arith, length_push sheets sheet)) in
      keeps.list ∙ (ap₂ (λ l r. cond (not l && r) (old.list.items ++ sheet ∷ []) old.list.items) short room ∙ ap (λ l. l ++ sheet ∷ []) before)

  pub one_sheet : HasSheets new (sheets ++ sheet ∷ [])
  one_sheet = record {
    count = length_push sheets sheet ∙ (ap (λ n. n + 1) has.count ∙ sym keeps.count);
    short = list_all-append is_short_text sheets (sheet ∷ []) ∙ (ap (λ b. b && (is_short_text sheet && true)) has.short ∙ (no_longer old.is_long (is_short_text sheet) ∙ ap not (sym keeps.long)));
    kept = kept_now;
  }

-- ---- the whole list

one_text : (b : Bool) (more : Option Passed) (rest : Bool) → more ≡ cond rest None (Some (Text, text_limit))
    → option_or (cond b None (Some (Text, text_limit))) more ≡ cond (b && rest) None (Some (Text, text_limit))
one_text true more rest e = e
one_text false more rest e = refl

texts_are : (sheets : List SheetInput) → texts_past sheets ≡ cond (list_all is_short_text sheets) None (Some (Text, text_limit))
texts_are [] = refl
texts_are (sheet ∷ sheets) = one_text (is_short_text sheet) (texts_past sheets) (list_all is_short_text sheets) (texts_are sheets)

abbrev pub finished : SheetItems → Within (List SheetInput)
finished s = within (option_or (cond (nat_le s.count sheet_limit) None (Some (Sheets, sheet_limit))) (cond s.is_long (Some (Text, text_limit)) None)) s.list.items

turned : (b : Bool) → cond {A = Option Passed} (not b) None (Some (Text, text_limit)) ≡ cond b (Some (Text, text_limit)) None
turned true = refl
turned false = refl

by_limits : (few long : Bool) (sheets items : List SheetInput) → (few ≡ true → long ≡ false → items ≡ sheets)
    → within (option_or (cond few None (Some (Sheets, sheet_limit))) (cond long (Some (Text, text_limit)) None)) sheets
    ≡ within (option_or (cond few None (Some (Sheets, sheet_limit))) (cond long (Some (Text, text_limit)) None)) items
by_limits false long sheets items same = refl
by_limits true true sheets items same = refl
by_limits true false sheets items same = ap (λ l. Ok l) (sym (same refl refl))

sheets_are : (s : SheetItems) (sheets : List SheetInput) → HasSheets s sheets → within (sheets_past sheets) sheets ≡ finished s
sheets_are s sheets has =
    let texts : texts_past sheets ≡ cond s.is_long (Some (Text, text_limit)) None = texts_are sheets ∙ (ap (λ b. cond b None (Some (Text, text_limit))) has.short ∙ turned s.is_long) in
    ap₂ (λ n t. within (option_or (cond (nat_le n sheet_limit) None (Some (Sheets, sheet_limit))) t) sheets) has.count texts
    ∙ by_limits (nat_le s.count sheet_limit) s.is_long sheets s.list.items (λ few short. has.kept short (let m = has.count in grind (arith, nat_tests)))

abbrev of_items : Option Items → Checked (Within (List SheetInput))
of_items items = (wanted items >>= items_in (λ k. sheet_in) 0) >>= (λ sheets. Ok (within (sheets_past sheets) sheets))

pub sheets_end : (d : Data) (ds : List Data) (s : SheetItems) → as_array d ≡ Some (items_of ds) → AreSheetsOf s ds → sheets_read (Some d) ≡ bad_or s.bad (finished s)
sheets_end d ds s is kept = ap of_items is ∙ read_end (λ k. sheet_in) (λ sheets. within (sheets_past sheets) sheets) s.bad (HasSheets s) (finished s) ds kept (sheets_are s)

pub no_sheets : (d : Data) → as_array d ≡ None → sheets_read (Some d) ≡ Err []
no_sheets d is = ap of_items is
