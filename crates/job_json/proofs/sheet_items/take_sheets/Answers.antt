use Rattle.std.proofs.Common.{◌≡◌, ◌∙◌, None, Some, Ok, cond, ap, ap₂, sym, subst, rules}
use Rattle.std.specs.Option.{option_or}
use Rattle.serde_json.specs.Find.{as_array}
use Rattle.json_reader.specs.Kept.{KeepsItems}
use Rattle.base_model.specs.Limits.{sheet_limit, text_limit}
use Rattle.stylo_base.specs.declared.refusal.Kind.TheVariants.{Sheets, Text}
use Rattle.job_json.specs.Limits.{within, past}
use Rattle.job_json.specs.Kept.{AreSheetsOf, bad_or}
use Rattle.job_json.proofs.Arrays.{is_array}
use Rattle.job_json.proofs.SheetLaws.{finished, sheets_end}
use Rattle.job_json.proofs.sheet_items.take_sheets.Goals as goal

pub returns-then-is_long-clause-ok : goal.returns-then-is_long-clause-ok
returns-then-is_long-clause-ok c =
    let s = c.array.new.kept in
    let done = c.in_ok-array.ensures.ok in
    let kept = is_array AreSheetsOf s (as_array done.0) (subst (KeepsItems AreSheetsOf s (as_array done.0)) c.if-not-branch.false done.2) in
    let right : s.bad ≡ None = search rules in
    let few : past Sheets sheet_limit s.count ≡ None = search rules in (
      done.0,
      done.1,
      sheets_end done.0 kept.0 s kept.1 kept.2
          ∙ (ap (λ b. bad_or b (finished s)) right ∙ ap₂ (λ p l. Ok (within (option_or p (cond l (Some (Text, text_limit)) None)) s.list.items)) few c.if-is_long.true),
    )

pub returns-clause-ok : goal.returns-clause-ok
returns-clause-ok c =
    let s = c.array.new.kept in
    let done = c.in_ok-array.ensures.ok in
    let kept = is_array AreSheetsOf s (as_array done.0) (subst (KeepsItems AreSheetsOf s (as_array done.0)) c.if-not-branch.false done.2) in
    let right : s.bad ≡ None = search rules in
    let few : past Sheets sheet_limit s.count ≡ None = search rules in (
      done.0,
      done.1,
      sheets_end done.0 kept.0 s kept.1 kept.2
          ∙ (ap (λ b. bad_or b (finished s)) right
          ∙ (ap₂ (λ p l. Ok (within (option_or p (cond l (Some (Text, text_limit)) None)) s.list.items)) few c.if-is_long.false ∙ ap (λ l. Ok (Ok l)) (sym c.of_vec.ensures))),
    )
