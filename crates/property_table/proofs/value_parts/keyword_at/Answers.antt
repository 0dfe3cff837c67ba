use Rattle.std.proofs.Common.{◌≡◌, ◌<◌, ◌≤◌, ◌∙◌, Some, None, true, false, length, nat_lt, slice_get, refl, sym, ap, arith}
use Rattle.std.proofs.lemmas.Bool.Decides.{nat_tests}
use Rattle.std.proofs.lemmas.Option.{slice_get_past, slice_get_read}
use Rattle.property_table.specs.declared.keyword.TheConstants.{KEYWORDS}
use Rattle.property_table.proofs.ColumnLemmas.{keyword_value_at}
use Rattle.property_table.proofs.value_parts.keyword_at.Goals as goal

pub returns-in-Some : goal.returns-in-Some
returns-in-Some c =
    let read = c.in-Some.ensures.lookup in
    let test : true ≡ nat_lt c.from.result (length KEYWORDS.now) = read.0 in
    let within : c.from.result < length KEYWORDS.now = grind (arith, nat_tests) in
    let found = slice_get_read KEYWORDS.now (length KEYWORDS.now) c.from.result c.in-Some.keyword.now refl within read.1 in
    let at = c.from.ensures ∙ c.saturating_sub.ensures in
    sym (keyword_value_at c.args.word (Some c.in-Some.keyword.now) (ap (slice_get KEYWORDS.now) (sym at) ∙ found))

pub returns-in-None : goal.returns-in-None
returns-in-None c =
    let test : false ≡ nat_lt c.from.result (length KEYWORDS.now) = c.in-None.ensures.lookup.0 in
    let past : length KEYWORDS.now ≤ c.from.result = grind (arith, nat_tests) in
    let at = c.from.ensures ∙ c.saturating_sub.ensures in
    sym (keyword_value_at c.args.word None (ap (slice_get KEYWORDS.now) (sym at) ∙ slice_get_past KEYWORDS.now c.from.result past))
