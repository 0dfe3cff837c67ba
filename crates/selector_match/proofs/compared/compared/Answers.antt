use Rattle.selector_model.specs.Selector.{equals, dash_match, prefix, suffix, substring}
use Rattle.selector_model.specs.Comparisons.{folded, begins_with, ends_with, has_part}
use Rattle.selector_match.proofs.TextLemmas.{by_bytes, with_part, without_part}
use Rattle.selector_match.proofs.compared.compared.Goals as goal

pub returns-in-Equals : goal.returns-in-Equals
returns-in-Equals c =
    rw c.in-Equals.is (by_bytes equals c.args.case_counts _ _ _ _ _ tt c.utf8.value c.utf8.part c.as_bytes-text.ensures.value c.as_bytes-bytes.ensures.value c.is_same.ensures)

pub returns-in-DashMatch : goal.returns-in-DashMatch
returns-in-DashMatch c =
    rw c.in-DashMatch.is (by_bytes dash_match c.args.case_counts _ _ _ _ _ tt c.utf8.value c.utf8.part c.as_bytes-text.ensures.value c.as_bytes-bytes.ensures.value c.dash_matches.ensures)

pub returns-then-not-is_empty : goal.returns-then-not-is_empty
returns-then-not-is_empty c =
    rw c.in-Prefix.is (by_bytes prefix c.args.case_counts _ _ _ _ _ tt c.utf8.value c.utf8.part c.as_bytes-text.ensures.value c.as_bytes-bytes.ensures.value (with_part c.args.case_counts _ _ _ _ c.is_empty.ensures c.if-not-is_empty.true c.begins_with.ensures))

pub returns-else-not-is_empty : goal.returns-else-not-is_empty
returns-else-not-is_empty c =
    let k = c.args.case_counts in
    rw c.in-Prefix.is (by_bytes prefix k _ _ _ _ _ tt c.utf8.value c.utf8.part c.as_bytes-text.ensures.value c.as_bytes-bytes.ensures.value (without_part k _ _ (begins_with (folded k c.as_bytes-text.result.now) (folded k c.as_bytes-bytes.result.now)) c.is_empty.ensures c.if-not-is_empty.false))

pub returns-then-not-is_empty-2 : goal.returns-then-not-is_empty-2
returns-then-not-is_empty-2 c =
    rw c.in-Suffix.is (by_bytes suffix c.args.case_counts _ _ _ _ _ tt c.utf8.value c.utf8.part c.as_bytes-text.ensures.value c.as_bytes-bytes.ensures.value (with_part c.args.case_counts _ _ _ _ c.is_empty-in-Suffix.ensures c.if-not-is_empty-2.true c.ends_with.ensures))

pub returns-else-not-is_empty-2 : goal.returns-else-not-is_empty-2
returns-else-not-is_empty-2 c =
    let k = c.args.case_counts in
    rw c.in-Suffix.is (by_bytes suffix k _ _ _ _ _ tt c.utf8.value c.utf8.part c.as_bytes-text.ensures.value c.as_bytes-bytes.ensures.value (without_part k _ _ (ends_with (folded k c.as_bytes-text.result.now) (folded k c.as_bytes-bytes.result.now)) c.is_empty-in-Suffix.ensures c.if-not-is_empty-2.false))

pub returns-then-not-is_empty-3 : goal.returns-then-not-is_empty-3
returns-then-not-is_empty-3 c =
    rw c.in-Substring.is (by_bytes substring c.args.case_counts _ _ _ _ _ tt c.utf8.value c.utf8.part c.as_bytes-text.ensures.value c.as_bytes-bytes.ensures.value (with_part c.args.case_counts _ _ _ _ c.is_empty-in-Substring.ensures c.if-not-is_empty-3.true c.has_part.ensures))

pub returns-else-not-is_empty-3 : goal.returns-else-not-is_empty-3
returns-else-not-is_empty-3 c =
    let k = c.args.case_counts in
    rw c.in-Substring.is (by_bytes substring k _ _ _ _ _ tt c.utf8.value c.utf8.part c.as_bytes-text.ensures.value c.as_bytes-bytes.ensures.value (without_part k _ _ (has_part (folded k c.as_bytes-text.result.now) (folded k c.as_bytes-bytes.result.now)) c.is_empty-in-Substring.ensures c.if-not-is_empty-3.false))
