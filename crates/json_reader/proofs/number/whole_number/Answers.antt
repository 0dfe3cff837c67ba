use Rattle.std.proofs.Common.{◌≡◌, ◌==◌, get_or, true, false, sym, ap, ◌∙◌}
use Rattle.json_reader.specs.Parts.{whole_of}
use Rattle.json_reader.proofs.Numbers.{no_whole, whole_from}
use Rattle.json_reader.proofs.number.whole_number.Goals as goal

pub returns-then-has_minus : goal.returns-then-has_minus
returns-then-has_minus c =
    let s = c.as_bytes-bytes.result.now in
    let signed : (get_or s 0 0 == 45) ≡ true = sym c.if-has_minus.ensures.value in
    sym (ap whole_of (sym c.as_bytes-bytes.ensures.value) ∙ no_whole s signed)

pub returns : goal.returns
returns c =
    let s = c.as_bytes-bytes.result.now in
    let unsigned : (get_or s 0 0 == 45) ≡ false = sym c.if-has_minus.ensures.value in
    whole_from s unsigned c.scan.result c.to_u64.result c.scan.ensures.parts c.to_u64.ensures ∙ ap whole_of c.as_bytes-bytes.ensures.value
