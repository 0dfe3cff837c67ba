use Rattle.std.proofs.Common.{◌<◌, length, sym, ap, ◌∙◌, arith}
use Rattle.css_tokens.proofs.NameLemmas.{by_bytes, short, first_other, by_second}
use Rattle.css_tokens.proofs.custom.name.is_custom_name.Goals as goal

pub returns-then-bytes-lt-SHORTEST_NAME : goal.returns-then-bytes-lt-SHORTEST_NAME
returns-then-bytes-lt-SHORTEST_NAME c =
    let few : length c.args.name.now < 3 = omega (arith, ap length c.as_bytes-bytes.ensures.value) in
    sym (by_bytes c.args.name.now c.utf8.name ∙ short c.args.name.now few)

pub returns-then-bytes-eq45 : goal.returns-then-bytes-eq45
returns-then-bytes-eq45 c =
    rw (by_bytes c.args.name.now c.utf8.name, sym c.as_bytes-bytes.ensures.value) (sym (by_second c.as_bytes-bytes.result.now c.if-bytes-lt-SHORTEST_NAME.false c.if-bytes-eq45.true))

pub returns-else-bytes-eq45 : goal.returns-else-bytes-eq45
returns-else-bytes-eq45 c =
    rw (by_bytes c.args.name.now c.utf8.name, sym c.as_bytes-bytes.ensures.value) (first_other c.as_bytes-bytes.result.now c.if-bytes-eq45.false)
