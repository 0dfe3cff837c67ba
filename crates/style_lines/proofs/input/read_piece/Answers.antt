use Rattle.std.proofs.Common.{◌≡◌, ◌+◌, ℕ, List, ◌++◌, take, ap, sym, ◌∙◌, subst, arith, rules}
use Rattle.std.specs.Io.KnownBytes.{Consumes}
use Rattle.std.proofs.KnownBytes.{Consumes-trans}
use Rattle.std.proofs.lemmas.List.{with_items_is, places}
use Rattle.style_lines.proofs.Told.{cut_after_read}
use Rattle.style_lines.proofs.input.read_piece.Goals as goal

pub returns-clause-read : goal.returns-clause-read
returns-clause-read g c = λ all before.
    let old : List ℕ = c.args.found.now.items in
    let new : List ℕ = c.read.new.buf in
    let start : ℕ = c.len-start.result in
    let count : ℕ = c.in_ok-count.count in
    let longer = c.as_mut_slice.ensures.value ∙ c.in_ok-resize.ensures.items in
    let read = ap (take (start + count)) (with_items_is c.resize.new.self _ (search (rules, places))) in
    let cut : c.truncate.new.self.items ≡ old ++ take count new =
    c.truncate.ensures.items ∙ read ∙ cut_after_read old c.as_mut_slice.result.now new _ _ start (start + c.args.room) count (search rules) (omega arith) (search rules) longer in
    subst (Consumes all (g.S.Source.left c.read.new.self)) (sym cut) (Consumes-trans _ _ _ _ _ before c.in_ok-count.ensures.bytes.0)
