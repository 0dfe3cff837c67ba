use Rattle.std.proofs.Common.{map, sym, ap, ◌∙◌}
use Rattle.std.proofs.lemmas.List.{map-append}
use Rattle.selector_types.specs.ComplexView.{test_of, tested}
use Rattle.sheet_model.specs.SelectorsIn.{compound_at, reader_of, test_at}
use Rattle.selector_parser.proofs.ComplexLemmas.{read_first, read_no_compound, reader_deeper}
use Rattle.selector_parser.proofs.CompoundLemmas.{tests_all, tests_more}
use Rattle.selector_parser.proofs.+selector.Goals as goal

pub complex::complex-compounds-init : goal.complex::complex-compounds-init
complex::complex-compounds-init t c =
    let found = rw c.in-Some.is at c.in_ok-tests.ensures in
    read_first (reader_of c.args.depth) c.args.tokens.now (tested (map test_of c.in-Some.tests.items)) c.compound.new.left _ _
    (found ∙ ap (compound_at (reader_of c.args.depth)) (c.new-left.ensures ∙ c.trimmed.ensures))
    (rw c.deref.ensures.value at c.in-Some-with_one_more.ensures) c.alone-complex.ensures

pub complex::complex-returns-in_default-2 : goal.complex::complex-returns-in_default-2
complex::complex-returns-in_default-2 t c =
    read_no_compound (reader_of c.args.depth) _ _ _ c.compounds.left _ c.combinator.new.left c.compounds.invariant
    (sym c.is_at_end.ensures ∙ c.compounds-test.true) c.in-Some-combinator.ensures (rw c.in_default-2.is at c.in_ok-tests-2.ensures)

pub compound::compound-returns-in_default-2 : goal.compound::compound-returns-in_default-2
compound::compound-returns-in_default-2 t c =
    rw c.shrink_to_fit.ensures.items
    (tests_all (reader_of c.args.depth) _ _ c.tests.left c.tests.invariant
    (rw c.in_default-2.is at c.in_ok-test.ensures.value ∙ ap (test_at (reader_of c.args.depth)) c.fork-ahead.ensures))

pub compound::compound-tests-preserved : goal.compound::compound-tests-preserved
compound::compound-tests-preserved t c =
    let found = rw (c.in-Some-2.is, c.fork-ahead.ensures) at c.in_ok-test.ensures.value in
    let shorter = rw (c.in-Some-2.is, c.fork-ahead.ensures) at c.in_ok-test.ensures.shorter in
    rw (c.in_ok-push.ensures.items, map-append test_of c.tests.tests.items)
    (tests_more (reader_of c.args.depth) _ _ c.tests.left _ _ c.tests.invariant found shorter)

pub pseudo::by_function-returns : goal.pseudo::by_function-returns
pseudo::by_function-returns t c = rw (reader_deeper c.args.depth c.if-depth-eq0.false) at c.by_list.ensures
