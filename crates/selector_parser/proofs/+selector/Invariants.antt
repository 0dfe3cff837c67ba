use Rattle.std.proofs.Common.{◌+◌, ◌-◌, ◌*◌, length, map}
use Rattle.selector_types.specs.ComplexView.{complex_of, test_of}
use Rattle.syntax_model.specs.TokenKinds.{is_comma}
use Rattle.syntax_model.specs.Outside.{parts_between}
use Rattle.sheet_model.specs.SelectorsIn.{complex_in, compound_at, reader_of}
use Rattle.selector_parser.proofs.CompoundLemmas.{AreTestsSoFar}
use Rattle.selector_parser.proofs.ComplexLemmas.{IsReadSoFar}
use Rattle.css_tokens.proofs.SeparatedLemmas.{AreSoFar}
use Rattle.selector_parser.proofs.ListLemmas.{AreKept}
use Rattle.selector_parser.proofs.+selector.Given as goal

-- each call reads less: its lists are nested less deep, or it is a part of the one before

abbrev pub decreases-nested::forgiving : goal.decreases-nested::forgiving
decreases-nested::forgiving l = 10 * l.depth + 9

abbrev pub decreases-nested::strict : goal.decreases-nested::strict
decreases-nested::strict l = 10 * l.depth + 9

abbrev pub decreases-complex::complex : goal.decreases-complex::complex
decreases-complex::complex l = 10 * l.depth + 8

abbrev pub decreases-compound::compound : goal.decreases-compound::compound
decreases-compound::compound l = 10 * l.depth + 7

abbrev pub decreases-compound::first : goal.decreases-compound::first
decreases-compound::first l = 10 * l.depth + 6

abbrev pub decreases-compound::test : goal.decreases-compound::test
decreases-compound::test l = 10 * l.depth + 5

abbrev pub decreases-pseudo::pseudo_class_test : goal.decreases-pseudo::pseudo_class_test
decreases-pseudo::pseudo_class_test l = 10 * l.depth + 4

abbrev pub decreases-pseudo::function_test : goal.decreases-pseudo::function_test
decreases-pseudo::function_test l = 10 * l.depth + 3

abbrev pub decreases-pseudo::by_function : goal.decreases-pseudo::by_function
decreases-pseudo::by_function l = 10 * l.depth + 2

abbrev pub decreases-pseudo::by_list : goal.decreases-pseudo::by_list
decreases-pseudo::by_list l = 10 * l.depth + 11

abbrev pub decreases-pseudo::not_test : goal.decreases-pseudo::not_test
decreases-pseudo::not_test l = 10 * l.depth + 10

abbrev pub invariant-complex::complex-compounds : goal.invariant-complex::complex-compounds
invariant-complex::complex-compounds l =
    IsReadSoFar (reader_of l.depth) (complex_in (reader_of l.depth) l.tokens) (complex_of l.complex) l.count l.left

abbrev pub decreases-complex::complex-compounds : goal.decreases-complex::complex-compounds
decreases-complex::complex-compounds l = 64 - l.count

abbrev pub invariant-compound::compound-tests : goal.invariant-compound::compound-tests
invariant-compound::compound-tests l =
    AreTestsSoFar (reader_of l.depth) (compound_at (reader_of l.depth) l.fn.left) (map test_of l.tests.items) l.left

abbrev pub decreases-compound::compound-tests : goal.decreases-compound::compound-tests
decreases-compound::compound-tests l = length l.left

abbrev pub invariant-nested::forgiving-members : goal.invariant-nested::forgiving-members
invariant-nested::forgiving-members l =
    AreKept complex_of (complex_in (reader_of l.depth)) l.list.items l.parts (parts_between is_comma l.tokens)

abbrev pub decreases-nested::forgiving-members : goal.decreases-nested::forgiving-members
decreases-nested::forgiving-members l = length l.parts

abbrev pub invariant-nested::strict-members : goal.invariant-nested::strict-members
invariant-nested::strict-members l =
    AreSoFar complex_of (complex_in (reader_of l.depth)) l.list.items l.parts (parts_between is_comma l.tokens)

abbrev pub decreases-nested::strict-members : goal.decreases-nested::strict-members
decreases-nested::strict-members l = length l.parts
