-- The grammar of selectors (selectors-4, section 18), as functions on tokens.
use Rattle.std.specs.Prelude.{ℕ, zero, suc, nat_le, List, [], ◌∷◌, map, length, Bool, true, false, if◌then◌else◌}
use Rattle.std.specs.Prelude.{Option, Some, None, option_map, codes, pos}
use Rattle.std.specs.List.{filter_map}
use Rattle.base_model.specs.Ascii.{asterisk, full_stop}
use Rattle.base_model.specs.Lists.{every}
use Rattle.base_model.specs.Options.{◌>>=◌}
use Rattle.base_model.specs.State.{hover_state, active_state, focus_state}
use Rattle.base_model.specs.Text.{Characters}
use Rattle.syntax_model.specs.Signs.{plus_sign, greater_than_sign}
use Rattle.syntax_model.specs.Token.{Token, TokenKind}
use Rattle.syntax_model.specs.Brackets.{square, round, inside, past}
use Rattle.syntax_model.specs.TokenKinds.{is_ident, is_delim, is_comma, is_colon, is_white, begins_with, trimmed}
use Rattle.syntax_model.specs.TokenKinds.{is_function, is_id_hash, is_open_square, without_white}
use Rattle.syntax_model.specs.Outside.{parts_between}
use Rattle.selector_model.specs.Compounds.{compounds_in, compound_limit}
use Rattle.selector_model.specs.Selector.{Combinator, descendant, child, next_sibling, later_sibling, AnB}
use Rattle.selector_model.specs.Selector.{Simple, type_selector, id_selector, class_selector}
use Rattle.selector_model.specs.Selector.{root, empty, nth, only, in_state}
use Rattle.selector_model.specs.Selector.{Selector, subject, combined, Compound, any, with_test}
use Rattle.selector_model.specs.Selector.{Test, simple, is_some, where_some, not_some, Selectors, no_more, more}
use Rattle.sheet_model.specs.AnPlusB.{an_plus_b_in, formula}
use Rattle.sheet_model.specs.AttributeIn.{attribute_in, tilde}
use Rattle.sheet_model.specs.SelectorTokens.{ident_at, named}

-- an index from the first or from the last, among all siblings or among those of the same type
abbrev pub indexed : Bool → Bool → AnB → Simple
indexed from_last of_type b = nth (record { formula = b; from_last = from_last; of_type = of_type })

-- the pseudo-classes without brackets (selectors-4, sections 9, 14 and 16)
abbrev pub pseudo_classes : List (Characters × Simple)
pseudo_classes =
    (codes "root", root)
    ∷ (codes "empty", empty)
    ∷ (codes "first-child", indexed false false (formula (pos 0) (pos 1)))
    ∷ (codes "last-child", indexed true false (formula (pos 0) (pos 1)))
    ∷ (codes "only-child", only false)
    ∷ (codes "first-of-type", indexed false true (formula (pos 0) (pos 1)))
    ∷ (codes "last-of-type", indexed true true (formula (pos 0) (pos 1)))
    ∷ (codes "only-of-type", only true)
    ∷ (codes "hover", in_state hover_state)
    ∷ (codes "active", in_state active_state)
    ∷ (codes "focus", in_state focus_state)
    ∷ []

-- what a functional pseudo-class asks of the tokens in its brackets
pub data Function : Type 0 where
  -- An+B, from the first or from the last, and whether of the same type
  index : Bool → Bool → Function
  -- `:is`, `:where` and `:not`
  is_list : Function
  where_list : Function
  not_list : Function

abbrev pub functions : List (Characters × Function)
functions =
    (codes "is", is_list)
    ∷ (codes "where", where_list)
    ∷ (codes "not", not_list)
    ∷ (codes "nth-child", index false false)
    ∷ (codes "nth-last-child", index true false)
    ∷ (codes "nth-of-type", index false true)
    ∷ (codes "nth-last-of-type", index true true)
    ∷ []

abbrev pub listed : List Selector → Selectors
listed [] = no_more
listed (selector ∷ rest) = more selector (listed rest)

-- <forgiving-selector-list>: the members that are selectors
abbrev pub forgiving : (List Token → Option Selector) → List Token → Selectors
forgiving member tokens = listed (filter_map member (parts_between is_comma tokens))

-- <complex-selector-list>: each member has to be a selector
abbrev pub strict : (List Token → Option Selector) → List Token → Option (List Selector)
strict member tokens = every (map member (parts_between is_comma tokens))

-- what a functional pseudo-class says, where `member` reads the members of its list
abbrev pub function_by : (List Token → Option Selector) → Function → List Token → Option Test
function_by member (index from_last of_type) tokens =
    option_map (λ b. simple (indexed from_last of_type b)) (an_plus_b_in tokens)
function_by member is_list tokens = Some (is_some (forgiving member tokens))
function_by member where_list tokens = Some (where_some (forgiving member tokens))
function_by member not_list tokens = option_map (λ list. not_some (listed list)) (strict member tokens)

-- the same where no list may be opened
abbrev pub index_by : Function → List Token → Option Test
index_by (index from_last of_type) tokens =
    option_map (λ b. simple (indexed from_last of_type b)) (an_plus_b_in tokens)
index_by function tokens = None

-- what a functional pseudo-class of this name says
abbrev pub Reader : Type 0
Reader = Function → List Token → Option Test

-- a functional pseudo-class by its name and what comes after its opening bracket
abbrev pub function_at : Reader → Characters → List Token → Option (Test × List Token)
function_at reader name rest = do
  function ← named name functions
  test ← reader function (inside round rest)
  Some (test, past round rest)

-- <pseudo-class-selector> = ':' <ident-token> | ':' <function-token> <any-value> ')', after its colon
abbrev pub pseudo_class_at : Reader → List Token → Option (Test × List Token)
pseudo_class_at reader [] = None
pseudo_class_at reader (first ∷ rest) =
    if is_ident first.kind then option_map (λ test. (simple test, rest)) (named first.name pseudo_classes)
    else if is_function first.kind then function_at reader first.name rest
    else None

-- <class-selector> = '.' <ident-token>, after its '.'
abbrev pub class_at : List Token → Option (Test × List Token)
class_at tokens = option_map (λ name. (simple (class_selector name.0), name.1)) (ident_at tokens)

-- <attribute-selector> after its '['
abbrev pub attribute_at : List Token → Option (Test × List Token)
attribute_at tokens = option_map (λ test. (simple test, past square tokens)) (attribute_in (inside square tokens))

-- <subclass-selector> = <id-selector> | <class-selector> | <attribute-selector> | <pseudo-class-selector>
abbrev pub test_at : Reader → List Token → Option (Test × List Token)
test_at reader [] = None
test_at reader (first ∷ rest) =
    if is_id_hash first.kind then Some (simple (id_selector first.name), rest)
    else if is_delim full_stop first.kind then class_at rest
    else if is_open_square first.kind then attribute_at rest
    else if is_colon first.kind then pseudo_class_at reader rest
    else None

-- <subclass-selector>*, and what comes after it; there are no more than tokens
abbrev pub tests_within : Reader → ℕ → List Token → Compound × List Token
tests_within reader zero tokens = (any, tokens)
tests_within reader (suc most) tokens = elim (test_at reader tokens) [
  | None ↦ (any, tokens)
  | Some found ↦ (with_test found.0 (tests_within reader most found.1).0, (tests_within reader most found.1).1)
]

abbrev pub tests_at : Reader → List Token → Compound × List Token
tests_at reader tokens = tests_within reader (length tokens) tokens

-- the first of a compound: a type, `*`, or one <subclass-selector>
abbrev pub first_at : Reader → List Token → Option (List Test × List Token)
first_at reader [] = None
first_at reader (first ∷ rest) =
    if is_ident first.kind then Some (simple (type_selector first.name) ∷ [], rest)
    else if is_delim asterisk first.kind then Some ([], rest)
    else option_map (λ found. (found.0 ∷ [], found.1)) (test_at reader (first ∷ rest))

abbrev pub before : List Test → Compound → Compound
before [] rest = rest
before (test ∷ tests) rest = with_test test (before tests rest)

-- <compound-selector> = [ <type-selector>? <subclass-selector>* ]!, and what comes after it
abbrev pub compound_at : Reader → List Token → Option (Compound × List Token)
compound_at reader tokens = do
  first ← first_at reader tokens
  Some (before first.0 (tests_at reader first.1).0, (tests_at reader first.1).1)

-- <combinator> = '>' | '+' | '~'
abbrev pub combinator_by : TokenKind → Option Combinator
combinator_by kind =
    if is_delim greater_than_sign kind then Some child
    else if is_delim plus_sign kind then Some next_sibling
    else if is_delim tilde kind then Some later_sibling
    else None

-- a combinator with whitespace around it, or whitespace alone, and what comes after it
abbrev pub combinator_after : Bool → List Token → Option (Combinator × List Token)
combinator_after is_apart [] = None
combinator_after is_apart (first ∷ rest) = elim (combinator_by first.kind) [
  | Some combinator ↦ Some (combinator, without_white rest)
  | None ↦ if is_apart then Some (descendant, first ∷ rest) else None
]

abbrev pub combinator_at : List Token → Option (Combinator × List Token)
combinator_at tokens = combinator_after (begins_with is_white tokens) (without_white tokens)

-- a selector of no more compounds than one may have
abbrev pub within_limit : Selector → Option Selector
within_limit selector = if nat_le (compounds_in selector) compound_limit then Some selector else None

-- [ <combinator>? <compound-selector> ]*, after the selector on the left of it
abbrev pub more_after : Reader → ℕ → Selector → List Token → Option Selector
more_after reader zero left tokens = None
more_after reader (suc most) left [] = Some left
more_after reader (suc most) left (first ∷ rest) = do
  combinator ← combinator_at (first ∷ rest)
  compound ← compound_at reader combinator.1
  selector ← within_limit (combined compound.0 combinator.0 left)
  more_after reader most selector compound.1

-- <complex-selector> = <compound-selector> [ <combinator>? <compound-selector> ]*, with whitespace around it
abbrev pub complex_in : Reader → List Token → Option Selector
complex_in reader tokens = do
  compound ← compound_at reader (trimmed tokens)
  selector ← within_limit (subject compound.0)
  more_after reader compound_limit selector compound.1

-- what a functional pseudo-class says, where lists may be nested so deep
abbrev pub reader_of : ℕ → Reader
reader_of zero = index_by
reader_of (suc depth) = function_by (complex_in (reader_of depth))

-- how deep lists may be nested
abbrev pub list_limit : ℕ
list_limit = 16

abbrev pub selector_in : List Token → Option Selector
selector_in tokens = complex_in (reader_of list_limit) tokens

-- <complex-selector-list> = <complex-selector>#
unfoldable pub selectors_in : List Token → Option (List Selector)
selectors_in tokens = every (map selector_in (parts_between is_comma tokens))
