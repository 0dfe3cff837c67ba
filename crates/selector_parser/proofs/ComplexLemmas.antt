-- The compounds of a selector, as they are read: those so far, before what is left.
use Rattle.std.proofs.Common.{◌≡◌, ℕ, zero, suc, ◌+◌, ◌-◌, ◌<◌, ◌≤◌, false, nat_le, if◌then◌else◌, List, [], ◌∷◌, Option, Some, None, option_and_then, refl, sym, ap, ◌∙◌, arith}
use Rattle.std.proofs.lemmas.Bool.Decides.{nat_tests}
use Rattle.base_model.specs.Lists.{is_nil}
use Rattle.syntax_model.specs.Token.{Token}
use Rattle.selector_model.specs.Compounds.{compound_limit, compounds_in, compounds_within}
use Rattle.selector_model.specs.Selector.{Selector, subject, Combinator, Compound}
use Rattle.syntax_model.specs.TokenKinds.{trimmed}
use Rattle.sheet_model.specs.SelectorsIn.{Reader, combinator_at, complex_in, compound_at, function_by, more_after, reader_of, within_limit}

-- the selector so far has so many compounds, and with what is left it is the whole; fewer compounds than that may follow
pub record IsReadSoFar (reader : Reader) (whole : Option Selector) (left : Selector) (count : ℕ) (rest : List Token) : Type 0 where
  pub most : ℕ
  pub counted : count ≡ compounds_in left
  pub small : count ≤ compound_limit
  pub room : compound_limit < most + count
  pub same : whole ≡ more_after reader most left rest

-- how many compounds there are with one more, where a selector may have so many
abbrev pub one_more : Compound → ℕ → Option ℕ
one_more compound count =
    if nat_le (1 + compounds_within compound + count) compound_limit then Some (1 + compounds_within compound + count) else None

-- what is known of a count
record Counts (compound : Compound) (count sum : ℕ) : Type 0 where
  is : sum ≡ 1 + compounds_within compound + count
  small : sum ≤ compound_limit

counts : (compound : Compound) (count sum : ℕ) → Some sum ≡ one_more compound count → Counts compound count sum
counts compound count sum e = grind (arith, nat_tests, e)

limit_holds : (selector : Selector) → compounds_in selector ≤ compound_limit → within_limit selector ≡ Some selector
limit_holds selector h = grind (arith, nat_tests, h)

pub read_first : (reader : Reader) (tokens : List Token) (compound : Compound) (rest : List Token) (count : ℕ) (left : Selector) → Some (compound, rest) ≡ compound_at reader (trimmed tokens) → Some count ≡ one_more compound 0 → left ≡ subject compound → IsReadSoFar reader (complex_in reader tokens) left count rest
read_first reader tokens compound rest count left e n is =
    let c : Counts compound 0 count = counts compound 0 count n in
    let so_many : compounds_in (subject compound) ≡ count = omega (arith, c.is) in
    record {
      most = compound_limit;
      counted = sym so_many ∙ ap compounds_in (sym is);
      small = c.small;
      room = omega (arith, c.is);
      same = rw (← e) (ap (option_and_then (λ selector. more_after reader compound_limit selector rest)) (limit_holds (subject compound) (omega (arith, so_many, c.small))) ∙ ap (λ s. more_after reader compound_limit s rest) (sym is));
    }

pub read_no_compound : (reader : Reader) (whole : Option Selector) (left : Selector) (count : ℕ) (rest : List Token) (combinator : Combinator) (after : List Token) → IsReadSoFar reader whole left count rest → is_nil rest ≡ false → Some (combinator, after) ≡ combinator_at rest → None ≡ compound_at reader after → None ≡ whole
read_no_compound reader whole left count rest combinator after h more e n = from h.most rest h.room h.same more e
  where
    from : (most : ℕ) (rest : List Token) → compound_limit < most + count → whole ≡ more_after reader most left rest → is_nil rest ≡ false → Some (combinator, after) ≡ combinator_at rest → None ≡ whole
    from zero rest room same more e = absurd (omega (arith, room, h.small))
    from (suc most) [] room same more e = absurd (cc)
    from (suc most) (token ∷ tokens) room same more e = sym (same ∙ rw (← e, ← n) refl)

-- where a list may be opened
pub reader_deeper : (depth : ℕ) → (depth ≡ 0 → ⊥) → function_by (complex_in (reader_of (depth - 1))) ≡ reader_of depth
reader_deeper zero h = absurd (h refl)
reader_deeper (suc depth) h =
    let e : suc depth - 1 ≡ depth = omega arith in
    rw e refl
