use Rattle.css_rules.proofs.DeclarationLemmas.{no_colon, one_value}
use Rattle.css_rules.proofs.declaration.declaration_in.Goals as goal

pub returns-then-not-take_colon : goal.returns-then-not-take_colon
returns-then-not-take_colon c =
    let name = rw c.new-left.ensures at c.in-Some.ensures in
    no_colon c.args.brackets name c.skip_whitespace.ensures (c.take_colon.ensures.kept c.if-not-take_colon.true).fails

pub returns-then-branch : goal.returns-then-branch
returns-then-branch c =
    let name = rw c.new-left.ensures at c.in-Some.ensures in
    let colon = c.take_colon.ensures.taken c.if-not-take_colon.false in
    rw (← one_value c.args.brackets name c.skip_whitespace.ensures colon c.rest.ensures, ← c.in_ok-declaration.ensures, ← c.as_slice.ensures, ← c.in_ok-is_shallow.ensures, c.if-branch.true)

pub returns : goal.returns
returns c =
    let name = rw c.new-left.ensures at c.in-Some.ensures in
    let colon = c.take_colon.ensures.taken c.if-not-take_colon.false in
    rw (← one_value c.args.brackets name c.skip_whitespace.ensures colon c.rest.ensures, ← c.in_ok-declaration.ensures, ← c.as_slice.ensures, ← c.in_ok-is_shallow.ensures, c.if-branch.false)
