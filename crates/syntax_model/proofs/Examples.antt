-- The definitions of the cut computed on small texts.
use Rattle.std.proofs.Common.{◌≡◌, ℕ, true, false, List, [], ◌∷◌, ◌++◌, length, map, replicate, refl}
use Rattle.std.specs.Prelude.{codes, if◌then◌else◌}
use Rattle.base_model.specs.Text.{Characters}
use Rattle.syntax_model.specs.TokenKinds.{is_comma, trimmed}
use Rattle.syntax_model.specs.Outside.{parts_between}
use Rattle.syntax_model.specs.Preprocess.{preprocessed}
use Rattle.syntax_model.specs.TokensIn.{tokens_in}
use Rattle.syntax_model.specs.Rules.{Declaration}
use Rattle.syntax_model.specs.RulesIn.{declarations_in, pieces_in}
use Rattle.syntax_model.specs.SheetRules.{rules_in, sheet_rules_in}
use Rattle.syntax_model.proofs.ExampleCases.{Case, case, join, others, spelled, with_inner}
use Rattle.syntax_model.proofs.LayerExamples.{edition, rules_shown}

abbrev parts_shown : Characters → Characters
parts_shown text = join (map (λ part. with_inner [] (spelled part)) (parts_between is_comma (tokens_in text)))

abbrev trimmed_shown : Characters → Characters
trimmed_shown text = spelled (trimmed (tokens_in text))

-- `!` is before an important one
abbrev declaration_shown : Declaration → Characters
declaration_shown d = (if d.important then codes "!" else []) ++ with_inner d.name (spelled d.value)

abbrev declarations_shown : Characters → Characters
declarations_shown text =
    join (map declaration_shown (declarations_in (tokens_in (preprocessed text))))

abbrev inputs : List Case
inputs =
    case "" "" ∷
    case "a b" "a b" ∷
    case "a\r\nb" "a\nb" ∷
    case "a\rb" "a\nb" ∷
    case "a\u{c}b" "a\nb" ∷
    case "\r\r\n\n" "\n\n\n" ∷
    case "\n\r" "\n\n" ∷
    case "\r\n\r\n" "\n\n" ∷
    case "\r\u{c}\n" "\n\n\n" ∷
    case "\0a\0" "�a�" ∷
    case "é\r" "é\n" ∷
    []

inputs_right : others preprocessed inputs ≡ []
inputs_right = refl

abbrev sheets : List Case
sheets =
    case "" "" ∷
    case " \n " "" ∷
    case "p{color:red}" "p«color:red»" ∷
    case " p { color : red } " "p « color : red »" ∷
    case "p{}" "p«»" ∷
    case "{}" "«»" ∷
    case "{a:b}" "«a:b»" ∷
    case "p{}q{}" "p«»q«»" ∷
    case "p{} \n q{}" "p«»q«»" ∷
    case "p\r\n{a:\0}" "p «a:�»" ∷
    case "p" "" ∷
    case "p q;r" "" ∷
    case "p{}q" "p«»" ∷
    case "p;q{r}" "p;q«r»" ∷
    case "p{a:b;c:d}" "p«a:b;c:d»" ∷
    case "p{a:b" "p«a:b»" ∷
    case "p{a:b " "p«a:b »" ∷
    case "p{a:(b" "p«a:(b)»" ∷
    case "p{a:[(b{c" "p«a:[(b{c})]»" ∷
    case "p{a:b)" "p«a:b)»" ∷
    case "p{a:b]c}" "p«a:b]c»" ∷
    case "p}q{}" "p}q«»" ∷
    case ")p{}" ")p«»" ∷
    case "p{}}q{}" "p«»}q«»" ∷
    case "p(q{r})s{t}" "p(q{r})s«t»" ∷
    case "p[q]{r}" "p[q]«r»" ∷
    case "p[{]{}" "" ∷
    case "p(q{r}" "" ∷
    case "p{q{r}s}t{u}" "p«q{r}s»t«u»" ∷
    case "p{q[}]}r{}" "p«q[}]»r«»" ∷
    case "p{q(r}s)t}" "p«q(r}s)t»" ∷
    case "(((" "" ∷
    case "[[[" "" ∷
    case "{{{" "«{{}}»" ∷
    case "p,{color:red} p{color:lime;display:none" "p,«color:red»p«color:lime;display:none»" ∷
    case "@media{p{a:b}}" "" ∷
    case "@media x{p{a:b}}q{c:d}" "q«c:d»" ∷
    case "@x;p{}" "p«»" ∷
    case "@x" "" ∷
    case "@x;" "" ∷
    case "@x y" "" ∷
    case "@x{p{a:b" "" ∷
    case "p{}@y{}q{}" "p«»q«»" ∷
    case "@x ) ] } p{color:red}p{clear:left}" "p«clear:left»" ∷
    case "a;p{color:red}@x ) ] } p{color:red}p{clear:left}" "a;p«color:red»p«clear:left»" ∷
    case "@x{a(b;}c)}p{}" "p«»" ∷
    case "@x(;{)a;p{}" "" ∷
    case "@x(;[])a;p{}" "p«»" ∷
    case "@x{;}p{}" "p«»" ∷
    case "@\\70{}q{}" "q«»" ∷
    case "<!--p{}-->q{}" "p«»q«»" ∷
    case "<!-- p{color:red} --> } i{color:blue} b{color:lime}" "p«color:red»} i«color:blue»b«color:lime»" ∷
    case "p<!--{}" "p<!--«»" ∷
    case "p{<!--}" "p«<!--»" ∷
    case "<!-->" "" ∷
    case "@media x{p{color:red}} p{color:lime;@x;display:none;foo bar;clear:both}" "p«color:lime;@x;display:none;foo bar;clear:both»" ∷
    case "/*x*/p/**/{a/*b*/:c}/*" "p«a:c»" ∷
    case "p{a:\"}\"}q{}" "p«a:\"}\"»q«»" ∷
    case "p{a:url(})}q{}" "p«a:url(})»q«»" ∷
    case "p{a:\"\nb}q{}" "p«a:\"\n b»q«»" ∷
    case "f(x{y}z){a}" "f(x{y}z)«a»" ∷
    case "p{a:f(b" "p«a:f(b)»" ∷
    case "f(" "" ∷
    []

sheets_right : others rules_shown sheets ≡ []
unfolding tokens_in rules_in
sheets_right = refl

abbrev blocks : List Case
blocks =
    case "" "" ∷
    case " ; ;; " "" ∷
    case "a:b" "a«b»" ∷
    case "a:b;" "a«b»" ∷
    case " a : b ; c:d " "a«b»c«d»" ∷
    case "a:  b  #c  " "a«b #c»" ∷
    case "a :\n b\t;" "a«b»" ∷
    case "A:B;A:c" "A«B»A«c»" ∷
    case "--x: y" "--x«y»" ∷
    case "a:" "a«»" ∷
    case "a: ;b:c" "a«»b«c»" ∷
    case "a::b" "a«:b»" ∷
    case "a:b!important" "!a«b»" ∷
    case "a" "" ∷
    case "a b:c;d:e" "d«e»" ∷
    case "1a:b;c:d" "c«d»" ∷
    case "#a:b;c:d" "c«d»" ∷
    case ":b;c:d" "c«d»" ∷
    case "@media x;a:b" "a«b»" ∷
    case "a{b;c}d:e;f:g" "f«g»" ∷
    case "(a:b;c:d);e:f" "e«f»" ∷
    case "a( :b;c:d" "" ∷
    case "a:(b;c);d:e" "a«(b;c)»d«e»" ∷
    case "a:[b;c];d:e" "a«[b;c]»d«e»" ∷
    case "a:{b;c};d:e" "a«{b;c}»d«e»" ∷
    case "a:(b];c);d:e" "a«(b];c)»d«e»" ∷
    case "a:b);c:d" "a«b)»c«d»" ∷
    case "a:(b" "a«(b)»" ∷
    case "a: (b " "a«(b )»" ∷
    case "a:([{b;c" "a«([{b;c}])»" ∷
    case "color:red;@x{;}display:none;@y;clear:both" "color«red»display«none»clear«both»" ∷
    case "color:red;x{a;b}display:none;clear:left" "color«red»clear«left»" ∷
    case "@x{a;b}c:d" "c«d»" ∷
    case "@x (;) {;} c:d" "c«d»" ∷
    case "@x" "" ∷
    case "@x{" "" ∷
    case "@x;;c:d" "c«d»" ∷
    case "@x[{;}]c:d;e:f" "e«f»" ∷
    case "a:b ! important" "!a«b»" ∷
    case "a:b!IMPORTANT;c:d" "!a«b»c«d»" ∷
    case "a:b!imp\\6frtant" "!a«b»" ∷
    case "a:b !important " "!a«b»" ∷
    case "a:!important" "!a«»" ∷
    case "a:b!important x" "a«b!important x»" ∷
    case "a:b!important!important" "!a«b!important»" ∷
    case "a:b!x" "a«b!x»" ∷
    case "a:important" "a«important»" ∷
    case "a:b!(important" "a«b!(important)»" ∷
    case "a:b!/**/important" "!a«b»" ∷
    case "a:f(b;c);d:e" "a«f(b;c)»d«e»" ∷
    case "a:f(b" "a«f(b)»" ∷
    case "a:[f({b;c" "a«[f({b;c})]»" ∷
    case "c\\6f lor:\\72 ed" "color«red»" ∷
    case "a/**/:/**/b" "a«b»" ∷
    case "a;b:c" "b«c»" ∷
    case "x:\"a\n;c:d" "x«\"\n»c«d»" ∷
    case "<!--a:b;c:d" "c«d»" ∷
    []

blocks_right : others declarations_shown blocks ≡ []
unfolding tokens_in declarations_in
blocks_right = refl

-- so many brackets may be nested in a value, and in a prelude
abbrev value_with : ℕ → Characters
value_with n = codes "a:" ++ replicate n 40

abbrev prelude_with : ℕ → Characters
prelude_with n = replicate n 91 ++ replicate n 93 ++ codes "{}"

values_nested : map (λ n. length (declarations_in (tokens_in (value_with n)))) (64 ∷ 65 ∷ []) ≡ 1 ∷ 0 ∷ []
unfolding tokens_in declarations_in
values_nested = refl

preludes_nested : map (λ n. length (sheet_rules_in edition (prelude_with n))) (64 ∷ 65 ∷ []) ≡ 1 ∷ 0 ∷ []
unfolding tokens_in rules_in
preludes_nested = refl

-- in a block CDO and CDC are skipped nowhere
cdo_in_a_block : map (λ top. length (pieces_in top (tokens_in (codes "<!-- @x; p{}")))) (true ∷ false ∷ []) ≡ 2 ∷ 1 ∷ []
unfolding tokens_in
cdo_in_a_block = refl

abbrev lists : List Case
lists =
    case "" "«»" ∷
    case "a" "«a»" ∷
    case "a,b" "«a»«b»" ∷
    case ",a," "«»«a»«»" ∷
    case "a(,)b,c" "«a(,)b»«c»" ∷
    case "[,{,],},]," "«[,{,],},]»«»" ∷
    case "a),b" "«a)»«b»" ∷
    case "a(,b" "«a(,b»" ∷
    []

lists_right : others parts_shown lists ≡ []
unfolding tokens_in
lists_right = refl

abbrev ends : List Case
ends =
    case "" "" ∷
    case " \n " "" ∷
    case " a b " "a b" ∷
    case "a" "a" ∷
    []

ends_right : others trimmed_shown ends ≡ []
unfolding tokens_in
ends_right = refl
