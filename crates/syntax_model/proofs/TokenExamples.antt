-- The tokens of small texts, what their numbers are worth, and how they are written.
use Rattle.std.proofs.Common.{◌≡◌, Bool, true, List, [], ◌∷◌, ◌++◌, length, map, None, refl}
use Rattle.std.specs.Prelude.{ℤ, pos, neg_ℤ, codes, filter, flat_map, not, ◌&&◌, ◌||◌}
use Rattle.std.specs.List.{list_all}
use Rattle.base_model.specs.Text.{Characters, same_text}
use Rattle.syntax_model.specs.Token.{Token, TokenKind, ident, function, at_keyword, hash, string, url, delim, dimension}
use Rattle.syntax_model.specs.Numbers.{thousandths}
use Rattle.syntax_model.specs.TokensIn.{tokens_in}
use Rattle.syntax_model.specs.Written.{is_sound, is_writable, written}
use Rattle.syntax_model.proofs.ExampleCases.{Case, case, join, others, shown, tokens_shown}

abbrev names : List Case
names =
    case "a" "i(a)" ∷
    case "A_Z9" "i(A_Z9)" ∷
    case "a-1_b" "i(a-1_b)" ∷
    case "_" "i(_)" ∷
    case "-" "d(-)" ∷
    case "--" "i(--)" ∷
    case "---" "i(---)" ∷
    case "-a" "i(-a)" ∷
    case "--1" "i(--1)" ∷
    case "-+a" "d(-)d(+)i(a)" ∷
    case "é" "i(é)" ∷
    case "-é" "i(-é)" ∷
    case "日本" "i(日本)" ∷
    case "😀x" "i(😀x)" ∷
    case "\u{80}" "i(\u{80})" ∷
    case "\u{7f}" "d(\u{7f})" ∷
    case "\u{1}" "d(\u{1})" ∷
    case "a\0b" "i(a�b)" ∷
    case "#" "d(#)" ∷
    case "#a" "h(a)" ∷
    case "#1a" "u(1a)" ∷
    case "#-" "u(-)" ∷
    case "#--" "h(--)" ∷
    case "#-1" "u(-1)" ∷
    case "#é" "h(é)" ∷
    case "#0f0" "u(0f0)" ∷
    case "# a" "d(#)_i(a)" ∷
    case "##a" "d(#)h(a)" ∷
    case "#." "d(#)d(.)" ∷
    case "a#b" "i(a)h(b)" ∷
    case "#\\31 a" "h(1a)" ∷
    case "#\\\n" "d(#)d(\\)_" ∷
    case "\\70 x" "i(px)" ∷
    case "\\70  x" "i(p)_i(x)" ∷
    case "c\\6f lor" "i(color)" ∷
    case "\\72ed" "i(狭)" ∷
    case "dis\\play" "i(display)" ∷
    case "\\0 a" "i(�a)" ∷
    case "\\d800 " "i(�)" ∷
    case "\\dfff " "i(�)" ∷
    case "\\110000 a" "i(�a)" ∷
    case "\\10fffd " "i(\u{10fffd})" ∷
    case "\\0000411" "i(A1)" ∷
    case "\\000041 1" "i(A1)" ∷
    case "\\41\t1" "i(A1)" ∷
    case "\\41\r\n1" "i(A1)" ∷
    case "\\" "i(�)" ∷
    case "a\\" "i(a�)" ∷
    case "a\\\nb" "i(a)d(\\)_i(b)" ∷
    case "--\\>" "i(-->)" ∷
    case "-\\31 " "i(-1)" ∷
    case "-\\\n" "d(-)d(\\)_" ∷
    case "@\\61" "@(a)" ∷
    case "\\g" "i(g)" ∷
    case "\\ " "i( )" ∷
    case "@media" "@(media)" ∷
    case "@-x" "@(-x)" ∷
    case "@--" "@(--)" ∷
    case "@1" "d(@)n(1)" ∷
    case "@" "d(@)" ∷
    case "@ a" "d(@)_i(a)" ∷
    case "f(x)" "f(f)i(x))" ∷
    case "f (x)" "i(f)_(i(x))" ∷
    case "f/**/(" "i(f)(" ∷
    case "-f(" "f(-f)" ∷
    case "--(" "f(--)" ∷
    []

names_right : others tokens_shown names ≡ []
unfolding tokens_in
names_right = refl

abbrev marks : List Case
marks =
    case "" "" ∷
    case " " "_" ∷
    case " \t\n " "_" ∷
    case "a b" "i(a)_i(b)" ∷
    case "a\r\n\r b" "i(a)_i(b)" ∷
    case ",:;()[]{}" ",:;()[]{}" ∷
    case "p.a > b" "i(p)d(.)i(a)_d(>)_i(b)" ∷
    case "*+~|" "d(*)d(+)d(~)d(|)" ∷
    case "p{color:#00f;}" "i(p){i(color):u(00f);}" ∷
    case "<!--" "<!--" ∷
    case "-->" "-->" ∷
    case "<!-" "d(<)d(!)d(-)" ∷
    case "<!---" "<!--d(-)" ∷
    case "--->" "i(---)d(>)" ∷
    case "->" "d(-)d(>)" ∷
    case "<!--a-->" "<!--i(a--)d(>)" ∷
    case "<!-->" "<!--d(>)" ∷
    case "/*a*/" "" ∷
    case "/**/" "" ∷
    case "/*/" "" ∷
    case "/*" "" ∷
    case "/***/a" "i(a)" ∷
    case "a/*b*/c" "i(a)i(c)" ∷
    case "/*a" "" ∷
    case "/ *" "d(/)_d(*)" ∷
    case "*/" "d(*)d(/)" ∷
    case "a /*x*/ b" "i(a)__i(b)" ∷
    case "/*\\*/a" "i(a)" ∷
    case "/*\"*/\"" "s()" ∷
    []

marks_right : others tokens_shown marks ≡ []
unfolding tokens_in
marks_right = refl

abbrev strings : List Case
strings =
    case "\"a\"" "s(a)" ∷
    case "'a'" "s(a)" ∷
    case "\"a" "s(a)" ∷
    case "\"" "s()" ∷
    case "\"\"" "s()" ∷
    case "\"a'b\"" "s(a'b)" ∷
    case "\"a\\\"b\"" "s(a\"b)" ∷
    case "\"a\\\nb\"" "s(ab)" ∷
    case "\"a\\\r\nb\"" "s(ab)" ∷
    case "\"a\\" "s(a)" ∷
    case "\"a\nb\"" "bad-string_i(b)s()" ∷
    case "\"\n" "bad-string_" ∷
    case "\"\\41 b\"" "s(Ab)" ∷
    case "\"\\41\"" "s(A)" ∷
    case "\"\\0\"" "s(�)" ∷
    case "\"/*a*/\"" "s(/*a*/)" ∷
    case "'\\'" "s(')" ∷
    case "url(a)" "url(a)" ∷
    case "url( a )" "url(a)" ∷
    case "url(" "url()" ∷
    case "url()" "url()" ∷
    case "url( )" "url()" ∷
    case "url( a" "url(a)" ∷
    case "url(a " "url(a)" ∷
    case "URL(a)" "url(a)" ∷
    case "u\\72l(a\\)b)" "url(a)b)" ∷
    case "url( a\\29 b )" "url(a)b)" ∷
    case "url(\"a\")" "f(url)s(a))" ∷
    case "url( 'a')" "f(url)_s(a))" ∷
    case "url(a b)c" "bad-urli(c)" ∷
    case "url(a\"b)c" "bad-urli(c)" ∷
    case "url(a'b)c" "bad-urli(c)" ∷
    case "url(a(b)c" "bad-urli(c)" ∷
    case "url(a\u{1}b)c" "bad-urli(c)" ∷
    case "url(a\\\nb)c" "bad-urli(c)" ∷
    case "url(a b\\)c)d" "bad-urli(d)" ∷
    case "url(a b" "bad-url" ∷
    case "url(a\\" "url(a�)" ∷
    case "url(a b\\" "bad-url" ∷
    case "url (a)" "i(url)_(i(a))" ∷
    case "url(/*a*/)" "url(/*a*/)" ∷
    case "-url(a)" "f(-url)i(a))" ∷
    case "url(é\u{a0})" "url(é\u{a0})" ∷
    case "url(a\\ b)" "url(a b)" ∷
    case "url(a\u{b}b)c" "bad-urli(c)" ∷
    case "url(a\u{7f})c" "bad-urli(c)" ∷
    []

strings_right : others tokens_shown strings ≡ []
unfolding tokens_in
strings_right = refl

abbrev numbers : List Case
numbers =
    case "1" "n(1)" ∷
    case "12" "n(12)" ∷
    case "+1" "n(+1)" ∷
    case "-1" "n(-1)" ∷
    case "1.5" "r(1.5)" ∷
    case ".5" "r(.5)" ∷
    case "-.5" "r(-.5)" ∷
    case "+.5.5" "r(+.5)r(.5)" ∷
    case "1." "n(1)d(.)" ∷
    case "1.a" "n(1)d(.)i(a)" ∷
    case "1e3" "r(1e3)" ∷
    case "1E+3" "r(1E+3)" ∷
    case "1e-3" "r(1e-3)" ∷
    case "1e" "n(1)(e)" ∷
    case "1e+" "n(1)(e)d(+)" ∷
    case "1e-" "n(1)(e-)" ∷
    case "1e-x" "n(1)(e-x)" ∷
    case "1e3e3" "r(1e3)(e3)" ∷
    case "1.5e3px" "r(1.5e3)(px)" ∷
    case "1px" "n(1)(px)" ∷
    case "10%" "%(10)" ∷
    case "1.5%" "%(1.5)" ∷
    case "1 %" "n(1)_d(%)" ∷
    case "1\\65 3" "n(1)(e3)" ∷
    case "1e\\33" "n(1)(e3)" ∷
    case "1-->" "n(1)(--)d(>)" ∷
    case "1--" "n(1)(--)" ∷
    case "1-" "n(1)d(-)" ∷
    case "1-2" "n(1)n(-2)" ∷
    case "1+2" "n(1)n(+2)" ∷
    case "+" "d(+)" ∷
    case "+a" "d(+)i(a)" ∷
    case "+ 1" "d(+)_n(1)" ∷
    case "++1" "d(+)n(+1)" ∷
    case "--1" "i(--1)" ∷
    case "..5" "d(.)r(.5)" ∷
    case "1/**/px" "n(1)i(px)" ∷
    case "1.5.5" "r(1.5)r(.5)" ∷
    case "1\\" "n(1)(�)" ∷
    case "1_" "n(1)(_)" ∷
    case "0001" "n(0001)" ∷
    case "1e03" "r(1e03)" ∷
    case "1é" "n(1)(é)" ∷
    case "1#a" "n(1)h(a)" ∷
    []

numbers_right : others tokens_shown numbers ≡ []
unfolding tokens_in
numbers_right = refl

-- numbers, and what they are worth in thousandths
abbrev worth : List (Characters × ℤ)
worth =
    (codes "1", pos 1000) ∷
    (codes "-1", neg_ℤ (pos 1000)) ∷
    (codes ".5", pos 500) ∷
    (codes "1.2345", pos 1235) ∷
    (codes "1.2344", pos 1234) ∷
    (codes "-.0005", neg_ℤ (pos 1)) ∷
    (codes "-.0004", pos 0) ∷
    (codes "0.0005", pos 1) ∷
    (codes "1e3", pos 1000000) ∷
    (codes "1e-3", pos 1) ∷
    (codes "5e-4", pos 1) ∷
    (codes "4.9e-4", pos 0) ∷
    (codes "1.5e1", pos 15000) ∷
    (codes "+2", pos 2000) ∷
    (codes "1e99", pos 2000000000000) ∷
    (codes "-1e99", neg_ℤ (pos 2000000000000)) ∷
    (codes "2000000000", pos 2000000000000) ∷
    (codes "2000000001", pos 2000000000000) ∷
    (codes "1999999999.9994", pos 1999999999999) ∷
    (codes "1999999999.9995", pos 2000000000000) ∷
    (codes "0e99", pos 0) ∷
    (codes "007", pos 7000) ∷
    (codes "1e-99", pos 0) ∷
    (codes "1E+2", pos 100000) ∷
    (codes ".0000000000000000000000000000001e31", pos 1000) ∷
    (codes "10000000000000000000000000000000000000000e-40", pos 1000) ∷
    (codes "0.9996", pos 1000) ∷
    (codes "-0", pos 0) ∷
    (codes "1.0005", pos 1001) ∷
    (codes "0.00049999", pos 0) ∷
    []

worth_right : map (λ number. thousandths number.0) worth ≡ map (λ number. number.1) worth
unfolding thousandths
worth_right = refl

-- the text of the tokens of a text
abbrev text_again : Characters → Characters
text_again text = written (tokens_in text)

abbrev texts : List Case
texts =
    case "1px/2px" "1px/**///**/2px" ∷
    case "a/**/b" "a/**/b" ∷
    case "url( a\\29 b )" "url(a\\29 b)" ∷
    case "\\31 23" "\\31 23" ∷
    case "1\\65 3" "1\\65 3" ∷
    case "\"a" "\"a\"" ∷
    case "#0f" "#0f" ∷
    case "1e\\33" "1\\65 3" ∷
    case "1e3e3" "1e3\\65 3" ∷
    case "+.5.5" "+.5/**/.5" ∷
    case "1-->" "1--/**/>" ∷
    case "u\\72l(a\\)b)" "url(a\\29 b)" ∷
    case "-\\31 " "-\\31 " ∷
    case "\\-" "\\-" ∷
    case "a\\-" "a-" ∷
    case "\\1 " "\\1 " ∷
    case "a\\!b" "a\\!b" ∷
    case "'\"\\\\'" "\"\\\"\\\\\"" ∷
    case "'\\a '" "\"\\a \"" ∷
    case "f( x )" "f( x )" ∷
    case "a b" "a b" ∷
    case "a,b" "a,b" ∷
    case "a:b;c" "a:b;c" ∷
    case "@x y" "@x y" ∷
    case "#\\31 " "#\\31 " ∷
    case "#1" "#1" ∷
    case "1 2" "1 2" ∷
    case "a(b" "a(b" ∷
    case "10%a" "10%a" ∷
    case "10a%" "10a/**/%" ∷
    case "1\\65-3" "1\\65 -3" ∷
    case "1\\65-a" "1e-a" ∷
    case "<!--a-->" "<!--a--/**/>" ∷
    case "\\7f " "\\7f " ∷
    case "url(\\20\\22)" "url(\\20 \\22 )" ∷
    case "url(\"a\")" "url(\"a\")" ∷
    case "1\\-2" "1-\\32 " ∷
    case "--\\>" "--\\>" ∷
    case "a/* */ /* */b" "a b" ∷
    case "+1" "+1" ∷
    case "a +1" "a +1" ∷
    case "#a#b" "#a/**/#b" ∷
    case "a(" "a(" ∷
    case "\\a " "\\a " ∷
    case "\\g\\h" "gh" ∷
    []

texts_right : others text_again texts ≡ []
unfolding tokens_in written
texts_right = refl

-- a token of each kind but the bad ones
abbrev samples : List Token
samples =
    flat_map (λ text. tokens_in (codes text)) (
    "a" ∷ "f(" ∷ "url('" ∷ "@a" ∷ "#a" ∷ "#1" ∷ "\"a\"" ∷ "url(a)" ∷ "%" ∷ "-" ∷ "/" ∷ "." ∷ "+" ∷ "#" ∷ "@" ∷ "<" ∷
    "1" ∷ "+1" ∷ ".5" ∷ "1e3" ∷ "1%" ∷ "1px" ∷ "1\\65 3" ∷ " " ∷ "<!--" ∷ "-->" ∷ ":" ∷ ";" ∷ "," ∷ "[" ∷ "]" ∷ "(" ∷ ")" ∷ "{" ∷ "}" ∷ []
    )

abbrev shown_again : List Token → Bool
shown_again tokens = same_text (join (map shown (tokens_in (written tokens)))) (join (map shown tokens))

-- the samples that a token is not read back before, though the two are writable
abbrev lost_after : Token → List Token
lost_after first = filter (λ next. is_writable (first ∷ next ∷ []) && not (shown_again (first ∷ next ∷ []))) samples

pairs_right : flat_map lost_after samples ≡ []
unfolding tokens_in written is_writable
pairs_right = refl

-- so many of the pairs are writable
writable_pairs : length (flat_map (λ first. filter (λ next. is_writable (first ∷ next ∷ [])) samples) samples) ≡ 1226
unfolding tokens_in is_writable
writable_pairs = refl

-- sound tokens that no text has after preprocessing: with U+0000 in their names, and delims that preprocessing changes
abbrev token : TokenKind → Characters → Characters → Token
token kind name spelling = record { kind = kind; name = name; spelling = spelling; span = None }

abbrev null_names : List Token
null_names = map (λ kind. token kind (97 ∷ 0 ∷ []) []) (ident ∷ function ∷ at_keyword ∷ hash true ∷ string ∷ url ∷ [])

abbrev in_no_text : List Token
in_no_text = null_names ++ token (dimension true) (0 ∷ []) (codes "1") ∷ map (λ c. token (delim c) [] []) (0 ∷ 12 ∷ 13 ∷ [])

none_writable : filter (λ token. is_writable (token ∷ []) || not (is_sound token)) in_no_text ≡ []
unfolding is_writable
none_writable = refl

-- a name may hold FF and CR: they are escaped
breaks_in_names : list_all (λ c. is_writable (token ident (c ∷ []) [] ∷ [])) (12 ∷ 13 ∷ []) ≡ true
unfolding is_writable
breaks_in_names = refl
