-- The definitions of layers in a sheet computed on small texts.
use Rattle.std.proofs.Common.{◌≡◌, ℕ, List, [], ◌∷◌, ◌++◌, length, map, replicate, refl}
use Rattle.std.specs.Prelude.{codes, if◌then◌else◌, flat_map}
use Rattle.base_model.specs.Text.{Characters}
use Rattle.base_model.specs.Lists.{is_nil}
use Rattle.layer_model.specs.Name.{Part, named, anonymous, LayerName}
use Rattle.syntax_model.specs.TokensIn.{tokens_in}
use Rattle.syntax_model.specs.Rules.{Rule, style, layer, SheetEdition}
use Rattle.syntax_model.specs.SheetRules.{rules_in, sheet_rules_in}
use Rattle.syntax_model.proofs.ExampleCases.{Case, case, join, others, spelled, with_inner}

-- an anonymous layer is shown as `#` and a mark for each that comes before it
abbrev part_shown : Part → Characters
part_shown (named text) = text
part_shown (anonymous sheet edition place) = codes "#" ++ replicate place 39

abbrev name_shown : LayerName → Characters
name_shown [] = []
name_shown (part ∷ []) = part_shown part
name_shown (part ∷ parts) = part_shown part ++ codes "." ++ name_shown parts

-- a rule that is in a layer is shown after the layer's name and a colon, and a layer that is declared after `@`
abbrev rule_shown : Rule → Characters
rule_shown (style rule) =
    (if is_nil rule.context.layer then [] else name_shown rule.context.layer ++ codes ":")
    ++ with_inner (spelled rule.prelude) (spelled rule.block)
rule_shown (layer context) = codes "@" ++ name_shown context.layer ++ codes ";"

abbrev pub edition : SheetEdition
edition = record { sheet = 1; edition = 0 }

abbrev pub rules_shown : Characters → Characters
rules_shown text = join (map rule_shown (sheet_rules_in edition text))

abbrev layers : List Case
layers =
    case "@layer a;" "@a;" ∷
    case "@layer a" "@a;" ∷
    case "@LAYER a;" "@a;" ∷
    case "@layer/**/a;" "@a;" ∷
    case "@lay\\65r a;" "@a;" ∷
    case "@layer a,b.c , d;" "@a;@b.c;@d;" ∷
    case "@layer A,a;" "@A;@a;" ∷
    case "@layer a{p{}}q{}" "@a;a:p«»q«»" ∷
    case "@layer a{p{c:d}q{}}" "@a;a:p«c:d»a:q«»" ∷
    case "@layer a{}" "@a;" ∷
    case "@layer a.b{p{}}" "@a.b;a.b:p«»" ∷
    case "@layer a { @layer b{p{}} q{} } r{}" "@a;@a.b;a.b:p«»a:q«»r«»" ∷
    case "@layer a{@layer b,c.d;p{}}" "@a;@a.b;@a.c.d;a:p«»" ∷
    case "@layer a{@layer b}p{}" "@a;@a.b;p«»" ∷
    case "@layer a{@layer b" "@a;@a.b;" ∷
    case "@layer a{@layer b{p{c:d" "@a;@a.b;a.b:p«c:d»" ∷
    case "@layer a{p{}" "@a;a:p«»" ∷
    case "@layer a{p" "@a;" ∷
    case "@layer a{p}q{}" "@a;q«»" ∷
    case "@layer a{@x}q{}" "@a;q«»" ∷
    case "@layer a{@x;p{}}q{}" "@a;a:p«»q«»" ∷
    case "@layer a{@x{p{}}p{}}q{}" "@a;a:p«»q«»" ∷
    case "@layer a{<!--p{}}q{}" "@a;a:<!--p«»q«»" ∷
    case "@layer a{<!--}-->q{}" "@a;q«»" ∷
    case "@layer a{;p{}}" "@a;a:;p«»" ∷
    case "@layer a{(}p{})q{}}r{}" "@a;a:(}p{})q«»r«»" ∷
    case "@layer a{)p{}}q{}" "@a;a:)p«»q«»" ∷
    case "@layer{p{}}" "@#;#:p«»" ∷
    case "@layer {p{}}@layer{q{}}" "@#;#:p«»@#';#':q«»" ∷
    case "@layer{@layer{p{}}q{}}@layer{r{}}" "@#;@#.#';#.#':p«»#:q«»@#'';#'':r«»" ∷
    case "@layer a{@layer{}}@layer{}" "@a;@a.#;@#';" ∷
    case "@layer{@layer a;}" "@#;@#.a;" ∷
    case "@layer;p{}" "p«»" ∷
    case "@layer" "" ∷
    case "@layer inherit{p{}}q{}" "q«»" ∷
    case "@layer a.Revert-Layer;" "" ∷
    case "@layer a,unset,b;" "" ∷
    case "@layer a,;" "" ∷
    case "@layer ,a;" "" ∷
    case "@layer a,b{p{}}q{}" "q«»" ∷
    case "@layer a .b{p{}}" "" ∷
    case "@layer a. b;" "" ∷
    case "@layer .a;" "" ∷
    case "@layer a.;" "" ∷
    case "@layer a b;" "" ∷
    case "@layer a..b;" "" ∷
    case "@layer a.1;" "" ∷
    case "@layer(a);p{}" "p«»" ∷
    case "@layer \"a\";" "" ∷
    case "@layer a(b{c});d{}" "d«»" ∷
    case "@x{@layer a;}@layer{}" "@#;" ∷
    case "@layer inherit{@layer{}}@layer{}" "@#;" ∷
    case "p{@layer a;}" "p«@layer a;»" ∷
    case "@layer a{p{@layer b;}}" "@a;a:p«@layer b;»" ∷
    case "@layer/**/d/**/.e{p{}}" "@d.e;d.e:p«»" ∷
    []

layers_right : others rules_shown layers ≡ []
unfolding tokens_in rules_in
layers_right = refl

-- `a`, and this many more
abbrev long_name : ℕ → Characters
long_name n = codes "a" ++ flat_map (λ (c : ℕ). codes ".a") (replicate n 46)

abbrev count : Characters → ℕ
count text = length (sheet_rules_in edition text)

-- 64 parts are a name, and no more
abbrev longest : Characters
longest = codes "@layer " ++ long_name 63

limits_right : map count (longest ∷ (codes "@layer b," ++ long_name 64) ∷ (longest ++ codes "{p{} @layer{p{}} @layer b{p{}} @layer b, c; q{}}") ∷ []) ≡ 1 ∷ 0 ∷ 3 ∷ []
unfolding tokens_in rules_in
limits_right = refl
