-- Each line of a batch holds one line feed: the one that ends it.
use Rattle.std.proofs.Common.{◌≡◌, ℕ, ◌++◌, codes, decimal, refl}
use Rattle.base_model.specs.LineFeeds.{line_feeds}
use Rattle.base_model.specs.Text.{Characters}
use Rattle.base_model.proofs.LineFeedLemmas.{IsWithinLine, decimal_within_line, line_feeds-after, within_line-append}
use Rattle.stylo_base.specs.KindName.{name_of}
use Rattle.stylo_base.specs.declared.refusal.EditRefused.{EditRefused}
use Rattle.stylo_base.specs.declared.refusal.EditRefused.TheVariants.{UnknownNode, UnknownSheet, BadPlace, Limit, NoMemory}
use Rattle.stylo_base.proofs.KindLines.{kind_within}
use Rattle.value_model.specs.Printed.{printed_declarations}
use Rattle.value_model.specs.Style.{Style}
use Rattle.report_text.specs.Lines.{batch_line, element_line, refusal_text, refused_line}

-- how lines end

cascaded_end : line_feeds (codes " cascaded\n") ≡ 1
unfolding line_feeds
cascaded_end = refl

plain_end : line_feeds (codes "\n") ≡ 1
unfolding line_feeds
plain_end = refl

brace_end : line_feeds (codes "}\n") ≡ 1
unfolding line_feeds
brace_end = refl

-- a word and a number before the rest of a line
numbered : (word : Characters) (n : ℕ) (rest : Characters) → IsWithinLine word → line_feeds rest ≡ 1 → line_feeds (word ++ (decimal n ++ rest)) ≡ 1
numbered word n rest h one =
    line_feeds-after word (decimal n ++ rest) h (line_feeds-after (decimal n) rest (decimal_within_line n) one)

pub batch_line_feeds : (batch accepted refused matched cascaded : ℕ) → line_feeds (batch_line batch accepted refused matched cascaded) ≡ 1
unfolding batch_line
batch_line_feeds batch accepted refused matched cascaded =
    numbered (codes "batch ") batch _ refl
    (numbered (codes ": ") accepted _ refl
    (numbered (codes " accepted, ") refused _ refl
    (numbered (codes " refused, ") matched _ refl
    (numbered (codes " matched, ") cascaded (codes " cascaded\n") refl cascaded_end))))

refusal_within : (why : EditRefused) → IsWithinLine (refusal_text why)
refusal_within (UnknownNode n) = within_line-append (codes "unknown node ") (decimal n) refl (decimal_within_line n)
refusal_within (UnknownSheet n) = within_line-append (codes "unknown sheet ") (decimal n) refl (decimal_within_line n)
refusal_within BadPlace = refl
refusal_within (Limit kind most) =
    within_line-append (codes "limit ") (name_of kind ++ (codes " " ++ decimal most)) refl
    (within_line-append (name_of kind) (codes " " ++ decimal most) (kind_within kind) (decimal_within_line most))
refusal_within NoMemory = refl

pub refused_line_feeds : (place : ℕ) (why : EditRefused) → line_feeds (refused_line place why) ≡ 1
unfolding refused_line
refused_line_feeds place why =
    numbered (codes "refused ") place _ refl
    (line_feeds-after (codes ": ") (refusal_text why ++ codes "\n") refl
    (line_feeds-after (refusal_text why) (codes "\n") (refusal_within why) plain_end))

-- that of an element, where neither its tag nor its declarations hold one
pub element_line_feeds : (number : ℕ) (tag : Characters) (style : Style) → IsWithinLine tag → IsWithinLine (printed_declarations style) → line_feeds (element_line number tag style) ≡ 1
unfolding element_line
element_line_feeds number tag style h k =
    let declared : Characters = printed_declarations style ++ codes "}\n" in
    line_feeds-after (decimal number) (codes " " ++ (tag ++ (codes "{" ++ declared))) (decimal_within_line number)
    (line_feeds-after (codes " ") (tag ++ (codes "{" ++ declared)) refl
    (line_feeds-after tag (codes "{" ++ declared) h
    (line_feeds-after (codes "{") declared refl (line_feeds-after (printed_declarations style) (codes "}\n") k brace_end))))
