-- Words in lower case.
use Rattle.std.proofs.Common.{◌≡◌, IsTrue, List, ℕ, true, ap, ◌∙◌}
use Rattle.std.specs.Str.{chars}
use Rattle.std.proofs.lemmas.Slice.Eq.{bytes_eq-Decides}
use Rattle.base_model.specs.Text.{ascii_lower, is_word, same_text}
use Rattle.stylo_base.specs.Ascii.{is_all_ascii}
use Rattle.stylo_base.proofs.TextLemmas.{chars-ascii}

pub word_test : (name spelled word : List ℕ) → is_all_ascii word ≡ true → IsTrue (same_text (ascii_lower word) word) → chars spelled ≡ name → same_text (ascii_lower (chars spelled)) (ascii_lower (chars word)) ≡ is_word word name
word_test name spelled word ascii lower is =
    ap (λ n. same_text (ascii_lower n) (ascii_lower (chars word))) is
    ∙ ap (same_text (ascii_lower name)) (ap ascii_lower (chars-ascii word ascii) ∙ (bytes_eq-Decides _ _).0 lower)
