-- A keyword is known by its text.
use Rattle.std.proofs.Common.{◌≡◌, ℕ, Option, Some, position, refl, sym, ap, ◌∙◌}
use Rattle.std.specs.Str.{bytes_eq}
use denote.Enum.Bare.{tag_one}
use denote.Enum.Declared.{tag_of}
use Rattle.base_model.specs.Text.{Characters}
use Rattle.property_table.specs.View.{word_of}
use Rattle.property_table.specs.declared.keyword.TheConstants.{WORDS}
use Rattle.property_table.specs.declared.keyword.Keyword.{Keyword}
use Rattle.property_table.specs.declared.keyword.Keyword.TheVariants.{Inline}
use Rattle.property_table.specs.contracts.keyword.Keyword.{the_type}

-- the index of a text among those of the keywords
abbrev index_of : Characters → Option ℕ
index_of word = position (λ text. bytes_eq text.now word) WORDS.now

index_of-word_of : (keyword : Keyword) → index_of (word_of keyword) ≡ Some (tag_of the_type keyword)
index_of-word_of Inline = refl
index_of-word_of _ = refl

-- keywords of one text are the same
pub word_of-same : (a b : Keyword) → word_of a ≡ word_of b → a ≡ b
word_of-same a b h =
    let same : Some (tag_of the_type a) ≡ Some (tag_of the_type b) = sym (index_of-word_of a) ∙ (ap index_of h ∙ index_of-word_of b) in
    tag_one the_type tt a b cc
