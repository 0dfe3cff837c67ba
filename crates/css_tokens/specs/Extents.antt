-- Where a token is, by two places.
use Rattle.std.specs.Prelude.{if◌then◌else◌, ℕ, Option, Some, None, nat_le}
use Rattle.syntax_model.specs.Token as model
use Rattle.css_tokens.specs.declared.extent.Extent.{Extent}

-- the span between two places
abbrev pub spanned : ℕ → ℕ → model.Span
spanned start end = record { start = start; end = end }

-- the span of a place, if it has one
abbrev pub extent_of : Extent → Option model.Span
extent_of extent = if nat_le extent.start extent.end then Some (spanned extent.start extent.end) else None
