-- What holds of the tokens that are kept of a value.
use Rattle.std.specs.Prelude.{◌≡◌, ◌↔◌, IsTrue, map}
use Rattle.syntax_model.specs.Token.{said}
use Rattle.custom_model.specs.Value.{unplaced}
use Rattle.custom_model.specs.Expand.{IsPlain}
use Rattle.css_tokens.specs.declared.custom.value.KeptTokens.{KeptTokens}

-- no token has a span, and the value is plain exactly where it expands to itself, whatever other ones are
pub record IsKept (kept : KeptTokens) : Type 0 where
  pub unplaced_all : kept.list.items ≡ map unplaced (map said kept.list.items)
  pub plain : IsTrue kept.is_plain ↔ IsPlain (map said kept.list.items)
