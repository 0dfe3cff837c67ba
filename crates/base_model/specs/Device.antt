-- What a document is shown on, as a media query asks for it (mediaqueries-4, section 4).
use Rattle.std.specs.Prelude.{ℕ}

-- in whole pixels
pub record Device : Type 0 where
  pub width : ℕ
  pub height : ℕ
