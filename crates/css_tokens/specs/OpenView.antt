-- What is open, as the definitions have it.
use Rattle.std.specs.Prelude.{Option, Some, None}
use Rattle.syntax_model.specs.Brackets.{Bracket}
use Rattle.css_tokens.specs.View.{bracket_of}
use Rattle.css_tokens.specs.declared.open_stack.OpenPart.{OpenPart}
use Rattle.css_tokens.specs.declared.open_stack.OpenPart.TheVariants as variant

abbrev pub part_of : OpenPart → Option Bracket
part_of (variant.Bracket bracket) = Some (bracket_of bracket)
part_of variant.Fallback = None
