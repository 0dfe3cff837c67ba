-- The bytes of a text, wherever they are.
use Rattle.std.specs.Prelude.{ℕ, List}
use Rattle.std.specs.String.{string_bytes}
use Rattle.stylo_base.specs.declared.text_form.TextForm.{TextForm}
use Rattle.stylo_base.specs.declared.text_form.TextForm.TheVariants.{Short, Long}

-- the bytes
abbrev pub form_bytes : TextForm → List ℕ
form_bytes (Short text alloc) = text.bytes
form_bytes (Long text) = string_bytes text
