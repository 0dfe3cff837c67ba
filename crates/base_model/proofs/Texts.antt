-- Texts that are compared.
use Rattle.std.proofs.Common.{◌≡◌, true, refl}
use Rattle.std.proofs.lemmas.Slice.Eq.{bytes_eq-Decides}
use Rattle.base_model.specs.Text.{Characters, same_text}

pub text_is_itself : (text : Characters) → same_text text text ≡ true
text_is_itself text = (bytes_eq-Decides text text).1 refl
