-- Values of custom properties can be written: what is kept of a text's tokens, what it expands to, and so what is computed.
use Rattle.std.proofs.Common.{◌≡◌, List, [], ◌∷◌, map, true, false, cond, Option, Some, None, refl, sym, ap, ◌∙◌, subst}
use Rattle.std.specs.Option.{option_map_or}
use Rattle.std.proofs.lemmas.Bool.{false≢true}
use Rattle.std.proofs.lemmas.Option.{cond_some, option_and_then_some}
use Rattle.syntax_model.specs.Token.{Token, said}
use Rattle.syntax_model.specs.Written.{is_writable}
use Rattle.syntax_model.proofs.UrlStrings.{is_quoted}
use Rattle.custom_model.specs.Value.{CustomValue, unplaced, normal}
use Rattle.custom_model.specs.Parts.{Parts, parts, is_valid, refers, kept_where_valid, custom_value_in, referring_value_in}
use Rattle.custom_model.proofs.CutLemmas.{OfText}
use Rattle.custom_model.proofs.KeptLemmas.{begins_first, AsRead, kept_fit, fit_normal, writable_normal}
use Rattle.custom_model.proofs.PartsLemmas.{parts_fit}

-- the text of the value reads as tokens that say the same
abbrev pub Writable : CustomValue → Type 0
Writable value = is_writable (map unplaced value) ≡ true

-- what is kept of tokens

valid_parts : (o : Option Parts) → option_map_or (λ read. true) o false ≡ true → (read : Parts) × (o ≡ Some read)
valid_parts None h = absurd (false≢true h)
valid_parts (Some read) h = (read, refl)

kept_valid : (tokens value : CustomValue) → AsRead tokens → kept_where_valid (normal tokens) ≡ Some value → Writable value
kept_valid tokens value read e =
    let valid = cond_some (is_valid (normal tokens)) (normal tokens) value e in
    let some = valid_parts (parts (normal tokens)) valid.0 in
    subst Writable valid.1 (writable_normal tokens (kept_fit tokens (fit_normal tokens (parts_fit (normal tokens) some.0 some.1)) read))

-- the value of a custom property
pub custom_value_writable : (tokens : List Token) (value : CustomValue) → AsRead (map said tokens) → custom_value_in tokens ≡ Some value → Writable value
custom_value_writable tokens value read e = kept_valid (map said tokens) value read e

-- and one that refers to custom properties
pub referring_value_writable : (tokens : List Token) (value : CustomValue) → AsRead (map said tokens) → referring_value_in tokens ≡ Some value → Writable value
referring_value_writable tokens value read e =
    option_and_then_some (λ v. cond (refers v) (Some v) None) (custom_value_in tokens) value e
    (λ v is kept. custom_value_writable tokens value read (is ∙ ap Some (cond_some (refers v) v value kept).1))

-- what is known of tokens that are cut from a text

pub as_read : (tokens : List Token) → OfText tokens → AsRead (map said tokens)
as_read [] h = (tt, tt)
as_read (token ∷ tokens) h =
    let rest = as_read tokens (h.0.1, h.1.1) in
    ((h.0.0, rest.0), ((λ url. sym (begins_first is_quoted tokens) ∙ h.1.0 url), rest.1))
