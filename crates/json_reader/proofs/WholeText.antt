-- A whole text, from the value at its front.
use Rattle.std.proofs.Common.{◌≡◌, ℕ, List, [], ◌∷◌, Option, Some, None, option_and_then, refl, ap, ◌∙◌}
use Rattle.json.specs.Token.{Token}
use Rattle.json.specs.Lex.{tokens}
use Rattle.json.specs.Json as json
use Rattle.json.specs.Json.{if_last, value}
use Rattle.serde_json.specs.Data.{Data}
use Rattle.serde_json.specs.Read.{of_json, converted, max_depth, read}
use Rattle.json_reader.specs.Taken.{taken}
use Rattle.json_reader.proofs.Reading.{converted_some, refused}

abbrev whole : Option (json.Json × List Token) → Option Data
whole o = option_and_then of_json (option_and_then (λ p. if_last p.0 p.1) o)

whole_read : (o : Option (json.Json × List Token)) (d : Data) → converted of_json o ≡ Some (d, []) → whole o ≡ Some d
whole_read o d e = let j = converted_some of_json o d [] e in ap whole j.1 ∙ j.2

whole_and_more : (o : Option (json.Json × List Token)) (d : Data) (t : Token) (r : List Token) → converted of_json o ≡ Some (d, t ∷ r) → whole o ≡ None
whole_and_more o d t r e = ap whole (converted_some of_json o d (t ∷ r) e).1

whole_refused : (o : Option (json.Json × List Token)) → converted of_json o ≡ None → whole o ≡ None
whole_refused None e = refl
whole_refused (Some (j, [])) e = refused [] (of_json j) e
whole_refused (Some (j, t ∷ r)) e = refl

module _ (text : List ℕ) where
  pub read_whole : (d : Data) → taken max_depth (tokens text) ≡ Some (d, []) → read text ≡ Some d
  unfolding taken
  read_whole d e = whole_read (value max_depth (tokens text)) d e

  pub read_more : (d : Data) (t : Token) (r : List Token) → taken max_depth (tokens text) ≡ Some (d, t ∷ r) → read text ≡ None
  unfolding taken
  read_more d t r e = whole_and_more (value max_depth (tokens text)) d t r e

  pub read_refused : taken max_depth (tokens text) ≡ None → read text ≡ None
  unfolding taken
  read_refused e = whole_refused (value max_depth (tokens text)) e
