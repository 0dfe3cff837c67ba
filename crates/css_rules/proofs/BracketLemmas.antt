-- The brackets that are open after some tokens.
use Rattle.std.proofs.Common.{◌≡◌, ℕ, ◌+◌, ◌<◌, length, take, get_or, List, [], refl}
use Rattle.std.proofs.lemmas.List.{take_more}
use Rattle.syntax_model.specs.Token.{Token}
use Rattle.syntax_model.specs.Brackets.{open_after, open_past}
use Rattle.syntax_model.proofs.OutsideLemmas.{open_after-push}

-- the brackets that are open after one token more
pub open_more : (tokens : List Token) (n : ℕ) (t : Token) → n < length tokens → t ≡ get_or tokens n t → open_past (open_after [] (take n tokens)) t ≡ open_after [] (take (n + 1) tokens)
open_more tokens n t inside is = rw (take_more tokens n t inside, ← is, open_after-push) refl
