-- ASCII texts.
use Rattle.std.specs.Prelude.{ℕ, Bool, List, nat_lt}
use Rattle.std.specs.List.{list_all}
use Rattle.base_model.specs.Ascii.{first_beyond_ascii}

-- each byte is that of an ASCII character, and so is the character of that number
abbrev pub is_all_ascii : List ℕ → Bool
is_all_ascii bytes = list_all (λ b. nat_lt b first_beyond_ascii) bytes
