-- The ASCII characters that tokens begin with or hold, by their names in Unicode; base_model has the others.
use Rattle.std.specs.Prelude.{ℕ}

abbrev pub exclamation_mark : ℕ
exclamation_mark = 33

abbrev pub quotation_mark : ℕ
quotation_mark = 34

abbrev pub percent_sign : ℕ
percent_sign = 37

abbrev pub apostrophe : ℕ
apostrophe = 39

abbrev pub plus_sign : ℕ
plus_sign = 43

abbrev pub solidus : ℕ
solidus = 47

abbrev pub less_than_sign : ℕ
less_than_sign = 60

abbrev pub greater_than_sign : ℕ
greater_than_sign = 62

abbrev pub commercial_at : ℕ
commercial_at = 64

abbrev pub capital_e : ℕ
capital_e = 69

abbrev pub capital_f : ℕ
capital_f = 70

abbrev pub reverse_solidus : ℕ
reverse_solidus = 92

abbrev pub small_e : ℕ
small_e = 101

abbrev pub small_f : ℕ
small_f = 102
