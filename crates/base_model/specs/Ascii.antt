-- The ASCII characters that the definitions speak of, by their names in Unicode.
use Rattle.std.specs.Prelude.{ℕ}

abbrev pub null : ℕ
null = 0

abbrev pub tab : ℕ
tab = 9

abbrev pub line_feed : ℕ
line_feed = 10

abbrev pub form_feed : ℕ
form_feed = 12

abbrev pub carriage_return : ℕ
carriage_return = 13

abbrev pub space : ℕ
space = 32

abbrev pub number_sign : ℕ
number_sign = 35

abbrev pub left_parenthesis : ℕ
left_parenthesis = 40

abbrev pub right_parenthesis : ℕ
right_parenthesis = 41

abbrev pub asterisk : ℕ
asterisk = 42

abbrev pub comma_sign : ℕ
comma_sign = 44

abbrev pub hyphen : ℕ
hyphen = 45

abbrev pub full_stop : ℕ
full_stop = 46

abbrev pub digit_zero : ℕ
digit_zero = 48

abbrev pub digit_nine : ℕ
digit_nine = 57

abbrev pub colon_sign : ℕ
colon_sign = 58

abbrev pub semicolon_sign : ℕ
semicolon_sign = 59

abbrev pub capital_a : ℕ
capital_a = 65

abbrev pub capital_z : ℕ
capital_z = 90

abbrev pub left_bracket : ℕ
left_bracket = 91

abbrev pub right_bracket : ℕ
right_bracket = 93

abbrev pub low_line : ℕ
low_line = 95

abbrev pub small_a : ℕ
small_a = 97

abbrev pub small_z : ℕ
small_z = 122

abbrev pub left_brace : ℕ
left_brace = 123

abbrev pub right_brace : ℕ
right_brace = 125

abbrev pub delete : ℕ
delete = 127

-- the first character that is not of ASCII
abbrev pub first_beyond_ascii : ℕ
first_beyond_ascii = 128

-- U+FFFD, which replaces what is no character
abbrev pub replacement_character : ℕ
replacement_character = 65533
