-- What a value says where it begins with a token.
use Rattle.std.specs.Prelude.{ℕ, List, Bool, true, false, ◌&&◌, nat_lt, Option, Some, None, option_and_then}
use Rattle.json.specs.Token as spec
use Rattle.serde_json.specs.Data.{Data}
use Rattle.serde_json.specs.Find.{as_number, as_u64}
use Rattle.serde_json.specs.Read.{number_of}

-- a whole number from 0 to 2^64 minus 1
abbrev pub as_whole : Data → Option ℕ
as_whole d = option_and_then as_u64 (as_number d)

abbrev pub string_at : spec.Token → Option (List ℕ)
string_at spec.begin_object = None
string_at spec.end_object = None
string_at spec.begin_array = None
string_at spec.end_array = None
string_at (spec.key s) = None
string_at (spec.string s) = Some s
string_at (spec.number s) = None
string_at (spec.boolean b) = None
string_at spec.null = None
string_at spec.bad = None

abbrev pub boolean_at : spec.Token → Option Bool
boolean_at spec.begin_object = None
boolean_at spec.end_object = None
boolean_at spec.begin_array = None
boolean_at spec.end_array = None
boolean_at (spec.key s) = None
boolean_at (spec.string s) = None
boolean_at (spec.number s) = None
boolean_at (spec.boolean b) = Some b
boolean_at spec.null = None
boolean_at spec.bad = None

abbrev pub number_at : spec.Token → Option (List ℕ)
number_at spec.begin_object = None
number_at spec.end_object = None
number_at spec.begin_array = None
number_at spec.end_array = None
number_at (spec.key s) = None
number_at (spec.string s) = None
number_at (spec.number s) = Some s
number_at (spec.boolean b) = None
number_at spec.null = None
number_at spec.bad = None

-- the whole number that a number's text writes
abbrev pub whole_of : List ℕ → Option ℕ
whole_of s = option_and_then as_u64 (number_of s)

abbrev pub whole_at : spec.Token → Option ℕ
whole_at t = option_and_then whole_of (number_at t)

abbrev pub begins_array : spec.Token → Bool
begins_array spec.begin_object = false
begins_array spec.end_object = false
begins_array spec.begin_array = true
begins_array spec.end_array = false
begins_array (spec.key s) = false
begins_array (spec.string s) = false
begins_array (spec.number s) = false
begins_array (spec.boolean b) = false
begins_array spec.null = false
begins_array spec.bad = false

abbrev pub begins_object : spec.Token → Bool
begins_object spec.begin_object = true
begins_object spec.end_object = false
begins_object spec.begin_array = false
begins_object spec.end_array = false
begins_object (spec.key s) = false
begins_object (spec.string s) = false
begins_object (spec.number s) = false
begins_object (spec.boolean b) = false
begins_object spec.null = false
begins_object spec.bad = false

-- An array begins, and one level at least may be there.
abbrev pub opens_array : ℕ → spec.Token → Bool
opens_array depth t = begins_array t && nat_lt 0 depth

abbrev pub opens_object : ℕ → spec.Token → Bool
opens_object depth t = begins_object t && nat_lt 0 depth
