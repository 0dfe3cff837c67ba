-- The order of names in a table: by their keys, and those of one key by their bytes.
use Rattle.std.specs.Prelude.{encode_utf8_all}
use Rattle.std.specs.Cmp.Lexicographic.{slice_cmp}
use Rattle.std.specs.Ordering.{nat_cmp, ordering_then}
use Rattle.std.specs.declared.cmp.Ordering.{Ordering}
use Rattle.base_model.specs.Text.{Characters}
use Rattle.stylo_base.specs.NameKey.{key_of}

abbrev pub keys_cmp : Characters → Characters → Ordering
keys_cmp a b = nat_cmp (key_of (encode_utf8_all a)) (key_of (encode_utf8_all b))

abbrev pub bytes_cmp : Characters → Characters → Ordering
bytes_cmp a b = slice_cmp nat_cmp (encode_utf8_all a) (encode_utf8_all b)

abbrev pub name_cmp : Characters → Characters → Ordering
name_cmp a b = ordering_then (keys_cmp a b) (bytes_cmp a b)
