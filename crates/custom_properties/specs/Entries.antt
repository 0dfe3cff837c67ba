-- What the declared custom properties of the code stand for.
use Rattle.std.specs.Prelude.{List, map, IsTrue, option_copied}
use Rattle.std.specs.Cmp.Lexicographic.{slice_cmp}
use Rattle.std.specs.FinMap as finmap
use Rattle.std.specs.Ordering.{nat_cmp}
use Rattle.std.specs.Coded.{Coded, coded_ℕ, coded_list, coded_option}
use Rattle.custom_model.specs.Value.{value_code}
use Rattle.custom_model.specs.Cycles.{DeclaredValues}
use Rattle.custom_properties.specs.Entry.{Entry}
use Rattle.custom_properties.specs.declared.declared_map.DeclaredEntry.{DeclaredEntry}

abbrev pub declared_entry : DeclaredEntry → Entry
declared_entry entry = (entry.name.now, option_copied entry.value)

abbrev pub declared_of : List DeclaredEntry → DeclaredValues
declared_of list = finmap.from_sorted (map declared_entry list)

-- the names rise
abbrev pub AreSorted : List DeclaredEntry → Type 0
AreSorted list = IsTrue (finmap.is_sorted (slice_cmp nat_cmp) (map declared_entry list))

abbrev pub declared_code : Coded DeclaredValues
declared_code = finmap.code (coded_list coded_ℕ) (coded_option value_code)
