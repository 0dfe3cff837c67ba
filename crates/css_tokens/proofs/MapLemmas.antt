-- The entries of the map of custom properties.
use Rattle.std.proofs.Common.{◌≡◌, List, [], ◌∷◌, length, map, IsTrue, false, true, refl, sym, ap, subst, ◌∙◌}
use lib.Dec.{T}
use Rattle.std.specs.Cmp.Lexicographic.{slice_cmp}
use Rattle.std.specs.FinMap as finmap
use Rattle.std.specs.Ordering.{nat_cmp}
use Rattle.std.specs.Prelude.{Option, Some, None, Bool}
use Rattle.std.specs.Option.{is_some}
use Rattle.std.specs.declared.sync.Arc.{Arc}
use Rattle.css_tokens.specs.CustomView.{entry_of}
use Rattle.css_tokens.specs.EntriesView.{values_of, list_of, AreSorted}
use Rattle.css_tokens.specs.declared.custom.map.Entries.{Entries}
use Rattle.css_tokens.specs.declared.custom.map.CustomEntry.{CustomEntry}
use Rattle.base_model.specs.Lists.{is_nil}
use Rattle.base_model.specs.Text.{Characters}
use Rattle.custom_model.specs.Value.{CustomValue, CustomValues}

abbrev pub Pairs : Type 0
Pairs = List (Characters × CustomValue)

abbrev pub Rises : Pairs → Type 0
Rises pairs = IsTrue (finmap.is_sorted (slice_cmp nat_cmp) pairs)

-- such entries are those of their map
pub entries_kept : (pairs : Pairs) → Rises pairs → finmap.entries (finmap.from_sorted {R = slice_cmp nat_cmp} pairs) ≡ pairs
entries_kept pairs sorted = finmap.entries-from_sorted (slice_cmp nat_cmp) pairs (subst T (sym sorted) tt)

abbrev pub of_pairs : Pairs → CustomValues
of_pairs pairs = finmap.from_sorted pairs

pub of_none : of_pairs [] ≡ finmap.empty
of_none = finmap.empty_of_len _ (finmap.len-entries (of_pairs []) ∙ ap length (entries_kept [] refl))

-- a map that has an entry is not empty
pub none_left : (pairs : Pairs) → Rises pairs → of_pairs pairs ≡ finmap.empty → pairs ≡ []
none_left pairs sorted e =
    sym (entries_kept pairs sorted)
    ∙ ap finmap.entries (e ∙ sym of_none)
    ∙ entries_kept [] refl

-- the entries that are kept
pub entries_are : {A : Type 0} (kept : Option (Arc Entries A)) → AreSorted kept → finmap.entries (values_of kept) ≡ list_of kept
entries_are None sorted = entries_kept [] refl
entries_are (Some entries) sorted = entries_kept _ sorted.0

-- nothing is kept of the empty map alone
pub none_where_empty : {A : Type 0} (kept : Option (Arc Entries A)) → AreSorted kept → values_of kept ≡ finmap.empty → is_some kept ≡ false
none_where_empty None sorted e = refl
none_where_empty (Some entries) sorted e = cc (is_nil_of _ (none_left _ sorted.0 e), sorted.1)
  where
    is_nil_of : (es : List CustomEntry) → map entry_of es ≡ [] → is_nil es ≡ true
    is_nil_of [] e = refl
    is_nil_of (e ∷ es) h = cc

pub empty_where_none : {A : Type 0} (kept : Option (Arc Entries A)) → is_some kept ≡ false → values_of kept ≡ finmap.empty
empty_where_none None e = of_none
empty_where_none (Some entries) e = cc

-- the names of the entries of a map rise
pub entries_rise : (values : CustomValues) → Rises (finmap.entries values)
entries_rise values = holds _ (finmap.entries_sorted values)
  where
    holds : (b : Bool) → T b → b ≡ true
    holds true h = refl
    holds false h = absurd h
