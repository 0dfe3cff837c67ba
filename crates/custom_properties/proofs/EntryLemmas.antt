-- The entries of the code as those of the definitions.
use Rattle.std.proofs.Common.{◌≡◌, ℕ, ◌<◌, List, [], length, get_or, map, None, sym, ap, subst, ◌∙◌}
use lib.Dec.{T}
use Rattle.std.specs.FinMap as finmap
use Rattle.std.proofs.lemmas.List.{get_or-map, length-map}
use Rattle.custom_model.specs.Cycles.{DeclaredValues}
use Rattle.custom_properties.specs.Entries.{declared_entry, declared_of, AreSorted}
use Rattle.custom_properties.specs.Entry.{Entry}
use Rattle.custom_properties.specs.declared.declared_map.DeclaredEntry.{DeclaredEntry}
use Rattle.css_tokens.proofs.PlaceLemmas.{order}

pub rises : (list : List DeclaredEntry) → AreSorted list → T (finmap.is_sorted order (map declared_entry list))
rises list sorted = subst T (sym sorted) tt

pub length-entries : (list : List DeclaredEntry) → length (map declared_entry list) ≡ length list
length-entries list = length-map list declared_entry

-- what is read at a place
pub entry_at : (list : List DeclaredEntry) (place : ℕ) (entry : DeclaredEntry) (d : Entry) → place < length list → get_or (map declared_entry list) place d ≡ declared_entry (get_or list place entry)
entry_at list place entry d within = get_or-map declared_entry list place entry d within

pub entries_of : (list : List DeclaredEntry) → AreSorted list → finmap.entries (declared_of list) ≡ map declared_entry list
entries_of list sorted = finmap.entries-from_sorted order (map declared_entry list) (rises list sorted)

pub length_of_entries : (declared : DeclaredValues) (list : List DeclaredEntry) → map declared_entry list ≡ finmap.entries declared → length list ≡ length (finmap.entries declared)
length_of_entries declared list e = sym (length-entries list) ∙ ap length e

pub name_of_entry : (declared : DeclaredValues) (list : List DeclaredEntry) (place : ℕ) (entry : DeclaredEntry) → map declared_entry list ≡ finmap.entries declared → place < length list → (get_or list place entry).name.now ≡ (get_or (finmap.entries declared) place ([], None)).0
name_of_entry declared list place entry same within =
    ap (λ (e : Entry). e.0) (sym (entry_at list place entry ([], None) within) ∙ ap (λ l. get_or l place ([], None)) same)
