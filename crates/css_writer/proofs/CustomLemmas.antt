-- The declarations of custom properties, one after another.
use Rattle.std.proofs.Common.{◌≡◌, List, [], ◌∷◌, ◌++◌, length, map, refl, sym, ap, ◌∙◌, codes}
use Rattle.std.proofs.lemmas.List.{nil_from_length}
use Rattle.std.specs.FinMap as finmap
use Rattle.base_model.specs.Text.{Characters}
use Rattle.css_tokens.specs.CustomView.{entry_of}
use Rattle.css_tokens.specs.declared.custom.map.CustomEntry.{CustomEntry}
use Rattle.custom_model.specs.Value.{CustomValue, CustomValues}
use Rattle.custom_model.specs.Printed.{each_after, custom_text, custom_texts, custom_declarations}

-- the declarations of these entries, each after a separator
abbrev pub each_declared : List (Characters × CustomValue) → Characters
each_declared entries = each_after (codes "; ") (map custom_text entries)

-- no entry, no text
pub none_declared : (values : CustomValues) (entries : List CustomEntry) → map entry_of entries ≡ finmap.entries values → length entries ≡ 0 → [] ≡ custom_declarations values
unfolding custom_texts
none_declared values entries all none =
    let nothing : finmap.entries values ≡ [] = sym all ∙ ap (map entry_of) (nil_from_length entries none) in
    rw nothing refl

-- the first one, and each other one after a separator
pub first_declared : (values : CustomValues) (entries rest : List CustomEntry) (entry : CustomEntry) (none one : Characters) → map entry_of entries ≡ finmap.entries values → entries ≡ entry ∷ rest → none ≡ [] → one ≡ none ++ custom_text (entry_of entry) → one ++ each_declared (map entry_of rest) ≡ custom_declarations values
unfolding custom_texts
first_declared values entries rest entry none one all is empty more =
    let these : finmap.entries values ≡ map entry_of (entry ∷ rest) = sym all ∙ ap (map entry_of) is in
    rw (these, more, empty) refl
