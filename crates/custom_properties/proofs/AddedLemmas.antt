-- The references of a value, step by step.
use Rattle.std.proofs.Common.{◌≡◌, ℕ, suc, ◌+◌, ◌<◌, ◌≤◌, List, [], ◌∷◌, ◌++◌, length, take, drop, get_or, map, Bool, true, false, Bor, Option, Some, None, option_map, option_copied, refl, sym, ap, ap₂, subst, ◌∙◌, append_assoc, arith}
use Rattle.std.specs.Option.{option_map_or}
use Rattle.std.proofs.lemmas.List.{append-nil, take-append-le, drop_more}
use Rattle.std.proofs.lemmas.Bool.{true≢false, false≢true}
use Rattle.std.proofs.lemmas.Option.{none-some, same_Some}
use Rattle.base_model.specs.Text.{Characters}
use Rattle.syntax_model.specs.Token.{Said}
use Rattle.custom_model.specs.Value.{CustomValue}
use Rattle.custom_model.specs.Parts.{Parts, done, plain, reference, with_fallback, parts, references, references_in}
use Rattle.custom_model.specs.Cycles.{references_of}
use Rattle.custom_model.specs.Steps.{Step, token, alone, begins, ends, steps, steps_in}
use Rattle.cycle_search.specs.declared.mark.Edge.{Edge}
use Rattle.custom_properties.specs.Entry.{Entry}
use Rattle.css_tokens.specs.Place.{place_in}
use Rattle.custom_properties.specs.Graph.{edge_to, edges_to, edges_of}
use Rattle.custom_properties.specs.Added.{AreAdded, names_in, with_steps}
use Rattle.custom_properties.specs.Entries.{declared_entry}
use Rattle.custom_properties.specs.declared.declared_map.DeclaredEntry.{DeclaredEntry}
use Rattle.custom_properties.proofs.EntryLemmas.{length-entries, entry_at}

names_in-append : (a b : List Step) → names_in (a ++ b) ≡ names_in a ++ names_in b
names_in-append [] b = refl
names_in-append (token s ∷ a) b = names_in-append a b
names_in-append (alone name ∷ a) b = ap (λ l. name ∷ l) (names_in-append a b)
names_in-append (begins name ∷ a) b = ap (λ l. name ∷ l) (names_in-append a b)
names_in-append (ends ∷ a) b = names_in-append a b

pub references-steps : (read : Parts) → names_in (steps read) ≡ references read
references-steps done = refl
references-steps (plain s rest) = references-steps rest
references-steps (reference name rest) = ap (λ l. name ∷ l) (references-steps rest)
references-steps (with_fallback name fallback rest) =
    ap (λ l. name ∷ l) (names_in-append (steps fallback) (ends ∷ steps rest) ∙ ap₂ (λ a b. a ++ b) (references-steps fallback) (references-steps rest))

-- where the steps are known, so are the references
pub references_valid : (all : List Entry) (from : ℕ) (value : CustomValue) (old new : List Edge) → with_steps all from old (steps_in value) ≡ Some new → new ≡ old ++ edges_to all from (references_in value)
unfolding steps_in
references_valid all from value old new e = by (parts value) e
  where
    by : (o : Option Parts) → with_steps all from old (option_map steps o) ≡ Some new → new ≡ old ++ edges_to all from (option_map_or references o [])
    by None e = absurd (none-some new e)
    by (Some read) e = sym (same_Some _ _ e) ∙ ap (λ l. old ++ edges_to all from l) (references-steps read)

pub references_invalid : (value : CustomValue) → steps_in value ≡ None → references_in value ≡ []
unfolding steps_in
references_invalid value e = by (parts value) e
  where
    by : (o : Option Parts) → option_map steps o ≡ None → option_map_or references o [] ≡ []
    by None e = refl
    by (Some read) e = absurd (none-some (steps read) (sym e))

module _ (all : List Entry) (from : ℕ) (edges : List Edge) where
  pub step_token : (s : Said) (o : Option (List Step)) → with_steps all from edges (option_map (λ rest. token s ∷ rest) o) ≡ with_steps all from edges o
  step_token s None = refl
  step_token s (Some rest) = refl

  pub step_ends : (o : Option (List Step)) → with_steps all from edges (option_map (λ rest. ends ∷ rest) o) ≡ with_steps all from edges o
  step_ends None = refl
  step_ends (Some rest) = refl

  pub step_alone : (name : Characters) (o : Option (List Step)) → with_steps all from edges (option_map (λ rest. alone name ∷ rest) o) ≡ with_steps all from (edges ++ edge_to from (place_in all name)) o
  step_alone name None = refl
  step_alone name (Some rest) = ap Some (sym (append_assoc edges (edge_to from (place_in all name)) (edges_to all from (names_in rest))))

  pub step_begins : (name : Characters) (o : Option (List Step)) → with_steps all from edges (option_map (λ rest. begins name ∷ rest) o) ≡ with_steps all from (edges ++ edge_to from (place_in all name)) o
  step_begins name None = refl
  step_begins name (Some rest) = ap Some (sym (append_assoc edges (edge_to from (place_in all name)) (edges_to all from (names_in rest))))

  pub at_end : with_steps all from edges (Some []) ≡ Some edges
  at_end = ap Some (append-nil edges)

-- what stood first still does
pub first_kept : (old edges more : List Edge) → take (length old) edges ≡ old → length old ≤ length edges → take (length old) (edges ++ more) ≡ old
first_kept old edges more e l = take-append-le (length old) edges more l ∙ e

module _ (all : List Entry) (from : ℕ) (value : CustomValue) (old new : List Edge) where
  abbrev pub Whole : List Edge → Type 0
  Whole edges = edges ≡ old ++ edges_to all from (references_in value)

  pub none_to_add : references_in value ≡ [] → Whole old
  none_to_add e = sym (ap (λ l. old ++ edges_to all from l) e ∙ append-nil old)

  pub added_whole : (is : Bool) → is ≡ true → AreAdded all from value is old new → Whole new
  added_whole true e h = references_valid all from value old new h
  added_whole false e h = absurd (false≢true e)

  pub added_back : (is : Bool) → is ≡ false → AreAdded all from value is old new → (kept : List Edge) → kept ≡ take (length old) new → Whole kept
  added_back true e h kept k = absurd (true≢false e)
  added_back false e h kept k = k ∙ (h.1 ∙ none_to_add (references_invalid value h.0))

-- the edges of an entry are those of its value
pub of_entry : (all : List Entry) (from : ℕ) (old edges : List Edge) (entry : DeclaredEntry) (value : Bor CustomValue) → entry.value ≡ Some value → Whole all from value.now old old edges → edges ≡ old ++ edges_to all from (references_of (Some (declared_entry entry).1))
of_entry all from old edges entry value is h =
    h ∙ ap (λ o. old ++ edges_to all from (references_of (Some (option_copied o)))) (sym is)

-- one entry more
pub entry_added : (all : List Entry) (from : ℕ) (list : List DeclaredEntry) (entry : DeclaredEntry) (old new whole : List Edge) → map declared_entry list ≡ all → from < length list → entry ≡ get_or list from entry
    → new ≡ old ++ edges_to all from (references_of (Some (declared_entry entry).1)) → old ++ edges_of all from (drop from all) ≡ whole → new ++ edges_of all (from + 1) (drop (from + 1) all) ≡ whole
entry_added all from list entry old new whole same within is added whole_is =
    let lengths = length-entries list in
    let inside : from < length all = subst (λ l. from < length l) same (omega arith) in
    let at : get_or all from ([], None) ≡ declared_entry entry = ap (λ l. get_or l from ([], None)) (sym same) ∙ (entry_at list from entry ([], None) within ∙ ap declared_entry (sym is)) in
    let next : from + 1 ≡ suc from = omega arith in
    ap₂ (λ l k. l ++ edges_of all k (drop (from + 1) all)) added next
    ∙ (append_assoc old (edges_to all from (references_of (Some (declared_entry entry).1))) (edges_of all (suc from) (drop (from + 1) all))
    ∙ (ap (λ (e : Entry). old ++ edges_of all from (e ∷ drop (from + 1) all)) (sym at)
    ∙ (ap (λ l. old ++ edges_of all from l) (sym (drop_more all from ([], None) inside)) ∙ whole_is)))
