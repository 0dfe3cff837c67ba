-- For ClassLists::push and ClassNames::has: the names of the words of a text, each once, and what is looked up among them.
use Rattle.std.proofs.Common.{◌≡◌, ℕ, ◌+◌, ◌<◌, ◌≤◌, ◌==◌, Bool, true, false, cond, ◌||◌, List, [], ◌∷◌, ◌++◌, map, length, drop, get_or, Some, slice_get, is_ok, Result, Ok, Err}
use Rattle.std.proofs.Common.{sym, ap, ◌∙◌, subst, subst₂, refl, append-nil, append_assoc, length-append, arith, ◌⊎◌, inl, inr}
use Rattle.std.specs.List.{AllByRecursion, list_any}
use Rattle.std.specs.List.Sorted.{IsBinarySearchResult, IsNonDecreasing}
use Rattle.std.specs.Ordering.{nat_cmp}
use Rattle.std.specs.Str.{bytes_eq, chars, IsUtf8}
use Rattle.std.proofs.lemmas.Bool.{cases_lt, eq-eqb, false≢true}
use Rattle.std.proofs.lemmas.Bool.Decides.{nat_tests}
use Rattle.std.proofs.lemmas.List.{map-append}
use Rattle.std.proofs.lemmas.List.Elements.{All-from_get_or, All-from_recursion, recursion_from_All}
use Rattle.std.proofs.lemmas.List.Folds.{list_any_at, list_any_none}
use Rattle.std.proofs.lemmas.List.Sorted.{All-permutation, IsPermutation-map, length_permutation, list_any-IsPermutation, searched}
use Rattle.std.proofs.lemmas.Map.Keys.{any_passes_from_place}
use Rattle.std.proofs.lemmas.Option.{slice_get_within}
use Rattle.indexmap.specs.IndexSet.{insert_key}
use Rattle.stylo_base.specs.NameList.{StandOnce, interned, is_among}
use Rattle.base_model.specs.Text.{same_text}
use Rattle.base_model.proofs.Lists.{each-append, each-drop, each-take}
use Rattle.scene_model.specs.Element.{Characters}
use Rattle.scene_model.specs.Words.{words}
use Rattle.scene_model.proofs.Lists.{each_weaker}
use Rattle.dom_tree.specs.declared.span.Span.{Span}
use Rattle.dom_tree.specs.Classes.{AreInOrder, AreLists, AreNames, IsList, behind, distinct_from, distinct_words, list_seen}
use Rattle.dom_tree.specs.Kept.{KeepsTexts, part_of, text_of}
use Rattle.dom_tree.proofs.ColumnLemmas.{IsWithin, last_within, part_kept, part_last, still_within}
use Rattle.dom_tree.proofs.NameLemmas.{KeepsTexts-more, below_more_names, text_at, text_kept, text_is, same_names, tied, tied_turned}
use Rattle.dom_tree.proofs.Places.{rest_at}
use Rattle.dom_tree.proofs.WordLemmas.{IsWordOff}

-- more names

named_more : (old new : List Characters) (list : List ℕ) → KeepsTexts old new → AreNames old list → AreNames new list
named_more old new list kept = each_weaker (λ name. name < length old) (λ name. name < length new) (λ name l. below_more_names old new name kept l) list

texts_kept : (old new : List Characters) (list : List ℕ) → KeepsTexts old new → AreNames old list → map (text_of new) list ≡ map (text_of old) list
texts_kept old new [] kept named = refl
texts_kept old new (name ∷ list) kept named = λ i. text_kept old new name kept named.0 i ∷ texts_kept old new list kept named.1 i

-- one more name, once

module _ (names : List Characters) (name : ℕ) (once : StandOnce names) (l : name < length names) where
  among : (list : List ℕ) → AreNames names list → list_any (λ other. name == other) list ≡ list_any (bytes_eq (text_of names name)) (map (text_of names) list)
  among [] named = refl
  among (other ∷ list) named = λ i. sym (same_names names name other once l named.0) i || among list named.1 i

  kept_or_last : (b : Bool) (list : List ℕ) → map (text_of names) (cond b list (list ++ name ∷ [])) ≡ cond b (map (text_of names) list) (map (text_of names) list ++ text_of names name ∷ [])
  kept_or_last true list = refl
  kept_or_last false list = map-append (text_of names) list (name ∷ [])

  inserted : (list : List ℕ) → AreNames names list → map (text_of names) (insert_key (λ a b. a == b) list name) ≡ interned (map (text_of names) list) (text_of names name)
  inserted list named =
      kept_or_last (list_any (λ other. name == other) list) list
      ∙ ap (λ b. cond b (map (text_of names) list) (map (text_of names) list ++ text_of names name ∷ [])) (among list named)

  named_insert : (list : List ℕ) → AreNames names list → AreNames names (insert_key (λ a b. a == b) list name)
  named_insert list named = by (list_any (λ other. name == other) list)
    where
      by : (b : Bool) → AreNames names (cond b list (list ++ name ∷ []))
      by true = named
      by false = each-append (λ n. n < length names) list (name ∷ []) named (l, tt)

-- the names of the words of a text so far, and what is left of the text
pub record AreWordsSoFar (first names : List Characters) (list rest : List ℕ) (all : Characters) : Type 0 where
  pub text : IsUtf8 rest
  pub whole : distinct_from (map (text_of names) list) (words (chars rest)) ≡ distinct_words all
  pub named : AreNames names list
  pub kept : KeepsTexts first names

module _ {first old : List Characters} {list bs : List ℕ} {all : Characters} (so_far : AreWordsSoFar first old list bs all) where
  -- after one more
  pub next_word : (new : List Characters) (name : ℕ) {later x rest : List ℕ} → IsWordOff bs x rest → StandOnce new → KeepsTexts old new → slice_get new name ≡ Some (chars x)
      → later ≡ insert_key (λ a b. a == b) list name → AreWordsSoFar first new later rest all
  next_word new name {rest = rest} off once kept is e =
      let l = slice_get_within new name _ is in
      let named = named_more old new list kept so_far.named in
      let texts = inserted new name once l list named ∙ λ i. interned (texts_kept old new list kept so_far.named i) (text_is new name _ is i) in
      subst (λ later. AreWordsSoFar first new later rest all) (sym e) (record {
        text = off.rest_text;
        whole = ap (λ t. distinct_from t (words (chars rest))) texts ∙ (sym (ap (distinct_from (map (text_of old) list)) off.first) ∙ so_far.whole);
        named = named_insert new name once l list named;
        kept = KeepsTexts-more first old new so_far.kept kept;
      })

  pub all_words : words (chars bs) ≡ [] → map (text_of old) list ≡ distinct_words all
  all_words none = sym (ap (distinct_from (map (text_of old) list)) none) ∙ so_far.whole

-- whether a word is among the names: those before k are others
pub record AreOthers (names : List Characters) (word : Characters) (list : List ℕ) (answer : Bool) (k : ℕ) : Type 0 where
  pub named : AreNames names (drop k list)
  pub left : list_any (same_text word) (map (text_of names) (drop k list)) ≡ answer

module _ {names : List Characters} {word : Characters} {list : List ℕ} {all : Bool} {k name : ℕ} (o : AreOthers names word list all k) (l : k < length list) (is : name ≡ get_or list k name) where
  stepped : (b : Bool) → same_text (text_of names name) word ≡ b → (b || list_any (same_text word) (map (text_of names) (drop (k + 1) list))) ≡ all
  stepped b h =
      ap (λ c. c || list_any (same_text word) (map (text_of names) (drop (k + 1) list))) (sym (sym (tied word (text_of names name)) ∙ (tied_turned word (text_of names name) ∙ h)))
      ∙ rest_at (λ rest. list_any (same_text word) (map (text_of names) rest) ≡ all) list l is o.left

  pub name-found : same_text (text_of names name) word ≡ true → true ≡ all
  name-found h = stepped true h

  pub name-passed : same_text (text_of names name) word ≡ false → AreOthers names word list all (k + 1)
  name-passed h = record { named = (rest_at (AreNames names) list l is o.named).1; left = stepped false h }

-- the names in the order of their numbers, and what is looked up among them

pub named_in_order : (names : List Characters) {list sorted : List ℕ} → AreInOrder list sorted → AreNames names list → AreNames names sorted
named_in_order names {list} {sorted} o named =
    let has_text = λ (name : ℕ). name < length names in
    recursion_from_All has_text sorted (All-permutation has_text list sorted o.permutation (All-from_recursion has_text list named))

pub any_in_order : {list sorted : List ℕ} (names : List Characters) (p : Characters → Bool) → AreInOrder list sorted → list_any p (map (text_of names) sorted) ≡ list_any p (map (text_of names) list)
any_in_order {list} {sorted} names p o = sym (list_any-IsPermutation p _ _ (IsPermutation-map (text_of names) list sorted o.permutation))

found_in_order : (xs : List ℕ) (x : ℕ) (r : Result ℕ ℕ) → IsBinarySearchResult (λ y. nat_cmp y x) xs r → IsNonDecreasing xs → is_ok r ≡ list_any (λ y. x == y) xs
found_in_order xs x (Ok i) found up =
    let at = searched xs x (Ok i) found (λ i j. up i j 0) in
    sym (list_any_at (λ y. x == y) xs i 0 at.0 (eq-eqb x (get_or xs i 0) (sym at.1)))
found_in_order xs x (Err i) found up =
    let at = searched xs x (Err i) found (λ i j. up i j 0) in
    sym (list_any_none (λ y. x == y) xs (All-from_get_or (λ y. (x == y) ≡ false) xs 0 (λ k l. other k l (cases_lt k i))))
  where
    other : (k : ℕ) → k < length xs → (k < i) ⊎ (i ≤ k) → (x == get_or xs k 0) ≡ false
    other k l (inl h) = let b = (searched xs x (Err i) found (λ i j. up i j 0)).1 k h in grind (arith, nat_tests)
    other k l (inr h) = let b = (searched xs x (Err i) found (λ i j. up i j 0)).2 k h l in grind (arith, nat_tests)

-- the text of a name is among those of others where it is one of them
pub name_among : (names : List Characters) (name : ℕ) {text : Characters} (sorted : List ℕ) (r : Result ℕ ℕ) → StandOnce names → slice_get names name ≡ Some text → AreNames names sorted
    → IsBinarySearchResult (λ y. nat_cmp y name) sorted r → IsNonDecreasing sorted → is_ok r ≡ list_any (same_text text) (map (text_of names) sorted)
name_among names name sorted r once at named found up =
    found_in_order sorted name r found up
    ∙ (among names name once (slice_get_within names name _ at) sorted named ∙ ap (λ t. list_any (same_text t) (map (text_of names) sorted)) (text_is names name _ at))

-- a text that has no name is not that of a name
pub none_among : (names : List Characters) (text : Characters) → is_among text names ≡ false → (list : List ℕ) → AreNames names list → list_any (same_text text) (map (text_of names) list) ≡ false
none_among names text none [] named = refl
none_among names text none (name ∷ list) named = λ i. other (same_text text (text_of names name)) refl i || none_among names text none list named.1 i
  where
    other : (b : Bool) → same_text text (text_of names name) ≡ b → same_text text (text_of names name) ≡ false
    other false h = h
    other true h = absurd (false≢true (sym none ∙ any_passes_from_place (same_text text) names name _ (text_at names name named.0) h))

-- the lists, once there are more names, and perhaps one list more

part_named : (names : List Characters) (span : Span) (list : List ℕ) → AreNames names list → AreNames names (part_of list span)
part_named names span list h =
    let has_text = λ (name : ℕ). name < length names in
    each-take has_text span.count (drop span.first list) (each-drop has_text span.first list h)

is_within : (list : List ℕ) (span : Span) → IsList list span → IsWithin list span
is_within list span is = omega (arith, is.within)

module _ (list more : List ℕ) {later : List ℕ} (e : later ≡ list ++ more) (span : Span) (is : IsList list span) where
  same_part : part_of later span ≡ part_of list span
  same_part = part_kept list more e span (is_within list span is)

  list_stays : IsList later span
  list_stays = record {
    within = still_within list more e (behind span) is.within;
    in_order = subst₂ AreInOrder (sym same_part) (sym (part_kept list more e (behind span) is.within)) is.in_order;
  }

module _ (old new : List Characters) (kept : KeepsTexts old new) {list later added shown : List ℕ} (s : shown ≡ added) (e : later ≡ list ++ shown) where
  module _ {spans : List Span} (named : AreNames new added) (are : AreLists old list spans) where
    list_kept : (span : Span) → IsList list span → list_seen new later span ≡ list_seen old list span
    list_kept span h = ap (map (text_of new)) (same_part list shown e span h) ∙ texts_kept old new (part_of list span) kept (part_named old span list are.named)

    lists_kept : map (list_seen new later) spans ≡ map (list_seen old list) spans
    lists_kept = from spans are.lists
      where
        from : (spans : List Span) → AllByRecursion (IsList list) spans → map (list_seen new later) spans ≡ map (list_seen old list) spans
        from [] h = refl
        from (span ∷ spans) h = λ i. list_kept span h.0 i ∷ from spans h.1 i

    AreLists-kept : AreLists new later spans
    AreLists-kept = record {
      named = subst (AreNames new) (sym e) (each-append (λ n. n < length new) list shown (named_more old new list kept are.named) (subst (AreNames new) (sym s) named));
      lists = each_weaker (IsList list) (IsList later) (list_stays list shown e) spans are.lists;
    }

    pub AreLists-stay : {longer : List Span} → longer ≡ spans → AreLists new later longer
    AreLists-stay f = subst (AreLists new later) (sym f) AreLists-kept

    pub lists_stay : {longer : List Span} {now : List (List Characters)} → longer ≡ spans → map (list_seen old list) spans ≡ now → map (list_seen new later) longer ≡ now
    lists_stay f view = ap (map (list_seen new later)) f ∙ (lists_kept ∙ view)

-- names behind a list, and behind them the same in the order of their numbers
pub record IsTwice (list later names : List ℕ) : Type 0 where
  pub sorted : List ℕ
  pub is : later ≡ (list ++ names) ++ sorted
  pub in_order : AreInOrder names sorted

-- from the two steps that put them there
pub twice : {list mid later shown names again sorted first : List ℕ} → shown ≡ names → mid ≡ list ++ shown → again ≡ sorted → later ≡ mid ++ again → first ≡ names → AreInOrder first sorted
    → IsTwice list later names
twice {list} {sorted = sorted} s e t f same in_order = record {
  sorted = sorted;
  is = f ∙ (λ i. e i ++ t i) ∙ (λ i. (list ++ s i) ++ sorted);
  in_order = subst (λ l. AreInOrder l sorted) same in_order;
}

module _ (old new : List Characters) (kept : KeepsTexts old new) {list later names : List ℕ} (t : IsTwice list later names) where
  module _ {spans : List Span} (named : AreNames new names) (are : AreLists old list spans) where
    e : later ≡ list ++ (names ++ t.sorted)
    e = t.is ∙ append_assoc list names t.sorted

    both_named : AreNames new (names ++ t.sorted)
    both_named = each-append (λ n. n < length new) names t.sorted named (named_in_order new t.in_order named)

    pub AreLists-twice : {longer : List Span} → longer ≡ spans → AreLists new later longer
    AreLists-twice = AreLists-stay old new kept refl e both_named are

    pub lists_twice : {longer : List Span} {now : List (List Characters)} → longer ≡ spans → map (list_seen old list) spans ≡ now → map (list_seen new later) longer ≡ now
    lists_twice = lists_stay old new kept refl e both_named are

    module _ (span : Span) {longer : List Span} (f : longer ≡ spans ++ span ∷ []) (is_first : span.first ≡ length list) (is_count : span.count ≡ length names) where
      as_many : span.count ≡ length t.sorted
      as_many = is_count ∙ sym (length_permutation names t.sorted t.in_order.permutation)

      begins_behind : span.first + span.count ≡ length (list ++ names)
      begins_behind = omega (arith, length-append list names)

      last_is : part_of later span ≡ names
      last_is = part_kept (list ++ names) t.sorted t.is span (last_within list names refl span is_first is_count) ∙ part_last list names refl span is_first is_count

      last_list : IsList later span
      last_list = record {
        within = last_within (list ++ names) t.sorted t.is (behind span) begins_behind as_many;
        in_order = subst₂ AreInOrder (sym last_is) (sym (part_last (list ++ names) t.sorted t.is (behind span) begins_behind as_many)) t.in_order;
      }

      pub AreLists-push : AreLists new later longer
      AreLists-push =
          let all = AreLists-twice refl in
          subst (AreLists new later) (sym f) (record { named = all.named; lists = each-append (IsList later) spans (span ∷ []) all.lists (last_list, tt) })

      pub lists_pushed : {now : List (List Characters)} {texts : List Characters} → map (list_seen old list) spans ≡ now → map (text_of new) names ≡ texts
          → map (list_seen new later) longer ≡ now ++ texts ∷ []
      lists_pushed view is =
          let last = ap (map (text_of new)) last_is ∙ is in
          ap (map (list_seen new later)) f ∙ (map-append (list_seen new later) spans (span ∷ []) ∙ λ i. lists_twice refl view i ++ last i ∷ [])

-- more names alone
module _ (old new : List Characters) (kept : KeepsTexts old new) {list later : List ℕ} (e : later ≡ list) {spans : List Span} (are : AreLists old list spans) where
  pub AreLists-renamed : AreLists new later spans
  AreLists-renamed = AreLists-stay old new kept {added = []} refl (e ∙ sym (append-nil list)) tt are refl

  pub lists_renamed : {now : List (List Characters)} → map (list_seen old list) spans ≡ now → map (list_seen new later) spans ≡ now
  lists_renamed view = lists_stay old new kept {added = []} refl (e ∙ sym (append-nil list)) tt are refl view
