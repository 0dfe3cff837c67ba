-- For `RuleMap::candidates`: the rules of what was found, sorted, each once.
use Rattle.std.proofs.Common.{◌≡◌, ℕ, suc, ◌+◌, ◌<◌, ◌≤◌, List, [], ◌∷◌, ◌++◌, length, map, flat_map, take, get_or, slice_get}
use Rattle.std.proofs.Common.{Bool, true, false, eqb, if◌then◌else◌, Some, IfSome, refl, sym, ap, ◌∙◌, subst, arith}
use Rattle.std.specs.List.{AllByRecursion, AllPairs, dedup}
use Rattle.std.specs.List.Retain.{IsFiltered, DiffersFromLast}
use Rattle.std.specs.List.Sorted.{IsPermutation, IsSorted}
use Rattle.std.specs.Ordering.{nat_cmp}
use Rattle.std.proofs.lemmas.List.{append-nil, append_assoc, map-append, take_all, take_more}
use Rattle.std.proofs.lemmas.List.Concat.{flat_map-append}
use Rattle.std.proofs.lemmas.List.Filters.{dedup_is}
use Rattle.std.proofs.lemmas.List.Kept.{AllPairs-from_increasing, Contains-dedup_nat, Contains-from_dedup}
use Rattle.std.proofs.lemmas.List.Sorted.{IsPermutation-sym}
use Rattle.std.proofs.lemmas.Map.Keys.{IsStrictlyIncreasing-dedup}
use Rattle.std.proofs.lemmas.Option.{get_or_from_slice_get}
use Rattle.base_model.specs.Text.{Characters, same_text}
use Rattle.base_model.proofs.Texts.{text_is_itself}
use Rattle.base_model.proofs.Lists.{slice_get_some}
use Rattle.scene_model.specs.Element.{Element}
use Rattle.ancestor_filter.specs.Names.{slot}
use Rattle.selector_model.specs.Selector as model
use Rattle.rule_map_model.specs.Candidates.{candidates}
use Rattle.rule_map_model.specs.Hits.{In}
use Rattle.rule_map_model.specs.Places.{Place, AreLookedAt, IsMapOf}
use Rattle.rule_map_model.proofs.CandidatePlaces.{AreOfAttributes, Rise, candidates_told}
use Rattle.rule_map_model.proofs.Members.{in_joined, in_map, of_joined, of_map}
use Rattle.rule_map_model.proofs.Sorting.{contains_in, in_contains, in_permuted}
use Rattle.rule_maps.specs.declared.map.RuleMap.{RuleMap}
use Rattle.rule_maps.specs.declared.pair.Pair.{Pair}
use Rattle.rule_maps.specs.declared.table.Head.{Head}
use Rattle.rule_maps.specs.declared.table.Table.{Table}
use Rattle.rule_maps.specs.Heads.{part_of, part_under}
use Rattle.rule_maps.specs.SlotView.{place_seen}
use Rattle.rule_maps.specs.View.{in_bucket, places_under}

-- the rules of places
abbrev pub rules_of : List Place → List ℕ
rules_of places = map (λ (place : Place). place.rule) places

abbrev pub rules_in : List (List Place) → List ℕ
rules_in pieces = flat_map rules_of pieces

abbrev rules_of_pairs : List Pair → List ℕ
rules_of_pairs pairs = map (λ (pair : Pair). pair.rule) pairs

rules_seen : (pairs : List Pair) → rules_of (map place_seen pairs) ≡ rules_of_pairs pairs
rules_seen [] = refl
rules_seen (pair ∷ pairs) = ap (λ l. pair.rule ∷ l) (rules_seen pairs)

-- the pairs of the first heads of a table
abbrev pub pairs_to : Table → ℕ → List Pair
pairs_to table n = flat_map (part_of table.pairs.items) (take n table.heads.items)

abbrev pub rules_to : Table → ℕ → List ℕ
rules_to table n = rules_of_pairs (pairs_to table n)

-- one piece more
pub piece_found : (found new all : List ℕ) (pairs : List Pair) (pieces rest : List (List Place)) → pieces ≡ map place_seen pairs ∷ rest → new ≡ found ++ rules_of_pairs pairs
    → found ++ rules_in pieces ≡ all → new ++ rules_in rest ≡ all
piece_found found new all pairs pieces rest e pushed h =
    ap (λ l. l ++ rules_in rest) pushed
    ∙ (append_assoc found (rules_of_pairs pairs) (rules_in rest)
    ∙ (ap (λ l. found ++ (l ++ rules_in rest)) (sym (rules_seen pairs)) ∙ (ap (λ ps. found ++ rules_in ps) (sym e) ∙ h)))

pub pieces_found : (found all : List ℕ) (pieces : List (List Place)) → pieces ≡ [] → found ++ rules_in pieces ≡ all → found ≡ all
pieces_found found all pieces e h = sym (append-nil found) ∙ (ap (λ ps. found ++ rules_in ps) (sym e) ∙ h)

-- one head more
pub head_found : (table : Table) (i : ℕ) (part : List Pair) (first found new : List ℕ) → i < length table.heads.items
    → IfSome (slice_get table.heads.items i) (λ head. part ≡ part_of table.pairs.items head) → new ≡ found ++ rules_of_pairs part
    → found ≡ first ++ rules_to table i → new ≡ first ++ rules_to table (i + 1)
head_found table i part first found new l is pushed h =
    let (head, e) = slice_get_some heads i l in
    let given : part ≡ part_of table.pairs.items head = subst (λ o. IfSome o (λ head. part ≡ part_of table.pairs.items head)) e is in
    pushed
    ∙ (ap (λ l. l ++ rules_of_pairs part) h
    ∙ (append_assoc first (rules_to table i) (rules_of_pairs part)
    ∙ ap (λ l. first ++ l) (sym (more head e given))))
  where
    heads : List Head
    heads = table.heads.items

    one : (head : Head) → flat_map (part_of table.pairs.items) (head ∷ []) ≡ part_of table.pairs.items head
    one head = append-nil (part_of table.pairs.items head)

    more : (head : Head) → slice_get table.heads.items i ≡ Some head → part ≡ part_of table.pairs.items head
        → rules_to table (i + 1) ≡ rules_to table i ++ rules_of_pairs part
    more head e given =
        ap (λ hs. rules_of_pairs (flat_map (part_of table.pairs.items) hs))
        (take_more table.heads.items i head l ∙ ap (λ h. take i table.heads.items ++ h ∷ []) (get_or_from_slice_get table.heads.items i head head e))
        ∙ (ap rules_of_pairs (flat_map-append (part_of table.pairs.items) (take i table.heads.items) (head ∷ []))
        ∙ (map-append (λ (pair : Pair). pair.rule) (pairs_to table i) (flat_map (part_of table.pairs.items) (head ∷ []))
        ∙ ap (λ ps. rules_to table i ++ rules_of_pairs ps) (one head ∙ sym given)))

-- the places of all heads are those that are under some name
module _ (rule_map : RuleMap) where
  abbrev table : Table
  table = rule_map.attributes

  abbrev all_pairs : List Pair
  all_pairs = flat_map (part_of table.pairs.items) table.heads.items

  abbrev by_name : Characters → Head → List Pair
  by_name name head = if same_text name head.name then part_of table.pairs.items head else []

  by_attribute : AreOfAttributes (in_bucket rule_map) (map place_seen all_pairs)
  by_attribute = record {
    sound = λ q m.
        let (p, (there, same)) = of_map place_seen q all_pairs m in
        let (head, (among, inside)) = of_joined (part_of table.pairs.items) p table.heads.items there in
        let own : same_text head.name head.name ≡ true = text_is_itself head.name in
        let named : In p (by_name head.name head) = subst (λ b. In p (if b then part_of table.pairs.items head else [])) (sym own) inside in (
          head.name,
          subst (λ r. In r (places_under table head.name)) same
              (in_map place_seen p (part_under table.heads.items table.pairs.items head.name) (in_joined (by_name head.name) head p table.heads.items among named)),
        );
    complete = λ name q m.
        let (p, (there, same)) = of_map place_seen q (part_under table.heads.items table.pairs.items name) m in
        let (head, (among, inside)) = of_joined (by_name name) p table.heads.items there in
        subst (λ r. In r (map place_seen all_pairs)) same
        (in_map place_seen p all_pairs (in_joined (part_of table.pairs.items) head p table.heads.items among (in_part (same_text name head.name) p head inside)));
  }
    where
      in_part : (b : Bool) (p : Pair) (head : Head) → In p (if b then part_of table.pairs.items head else []) → In p (part_of table.pairs.items head)
      in_part true p head m = m
      in_part false p head m = absurd m

  -- what was found, sorted, each once
  rise_from : (is : List ℕ) → AllPairs (λ i j. i < j) is → Rise is
  rise_from [] up = tt
  rise_from (i ∷ is) up = (
    each_above i is (λ k d l. up 0 (suc k) d (omega arith) (omega (arith, l))),
    rise_from is (λ j k d l m. up (suc j) (suc k) d (omega (arith, l)) (omega (arith, m))),
  )
    where
      each_above : (i : ℕ) (is : List ℕ) → ((k d : ℕ) → k < length is → i < get_or is k d) → AllByRecursion (λ j. i < j) is
      each_above i [] h = tt
      each_above i (j ∷ is) h = (h 0 j (omega arith), each_above i is (λ k d l. h (suc k) d (omega (arith, l))))

  pub candidates_found : (doc : List Element) (x : ℕ) (pieces : List (List Place)) → AreLookedAt doc x (in_bucket rule_map) pieces
      → (first found sorted kept : List ℕ) (n : ℕ) → first ≡ rules_in pieces → length table.heads.items ≤ n → found ≡ first ++ rules_to table n
      → IsPermutation found sorted → IsSorted nat_cmp sorted → IsFiltered (DiffersFromLast eqb) [] sorted kept
      → (rules : List (List model.Selector)) → IsMapOf slot rules (in_bucket rule_map) → kept ≡ candidates doc x rules
  candidates_found doc x pieces looked first found sorted kept n e l f permuted up filtered rules is =
      let others : List Place = map place_seen all_pairs in
      let once : kept ≡ dedup eqb sorted = dedup_is eqb sorted kept filtered in
      let all : found ≡ rules_in pieces ++ rules_of others =
      f
      ∙ (ap (λ l. l ++ rules_to table n) e
      ∙ ap (λ l. rules_in pieces ++ l) (ap (λ hs. rules_of_pairs (flat_map (part_of table.pairs.items) hs)) (take_all n table.heads.items l) ∙ sym (rules_seen all_pairs))) in
      candidates_told doc x slot rules (in_bucket rule_map) is pieces looked others by_attribute kept
      (subst Rise (sym once) (rise_from (dedup eqb sorted) (AllPairs-from_increasing (dedup eqb sorted) (IsStrictlyIncreasing-dedup sorted up))))
      (λ k m.
      subst (In k) all
      (in_permuted sorted found k (IsPermutation-sym found sorted permuted) (contains_in sorted k (Contains-from_dedup eqb sorted k (in_contains (dedup eqb sorted) k (subst (In k) once m))))))
      (λ k m.
      subst (In k) (sym once)
      (contains_in (dedup eqb sorted) k (Contains-dedup_nat sorted k (in_contains sorted k (in_permuted found sorted k permuted (subst (In k) (sym all) m))))))
