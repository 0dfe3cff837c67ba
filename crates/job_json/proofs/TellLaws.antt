-- What the members of an object of attributes tell of limits is what the attributes pass.
use Rattle.std.proofs.Common.{◌≡◌, ℕ, suc, ◌+◌, nat_le, List, [], ◌∷◌, length, map, Bool, true, false, ◌&&◌, cond, Ordering, Less, Equal, Greater, is_eq}
use Rattle.std.proofs.Math.Bool.{and_assoc, and_comm}
use Rattle.std.proofs.Common.{Option, Some, None, Ok, Err, option_map, option_and_then, refl, sym, ap, ap₂, ◌∙◌, subst, arith}
use Rattle.std.specs.Prelude.{T, is_some, IfSome, codes}
use Rattle.std.specs.List.{AllByRecursion, list_all}
use Rattle.std.specs.Option.{option_or}
use Rattle.std.specs.Ordering.{eq_by_cmp, is_lt}
use Rattle.std.specs.Cmp.Lexicographic.{nat_list_cmp_total}
use Rattle.std.specs.FinMap as finmap
use Rattle.std.specs.FinMap.Entries.{below_all}
use Rattle.std.specs.Str.{chars, IsUtf8}
use Rattle.std.proofs.lemmas.Cmp.{tied_itself}
use Rattle.serde_json.specs.Data.{Data, null, boolean, number, string, array, object, Members}
use Rattle.serde_json.specs.Find.{get, get_member, as_object}
use Rattle.json_reader.specs.Kept.{KeepsMembers}
use Rattle.base_model.specs.Limits.{attribute_limit, value_limit}
use Rattle.stylo_base.specs.declared.refusal.Kind.TheVariants.{Attributes as AttributesKind, Value as ValueKind}
use Rattle.stylo_base.proofs.TextLemmas.{bytes_from_chars, chars_same}
use Rattle.scene_model.specs.Element.{Characters, Attributes, States}
use Rattle.scene_model.specs.Nodes.{Node}
use Rattle.edit_model.specs.Apply.{node_past}
use Rattle.edit_model.specs.Refusal.{limit, attribute_count, value_bytes, bytes_of}
use Rattle.job_json.specs.declared.slots.Slots.{Slots}
use Rattle.job_json.specs.declared.node.NodeParts.{NodeParts}
use Rattle.job_json.specs.Checked.{Checked, ◌>>=◌, step_to, wanted, at_member}
use Rattle.job_json.specs.Words.{is_name}
use Rattle.job_json.specs.Shape.{name_in, parent_in, pairs_in, attrs_in, states_in, node_in}
use Rattle.job_json.specs.Limits.{Passed, past, count_of, value_past, attrs_past}
use Rattle.job_json.specs.NewNodes.{limit_of, passed_limit, attributes_past, TellsLimits}
use Rattle.job_json.specs.Slots.{Pair, AreTexts, slots_of, said_by, passed_by}
use Rattle.job_json.specs.Kept.{AreSlotsOf, IsNodeOf}
use Rattle.job_json.proofs.AttrLaws.{map_of, pairs_in-slots, values_past-slots}
use Rattle.job_json.proofs.SlotLaws.{R, tied, both_true, count_of-slots}

abbrev Pairs : Type 0
Pairs = List (Characters × Characters)

-- ---- keys that are texts

not_equal : (o : Ordering) → T (is_lt o) → o ≡ Equal → ⊥
not_equal Less h e = cc
not_equal Equal h e = h
not_equal Greater h e = h

-- a key that is below another is another text
apart_at : (key other : List ℕ) (b : Bool) → eq_by_cmp R (chars key) (chars other) ≡ b → IsUtf8 key → IsUtf8 other → T (is_lt (R key other)) → b ≡ false
apart_at key other false e u v less = refl
apart_at key other true e u v less =
    let same : key ≡ other = chars_same key other u v (tied (chars key) (chars other) e) in
    absurd (not_equal (R key other) less (ap (R key) (sym same) ∙ tied_itself nat_list_cmp_total key))

-- ---- the values of a map, once a key is new

abbrev all_values : (Characters → Bool) → Pairs → Bool
all_values p es = list_all p (map (λ (e : Characters × Characters). e.1) es)

put_first : (p : Characters → Bool) (k v : Characters) (e : Characters × Characters) (es : Pairs) (r : Ordering) → R k e.0 ≡ r → finmap.find R k (e ∷ es) ≡ None
    → (finmap.find R k es ≡ None → all_values p (finmap.put R k v es) ≡ (p v && all_values p es))
    → all_values p (finmap.put R k v (e ∷ es)) ≡ (p v && (p e.1 && all_values p es))
put_first p k v e es Less h none step = rw h refl
put_first p k v e es Equal h none step =
    let found : cond (is_eq (R k e.0)) (Some e.1) (finmap.find R k es) ≡ Some e.1 = ap (λ r. cond (is_eq r) (Some e.1) (finmap.find R k es)) h in
    let never : None ≡ Some e.1 = sym none ∙ found in
    absurd (cc)
put_first p k v e es Greater h none step =
    let passed : finmap.find R k es ≡ None = sym (ap (λ r. cond (is_eq r) (Some e.1) (finmap.find R k es)) h) ∙ none in
    rw h (ap (λ b. p e.1 && b) (step passed) ∙ (sym (and_assoc (p e.1) (p v) (all_values p es)) ∙ (ap (λ b. b && all_values p es) (and_comm (p e.1) (p v)) ∙ and_assoc (p v) (p e.1) (all_values p es))))

put_all : (p : Characters → Bool) (k v : Characters) (es : Pairs) → finmap.find R k es ≡ None → all_values p (finmap.put R k v es) ≡ (p v && all_values p es)
put_all p k v [] none = refl
put_all p k v (e ∷ es) none = put_first p k v e es (R k e.0) refl none (put_all p k v es)

of_none : (p : Characters → Bool) (es : Pairs) → length es ≡ 0 → all_values p es ≡ true
of_none p [] h = refl
of_none p (e ∷ es) h = absurd (omega (arith, h))

no_values : (p : Characters → Bool) → list_all p (finmap.values (map_of [])) ≡ true
no_values p = of_none p (finmap.entries (map_of [])) (sym (finmap.len-entries (map_of [])) ∙ finmap.len-empty R Characters)

-- ---- what pairs say

record IsSaid (pair : Pair) (pairs : List Pair) (ps : Pairs) : Type 0 where
  text : List ℕ
  value : pair.1 ≡ Some text
  rest : Pairs
  said : said_by pairs ≡ Ok rest
  are : ps ≡ (chars pair.0, chars text) ∷ rest

said_parts : (pair : Pair) (pairs : List Pair) (ps : Pairs) (named : Bool) (value : Option (List ℕ)) (rest : Checked Pairs) → pair.1 ≡ value → said_by pairs ≡ rest
    → (at_member pair.0 (wanted (cond named (option_map (λ t. (chars pair.0, chars t)) value) None)) >>= (λ p. rest >>= (λ l. Ok (p ∷ l)))) ≡ Ok ps → IsSaid pair pairs ps
said_parts pair pairs ps false value rest is are e = absurd (cc)
said_parts pair pairs ps true None rest is are e = absurd (cc)
said_parts pair pairs ps true (Some text) (Err path) is are e = absurd (cc)
said_parts pair pairs ps true (Some text) (Ok rest) is are e =
    let made : (chars pair.0, chars text) ∷ rest ≡ ps = cc in
    record { text = text; value = is; rest = rest; said = are; are = sym made }

said_of : (pair : Pair) (pairs : List Pair) (ps : Pairs) → said_by (pair ∷ pairs) ≡ Ok ps → IsSaid pair pairs ps
said_of pair pairs ps e = said_parts pair pairs ps (is_name pair.0) pair.1 (said_by pairs) refl refl e

-- ---- pairs in the order of their keys, and the map of them

abbrev is_short : Characters → Bool
is_short text = nat_le (bytes_of text) value_limit

abbrev by_values : Bool → Option Passed
by_values short = cond short None (Some (ValueKind, value_limit))

both_short : (a b : Bool) → option_or (by_values a) (by_values b) ≡ by_values (a && b)
both_short true b = refl
both_short false b = refl

record IsLike (pairs : List Pair) (ps : Pairs) : Type 0 where
  count : finmap.len (map_of ps) ≡ length pairs
  values : passed_by pairs ≡ by_values (list_all is_short (finmap.values (map_of ps)))
  absent : (key : List ℕ) → IsUtf8 key → T (below_all R key pairs) → finmap.get (map_of ps) (chars key) ≡ None

module _ (pair : Pair) (pairs : List Pair) (rest : Pairs) (text : List ℕ) (name : IsUtf8 pair.0) (utf8 : IsUtf8 text) (value : pair.1 ≡ Some text)
    (above : T (below_all R pair.0 pairs)) (like : IsLike pairs rest) where
  abbrev all : Pairs
  all = (chars pair.0, chars text) ∷ rest

  new : finmap.get (map_of rest) (chars pair.0) ≡ None
  new = like.absent pair.0 name above

  count_now : finmap.len (map_of all) ≡ suc (length pairs)
  count_now =
      let more : finmap.len (map_of all) ≡ finmap.len (map_of rest) + 1 =
      finmap.len-insert nat_list_cmp_total (map_of rest) (chars pair.0) (chars text) ∙ ap (λ o. cond (is_some o) (finmap.len (map_of rest)) (finmap.len (map_of rest) + 1)) new in
      omega (arith, more, like.count)

  value_now : value_past pair.1 ≡ by_values (is_short (chars text))
  value_now = ap value_past value ∙ ap (λ bytes. by_values (nat_le (length bytes) value_limit)) (bytes_from_chars text (chars text) utf8 refl)

  all_now : list_all is_short (finmap.values (map_of all)) ≡ (is_short (chars text) && list_all is_short (finmap.values (map_of rest)))
  all_now =
      ap (all_values is_short) (finmap.entries-insert nat_list_cmp_total (map_of rest) (chars pair.0) (chars text))
      ∙ put_all is_short (chars pair.0) (chars text) (finmap.entries (map_of rest)) (sym (finmap.get-entries (map_of rest) (chars pair.0)) ∙ new)

  values_now : passed_by (pair ∷ pairs) ≡ by_values (list_all is_short (finmap.values (map_of all)))
  values_now =
      ap₂ option_or value_now like.values
      ∙ (both_short (is_short (chars text)) (list_all is_short (finmap.values (map_of rest))) ∙ ap by_values (sym all_now))

  absent_now : (key : List ℕ) → IsUtf8 key → T (below_all R key (pair ∷ pairs)) → finmap.get (map_of all) (chars key) ≡ None
  absent_now key u below =
      let parts = both_true (is_lt (R key pair.0)) (below_all R key pairs) below in
      finmap.get-insert nat_list_cmp_total (map_of rest) (chars pair.0) (chars text) (chars key)
      ∙ (ap (λ b. cond b (Some (chars text)) (finmap.get (map_of rest) (chars key))) (apart_at key pair.0 (eq_by_cmp R (chars key) (chars pair.0)) refl u name parts.0)
      ∙ like.absent key u parts.1)

  like_now : IsLike (pair ∷ pairs) all
  like_now = record { count = count_now; values = values_now; absent = absent_now }

like_all : (pairs : List Pair) (ps : Pairs) → T (finmap.is_sorted R pairs) → AllByRecursion AreTexts pairs → said_by pairs ≡ Ok ps → IsLike pairs ps
like_all [] ps rise texts e =
    let none : [] ≡ ps = cc in
    let empty : IsLike [] [] = record {
      count = finmap.len-empty R Characters;
      values = ap by_values (sym (no_values is_short));
      absent = λ key u below. finmap.get-empty R (chars key);
    } in
    subst (IsLike []) none empty
like_all (pair ∷ pairs) ps rise texts e =
    let said = said_of pair pairs ps e in
    let parts = both_true (below_all R pair.0 pairs) (finmap.is_sorted R pairs) rise in
    let utf8 : IsUtf8 said.text = subst (λ o. IfSome o IsUtf8) said.value texts.0.1 in
    subst (IsLike (pair ∷ pairs)) (sym said.are)
    (like_now pair pairs said.rest said.text texts.0.0 utf8 said.value parts.0 (like_all pairs said.rest parts.1 texts.1 said.said))

-- ---- the limits of attributes

by_tests : (few short : Bool) → option_map passed_limit (option_or (cond few None (Some (AttributesKind, attribute_limit))) (by_values short))
    ≡ option_map limit_of (option_or (cond few None (Some (limit attribute_count attribute_limit))) (cond short None (Some (limit value_bytes value_limit))))
by_tests true true = refl
by_tests true false = refl
by_tests false short = refl

pairs_of : (c : Checked Pairs) (attrs : Attributes) → (c >>= (λ ps. Ok (map_of ps))) ≡ Ok attrs → (ps : Pairs) × (c ≡ Ok ps) × (map_of ps ≡ attrs)
pairs_of (Err path) attrs e = absurd (cc)
pairs_of (Ok ps) attrs e = (ps, refl, (cc))

of_object : (ms : Members) (attrs : Attributes) → T (finmap.is_sorted R (slots_of ms)) → AllByRecursion AreTexts (slots_of ms) → (pairs_in ms >>= (λ ps. Ok (map_of ps))) ≡ Ok attrs
    → option_map passed_limit (attrs_past (Some ms)) ≡ option_map limit_of (attributes_past attrs)
of_object ms attrs rise texts e =
    let made = pairs_of (pairs_in ms) attrs e in
    let like = like_all (slots_of ms) made.0 rise texts (sym (pairs_in-slots ms) ∙ made.1) in
    let counted : count_of ms ≡ finmap.len (map_of made.0) = count_of-slots ms ∙ sym like.count in
    ap₂ (λ n o. option_map passed_limit (option_or (past AttributesKind attribute_limit n) o)) counted (values_past-slots ms ∙ like.values)
    ∙ (by_tests (nat_le (finmap.len (map_of made.0)) attribute_limit) (list_all is_short (finmap.values (map_of made.0)))
    ∙ ap (λ a. option_map limit_of (attributes_past a)) made.2)

by_kept : (s : Slots) (o : Option Members) (is : Bool) → KeepsMembers AreSlotsOf s o is → (attrs : Attributes)
    → (wanted o >>= (λ ms. pairs_in ms >>= (λ ps. Ok (map_of ps)))) ≡ Ok attrs → option_map passed_limit (attrs_past o) ≡ option_map limit_of (attributes_past attrs)
by_kept s None is kept attrs e = absurd (cc)
by_kept s (Some ms) is kept attrs e = of_object ms attrs (kept.1).rise (kept.1).texts e

pub tells_slots : (s : Slots) (d : Data) (is : Bool) → KeepsMembers AreSlotsOf s (as_object d) is → TellsLimits (Some d)
tells_slots s d is kept attrs e = by_kept s (as_object d) is kept attrs e

pub tells_none : TellsLimits None
tells_none attrs e =
    let none : map_of [] ≡ attrs = cc in
    let few : nat_le (finmap.len (map_of [])) attribute_limit ≡ true = ap (λ n. nat_le n attribute_limit) (finmap.len-empty R Characters) in
    sym (ap₂ (λ a b. option_map limit_of (option_or (cond a None (Some (limit attribute_count attribute_limit))) (cond b None (Some (limit value_bytes value_limit))))) few (no_values is_short))
    ∙ ap (λ a. option_map limit_of (attributes_past a)) none

-- ---- those of a node

pub tells_node : (s : NodeParts) (d : Data) (is : Bool) → KeepsMembers IsNodeOf s (as_object d) is → TellsLimits (get (codes "attrs") d)
tells_node s null is kept = tells_none
tells_node s (boolean b) is kept = tells_none
tells_node s (number n) is kept = tells_none
tells_node s (string t) is kept = tells_none
tells_node s (array js) is kept = tells_none
tells_node s (object ms) is kept = (kept.1).limits

attrs_said : (t p a s : Characters) (tag : Checked Characters) (parent : Checked (Option ℕ)) (attrs : Checked Attributes) (states : Checked States) (node : Node)
    → (step_to t tag >>= (λ t. step_to p parent >>= (λ p. step_to a attrs >>= (λ a. step_to s states >>= (λ s. Ok (record { parent = p; tag = t; attrs = a; states = s }))))))
    ≡ Ok node → attrs ≡ Ok node.attrs
attrs_said t p a s (Err path) parent attrs states node e = absurd (cc)
attrs_said t p a s (Ok tag) (Err path) attrs states node e = absurd (cc)
attrs_said t p a s (Ok tag) (Ok q) (Err path) states node e = absurd (cc)
attrs_said t p a s (Ok tag) (Ok q) (Ok attrs) (Err path) node e = absurd (cc)
attrs_said t p a s (Ok tag) (Ok q) (Ok attrs) (Ok states) node e = let same : record { parent = q; tag = tag; attrs = attrs; states = states } ≡ node = cc in ap (λ (n : Node). Ok n.attrs) same

attrs_of_node : (k : ℕ) (d : Data) (node : Node) → node_in k d ≡ Ok node → attrs_in (get (codes "attrs") d) ≡ Ok node.attrs
attrs_of_node k null node e = absurd (cc)
attrs_of_node k (boolean b) node e = absurd (cc)
attrs_of_node k (number n) node e = absurd (cc)
attrs_of_node k (string t) node e = absurd (cc)
attrs_of_node k (array js) node e = absurd (cc)
attrs_of_node k (object ms) node e =
    attrs_said _ _ _ _ (name_in (get_member (codes "tag") ms)) (parent_in k (get_member (codes "parent") ms))
    (attrs_in (get_member (codes "attrs") ms)) (states_in (get_member (codes "states") ms)) node e

pub told_of_node : (k : ℕ) (d : Data) (node : Node) → TellsLimits (get (codes "attrs") d) → node_in k d ≡ Ok node
    → option_map passed_limit (attrs_past (option_and_then as_object (get (codes "attrs") d))) ≡ option_map limit_of (node_past node)
told_of_node k d node tells e = tells node.attrs (attrs_of_node k d node e)
