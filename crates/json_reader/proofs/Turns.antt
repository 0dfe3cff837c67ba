-- The loops over the items of an array and over the members of an object, a turn at a time.
use Rattle.std.proofs.Common.{◌≡◌, ℕ, ◌-◌, ◌<◌, ◌≤◌, List, [], ◌∷◌, ◌++◌, length, Option, Some, None, refl, ap, ◌∙◌, arith}
use Rattle.json.specs.Token.{Token}
use Rattle.json.specs.Json.{parse_map, after_end_array, read_key, value}
use Rattle.json.proofs.Grammar.{after_end_array-shorter, read_key-shorter}
use Rattle.serde_json.specs.Data.{Data, Items, no_items, item, Members, put}
use Rattle.serde_json.specs.View.{items_of}
use Rattle.json_reader.specs.Taken.{taken, items_taken, members_taken}
use Rattle.json_reader.proofs.Reading.{item_read, item_refused, items_over, member_read, member_refused, key_refused, members_over}

-- the items after others
abbrev pub before : List Data → Items → Items
before [] rest = rest
before (d ∷ ds) rest = item d (before ds rest)

before-no_items : (ds : List Data) → before ds no_items ≡ items_of ds
before-no_items [] = refl
before-no_items (d ∷ ds) = ap (item d) (before-no_items ds)

before_push : (ds : List Data) (d : Data) (rest : Items) → before ds (item d rest) ≡ before (ds ++ d ∷ []) rest
before_push [] d rest = refl
before_push (e ∷ ds) d rest = ap (item e) (before_push ds d rest)

one_more : (ds : List Data) (d : Data) (r : Option (Items × List Token)) → parse_map (before ds) (parse_map (item d) r) ≡ parse_map (before (ds ++ d ∷ [])) r
one_more ds d None = refl
one_more ds d (Some p) = ap (λ js. Some (js, p.1)) (before_push ds d p.0)

none_before : (r : Option (Items × List Token)) → r ≡ parse_map (before []) r
none_before None = refl
none_before (Some p) = refl

-- `all` is what is taken where these items were found and these tokens are left, no more than `most`
pub record AreItemsFound (depth : ℕ) (all : Option (Items × List Token)) (most : ℕ) (ts : List Token) (ds : List Data) : Type 0 where
  pub n : ℕ
  pub enough : length ts ≤ n
  pub rest : all ≡ parse_map (before ds) (items_taken depth n ts)
  pub shorter : length ts ≤ most

module _ (depth : ℕ) where
  pub items_begin : (ts : List Token) → AreItemsFound depth (items_taken depth (length ts) ts) (length ts) ts []
  items_begin ts = record { n = length ts; enough = omega arith; rest = none_before _; shorter = omega arith }

  module _ (all : Option (Items × List Token)) (most : ℕ) (ts : List Token) (ds : List Data) (so_far : AreItemsFound depth all most ts ds) where
    pub items_more : (d : Data) (r : List Token) → after_end_array ts ≡ None → taken depth ts ≡ Some (d, r) → length r < length ts → AreItemsFound depth all most r (ds ++ d ∷ [])
    unfolding taken items_taken
    items_more d r going e less = record {
      n = so_far.n - 1;
      enough = omega arith;
      rest = so_far.rest ∙ ap (parse_map (before ds)) (item_read (value depth) so_far.n ts r d (omega arith) going e) ∙ one_more ds d (items_taken depth (so_far.n - 1) r);
      shorter = omega arith;
    }

    pub items_stop : after_end_array ts ≡ None → taken depth ts ≡ None → all ≡ None
    unfolding taken items_taken
    items_stop going e = so_far.rest ∙ ap (parse_map (before ds)) (item_refused (value depth) so_far.n ts going e)

    pub items_end : (r : List Token) → after_end_array ts ≡ Some r → all ≡ Some (items_of ds, r)
    unfolding items_taken
    items_end r e = so_far.rest ∙ ap (parse_map (before ds)) (items_over (value depth) so_far.n ts r so_far.enough e) ∙ ap (λ js. Some (js, r)) (before-no_items ds)

    pub items_end_less : (r : List Token) → after_end_array ts ≡ Some r → length r < most
    items_end_less r e = omega (arith, after_end_array-shorter ts r e)

-- the same of members
pub record AreMembersFound (depth : ℕ) (all : Option (Members × List Token)) (most : ℕ) (ts : List Token) (found : Members) : Type 0 where
  pub n : ℕ
  pub enough : length ts ≤ n
  pub rest : all ≡ members_taken depth found n ts
  pub shorter : length ts ≤ most

module _ (depth : ℕ) where
  pub members_begin : (found : Members) (ts : List Token) → AreMembersFound depth (members_taken depth found (length ts) ts) (length ts) ts found
  members_begin found ts = record { n = length ts; enough = omega arith; rest = refl; shorter = omega arith }

  module _ (all : Option (Members × List Token)) (most : ℕ) (ts : List Token) (found : Members) (so_far : AreMembersFound depth all most ts found) where
    pub members_more : (k : List ℕ) (s : List Token) (d : Data) (r : List Token) → read_key ts ≡ Some (Some k, s) → taken depth s ≡ Some (d, r) → length r < length s → AreMembersFound depth all most r (put k d found)
    unfolding taken members_taken
    members_more k s d r key e less =
        let shorter = read_key-shorter ts (Some k) s key in
        record {
          n = so_far.n - 1;
          enough = omega arith;
          rest = so_far.rest ∙ member_read (value depth) found so_far.n k ts s r d (omega arith) key e;
          shorter = omega arith;
        }

    pub members_stop : (k : List ℕ) (s : List Token) → read_key ts ≡ Some (Some k, s) → taken depth s ≡ None → all ≡ None
    unfolding taken members_taken
    members_stop k s key e = so_far.rest ∙ member_refused (value depth) found so_far.n k ts s key e

    pub members_no_key : read_key ts ≡ None → all ≡ None
    unfolding members_taken
    members_no_key e = so_far.rest ∙ key_refused (value depth) found so_far.n ts e

    pub members_end : (r : List Token) → read_key ts ≡ Some (None, r) → all ≡ Some (found, r)
    unfolding members_taken
    members_end r e = so_far.rest ∙ members_over (value depth) found so_far.n ts r so_far.enough e

    pub members_end_less : (r : List Token) → read_key ts ≡ Some (None, r) → length r < most
    members_end_less r e = omega (arith, read_key-shorter ts None r e)
