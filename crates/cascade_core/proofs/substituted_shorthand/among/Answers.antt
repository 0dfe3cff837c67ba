use Rattle.std.proofs.Common.{◌≡◌, ℕ, zero, suc, ◌<◌, ◌==◌, false, List, [], ◌∷◌, drop, get_or, length, map, Option, None, option_map, refl, sym, ◌∙◌, arith}
use Rattle.std.proofs.Math.Numerals.{add-one}
use Rattle.value_model.specs.Value.{Value}
use Rattle.property_table.specs.View.{property_of, value_seen}
use Rattle.cascade_core.specs.Tokens.{among}
use Rattle.cascade_core.proofs.substituted_shorthand.among.Goals as goal

module _ {A B : Type 0} (p : ℕ) (seen : A → ℕ) (value : B → Option Value) where
  -- what is found from a place on
  abbrev found : List A → List B → ℕ → Option Value
  found ids values k = among p (map seen (drop k ids)) (map value (drop k values))

  no_values : (ids : List ℕ) → among p ids [] ≡ None
  no_values [] = refl
  no_values (id ∷ ids) = refl

  -- what is left behind one that is another
  next : (ids : List A) (values : List B) (k : ℕ) (d : A) → k < length ids → (seen (get_or ids k d) == p) ≡ false → found ids values (suc k) ≡ found ids values k
  next [] values k d within other = absurd (omega arith)
  next (x ∷ xs) [] zero d within other = no_values (map seen xs)
  next (x ∷ xs) (y ∷ ys) zero d within other = rw other
  next (x ∷ xs) [] (suc k) d within other = no_values (map seen (drop (suc k) xs)) ∙ sym (no_values (map seen (drop k xs)))
  next (x ∷ xs) (y ∷ ys) (suc k) d within other = next xs ys k d (omega arith) other

pub loop-place-preserved : goal.loop-place-preserved
loop-place-preserved c =
    let other = sym c.eq.ensures ∙ c.if-eq.false in
    rw (add-one, next (property_of c.args.id) property_of (option_map value_seen) c.args.ids.now c.args.values.now c.loop-place.place _ c.loop-place-test.true other)
    c.loop-place.invariant
