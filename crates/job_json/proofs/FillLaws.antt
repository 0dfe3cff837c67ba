-- Attributes, one more at a time.
use Rattle.std.proofs.Common.{◌≡◌, ℕ, ◌+◌, List, [], ◌∷◌, ◌++◌, map, drop, Option, Some, None, Ok, Err, refl, sym, ap, ◌∙◌, append_assoc}
use Rattle.std.specs.Option.{option_or}
use Rattle.std.specs.Str.{chars}
use Rattle.scene_model.specs.Element.{Characters}
use Rattle.job_json.specs.declared.slots.Slot.{Slot}
use Rattle.job_json.specs.Checked.{Checked, ◌>>=◌, wanted, below, escaped, at_member}
use Rattle.job_json.specs.Words.{pair_from}
use Rattle.job_json.specs.Limits.{Passed, value_past}
use Rattle.job_json.specs.Slots.{Pair, slot_pair, said_by, passed_by}

abbrev Pairs : Type 0
Pairs = List (Characters × Characters)

-- those before, and then others
abbrev pub with_front : Pairs → Checked Pairs → Checked Pairs
with_front front said = said >>= (λ l. Ok (front ++ l))

one_more : (front : Pairs) (p : Characters × Characters) (rest : Checked Pairs) → with_front front (rest >>= (λ ps. Ok (p ∷ ps))) ≡ with_front (front ++ p ∷ []) rest
one_more front p (Ok ps) = ap (λ l. Ok l) (sym (append_assoc front (p ∷ []) ps))
one_more front p (Err path) = refl

either_or : (a b c : Option Passed) → option_or a (option_or b c) ≡ option_or (option_or a b) c
either_or None b c = refl
either_or (Some p) b c = refl

module _ (slots : List Slot) (i : ℕ) (slot : Slot) (is : drop i slots ≡ slot ∷ drop (i + 1) slots) where
  abbrev pairs : List Pair
  pairs = map slot_pair (drop (i + 1) slots)

  next : map slot_pair (drop i slots) ≡ slot_pair slot ∷ pairs
  next = ap (map slot_pair) is

  module _ (front : Pairs) (before : said_by (map slot_pair slots) ≡ with_front front (said_by (map slot_pair (drop i slots)))) where
    said_here : (found : Option (Characters × Characters)) → pair_from slot.name.now (slot_pair slot).1 ≡ found
        → said_by (map slot_pair slots) ≡ with_front front (at_member slot.name.now (wanted found) >>= (λ p. said_by pairs >>= (λ ps. Ok (p ∷ ps))))
    said_here found e = before ∙ (ap (λ ps. with_front front (said_by ps)) next ∙ ap (λ o. with_front front (at_member slot.name.now (wanted o) >>= (λ p. said_by pairs >>= (λ ps. Ok (p ∷ ps))))) e)

    pub said_more : (p : Characters × Characters) → pair_from slot.name.now (slot_pair slot).1 ≡ Some p → said_by (map slot_pair slots) ≡ with_front (front ++ p ∷ []) (said_by pairs)
    said_more p e = said_here (Some p) e ∙ one_more front p (said_by pairs)

    pub said_bad : pair_from slot.name.now (slot_pair slot).1 ≡ None → said_by (map slot_pair slots) ≡ Err (below (escaped (chars slot.name.now)) [])
    said_bad e = said_here None e

  pub passed_more : (passed new : Option Passed) → passed_by (map slot_pair slots) ≡ option_or passed (passed_by (map slot_pair (drop i slots)))
      → new ≡ option_or passed (value_past (slot_pair slot).1) → passed_by (map slot_pair slots) ≡ option_or new (passed_by pairs)
  passed_more passed new before e =
      before ∙ (ap (λ ps. option_or passed (passed_by ps)) next ∙ (either_or passed (value_past (slot_pair slot).1) (passed_by pairs) ∙ ap (λ o. option_or o (passed_by pairs)) (sym e)))
