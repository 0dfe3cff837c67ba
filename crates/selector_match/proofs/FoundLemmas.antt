-- What a search for a part finds, as the test whether the part is there.
use Rattle.std.proofs.Common.{◌≡◌, ℕ, ◌+◌, List, ◌++◌, Option, None, Some, length, take, drop, sym, refl, ap, ◌∙◌, arith, length-append, take-append-drop}
use Rattle.std.specs.Option.{is_some}
use Rattle.std.proofs.lemmas.Bool.{false_from_ne_true}
use Rattle.std.proofs.lemmas.List.{take_at, drop_at}
use Rattle.memchr.specs.Find.{FindsNeedle, OccursAt}
use Rattle.memchr.proofs.lemmas.MatchLemmas.{OccursAt-from_part, OccursAt-split}
use Rattle.selector_model.specs.Comparisons.{has_part}
use Rattle.selector_match.proofs.PartLemmas.{HasPart, has_part-Decides}

OccursAt-HasPart : (text part front rest : List ℕ) → text ≡ front ++ (part ++ rest) → OccursAt text part (length front)
OccursAt-HasPart text part front rest e =
    OccursAt-from_part text part (length front) (omega (arith, ap length e, length-append front (part ++ rest), length-append part rest))
    (ap (λ t. take (length part) (drop (length front) t)) e ∙ (ap (take (length part)) (drop_at front (part ++ rest) (length front) refl) ∙ take_at part rest (length part) refl))

HasPart-OccursAt : (text part : List ℕ) (k : ℕ) → OccursAt text part k → HasPart text part
HasPart-OccursAt text part k h =
    (take k text, (drop (k + length part) text, sym (take-append-drop k text) ∙ ap (λ l. take k text ++ l) (OccursAt-split text part k h)))

pub has_part-found : (text part : List ℕ) (found : Option ℕ) → FindsNeedle text part 0 found → is_some found ≡ has_part text part
has_part-found text part (Some k) h = sym ((has_part-Decides text part).1 (HasPart-OccursAt text part k h.1))
has_part-found text part None h = sym (false_from_ne_true (has_part text part) (λ e. missed ((has_part-Decides text part).0 e)))
  where
    missed : HasPart text part → ⊥
    missed (front, (rest, f)) =
        let here = OccursAt-HasPart text part front rest f in
        h (length front) (omega arith) (omega (arith, here.fits)) here
