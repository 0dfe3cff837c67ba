-- What is kept of an array, and of a value that is none.
use Rattle.std.proofs.Common.{◌≡◌, List, true, false, Option, Some, None, refl, sym, true≢false}
use Rattle.serde_json.specs.Data.{Data, Items, Members}
use Rattle.serde_json.specs.View.{items_of}
use Rattle.json_reader.specs.Kept.{KeepsItems, KeepsMembers}

pub is_array : {S : Type 0} (keeps : S → List Data → Type 0) (s : S) (o : Option Items) → KeepsItems keeps s o true → (ds : List Data) × (o ≡ Some (items_of ds)) × keeps s ds
is_array keeps s None kept = absurd (true≢false kept)
is_array keeps s (Some js) kept = let (ds, is, so) = kept.1 in (ds, (cc), so)

pub is_no_array : {S : Type 0} (keeps : S → List Data → Type 0) (s : S) (o : Option Items) → KeepsItems keeps s o false → o ≡ None
is_no_array keeps s None kept = refl
is_no_array keeps s (Some js) kept = absurd (true≢false (sym kept.0))

pub is_object : {S : Type 0} (keeps : S → Members → Type 0) (s : S) (o : Option Members) → KeepsMembers keeps s o true → (ms : Members) × (o ≡ Some ms) × keeps s ms
is_object keeps s None kept = absurd (true≢false kept)
is_object keeps s (Some ms) kept = (ms, refl, kept.1)

pub is_no_object : {S : Type 0} (keeps : S → Members → Type 0) (s : S) (o : Option Members) → KeepsMembers keeps s o false → o ≡ None
is_no_object keeps s None kept = refl
is_no_object keeps s (Some ms) kept = absurd (true≢false (sym kept.0))
