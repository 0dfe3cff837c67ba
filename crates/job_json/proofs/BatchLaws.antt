-- The batches that the items of a list say.
use Rattle.std.proofs.Common.{◌≡◌, ◌+◌, ◌≤◌, nat_le, nat_lt, List, [], ◌∷◌, ◌++◌, length, map, Bool, true, false, cond, Option, Some, None, Ok, Err, refl, sym, ap, ap₂, ◌∙◌, arith}
use Rattle.std.specs.Prelude.{Vec}
use Rattle.std.specs.declared.alloc.Global.{Global}
use Rattle.std.proofs.lemmas.Bool.Decides.{nat_tests}
use Rattle.std.proofs.lemmas.List.{length_push, map-append}
use Rattle.serde_json.specs.Data.{Data, Items}
use Rattle.serde_json.specs.Find.{as_array}
use Rattle.serde_json.specs.View.{items_of}
use Rattle.base_model.specs.Limits.{batch_limit}
use Rattle.stylo_base.specs.declared.refusal.Kind.TheVariants.{Batches}
use Rattle.dom_edits.specs.declared.edits.Edit.{Edit}
use Rattle.job_json.specs.declared.batch_items.BatchItems.{BatchItems}
use Rattle.job_json.specs.Checked.{Checked, ◌>>=◌, wanted}
use Rattle.job_json.specs.Shape.{items_in}
use Rattle.job_json.specs.Edits.{batch_in}
use Rattle.job_json.specs.Limits.{Within, within, batches_past}
use Rattle.job_json.specs.Parts.{batches_read}
use Rattle.job_json.specs.Kept.{bad_or}
use Rattle.job_json.specs.KeptEdits.{edits_of, HasBatches, AreBatchesOf, KeepsBatch}
use Rattle.job_json.proofs.CheckedLaws.{read_end}

-- ---- one more batch

module _ (old new : BatchItems) (batch : Vec Edit Global) (edits : List Edit) (batches : List (List Edit))
    (has : HasBatches old batches) (keeps : KeepsBatch old batch new) (same : edits ≡ batch.items) where
  kept_now : length (batches ++ edits ∷ []) ≤ batch_limit → map edits_of new.list.items ≡ batches ++ edits ∷ []
  kept_now few =
      let room : nat_lt old.count batch_limit ≡ true = let n = length_push batches edits in let m = has.count in grind (arith, nat_tests) in
      let list : new.list.items ≡ old.list.items ++ batch ∷ [] = keeps.list ∙ ap (λ b. cond b (old.list.items ++ batch ∷ []) old.list.items) room in
      let before : map edits_of old.list.items ≡ batches = has.kept (omega (arith, length_push batches edits)) in
      ap (map edits_of) list ∙ (map-append edits_of old.list.items (batch ∷ []) ∙ ap₂ (λ l e. l ++ e ∷ []) before (sym same))

  pub one_batch : HasBatches new (batches ++ edits ∷ [])
  one_batch = record {
    count = length_push batches edits ∙ (ap (λ n. n + 1) has.count ∙ sym keeps.count);
    kept = kept_now;
  }

-- ---- the whole list

abbrev pub finished : BatchItems → Within (List (List Edit))
finished s = within (cond (nat_le s.count batch_limit) None (Some (Batches, batch_limit))) (map edits_of s.list.items)

by_limit : (few : Bool) (batches items : List (List Edit)) → (few ≡ true → items ≡ batches)
    → within (cond few None (Some (Batches, batch_limit))) batches ≡ within (cond few None (Some (Batches, batch_limit))) items
by_limit false batches items same = refl
by_limit true batches items same = ap (λ l. Ok l) (sym (same refl))

batches_are : (s : BatchItems) (batches : List (List Edit)) → HasBatches s batches → within (batches_past batches) batches ≡ finished s
batches_are s batches has =
    ap (λ n. within (cond (nat_le n batch_limit) None (Some (Batches, batch_limit))) batches) has.count
    ∙ by_limit (nat_le s.count batch_limit) batches (map edits_of s.list.items) (λ few. has.kept (let m = has.count in grind (arith, nat_tests)))

abbrev of_items : Option Items → Checked (Within (List (List Edit)))
of_items items = (wanted items >>= items_in (λ k. batch_in) 0) >>= (λ batches. Ok (within (batches_past batches) batches))

pub batches_end : (d : Data) (ds : List Data) (s : BatchItems) → as_array d ≡ Some (items_of ds) → AreBatchesOf s ds → batches_read (Some d) ≡ bad_or s.bad (finished s)
batches_end d ds s is kept = ap of_items is ∙ read_end (λ k. batch_in) (λ batches. within (batches_past batches) batches) s.bad (HasBatches s) (finished s) ds kept (batches_are s)

pub no_batches : (d : Data) → as_array d ≡ None → batches_read (Some d) ≡ Err []
no_batches d is = ap of_items is
