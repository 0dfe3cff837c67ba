-- Whom an edit of one sheet marks, by the keys of this sheet before and after it.
use Rattle.std.proofs.Common.{◌≡◌, ℕ, ◌+◌, ◌==◌, suc, List, [], ◌∷◌, ◌++◌, length, filter, flat_map, Bool, true, false, not, ◌&&◌, ◌||◌, refl, sym, ap, ◌∙◌, arith, length-append}
use Rattle.std.specs.Bool.{beq}
use Rattle.std.specs.List.{list_any}
use Rattle.std.proofs.lemmas.Bool.{and_parts, and_right, false≢true, false_from_ne_true}
use Rattle.std.proofs.lemmas.List.{append-nil}
use Rattle.std.proofs.lemmas.List.Elements.{filter-append}
use Rattle.std.proofs.lemmas.List.Folds.{list_any-append}
use Rattle.base_model.specs.Sheet.{Sheet}
use Rattle.base_model.specs.Text.{same_text}
use Rattle.base_model.specs.Origin.{origin_rank}
use Rattle.layer_model.specs.Order.{Layers}
use Rattle.layer_model.specs.Swapped.{swapped, swapped_in}
use Rattle.layer_model.proofs.Rising.{swapped_itself}
use Rattle.scene_model.specs.Element.{Element}
use Rattle.scene_model.specs.Lookups.{is_element}
use Rattle.selector_model.specs.Key.{Key}
use Rattle.sheet_model.specs.Sources.{layers_of_sheets}
use Rattle.edit_model.specs.Marked.{bears_in}
use Rattle.edit_model.specs.SheetApply.{is_of}
use Rattle.sheet_edit_model.specs.SheetMarks.{keys_in, same_sheet, same_sheets, is_marked_by_sheets}
use Rattle.sheet_edit_model.proofs.SameSheets.{sheets_mark_nothing}
use Rattle.sheet_set.specs.StepOf.{AreOthers}
use Rattle.sheet_set.proofs.Places.{it-place, none-others}

-- layers are not swapped with themselves
pub unswapped : (layers : Layers) → swapped layers layers ≡ false
unswapped layers =
    ap (λ b. b || (swapped_in layers.of_user layers.of_user || swapped_in layers.of_author layers.of_author)) (swapped_itself layers.of_user_agent)
    ∙ (ap (λ b. b || swapped_in layers.of_author layers.of_author) (swapped_itself layers.of_user) ∙ swapped_itself layers.of_author)

-- whom keys, and layers that are swapped or not, mark
abbrev pub Told : List Sheet → List Sheet → ℕ → Bool → List Key → Type 0
Told before after n turned keys =
    (doc : List Element) (x : ℕ) → is_marked_by_sheets doc before after n x ≡ (is_element doc x && (turned || list_any (λ key. bears_in doc key x) keys))

-- where nothing changes
pub none-told : (sheets : List Sheet) (n : ℕ) (turned : Bool) (keys : List Key) → turned ≡ false → keys ≡ [] → Told sheets sheets n turned keys
none-told sheets n turned keys same none = λ doc x.
    sheets_mark_nothing doc sheets n x
    ∙ (sym (and_right (is_element doc x) false refl)
    ∙ (ap (λ b. is_element doc x && (b || list_any (λ key. bears_in doc key x) [])) (sym same)
    ∙ ap (λ l. is_element doc x && (turned || list_any (λ key. bears_in doc key x) l)) (sym none)))

-- where the lists differ
pub all-told : (before after gone came : List Sheet) (n : ℕ) (turned : Bool) (keys : List Key) → same_sheets before after ≡ false → filter (is_of n) before ≡ gone → filter (is_of n) after ≡ came
    → turned ≡ swapped (layers_of_sheets before) (layers_of_sheets after) → keys ≡ flat_map keys_in gone ++ flat_map keys_in came → Told before after n turned keys
all-told before after gone came n turned keys other was is swap all = λ doc x.
    let bears : Key → Bool = λ key. bears_in doc key x in
    let apart : Bool = swapped (layers_of_sheets before) (layers_of_sheets after) in
    ap (λ b. is_element doc x && (not b && (apart || (list_any bears (flat_map keys_in (filter (is_of n) before)) || list_any bears (flat_map keys_in (filter (is_of n) after)))))) other
    ∙ (ap (λ l. is_element doc x && (apart || (list_any bears (flat_map keys_in l) || list_any bears (flat_map keys_in (filter (is_of n) after))))) was
    ∙ (ap (λ l. is_element doc x && (apart || (list_any bears (flat_map keys_in gone) || list_any bears (flat_map keys_in l)))) is
    ∙ (ap (λ b. is_element doc x && (apart || b)) (sym (list_any-append bears (flat_map keys_in gone) (flat_map keys_in came)))
    ∙ (ap (λ l. is_element doc x && (apart || list_any bears l)) (sym all)
    ∙ ap (λ b. is_element doc x && (b || list_any bears keys)) (sym swap)))))

-- lists that test the same are as long, and have the same sheets at each place
same-length : (xs ys : List Sheet) → same_sheets xs ys ≡ true → length xs ≡ length ys
same-length [] [] h = refl
same-length [] (y ∷ ys) h = absurd (false≢true h)
same-length (x ∷ xs) [] h = absurd (false≢true h)
same-length (x ∷ xs) (y ∷ ys) h =
    ap suc (same-length xs ys (and_parts (same_sheet x y) (same_sheets xs ys) h).1)

same-there : (xs : List Sheet) (a b : Sheet) (ys : List Sheet) → same_sheets (xs ++ a ∷ ys) (xs ++ b ∷ ys) ≡ true → same_sheet a b ≡ true
same-there [] a b ys h = (and_parts (same_sheet a b) (same_sheets ys ys) h).0
same-there (x ∷ xs) a b ys h =
    same-there xs a b ys (and_parts (same_sheet x x) (same_sheets (xs ++ a ∷ ys) (xs ++ b ∷ ys)) h).1

same-switch : (a b : Sheet) → same_sheet a b ≡ true → beq a.enabled b.enabled ≡ true
same-switch a b h =
    (and_parts (beq a.enabled b.enabled) _ (and_parts ((a.number == b.number) && (origin_rank a.origin == origin_rank b.origin)) _ h).1).0

same-edition : (a b : Sheet) → same_sheet a b ≡ true → (a.edition == b.edition) ≡ true
same-edition a b h =
    let rest = (and_parts (beq a.enabled b.enabled) _ (and_parts ((a.number == b.number) && (origin_rank a.origin == origin_rank b.origin)) _ h).1).1 in
    (and_parts (same_text a.text b.text) (a.edition == b.edition) rest).1

turned-differs : (b : Bool) → beq b (not b) ≡ false
turned-differs true = refl
turned-differs false = refl

-- one sheet that comes, goes or changes
module _ (n : ℕ) (xs ys : List Sheet) (before : AreOthers n xs) (after : AreOthers n ys) (turned : Bool) (keys : List Key) where
  none-between : filter (is_of n) (xs ++ ys) ≡ []
  none-between =
      filter-append (is_of n) xs ys
      ∙ (ap (λ l. l ++ filter (is_of n) ys) (none-others n xs before) ∙ none-others n ys after)

  longer : (sheet : Sheet) → length (xs ++ sheet ∷ ys) ≡ length (xs ++ ys) + 1
  longer sheet = omega (arith, length-append xs (sheet ∷ ys), length-append xs ys)

  pub come-told : (sheet : Sheet) → is_of n sheet ≡ true → turned ≡ swapped (layers_of_sheets (xs ++ ys)) (layers_of_sheets (xs ++ sheet ∷ ys)) → keys ≡ keys_in sheet
      → Told (xs ++ ys) (xs ++ sheet ∷ ys) n turned keys
  come-told sheet it swap are =
      let other : same_sheets (xs ++ ys) (xs ++ sheet ∷ ys) ≡ false =
      false_from_ne_true (same_sheets (xs ++ ys) (xs ++ sheet ∷ ys)) (λ same. let long = same-length (xs ++ ys) (xs ++ sheet ∷ ys) same in absurd (omega (arith, long, longer sheet))) in
      all-told (xs ++ ys) (xs ++ sheet ∷ ys) [] (sheet ∷ []) n turned keys other none-between (it-place n xs sheet ys before it after) swap (are ∙ sym (append-nil (keys_in sheet)))

  pub go-told : (sheet : Sheet) → is_of n sheet ≡ true → turned ≡ swapped (layers_of_sheets (xs ++ sheet ∷ ys)) (layers_of_sheets (xs ++ ys)) → keys ≡ keys_in sheet
      → Told (xs ++ sheet ∷ ys) (xs ++ ys) n turned keys
  go-told sheet it swap are =
      let other : same_sheets (xs ++ sheet ∷ ys) (xs ++ ys) ≡ false =
      false_from_ne_true (same_sheets (xs ++ sheet ∷ ys) (xs ++ ys)) (λ same. let long = same-length (xs ++ sheet ∷ ys) (xs ++ ys) same in absurd (omega (arith, long, longer sheet))) in
      all-told (xs ++ sheet ∷ ys) (xs ++ ys) (sheet ∷ []) [] n turned keys other (it-place n xs sheet ys before it after) none-between swap
      (are ∙ (sym (append-nil (keys_in sheet)) ∙ sym (append-nil (keys_in sheet ++ []))))

  module _ (old new : Sheet) (old_it : is_of n old ≡ true) (new_it : is_of n new ≡ true)
      (swap : turned ≡ swapped (layers_of_sheets (xs ++ old ∷ ys)) (layers_of_sheets (xs ++ new ∷ ys))) (are : keys ≡ keys_in old ++ keys_in new) where
    changed-told : same_sheet old new ≡ false → Told (xs ++ old ∷ ys) (xs ++ new ∷ ys) n turned keys
    changed-told differ =
        let other : same_sheets (xs ++ old ∷ ys) (xs ++ new ∷ ys) ≡ false =
        false_from_ne_true (same_sheets (xs ++ old ∷ ys) (xs ++ new ∷ ys)) (λ same. false≢true (sym differ ∙ same-there xs old new ys same)) in
        let parts : keys ≡ (keys_in old ++ []) ++ (keys_in new ++ []) =
        are ∙ (ap (λ l. l ++ keys_in new) (sym (append-nil (keys_in old))) ∙ ap (λ l. (keys_in old ++ []) ++ l) (sym (append-nil (keys_in new)))) in
        all-told (xs ++ old ∷ ys) (xs ++ new ∷ ys) (old ∷ []) (new ∷ []) n turned keys other (it-place n xs old ys before old_it after) (it-place n xs new ys before new_it after) swap parts

    pub put-told : (old.edition == new.edition) ≡ false → Told (xs ++ old ∷ ys) (xs ++ new ∷ ys) n turned keys
    put-told differ =
        changed-told (false_from_ne_true (same_sheet old new) (λ same. false≢true (sym differ ∙ same-edition old new same)))

    pub turn-told : new.enabled ≡ not old.enabled → Told (xs ++ old ∷ ys) (xs ++ new ∷ ys) n turned keys
    turn-told is =
        let differ : beq old.enabled new.enabled ≡ false = ap (beq old.enabled) is ∙ turned-differs old.enabled in
        changed-told (false_from_ne_true (same_sheet old new) (λ same. false≢true (sym differ ∙ same-switch old new same)))
