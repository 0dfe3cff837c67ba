-- The text of a batch: its line, those of its refused edits, and those of the elements.
use Rattle.std.proofs.Common.{◌≡◌, ℕ, List, [], ◌∷◌, ◌++◌, map, length, Option, Vec, Result, Ok, Err, OnOk, OnErr, refl, sym, ap, ap₂, ◌∙◌, subst, append-nil, append_assoc, encode_utf8}
use Rattle.std.specs.Prelude.{encode_utf8_all}
use Rattle.std.specs.List.{flat_map, concat}
use Rattle.std.specs.declared.alloc.Global.{Global}
use Rattle.std.specs.Io.KnownBytes.{Appends}
use Rattle.std.proofs.KnownBytes.{Appends-trans}
use Rattle.std.proofs.lemmas.Grind.{flat_map-append}
use Rattle.std.proofs.lemmas.List.{length-map}
use Rattle.base_model.specs.Text.{Characters}
use Rattle.scene_model.specs.Lookups.{numbers}
use Rattle.scene_model.specs.Scene.{elements_of}
use Rattle.sheet_model.specs.Sources.{sources_of}
use Rattle.edit_model.specs.Edit.{Edit}
use Rattle.session_model.specs.Standing.{Standing, cascaded_count, matched_count, restyled}
use Rattle.session_model.specs.Batches as model
use Rattle.session_model.specs.Batches.{accepted_among, edited_all, refused_from, report_of, reports_from}
use Rattle.dom_edits.specs.declared.edits.Edit.{Edit as CodeEdit}
use Rattle.dom_edits.specs.EditView.{edit_seen, refusal_answered}
use Rattle.style_session.specs.declared.counts.Counts.{Counts}
use Rattle.report_text.specs.Lines.{batch_line, refused_line}
use Rattle.report_text.specs.Elements.{element_lines, elements_bytes, line_at}
use Rattle.style_lines.specs.Loops.{GrewByFront}
use Rattle.style_cli.specs.Text.{batch_text, refused_lines, text_from}
use Rattle.style_cli.specs.Printing.{IsHeadingOf, answered, batches_seen, edits_seen, heading_bytes, refused_bytes}
use Rattle.style_cli.specs.declared.batch.Heading.{Heading}
use Rattle.style_cli.specs.declared.batch.RefusedEdit.{RefusedEdit}
use Rattle.style_lines.proofs.Fronts.{front_after}
use Rattle.style_lines.proofs.Written.{IsWritten}

flat_map-map : {X Y : Type 0} (f : Y → List ℕ) (g : X → Y) (xs : List X) → flat_map f (map g xs) ≡ flat_map (λ x. f (g x)) xs
flat_map-map f g [] = refl
flat_map-map f g (x ∷ xs) = ap (λ l. f (g x) ++ l) (flat_map-map f g xs)

module _ (n : ℕ) (st now : Standing) (edits : List Edit) (heading : Heading) (told : IsHeadingOf st edits heading) (is : now ≡ restyled (edited_all st edits)) where
  abbrev after : Standing
  after = edited_all st edits

  abbrev list : List model.RefusedEdit
  list = refused_from 1 st edits

  counted_line : batch_line n (accepted_among st edits) (length list) (matched_count after) (cascaded_count after) ≡ batch_line n heading.accepted (length heading.refused.items) heading.counts.matched heading.counts.cascaded
  counted_line =
      ap (λ a. batch_line n a (length list) (matched_count after) (cascaded_count after)) (sym told.accepted)
      ∙ (ap (λ r. batch_line n heading.accepted r (matched_count after) (cascaded_count after)) (sym (ap length told.refused ∙ length-map list answered))
      ∙ ap (λ (c : Counts). batch_line n heading.accepted (length heading.refused.items) c.matched c.cascaded) (sym told.counts))

  refused_text : flat_map encode_utf8_all (refused_lines list) ≡ flat_map refused_bytes heading.refused.items
  refused_text =
      flat_map-map encode_utf8_all (λ (one : model.RefusedEdit). refused_line one.place (refusal_answered one.why)) list
      ∙ (sym (flat_map-map refused_bytes answered list) ∙ ap (flat_map refused_bytes) (sym told.refused))

  elements_text : flat_map encode_utf8_all (element_lines after.scene) ≡ elements_bytes now.scene
  elements_text =
      flat_map-map encode_utf8_all (line_at (elements_of after.scene) (sources_of after.scene.sheets)) (numbers (elements_of after.scene))
      ∙ ap (λ (s : Standing). elements_bytes s.scene) (sym is)

  pub batch_parts : batch_text n (report_of st edits) ≡ heading_bytes n heading ++ elements_bytes now.scene
  unfolding batch_text
  batch_parts =
      let first = encode_utf8_all (batch_line n (accepted_among st edits) (length list) (matched_count after) (cascaded_count after)) in
      ap (λ l. first ++ l) (flat_map-append encode_utf8_all (refused_lines list) (element_lines after.scene) ∙ (ap (λ l. l ++ flat_map encode_utf8_all (element_lines after.scene)) refused_text ∙ ap (λ l. flat_map refused_bytes heading.refused.items ++ l) elements_text))
      ∙ (sym (append_assoc first (flat_map refused_bytes heading.refused.items) (elements_bytes now.scene))
      ∙ ap (λ l. (encode_utf8_all l ++ flat_map refused_bytes heading.refused.items) ++ elements_bytes now.scene) counted_line)

-- the line that was made, and the refused edits that were listed
pub heading_is : (n count : ℕ) (heading : Heading) (line : Characters) (list : List RefusedEdit) → count ≡ length heading.refused.items → list ≡ heading.refused.items → line ≡ batch_line n heading.accepted count heading.counts.matched heading.counts.cascaded → heading_bytes n heading ≡ encode_utf8_all line ++ flat_map refused_bytes list
heading_is n count heading line list many same made =
    sym (ap (λ l. encode_utf8_all l ++ flat_map refused_bytes list) (made ∙ ap (λ k. batch_line n heading.accepted k heading.counts.matched heading.counts.cascaded) many) ∙ ap (λ l. encode_utf8_all (batch_line n heading.accepted (length heading.refused.items) heading.counts.matched heading.counts.cascaded) ++ flat_map refused_bytes l) same)

-- the batches of a job, as the printer has them
pub batches-seen : (list : List (Vec CodeEdit Global)) → batches_seen list ≡ map (map edit_seen) (map (λ (batch : Vec CodeEdit Global). batch.items) list)
batches-seen [] = refl
batches-seen (batch ∷ list) = ap (λ l. map edit_seen batch.items ∷ l) (batches-seen list)

-- the text of the same batches after the same beginning
pub same_text : {st now : Standing} {seen batches : List (List Edit)} → st ≡ now → seen ≡ batches → text_from 0 (reports_from st ([] ∷ seen)) ≡ text_from 0 (reports_from now ([] ∷ batches))
same_text st seen = ap₂ (λ s bs. text_from 0 (reports_from s ([] ∷ bs))) st seen

-- the batches behind one: the first of them is the next
pub next_batch : (a b : Option (List ℕ)) (n : ℕ) (done now : Standing) (edits : List CodeEdit) (next : Vec CodeEdit Global) (others rest : List (Vec CodeEdit Global)) (whole : List ℕ) → now ≡ done → rest ≡ next ∷ others → edits ≡ next.items → IsWritten a b (text_from n (reports_from done (batches_seen rest))) whole → IsWritten a b (text_from n (reports_from now (edits_seen edits ∷ batches_seen others))) whole
next_batch a b n done now edits next others rest whole same split items is =
    subst (λ (s : Standing). IsWritten a b (text_from n (reports_from s (edits_seen edits ∷ batches_seen others))) whole) (sym same)
    (subst (λ bs. IsWritten a b (text_from n (reports_from done bs)) whole) (ap batches_seen split ∙ ap (λ es. edits_seen es ∷ batches_seen others) (sym items)) is)

-- a front of what comes last is a front of the whole
pub front_last : (a b c : Option (List ℕ)) (first last whole : List ℕ) → whole ≡ first ++ last → Appends a b first → GrewByFront b c last → GrewByFront a c whole
front_last a b c first last whole e done grew = front_after a b c first last [] whole (e ∙ ap (λ l. first ++ l) (sym (append-nil last))) done grew

pub whole_last : {T E : Type 0} (r : Result T E) (a b c : Option (List ℕ)) (first last whole : List ℕ) → whole ≡ first ++ last → Appends a b first → OnOk r (Appends b c last) → OnOk r (Appends a c whole)
whole_last (Ok x) a b c first last whole e done more = subst (Appends a c) (sym e) (Appends-trans a b c first last done more)
whole_last (Err x) a b c first last whole e done more = tt

pub front_of_last : {T E : Type 0} (r : Result T E) (a b c : Option (List ℕ)) (first last whole : List ℕ) → whole ≡ first ++ last → Appends a b first → OnErr r (GrewByFront b c last) → OnErr r (GrewByFront a c whole)
front_of_last (Ok x) a b c first last whole e done more = tt
front_of_last (Err x) a b c first last whole e done more = front_last a b c first last whole e done more

encode-append : (xs ys : List ℕ) → encode_utf8_all (xs ++ ys) ≡ encode_utf8_all xs ++ encode_utf8_all ys
encode-append [] ys = refl
encode-append (c ∷ xs) ys = ap (λ l. encode_utf8 c ++ l) (encode-append xs ys) ∙ sym (append_assoc (encode_utf8 c) (encode_utf8_all xs) (encode_utf8_all ys))

-- lines one after another in UTF-8 are the UTF-8 of all of them
pub encoded_lines : (lines : List (List ℕ)) → flat_map encode_utf8_all lines ≡ encode_utf8_all (concat lines)
encoded_lines [] = refl
encoded_lines (line ∷ lines) = ap (λ l. encode_utf8_all line ++ l) (encoded_lines lines) ∙ sym (encode-append line (concat lines))
