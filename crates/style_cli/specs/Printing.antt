-- What the printer of batches goes by.
use Rattle.std.specs.Prelude.{◌≡◌, ◌≢◌, ℕ, List, [], ◌++◌, length, map, Option, Some, IfSome, Vec, encode_utf8_all}
use Rattle.std.specs.List.{AllByRecursion, flat_map}
use Rattle.std.specs.declared.alloc.Global.{Global}
use Rattle.scene_model.specs.Lookups.{tag_of}
use Rattle.scene_model.specs.Scene.{elements_of}
use Rattle.value_model.specs.Style.{Style}
use Rattle.edit_model.specs.Edit as model_edit
use Rattle.session_model.specs.Standing.{Standing, kept_at, styles_of}
use Rattle.session_model.specs.Batches as model
use Rattle.session_model.specs.Batches.{accepted_among, edited_all, refused_from}
use Rattle.stylo_base.specs.declared.refusal.EditRefused.TheVariants.{NoMemory}
use Rattle.dom_edits.specs.declared.edits.Edit.{Edit}
use Rattle.dom_edits.specs.EditView.{edit_seen, refusal_answered}
use Rattle.style_session.specs.Answers.{counts_of}
use Rattle.report_text.specs.Lines.{batch_line, element_line, refused_line}
use Rattle.style_lines.specs.KeptLines.{kept_length, kept_line}
use Rattle.style_cli.specs.declared.batch.Heading.{Heading}
use Rattle.style_cli.specs.declared.batch.RefusedEdit.{RefusedEdit}

-- the edits of a batch, and of batches
abbrev pub edits_seen : List Edit → List model_edit.Edit
edits_seen edits = map edit_seen edits

abbrev pub batches_seen : List (Vec Edit Global) → List (List model_edit.Edit)
batches_seen batches = map (λ (batch : Vec Edit Global). edits_seen batch.items) batches

-- a refused edit, as it is answered
abbrev pub answered : model.RefusedEdit → RefusedEdit
answered one = record { place = one.place; why = refusal_answered one.why }

-- none was refused for want of memory
abbrev pub AreRefused : List RefusedEdit → Type 0
AreRefused list = AllByRecursion (λ (one : RefusedEdit). one.why ≢ NoMemory) list

-- what is told of a batch before its elements, whose edits were made at this standing
pub record IsHeadingOf (st : Standing) (edits : List model_edit.Edit) (heading : Heading) : Type 0 where
  pub accepted : heading.accepted ≡ accepted_among st edits
  pub refused : heading.refused.items ≡ map answered (refused_from 1 st edits)
  pub counts : heading.counts ≡ counts_of (edited_all st edits)

-- the line of a refused edit in UTF-8
abbrev pub refused_bytes : RefusedEdit → List ℕ
refused_bytes one = encode_utf8_all (refused_line one.place one.why)

-- the line of a batch and those of its refused edits
abbrev pub heading_bytes : ℕ → Heading → List ℕ
heading_bytes number heading =
    let counts = heading.counts in
    let line = batch_line number heading.accepted (length heading.refused.items) counts.matched counts.cascaded in
    encode_utf8_all line ++ flat_map refused_bytes heading.refused.items

-- nothing is marked or fresh, and the style of each element is kept
pub record IsSettled (st : Standing) : Type 0 where
  pub marked : st.marked ≡ []
  pub fresh : st.fresh ≡ []
  pub kept : st.kept ≡ styles_of st.scene

-- What is kept of the lines of elements, told of each line in some way, is that of the style that is kept.
abbrev pub ServesAs : {A : Type 0} → (List ℕ → A) → Standing → (ℕ → Option A) → Type 0
ServesAs told st kept =
    (x : ℕ) (style : Style) → kept_at st x ≡ Some style
    → IfSome (kept x) (λ one. one ≡ told (encode_utf8_all (element_line x (tag_of (elements_of st.scene) x) style)))

-- lines that are kept, and lengths
abbrev pub Serves : Standing → List (Option (List ℕ)) → Type 0
Serves st lines = ServesAs (λ line. line) st (kept_line lines)

abbrev pub ServesLengths : Standing → List ℕ → Type 0
ServesLengths st lengths = ServesAs length st (kept_length lengths)
