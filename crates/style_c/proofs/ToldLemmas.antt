-- What the calls tell, case by case.
use Rattle.std.proofs.Common.{◌≡◌, ◌≤◌, ◌<◌, ◌⊎◌, ℕ, nat_lt, Bool, true, false, List, length, Option, None, Some, inl, inr, refl, sym, subst, arith}
use Rattle.std.specs.Str.{IsUtf8, is_utf8}
use Rattle.std.proofs.lemmas.Bool.{le-leb, lt-leb}
use Rattle.std.proofs.lemmas.Bool.Decides.{nat_tests}
use Rattle.std.proofs.lemmas.Str.{IsUtf8-from_is_utf8, is_utf8-from_IsUtf8}
use Rattle.base_model.specs.Limits.{input_limit}
use Rattle.scene_model.specs.Lookups.{is_element}
use Rattle.scene_model.specs.Scene.{elements_of}
use Rattle.sheet_model.specs.Sources.{sources_of}
use Rattle.session_model.specs.Standing.{Standing, is_open, started}
use Rattle.report_text.specs.Elements.{elements_bytes, line_bytes}
use Rattle.style_session.specs.SessionView.{scene_from}
use Rattle.stylo_base.specs.declared.refusal.Kind.TheVariants.{Input}
use Rattle.job_json.specs.JobOf.{good, verdict_of}
use Rattle.job_json.specs.declared.Job.{Job}
use Rattle.job_json.specs.declared.JobFault.TheVariants.{Limit}
use Rattle.style_c.specs.declared.told.Why.{Why}
use Rattle.style_c.specs.Told.{Gives, IsTold, Told, bytes_told, fault_told, is_any_open, is_named, is_text, open_told, quiet, set_told, state_told, style_told, text_told, unset_told, within_limit}

-- the line of an element that has a style
pub line_told : (st : Standing) (x room : ℕ) (bytes : List ℕ) → is_element (elements_of st.scene) x ≡ true → is_open st x ≡ false
    → bytes ≡ line_bytes (elements_of st.scene) (sources_of st.scene.sheets) x
    → style_told x room (Some st) ≡ bytes_told bytes room (Some st)
line_told st x room bytes element settled is = rw (element, settled, is) refl

-- a text in UTF-8, and one that is not
utf8_is : (bytes : List ℕ) → IsUtf8 bytes → is_utf8 bytes ≡ true
utf8_is bytes utf8 = is_utf8-from_IsUtf8 bytes utf8

no_utf8 : (bytes : List ℕ) (b : Bool) → is_utf8 bytes ≡ b → (IsUtf8 bytes → ⊥) → b ≡ false
no_utf8 bytes true is none = absurd (none (IsUtf8-from_is_utf8 bytes is))
no_utf8 bytes false is none = refl

pub is_text_in : (bytes : List ℕ) → length bytes ≤ input_limit → IsUtf8 bytes → is_text bytes ≡ true
is_text_in bytes short utf8 = rw (le-leb (length bytes) input_limit short, utf8_is bytes utf8) refl

pub no_text_in : (bytes : List ℕ) → length bytes ≤ input_limit → (IsUtf8 bytes → ⊥) → is_text bytes ≡ false
no_text_in bytes short none = rw (le-leb (length bytes) input_limit short, no_utf8 bytes (is_utf8 bytes) refl none) refl

-- an input that is too long is not read
pub not_read : (bytes : List ℕ) (session : Option Standing) (told : Told) → input_limit < length bytes
    → within_limit bytes session told ≡ fault_told (Limit Input input_limit) session
not_read bytes session told long = rw (lt-leb (length bytes) input_limit long) refl

-- what is no name, or no text
pub no_name_set : (node : ℕ) (name value : List ℕ) (st : Standing) → is_named name ≡ false → set_told node name value (Some st) ≡ quiet 13 (Some st)
no_name_set node name value st none = rw (none) refl

pub no_value_set : (node : ℕ) (name value : List ℕ) (st : Standing) → is_named name ≡ true → is_text value ≡ false → set_told node name value (Some st) ≡ quiet 13 (Some st)
no_value_set node name value st named none = rw (named, none) refl

pub no_name_unset : (node : ℕ) (name : List ℕ) (st : Standing) → is_named name ≡ false → unset_told node name (Some st) ≡ quiet 13 (Some st)
no_name_unset node name st none = rw (none) refl

-- what is no state, or neither on nor off
pub no_state : (node which on : ℕ) (st : Standing) → (2 < which) ⊎ ((which ≤ 2) × (1 < on)) → state_told node which on (Some st) ≡ quiet 13 (Some st)
no_state node which on st (inl above) =
    let none : nat_lt which 3 ≡ false = grind (arith, nat_tests) in
    rw (none) refl
no_state node which on st (inr both) =
    let state : nat_lt which 3 ≡ true = grind (arith, nat_tests) in
    let none : nat_lt on 2 ≡ false = grind (arith, nat_tests) in
    rw (state, none) refl

-- a job that is one
pub opened_is : (bytes : List ℕ) (old : Option Standing) (job : Job) → length bytes ≤ input_limit → verdict_of bytes ≡ good job
    → open_told bytes old ≡ quiet 0 (Some (started (scene_from job.nodes job.sheets)))
opened_is bytes old job short is = rw (le-leb (length bytes) input_limit short, is) refl

-- the lines of all elements
pub all_told : (st : Standing) (room : ℕ) (bytes : List ℕ) → is_any_open st ≡ false → bytes ≡ elements_bytes st.scene
    → text_told room (Some st) ≡ bytes_told bytes room (Some st)
all_told st room bytes settled is = rw (settled, is) refl

-- what is told is what another record says
pub gives : (told by : Told) (old new : Option Standing) (status : ℕ) (why : Why) (buffer : List ℕ) (needed : ℕ) → told ≡ by
    → IsTold by status why buffer needed new → Gives told old status why buffer needed new
gives told by old new status why buffer needed same held = inl (subst (λ t. IsTold t status why buffer needed new) (sym same) held)

-- a handle without a session
pub gives_none : (told : Option Standing → Told) (old new : Option Standing) (status : ℕ) (why : Why) (buffer : List ℕ) (needed : ℕ)
    → told None ≡ quiet 9 None → None ≡ old → new ≡ None → IsTold (quiet 9 None) status why buffer needed None
    → Gives (told old) old status why buffer needed new
gives_none told old new status why buffer needed same none empty held =
    subst (λ o. Gives (told o) o status why buffer needed new) none
    (subst (λ n. Gives (told None) None status why buffer needed n) (sym empty) (gives (told None) (quiet 9 None) None None status why buffer needed same held))
