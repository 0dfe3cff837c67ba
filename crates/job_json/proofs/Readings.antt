-- What is said of bytes that have a reading, and of those that have none.
use Rattle.std.proofs.Common.{◌≡◌, ℕ, List, [], ◌∷◌, Bool, true, false, cond, Option, Some, None, Result, Ok, Err, refl, sym, ap}
use Rattle.std.specs.Prelude.{is_some, IfOk}
use Rattle.std.specs.Str.{IsUtf8, is_utf8}
use Rattle.std.proofs.lemmas.Str.{IsUtf8-from_is_utf8, is_utf8-from_IsUtf8}
use Rattle.json.specs.Token as spec
use Rattle.json.specs.Reads.{token_of, Yields}
use Rattle.json.specs.declared.token.Token.{Token}
use Rattle.serde_json.specs.Data.{Data}
use Rattle.serde_json.specs.Read.{read}
use Rattle.job_json.specs.JobOf.{Verdict, reading, verdict_of, verdict_from, verdict_on, not_json, bad_shape, over, good, answer_to}
use Rattle.scene_model.specs.Element.{Characters}
use Rattle.stylo_base.specs.declared.refusal.Kind.{Kind}
use Rattle.job_json.specs.declared.Job.{Job}
use Rattle.job_json.specs.declared.JobFault.{JobFault}
use Rattle.job_json.specs.declared.JobFault.TheVariants.{NotJson, Shape, Limit}

reading_of : (bytes : List ℕ) (value : Option Data) → IsUtf8 bytes → read bytes ≡ value → reading bytes ≡ value
reading_of bytes value utf8 is = rw (is_utf8-from_IsUtf8 bytes utf8) is

unread : (b : Bool) (o : Option Data) → (b ≡ true → ⊥) → cond b o None ≡ None
unread true o h = absurd (h refl)
unread false o h = refl

module _ (bytes : List ℕ) where
  pub no_reading : (IsUtf8 bytes → ⊥) → reading bytes ≡ None
  no_reading h = unread (is_utf8 bytes) (read bytes) (λ utf8. h (IsUtf8-from_is_utf8 bytes utf8))

  pub no_value : IsUtf8 bytes → read bytes ≡ None → reading bytes ≡ None
  no_value utf8 is = reading_of bytes None utf8 is

  pub no_text : (IsUtf8 bytes → ⊥) → verdict_of bytes ≡ not_json
  unfolding verdict_of
  no_text h = ap verdict_from (no_reading h)

  pub no_json : IsUtf8 bytes → read bytes ≡ None → verdict_of bytes ≡ not_json
  unfolding verdict_of
  no_json utf8 is = ap verdict_from (no_value utf8 is)

  module _ (d : Data) (utf8 : IsUtf8 bytes) (is : read bytes ≡ Some d) where
    pub reading_is : reading bytes ≡ Some d
    reading_is = reading_of bytes (Some d) utf8 is

    pub verdict_is : verdict_of bytes ≡ verdict_on d
    unfolding verdict_of
    verdict_is = ap verdict_from reading_is

-- ---- what comes after a value

pub next_some : (o : Option Token) (old new : List spec.Token) → is_some o ≡ true → Yields old o new → (t : spec.Token) × (old ≡ t ∷ new)
next_some None old new e y = absurd (cc)
next_some (Some t) old new e y = (token_of t, y)

pub next_none : (o : Option Token) (old new : List spec.Token) → is_some o ≡ false → Yields old o new → old ≡ []
next_none None old new e y = y.0
next_none (Some t) old new e y = absurd (cc)

-- ---- what an answer says of the verdict

pub answer_json : (v : Verdict) → Err NotJson ≡ answer_to v → v ≡ not_json
answer_json not_json e = refl
answer_json (bad_shape path) e = absurd (cc)
answer_json (over kind number) e = absurd (cc)
answer_json (good job) e = absurd (cc)

pub answer_shape : (v : Verdict) (path : Characters) → Err (Shape path) ≡ answer_to v → v ≡ bad_shape path
answer_shape not_json path e = absurd (cc)
answer_shape (bad_shape p) path e = cc
answer_shape (over kind number) path e = absurd (cc)
answer_shape (good job) path e = absurd (cc)

pub answer_limit : (v : Verdict) (kind : Kind) (number : ℕ) → Err (Limit kind number) ≡ answer_to v → v ≡ over kind number
answer_limit not_json kind number e = absurd (cc)
answer_limit (bad_shape path) kind number e = absurd (cc)
answer_limit (over k n) kind number e = cc
answer_limit (good job) kind number e = absurd (cc)

pub answer_good : (v : Verdict) (job : Job) → Ok job ≡ answer_to v → v ≡ good job
answer_good not_json job e = absurd (cc)
answer_good (bad_shape path) job e = absurd (cc)
answer_good (over kind number) job e = absurd (cc)
answer_good (good j) job e = cc

pub good_if : (v : Verdict) (answer : Result Job JobFault) → answer_to v ≡ answer → IfOk answer (λ job. v ≡ good job)
good_if v (Ok job) e = answer_good v job (sym e)
good_if v (Err fault) e = tt
