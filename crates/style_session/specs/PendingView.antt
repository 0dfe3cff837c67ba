-- What edits have left to do for the next restyle, as contracts see it.
use Rattle.std.specs.Prelude.{◌≡◌, ℕ, ◌≤◌, ◌==◌, List, [], length, Bool, true, false, not, ◌&&◌, ◌||◌, refl}
use Rattle.std.specs.Coded.{Coded, code_by, coded×, coded_ℕ, coded_bool, coded_list}
use Rattle.scene_model.specs.Element.{Element}
use Rattle.scene_model.specs.Numbers.{is_in}
use Rattle.edit_model.specs.Touched.{Touch}
use Rattle.invalidation_map.specs.Marks.{AreMarked}
use Rattle.invalidation_map.specs.Members.{Members}
use Rattle.invalidation_map.specs.Rows.{Row}

-- The numbers that are marked, whether all elements are fresh, else which, the numbers of those that were taken out,
-- and the room: each number below it can be added.
pub record PendingMembers : Type 0 where
  pub marked : List ℕ
  pub all_fresh : Bool
  pub fresh : List ℕ
  pub gone : List ℕ
  pub room : ℕ

abbrev pub pending_code : Coded PendingMembers
pending_code =
    code_by (List ℕ × (Bool × (List ℕ × (List ℕ × ℕ))))
    (coded× (coded_list coded_ℕ)
    (coded× coded_bool (coded× (coded_list coded_ℕ) (coded× (coded_list coded_ℕ) coded_ℕ))))
    (λ p. (p.marked, (p.all_fresh, (p.fresh, (p.gone, p.room)))))
    (λ q. record { marked = q.0; all_fresh = q.1.0; fresh = q.1.1.0; gone = q.1.1.1.0; room = q.1.1.1.1 })
    (λ _. refl)

-- before the first restyle
abbrev pub all_pending : PendingMembers
all_pending = record { marked = []; all_fresh = true; fresh = []; gone = []; room = 0 }

-- behind a restyle
abbrev pub none_pending : ℕ → PendingMembers
none_pending room = record { marked = []; all_fresh = false; fresh = []; gone = []; room = room }

-- which numbers are fresh
abbrev pub is_fresh_in : PendingMembers → ℕ → Bool
is_fresh_in pending x = pending.all_fresh || is_in x pending.fresh

-- marked or fresh
abbrev pub is_pending_in : PendingMembers → ℕ → Bool
is_pending_in pending x = is_in x pending.marked || is_fresh_in pending x

-- nothing is marked or fresh
abbrev pub are_settled : PendingMembers → Bool
are_settled pending = not pending.all_fresh && ((length pending.fresh == 0) && (length pending.marked == 0))

-- all but one part

abbrev pub without_marked : PendingMembers → PendingMembers
without_marked pending = record pending { marked = [] }

abbrev pub without_fresh : PendingMembers → PendingMembers
without_fresh pending = record pending { fresh = [] }

abbrev pub without_gone : PendingMembers → PendingMembers
without_gone pending = record pending { gone = [] }

abbrev pub without_room : PendingMembers → PendingMembers
without_room pending = record pending { room = 0 }

-- Of what is pending one part grew, and all else is as it was.

pub record MarksAlso (test : ℕ → Bool) (old new : PendingMembers) : Type 0 where
  pub each : (x : ℕ) → is_in x new.marked ≡ (is_in x old.marked || test x)
  pub others : without_marked new ≡ without_marked old

-- the same, but for the room
pub record MarksToo (test : ℕ → Bool) (old new : PendingMembers) : Type 0 where
  pub each : (x : ℕ) → is_in x new.marked ≡ (is_in x old.marked || test x)
  pub others : without_room (without_marked new) ≡ without_room (without_marked old)

-- of the numbers up to the last one, those that pass the test are fresh too
pub record Freshens (last : ℕ) (test : ℕ → Bool) (old new : PendingMembers) : Type 0 where
  pub each : (x : ℕ) → x ≤ last → is_fresh_in new x ≡ (is_fresh_in old x || test x)
  pub others : without_fresh new ≡ without_fresh old

abbrev pub marks_in : PendingMembers → Members
marks_in pending = record { items = pending.marked; room = pending.room }

-- what the rows mark by what is touched is marked too
pub record MarksTouched (doc : List Element) (pairs : List (Touch × ℕ)) (rows : List Row) (old new : PendingMembers)
    : Type 0 where
  pub marked : AreMarked doc pairs rows (marks_in old) (marks_in new)
  pub others : without_marked new ≡ without_marked old
