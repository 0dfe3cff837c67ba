-- The sets that edits fill, as contracts see them.
use Rattle.std.specs.Prelude.{ℕ, ◌+◌, ◌≤◌, ◌&&◌, max, nat_le, nat_lt, Bool, List, [], refl}
use Rattle.std.specs.Coded.{Coded, code_by, coded×, coded_ℕ, coded_list}
use Rattle.invalidation_map.specs.Members.{Members}

-- the numbers of each set in the order of adding, and the room: each number below it can be added to each
pub record EditMembers : Type 0 where
  pub marked : List ℕ
  pub fresh : List ℕ
  pub gone : List ℕ
  pub room : ℕ

abbrev pub edit_members_code : Coded EditMembers
edit_members_code =
    code_by (List ℕ × (List ℕ × (List ℕ × ℕ)))
    (coded× (coded_list coded_ℕ) (coded× (coded_list coded_ℕ) (coded× (coded_list coded_ℕ) coded_ℕ)))
    (λ s. (s.marked, (s.fresh, (s.gone, s.room))))
    (λ p. record { marked = p.0; fresh = p.1.0; gone = p.1.1.0; room = p.1.1.1 })
    (λ _. refl)

-- one of the sets

abbrev pub marked_in : EditMembers → Members
marked_in sets = record { items = sets.marked; room = sets.room }

abbrev pub fresh_in : EditMembers → Members
fresh_in sets = record { items = sets.fresh; room = sets.room }

abbrev pub gone_in : EditMembers → Members
gone_in sets = record { items = sets.gone; room = sets.room }

-- all but one of them

abbrev pub but_marked : EditMembers → EditMembers
but_marked sets = record sets { marked = [] }

abbrev pub but_fresh : EditMembers → EditMembers
but_fresh sets = record sets { fresh = [] }

abbrev pub but_gone : EditMembers → EditMembers
but_gone sets = record sets { gone = [] }

-- with room for the numbers up to `last`, where there is not yet
abbrev pub with_room : ℕ → EditMembers → EditMembers
with_room last sets = record sets { room = max sets.room (last + 1) }

-- each set has that room at least
pub record AllHaveRoom (room : ℕ) (marks fresh_ones gone_ones starts ends : Members) : Type 0 where
  pub marked : room ≤ marks.room
  pub fresh : room ≤ fresh_ones.room
  pub gone : room ≤ gone_ones.room
  pub from : room ≤ starts.room
  pub next : room ≤ ends.room

-- two sets have it
abbrev pub BothHaveRoom : ℕ → Members → Members → Type 0
BothHaveRoom room from next = (room ≤ from.room) × (room ≤ next.room)

-- a number that was given after one, up to another
abbrev pub is_given : ℕ → ℕ → ℕ → Bool
is_given before last x = nat_lt before x && nat_le x last
