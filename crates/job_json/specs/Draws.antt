-- What is drawn from the generator that a number starts, one value after another.
use Rattle.std.specs.Prelude.{ℕ, zero, suc, ◌+◌, ◌%◌, List, [], ◌∷◌}
use Rattle.rand_xoshiro.specs.SplitMix64.{mix_u64}

-- a value that is drawn where the generator has a state, and the state after it
abbrev pub Drawing : Type 0 → Type 0
Drawing A = ℕ → A × ℕ

-- a number below n: the next word, modulo n
unfoldable pub draw : ℕ → Drawing ℕ
draw n state = ((mix_u64 state).0 % n, (mix_u64 state).1)

-- nothing more is drawn
abbrev pub given : {A : Type 0} → A → Drawing A
given a state = (a, state)

-- one after another
infixl 10 ◌>>=◌
abbrev pub ◌>>=◌ : {A B : Type 0} → Drawing A → (A → Drawing B) → Drawing B
◌>>=◌ drawing next state = next (drawing state).0 (drawing state).1

-- so many values, of which the first has the index k
abbrev pub drawn_list : {A : Type 0} → (ℕ → Drawing A) → ℕ → ℕ → Drawing (List A)
drawn_list one zero k = given []
drawn_list one (suc more) k = do
  first ← one k
  rest ← drawn_list one more (k + 1)
  given (first ∷ rest)
