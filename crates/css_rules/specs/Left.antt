-- The rules that are left of a sheet, from a place in its text on.
use Rattle.std.specs.Prelude.{◌≡◌, ℕ, ◌+◌, ◌≤◌, ◌<◌, List, [], ◌++◌, length}
use Rattle.syntax_model.specs.Token.{Token}
use Rattle.syntax_model.specs.Brackets.{closers}
use Rattle.syntax_model.specs.Rules.{Rule}
use Rattle.css_rules.specs.Walk.{Walk, finished, steps}

-- the rules of a walk after these
abbrev pub with_rules : List Rule → Walk → Walk
with_rules rules walk = record walk { rules = rules ++ walk.rules }

-- The rules, where the text ends here: what is open in a rule is closed. The `}` of a layer that is open gives nothing.
abbrev pub rules_at_end : Walk → List Rule
rules_at_end walk = finished (steps walk (closers walk.pending))

-- the rules, where these tokens are left
abbrev pub rules_left : Walk → List Token → List Rule
rules_left walk left = rules_at_end (steps walk left)

-- how many tokens are to be read, with the closers that the end of the text adds
abbrev pub to_read : Walk → List Token → ℕ
to_read walk left = length left + length (steps walk left).pending

-- one token or more were read, and the rules stay the same
pub record IsReadOn (walk : Walk) (left : List Token) (after : Walk) (rest : List Token) : Type 0 where
  pub rules : rules_left walk left ≡ rules_left after rest
  pub fewer : to_read after rest < to_read walk left

-- tokens were read, or none, and the rules stay the same
pub record IsReadTo (walk : Walk) (left : List Token) (after : Walk) (rest : List Token) : Type 0 where
  pub rules : rules_left walk left ≡ rules_left after rest
  pub no_more : to_read after rest ≤ to_read walk left

-- nothing is left to be read
pub record IsAtEnd (walk : Walk) (left : List Token) (after : Walk) (rest : List Token) : Type 0 where
  pub read : IsReadTo walk left after rest
  pub none_after : rest ≡ []
  pub none_open : after.pending ≡ []
