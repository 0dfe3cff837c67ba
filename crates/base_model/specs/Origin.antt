-- Where a style sheet comes from (css-cascade-5, section 6.2).
use Rattle.std.specs.Prelude.{ℕ}

pub data Origin : Type 0 where
  user_agent : Origin
  user : Origin
  author : Origin

abbrev pub origin_rank : Origin → ℕ
origin_rank user_agent = 0
origin_rank user = 1
origin_rank author = 2
