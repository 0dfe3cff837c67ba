-- For origin_rank: origins of one rank are one.
use Rattle.std.proofs.Common.{◌≡◌, refl}
use Rattle.base_model.specs.Origin.{Origin, user_agent, user, author, origin_rank}

pub rank-exact : (o p : Origin) → origin_rank o ≡ origin_rank p → o ≡ p
rank-exact user_agent user_agent e = refl
rank-exact user_agent user e = absurd (cc)
rank-exact user_agent author e = absurd (cc)
rank-exact user user_agent e = absurd (cc)
rank-exact user user e = refl
rank-exact user author e = absurd (cc)
rank-exact author user_agent e = absurd (cc)
rank-exact author user e = absurd (cc)
rank-exact author author e = refl
