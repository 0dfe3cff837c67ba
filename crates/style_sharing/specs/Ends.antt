-- What a share is, once what it lent has come back.
use Rattle.std.specs.Prelude.{◌≡◌, ⊤}
use Rattle.std.specs.Borrow.{Fml, MutBor, follows_so}
use mathlib.Core.Option.{none}
use Rattle.sharing_model.specs.Share.{Share}
use Rattle.style_sharing.specs.contracts.share.Share.{the_row}

abbrev pub EndsAs : MutBor Share → Share → Fml
EndsAs lent after = follows_so the_row the_row lent.ghost_name none (λ _ _. ⊤) (λ now. now ≡ after)
