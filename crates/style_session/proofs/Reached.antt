-- What edits and restyles lead to, done or not.
use Rattle.std.proofs.Common.{◌≡◌, OnOk, OnErr, Result, Ok, Err, sym, subst}
use Rattle.edit_model.specs.Edit.{Edit, IsShapedEdit}
use Rattle.session_model.specs.Standing.{Standing, edited, restyled}
use Rattle.session_model.specs.StandingInvariant.{IsReached, by_edit, by_restyle}

pub reached-edit : {T E : Type 0} (result : Result T E) (old new : Standing) (edit : Edit) → IsShapedEdit edit → OnOk result (new ≡ edited old edit) → OnErr result (new ≡ old) → IsReached old
    → IsReached new
reached-edit (Ok x) old new edit shaped is _ reached = subst IsReached (sym is) (by_edit old edit shaped reached)
reached-edit (Err e) old new edit shaped _ same reached = subst IsReached (sym same) reached

pub reached-restyle : {T E : Type 0} (result : Result T E) (old new : Standing) → OnOk result (new ≡ restyled old) → OnErr result (new ≡ old) → IsReached old → IsReached new
reached-restyle (Ok x) old new is _ reached = subst IsReached (sym is) (by_restyle old reached)
reached-restyle (Err e) old new _ same reached = subst IsReached (sym same) reached
