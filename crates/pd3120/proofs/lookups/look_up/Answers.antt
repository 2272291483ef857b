use mathlib.Core.Path.{sym, ◌∙◌}
use Rattle.std.proofs.lemmas.Result.{err_from_is_err_and}
use Rattle.pd3120.proofs.Laws.Lookups.{found, refused}
use Rattle.pd3120.proofs.lookups.look_up.Goals as goal

pub returns-in_err-look_up_reply : goal.returns-in_err-look_up_reply
returns-in_err-look_up_reply c =
    let a = c.args in
    let p = err_from_is_err_and c.from_residual.result c.from_residual.ensures.1 in
    rw (p.1, p.2) (refused a.table a.x a.d _ (sym c.look_up_reply.ensures ∙ c.in_err-look_up_reply.was))

pub returns : goal.returns
returns c =
    let a = c.args in
    found a.table a.x a.d _ _ (sym c.look_up_reply.ensures ∙ c.in_ok-look_up_reply.was) c.level_bits.ensures
