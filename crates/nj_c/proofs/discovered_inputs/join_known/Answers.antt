use Rattle.std.proofs.Common.{inl, refl}
use Rattle.std.proofs.lemmas.Result.{err_from_is_err_and}
use Rattle.nj_c.proofs.discovered_inputs.join_known.Goals as goal

pub returns-in_err-unknown : goal.returns-in_err-unknown
returns-in_err-unknown c =
    let p = err_from_is_err_and c.from_residual.result c.from_residual.ensures.1 in
    rw (p.1, p.2) (λ stated of. inl refl)
