use Rattle.std.proofs.Common.{inl, refl, ap, ◌∙◌}
use Rattle.std.proofs.lemmas.Result.{err_from_is_err_and}
use Rattle.nj_c.specs.SuppliedFiles.{supplied_for}
use Rattle.nj_c.proofs.DiscoveredLemmas.{finds-or}
use Rattle.nj_c.proofs.discovered_inputs.join_found.Goals as goal

pub returns-in_err-found-clause-files : goal.returns-in_err-found-clause-files
returns-in_err-found-clause-files c path =
    c.discover.ensures.files path ∙ ap (λ h. supplied_for h path) c.begin.ensures

pub returns-in_err-found-clause-finds : goal.returns-in_err-found-clause-finds
returns-in_err-found-clause-finds c = let p =
    err_from_is_err_and c.from_residual.result c.from_residual.ensures.1 in rw (p.1, p.2) (inl refl)

pub returns-clause-files : goal.returns-clause-files
returns-clause-files c path = c.discover.ensures.files path ∙ ap (λ h. supplied_for h path) c.begin.ensures

pub returns-clause-finds : goal.returns-clause-finds
returns-clause-finds c =
    finds-or c.args.graph c.args.files.now c.begin.new.self c.discover.new.files c.args.log.now
    c.args.times.now c.in_ok-found.found c.join_known.result
    c.begin.ensures c.in_ok-found.ensures.discovered c.join_known.ensures
