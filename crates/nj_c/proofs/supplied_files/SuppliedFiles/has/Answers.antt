use Rattle.std.proofs.Common.{is_some, map, sym, ap, ◌∙◌}
use Rattle.std.proofs.lemmas.List.{length-map}
use Rattle.nj_scope.specs.Sources.{outcome_bytes}
use Rattle.nj_c.specs.SuppliedFiles.{supplied_for}
use Rattle.nj_c.proofs.SuppliedLemmas.{is-known, some-map}
use Rattle.nj_c.proofs.supplied_files.SuppliedFiles.has.Goals as goal

pub returns : goal.returns
returns c =
    let held = c.self.inside in let files = map outcome_bytes held.files.items in let path = c.args.path.now
    in
    let same = length-map held.files.items outcome_bytes ∙ c.self.invariant.0 in
    c.is_some.ensures ∙ sym (some-map (λ f. f.0) c.number.result) ∙ ap is_some c.number.ensures.index
    ∙ sym (is-known held.paths files path same)
    ∙ ap (λ h. is_some (supplied_for h path)) c.self.view_is
