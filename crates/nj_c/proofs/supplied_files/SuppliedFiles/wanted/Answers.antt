use Rattle.std.proofs.Common.{◌≡◌, IfOk, map, subst, ap, ◌∙◌}
use Rattle.std.specs.List.{flat_map}
use Rattle.std.proofs.lemmas.List.{length-map}
use Rattle.nj_c.specs.Inside.SuppliedHeld.{wanted_of}
use Rattle.nj_scope.specs.Sources.{outcome_bytes}
use Rattle.nj_c.specs.SuppliedFiles.{wanted_paths, ReadsAsSupplied}
use Rattle.nj_c.proofs.WantedLemmas.{bytes_of, found-held, wanted-held}
use Rattle.nj_c.proofs.supplied_files.SuppliedFiles.wanted.Goals as goal

pub returns : goal.returns
returns c =
    let held = c.self.inside in let files = map outcome_bytes held.files.items in
    let same = length-map held.files.items outcome_bytes ∙ c.self.invariant.0 in
    record {
      paths = subst (λ ws. IfOk c.wanted_in.result (λ paths. map bytes_of paths.items ≡ ws))
          (ap (flat_map wanted_of) c.deref.ensures.value
          ∙ wanted-held held.paths files held.read.items same c.self.invariant.1
          ∙ ap wanted_paths c.self.view_is) c.wanted_in.ensures;
      found = subst ReadsAsSupplied c.self.view_is
          (found-held held.paths files held.read.items same c.self.invariant.1);
    }
