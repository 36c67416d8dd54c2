use Rattle.std.proofs.Common.{refl}
use Rattle.std.proofs.lemmas.List.{map-set}
use Rattle.nj_scope.specs.Sources.{outcome_bytes}
use Rattle.nj_c.proofs.supplied_files.SuppliedFiles.replace.Goals as goal

pub returns : goal.returns
returns c = rw (
  ← c.self.view_is,
  c.clear.ensures.items,
  map-set outcome_bytes c.self.inside.files.items c.args.number c.args.file,
) refl
