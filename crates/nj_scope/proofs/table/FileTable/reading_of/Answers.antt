use Rattle.std.proofs.Common.{ap, map, option_map, ◌∙◌}
use Rattle.nj_scope.specs.Opening.{shared_bytes}
use Rattle.nj_scope.specs.Readings.{reading_of}
use Rattle.nj_scope.specs.Inside.TableHeld.{kept_reading}
use Rattle.nj_scope.proofs.TableLemmas.{reading_of-kept}
use Rattle.nj_scope.proofs.table.FileTable.reading_of.Goals as goal

pub returns-clause-found : goal.returns-clause-found
returns-clause-found c =
    ap (option_map shared_bytes) c.get.ensures.value
    ∙ reading_of-kept c.as_bytes.result.now c.self.inside.files.entries
    ∙ ap (λ path. option_map (λ r. r.bytes) (reading_of (map kept_reading c.self.inside.files.entries) path))
    c.as_bytes.ensures.value
    ∙ ap (λ table. option_map (λ r. r.bytes) (reading_of table c.args.path.now)) c.self.view_is
