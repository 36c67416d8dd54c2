use Rattle.std.proofs.Common.{map, sym, ap, ◌∙◌}
use Rattle.nj_scope.specs.Readings.{is_read}
use Rattle.nj_scope.specs.Inside.TableHeld.{kept_reading}
use Rattle.nj_scope.proofs.TableLemmas.{is_read-kept}
use Rattle.nj_scope.proofs.table.FileTable.has.Goals as goal

pub returns-clause-read : goal.returns-clause-read
returns-clause-read c =
    c.contains_key.ensures ∙ sym (is_read-kept c.as_bytes.result.now c.self.inside.files.entries)
    ∙ ap (is_read (map kept_reading c.self.inside.files.entries)) c.as_bytes.ensures.value
    ∙ ap (λ table. is_read table c.args.path.now) c.self.view_is
