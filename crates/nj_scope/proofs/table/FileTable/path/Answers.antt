use Rattle.std.proofs.Common.{Some, option_map, slice_get, sym, ap, ◌∙◌}
use Rattle.nj_scope.specs.Readings.{paths_of}
use Rattle.nj_scope.proofs.TableLemmas.{path-kept}
use Rattle.nj_scope.proofs.table.FileTable.path.Goals as goal

pub returns-in-Some : goal.returns-in-Some
returns-in-Some c =
    ap Some c.as_slice.ensures.value ∙ ap (option_map (λ e. e.0.items)) c.in-Some.ensures.entry
    ∙ sym (path-kept c.self.inside.files.entries c.args.index)
    ∙ ap (λ table. slice_get (paths_of table) c.args.index) c.self.view_is

pub returns-in-None : goal.returns-in-None
returns-in-None c =
    ap (option_map (λ e. e.0.items)) c.in-None.ensures.entry
    ∙ sym (path-kept c.self.inside.files.entries c.args.index)
    ∙ ap (λ table. slice_get (paths_of table) c.args.index) c.self.view_is
