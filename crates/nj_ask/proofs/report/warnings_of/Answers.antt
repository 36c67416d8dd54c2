use Rattle.std.proofs.Common.{◌≡◌, ap, map, subst, sym, ◌∙◌}
use Rattle.std.specs.List.{flat_map}
use Rattle.std.proofs.lemmas.Result.{IfOk-weaker}
use Rattle.nj_ask.specs.Inside.Lent.{change_model}
use Rattle.nj_ask.specs.Inside.Reached.{numbers_of, warning_by, IsReached}
use Rattle.nj_ask.specs.Manifest.{opened_files}
use Rattle.nj_ask.specs.Reports.{changed_numbers, HasWarnings}
use Rattle.nj_ask.proofs.ManifestLemmas.{can-tell}
use Rattle.nj_ask.proofs.MeantLemmas.{all-warned, changed-known}
use Rattle.nj_ask.proofs.report.warnings_of.Goals as goal

pub tables_of-requires-clause-tells : goal.tables_of-requires-clause-tells
tables_of-requires-clause-tells c entries graph file has =
    let g = c.args.known.now.graph in
    let q = change_model c.args.change in
    let edges = map (λ edge. edge.0) c.args.affected.now in
    can-tell g (opened_files g q.working) entries c.in_ok-manifest.manifest edges (changed_numbers g q)
    (subst (λ ns. IsReached g ns entries edges c.in_ok-manifest.manifest)
    (ap numbers_of c.deref.ensures.value ∙ c.requires.files.opened.numbers)
    (c.in_ok-manifest.ensures entries graph))
    c.requires.affected file (changed-known g entries q file has) has

pub returns : goal.returns
returns c entries graph =
    let g = c.args.known.now.graph in
    let q = change_model c.args.change in
    let opened = c.args.opened.now in
    let tables = c.in_ok-tables.tables in
    IfOk-weaker c.warnings_about.result (λ text. text.items ≡ flat_map (warning_by opened tables q) q.paths)
    (λ text. HasWarnings g entries q q.paths text.items)
    (λ text is. subst (HasWarnings g entries q q.paths) (sym is)
    (all-warned g entries q opened c.requires.opened tables (c.in_ok-tables.ensures entries graph)))
    c.warnings_about.ensures
