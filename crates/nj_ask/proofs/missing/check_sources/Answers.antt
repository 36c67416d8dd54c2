use Rattle.std.proofs.Common.{◌≡◌, map, ap, subst, ◌∙◌}
use Rattle.nj_graph.specs.Files.{path_at}
use Rattle.nj_graph.specs.Graph.{files_of}
use Rattle.nj_ask.specs.declared.status.Status.TheVariants.{Fault}
use Rattle.nj_ask.specs.MissingSources.{IsStop, missing_line}
use Rattle.nj_ask.specs.Inside.StaleParts.{StopsAt}
use Rattle.nj_ask.proofs.FailureLemmas.{fails-as}
use Rattle.nj_ask.proofs.missing.check_sources.Goals as goal

pub returns-in-Some-clause-refused : goal.returns-in-Some-clause-refused
returns-in-Some-clause-refused c = λ entries log times is.
    let known = c.args.known.now in
    let targets = map (path_at (files_of known.graph)) c.args.targets.now in
    let source = c.in-Some.source in
    fails-as Fault (λ line. line ≡ missing_line c.deref.result.now source)
    (StopsAt known entries log times targets) c.of_source.result
    (λ line said. record {
      source = source;
      stop = subst (IsStop known entries log times targets) c.in-Some.is
          (c.in_ok-found.ensures entries log times is);
      line_is = said ∙ ap (λ v. missing_line v source) c.deref.ensures;
    })
    c.of_source.ensures
