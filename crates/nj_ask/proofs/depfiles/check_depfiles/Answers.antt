use Rattle.std.proofs.Common.{◌≡◌, ◌++◌, [], append-nil, inl, inr, map, sym, ap, subst, ◌∙◌}
use Rattle.std.specs.Prelude.{option_copied}
use Rattle.nj_graph.specs.Files.{path_at}
use Rattle.nj_graph.specs.Graph.{files_of}
use Rattle.nj_ask.specs.Answers.{HasDepfileFault}
use Rattle.nj_ask.specs.Endings.{program_line}
use Rattle.nj_ask.specs.NeededFaults.{IsFirstFault}
use Rattle.nj_ask.specs.declared.status.Status.TheVariants.{Fault}
use Rattle.nj_ask.proofs.FaultLemmas.{no-items}
use Rattle.nj_ask.proofs.PartLemmas.{fails-weaker}
use Rattle.nj_ask.proofs.depfiles.check_depfiles.Goals as goal

pub returns-then-is_empty-clause-clear : goal.returns-then-is_empty-clause-clear
returns-then-is_empty-clause-clear c = inl
    (no-items c.args.known.now.faults (sym c.is_empty.ensures ∙ c.if-is_empty.true))

pub returns-in-Some-clause-refused : goal.returns-in-Some-clause-refused
returns-in-Some-clause-refused c =
    let known = c.args.known.now in
    let paths = map (path_at (files_of known.graph)) c.args.files.now in
    let text = c.deref.result.now in
    fails-weaker Fault (λ line. line ≡ program_line (text ++ [])) (HasDepfileFault known paths)
    (λ line is. record {
      fault = c.in-Some.fault.now;
      first = subst (λ found. IsFirstFault known paths (option_copied found)) c.in-Some.is
          c.in_ok-fault.ensures;
      line_is = is ∙ ap program_line (append-nil text ∙ c.deref.ensures.value);
    }) c.in_words.result c.in_words.ensures

pub returns-in-None-clause-clear : goal.returns-in-None-clause-clear
returns-in-None-clause-clear c =
    let known = c.args.known.now in
    let paths = map (path_at (files_of known.graph)) c.args.files.now in
    inr (subst (λ found. IsFirstFault known paths (option_copied found)) c.in-None.is c.in_ok-fault.ensures)
