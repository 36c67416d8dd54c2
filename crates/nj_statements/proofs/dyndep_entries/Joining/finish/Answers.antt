use Rattle.std.proofs.Common.{sym, ap, subst, ◌∙◌}
use Rattle.nj_statements.specs.Built.{IsBuiltOf}
use Rattle.nj_statements.specs.Records.{AreOfGraph, with_graph}
use Rattle.nj_statements.specs.JoiningHeld.{still_pending, JoiningModel, HasJoined}
use Rattle.nj_statements.specs.Inside.JoiningFields.{fields_of}
use Rattle.nj_statements.specs.Inside.JoiningSteps.{edges_in}
use Rattle.nj_statements.proofs.StartLemmas.{left-built, left-fits}
use Rattle.nj_statements.proofs.dyndep_entries.Joining.finish.Goals as goal

pub finish-requires-in-Ok-finish : goal.finish-requires-in-Ok-finish
finish-requires-in-Ok-finish c =
    let edges = c.self.inside.edges in
    let left = c.in-Ok.dyndeps.items in
    let are = c.in-Ok.ensures
    ∙ ap (λ bound. edges_in (still_pending bound edges.was_joined)) c.deref.ensures.value in (
      edges.files,
      edges.joined,
      c.in-Ok-finish.ensures,
      subst (λ r. AreOfGraph (record { files = edges.files; edges = edges.joined })
          (record r { dyndeps = left })) (sym c.records.view_is)
          (left-fits (fields_of c.self.inside) c.self.invariant left are),
    )

pub returns-in-Ok-finish : goal.returns-in-Ok-finish
returns-in-Ok-finish c = λ stated joined has'.
    let has = subst (λ (h : JoiningModel). HasJoined h stated joined) (sym c.self.view_is) has' in
    let edges = c.self.inside.edges in
    let left = c.in-Ok.dyndeps.items in
    let are = c.in-Ok.ensures
    ∙ ap (λ bound. edges_in (still_pending bound edges.was_joined)) c.deref.ensures.value in
    c.finish-in-Ok-finish.ensures.comes edges.files edges.joined joined c.in-Ok-finish.ensures
    (subst (λ r. IsBuiltOf (with_graph (record { files = edges.files; edges = edges.joined })
    (record r { dyndeps = left })) joined) (sym c.records.view_is)
    (left-built (fields_of c.self.inside) c.self.invariant left are stated joined has))
