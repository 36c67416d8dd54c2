use Rattle.std.proofs.Common.{◌≡◌, false, Ok, Err, refl, sym, ap, subst, ◌∙◌}
use Rattle.nj_scope.specs.Readings.{EachPathOnce}
use Rattle.nj_statements.specs.JoiningHeld.{has_pending}
use Rattle.nj_graph.specs.Graph.{GraphModel, IsGraphOf}
use Rattle.nj_graph.specs.Loads.{LoadedModel}
use Rattle.nj_graph.specs.Inside.JoiningContracts.{JoinsChosen}
use Rattle.nj_graph.specs.Inside.JoiningContracts.JoinsChosen.{joined, unpending}
use Rattle.nj_manifest.proofs.Handed.{handed}
use Rattle.nj_graph.proofs.JoiningGraphs.{joins-nothing, nothing-pending, joined-graph, joins-graph}
use Rattle.nj_graph.proofs.JoiningGraphs.{joined-held}
use Rattle.nj_graph.proofs.dyndep_files.join_chosen.Goals as goal

pub returns-then-not-has_pending-clause-joins : goal.returns-then-not-has_pending-clause-joins
returns-then-not-has_pending-clause-joins g c = λ stated is.
    let reported = g.S.FileSource.state c.args.source.now in
    let graph : GraphModel = c.loaded.inside.graph in
    let at : c.args.loaded.graph ≡ graph = ap (λ l. l.graph) (sym c.loaded.view_is) in
    let files : c.loaded.inside.files ≡ c.args.loaded.files = ap (λ l. l.files) c.loaded.view_is in
    let here = subst (λ x. IsGraphOf x stated) at is in
    let loaded : LoadedModel = record { files = c.loaded.inside.files; graph = graph } in
    let unpended = subst (λ (x : GraphModel). has_pending x.built.pending ≡ false) c.graph.view_is
    (sym c.has_pending.ensures ∙ c.if-not-has_pending.true) in
    subst (λ fs. JoinsChosen (g.C.DyndepChoice.chooses c.args.choice.now) stated fs reported reported
    (Ok loaded)) files
    (unpending (nothing-pending stated reported c.loaded.inside.files c.loaded.invariant.0 graph here
    unpended)
    (joins-nothing stated reported c.loaded.inside.files c.loaded.invariant.0 loaded graph refl here))

pub join_built-requires-clause-built : goal.join_built-requires-clause-built
join_built-requires-clause-built g c =
    let entries = c.loaded.invariant.1.0 in
    let is = subst (λ x. IsGraphOf x entries) (sym c.graph.view_is) c.loaded.invariant.1.1 in
    (entries, is.built)

pub returns-in_err-built-clause-joins : goal.returns-in_err-built-clause-joins
returns-in_err-built-clause-joins g c = λ stated is.
    let before = g.S.FileSource.state c.args.source.now in
    let after = g.S.FileSource.state c.join_built.new.source in
    let graph : GraphModel = record {
      declarations = c.graph.inside.declared.declarations;
      built =
          c.graph.inside.built;
      origins = c.graph.inside.declared.origins;
    } in
    let at : c.args.loaded.graph ≡ graph = ap (λ l. l.graph) (sym c.loaded.view_is) ∙ sym c.graph.view_is in
    let files : c.loaded.inside.files ≡ c.args.loaded.files = ap (λ l. l.files) c.loaded.view_is in
    let fault = c.in_err-built.field-0.0 in
    rw (handed fault c.from_residual.result c.from_residual.ensures)
    (subst (λ fs. JoinsChosen (g.C.DyndepChoice.chooses c.args.choice.now) stated fs before after (Err fault))
    files (c.in_err-built.ensures stated (subst (λ x. IsGraphOf x stated) at is).built))

pub invariant_of-graph : goal.invariant_of-graph
invariant_of-graph g c =
    let before = g.S.FileSource.state c.args.source.now in
    let after = g.S.FileSource.state c.join_built.new.source in
    let graph : GraphModel = record {
      declarations = c.graph.inside.declared.declarations;
      built =
          c.graph.inside.built;
      origins = c.graph.inside.declared.origins;
    } in
    let stated = c.loaded.invariant.1.0 in
    let is = subst (λ x. IsGraphOf x stated) (sym c.graph.view_is) c.loaded.invariant.1.1 in
    let joined = c.in_ok-built.ensures stated is.built in
    joined-held joined.0 stated before after c.loaded.inside.files c.join_built.new.files joined.2.0
    joined.2.1 graph is c.in_ok-built.built joined.2.2 c.graph.inside.declared.main_rules.items
    c.graph.invariant

pub invariant_of-result-2 : goal.invariant_of-result-2
invariant_of-result-2 g c =
    let before = g.S.FileSource.state c.args.source.now in
    let after = g.S.FileSource.state c.join_built.new.source in
    let graph : GraphModel = record {
      declarations = c.graph.inside.declared.declarations;
      built =
          c.graph.inside.built;
      origins = c.graph.inside.declared.origins;
    } in
    let stated = c.loaded.invariant.1.0 in
    let is = subst (λ x. IsGraphOf x stated) (sym c.graph.view_is) c.loaded.invariant.1.1 in
    let joined = c.in_ok-built.ensures stated is.built in
    let f = joined.2.1 in (
      subst EachPathOnce (sym f.reads.held_is) f.reads.reads.once,
      (
        f.now,
        joined-graph joined.0 stated before after c.loaded.inside.files c.join_built.new.files
            joined.2.0 f graph is c.in_ok-built.built joined.2.2,
      ),
    )

pub returns-clause-joins : goal.returns-clause-joins
returns-clause-joins g c = λ stated is.
    let before = g.S.FileSource.state c.args.source.now in
    let after = g.S.FileSource.state c.join_built.new.source in
    let graph : GraphModel = record {
      declarations = c.graph.inside.declared.declarations;
      built =
          c.graph.inside.built;
      origins = c.graph.inside.declared.origins;
    } in
    let at : c.args.loaded.graph ≡ graph = ap (λ l. l.graph) (sym c.loaded.view_is) ∙ sym c.graph.view_is in
    let files : c.loaded.inside.files ≡ c.args.loaded.files = ap (λ l. l.files) c.loaded.view_is in
    let here = subst (λ x. IsGraphOf x stated) at is in
    let joins = c.in_ok-built.ensures stated here.built in
    let loaded : LoadedModel = record {
      files = c.join_built.new.files;
      graph =
          record {
            declarations = c.graph.inside.declared.declarations;
            built = c.in_ok-built.built;
            origins =
                c.graph.inside.declared.origins;
          };
    } in
    subst (λ fs. JoinsChosen (g.C.DyndepChoice.chooses c.args.choice.now) stated fs before after (Ok loaded))
    files
    (joined joins.1 (joins-graph joins.0 stated before after c.loaded.inside.files c.join_built.new.files
    joins.2.0 joins.2.1 graph here c.in_ok-built.built joins.2.2 loaded refl))
