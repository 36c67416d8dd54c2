use Rattle.std.proofs.Common.{◌∙◌, is_some, unwrap_or, ap, sym, true≢false, arith}
use Rattle.nj_names.proofs.NameLemmas.{found-at}
use Rattle.nj_edges.proofs.JoinedLemmas.{made-path, none-path, unmade-path}
use Rattle.nj_edges.proofs.edges.Edges.maker_read.Goals as goal

pub returns-in_err-file-clause-maker : goal.returns-in_err-file-clause-maker
returns-in_err-file-clause-maker c = rw c.from_residual.ensures
    (sym (unmade-path _ _ c.self.invariant.edges_are _ c.self.view_is c.args.path.now
    (sym c.in_err-file.ensures.known)))

pub returns-in_err-edge-clause-maker : goal.returns-in_err-edge-clause-maker
returns-in_err-edge-clause-maker c =
    let here = found-at c.args.path.now c.self.inside.files c.in_ok-file.file.0
    (sym c.in_ok-file.ensures.index) in
    rw c.from_residual-in_err-edge.ensures
    (sym (none-path _ _ c.self.invariant.edges_are _ c.self.view_is c.args.path.now
    c.in_ok-file.file.0 here c.maker.result c.maker.ensures.maker
    (λ e some below. true≢false (sym (ap is_some (sym c.in_err-edge.was ∙ some))))))

pub returns-then-edge-count-clause-maker : goal.returns-then-edge-count-clause-maker
returns-then-edge-count-clause-maker c =
    let here = found-at c.args.path.now c.self.inside.files c.in_ok-file.file.0
    (sym c.in_ok-file.ensures.index) in
    sym (made-path _ _ c.self.invariant.edges_are _ c.self.view_is c.args.path.now
    c.in_ok-file.file.0 here c.maker.result c.maker.ensures.maker c.in_ok-edge.edge c.in_ok-edge.was
    (omega arith))

pub returns-clause-maker : goal.returns-clause-maker
returns-clause-maker c =
    let here = found-at c.args.path.now c.self.inside.files c.in_ok-file.file.0
    (sym c.in_ok-file.ensures.index) in
    sym (none-path _ _ c.self.invariant.edges_are _ c.self.view_is c.args.path.now
    c.in_ok-file.file.0 here c.maker.result c.maker.ensures.maker
    (λ e some below. let same = ap (λ o. unwrap_or o e) (sym c.in_ok-edge.was ∙ some) in omega arith))
