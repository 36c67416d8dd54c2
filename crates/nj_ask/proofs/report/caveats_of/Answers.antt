use Rattle.std.proofs.Common.{[], ◌++◌, cond, sym, ap, subst, ◌∙◌}
use Rattle.std.proofs.lemmas.Result.{IfOk-weaker}
use Rattle.nj_ask.specs.Inside.Lent.{change_model}
use Rattle.nj_ask.specs.Inside.Reached.{edge_numbers, numbers_of, AreFilesOf}
use Rattle.nj_ask.specs.Reports.{remade_files}
use Rattle.nj_ask.specs.Shape.{shape_text}
use Rattle.nj_ask.proofs.NewCommandLemmas.{files-unless, numbers-unless}
use Rattle.nj_ask.proofs.report.caveats_of.Goals as goal

pub shape_lines-requires-clause-opened : goal.shape_lines-requires-clause-opened
shape_lines-requires-clause-opened c =
    let opened = ap (cond c.args.change.is_settled []) c.deref.ensures.value in
    subst (AreFilesOf c.args.known.now.graph) (sym (c.files_unless-opened.ensures ∙ opened))
    (files-unless c.args.known.now.graph c.args.change.is_settled c.args.files.now.opened.items
    c.requires.files.opened.known)

pub returns : goal.returns
returns c entries graph =
    let known = c.args.known.now in
    let g = known.graph in
    let q = change_model c.args.change in
    let edges = edge_numbers c.args.edges.now in
    let about = c.args.about.now in
    let opened = ap numbers_of (c.files_unless-opened.ensures
    ∙ ap (cond q.is_settled []) c.deref.ensures.value)
    ∙ numbers-unless q.is_settled c.args.files.now.opened.items
    ∙ ap (cond q.is_settled []) c.requires.files.opened.numbers in
    let changed = ap numbers_of c.deref-2.ensures.value ∙ c.requires.files.changed.numbers in
    let shape = c.in_ok-shape.ensures entries graph
    ∙ ap (λ ns. shape_text known entries ns (numbers_of c.deref-2.result.now) edges) opened
    ∙ ap (λ ns. shape_text known entries (remade_files g q) ns edges) changed in
    IfOk-weaker c.joined.result _ _ (λ text is.
    is ∙ ap (λ t. t ++ about ++ c.deref-4.result.now) c.deref-3.ensures.value
    ∙ ap (λ t. known.caveats.items ++ about ++ t) (c.deref-4.ensures.value ∙ shape)) c.joined.ensures
