use Rattle.std.proofs.Common.{◌++◌, ◌∷◌, [], take, sym, ap, ◌∙◌, arith}
use Rattle.std.proofs.lemmas.List.{length-map, take_all, take_more}
use Rattle.std.proofs.lemmas.Option.{get_or_from_slice_get, slice_get_within}
use Rattle.nj_changes.specs.FullPaths.{full_path}
use Rattle.nj_graph.specs.Edges.{is_among}
use Rattle.nj_graph.specs.Origins.{OpeningModel}
use Rattle.nj_names.specs.NameTables.{with_name}
use Rattle.nj_ask.specs.Manifest.{opened_paths}
use Rattle.nj_ask.proofs.OpenedLemmas.{among-more}
use Rattle.nj_ask.proofs.opened.opened_paths.Goals as goal

pub openings-init : goal.openings-init
openings-init c path = ap (λ names. is_among names path) c.new-paths.ensures

pub openings-preserved : goal.openings-preserved
openings-preserved c path =
    let paths = opened_paths c.args.graph.now c.args.working.now in
    let i = c.openings.index in
    let full = c.in_ok-full.full.items in
    let at = c.in_ok-full.ensures in
    ap (λ names. is_among names path)
    (c.in_ok-add.ensures.added ∙ ap (with_name c.openings.paths) c.deref.ensures.value)
    ∙ among-more c.openings.paths (take i paths) full path c.openings.invariant
    ∙ ap (λ names. is_among names path)
    (sym (take_more paths i full (slice_get_within paths i full at)
    ∙ ap (λ next. take i paths ++ next ∷ []) (get_or_from_slice_get paths i full full at)))

pub returns : goal.returns
returns c path =
    let openings = c.args.graph.now.origins.openings in
    let working = c.args.working.now in
    let paths = opened_paths c.args.graph.now working in
    let count = length-map openings (λ (opening : OpeningModel). full_path working opening.path) in
    let counted = c.opening_count-index-end.ensures.held in
    c.openings.invariant path
    ∙ ap (λ names. is_among names path) (take_all c.openings.index paths (omega (arith, counted, count)))
