use Rattle.std.proofs.Common.{◌<◌, ◌+◌, ◌++◌, None, [], length, take, option_map, sym, ap, subst, ◌∙◌}
use Rattle.std.proofs.Common.{append-nil, arith}
use Rattle.std.specs.Prelude.{option_and_then}
use Rattle.std.specs.List.{cons_option, filter_map}
use Rattle.std.proofs.lemmas.Option.{slice_get-get_or}
use Rattle.nj_graph.specs.Graph.{edges_of}
use Rattle.nj_graph.specs.Origins.{OpeningModel}
use Rattle.nj_audit.specs.Roles.{maker_of_opened}
use Rattle.nj_audit.specs.Inside.RolesHeld.{HasNumbers}
use Rattle.nj_audit.proofs.ListLemmas.{found-more}
use Rattle.nj_audit.proofs.RoleLemmas.{more-has}
use Rattle.nj_audit.proofs.roles.makers_of_opened.Goals as goal
use Rattle.nj_audit.proofs.roles.makers_of_opened.Goals.{in-Some+in_ok-insert-in-Some, in-None}

no-opening : OpeningModel
no-opening = record { path = []; named_at = None; scope = 0 }

pub openings-preserved : goal.openings-preserved
openings-preserved c =
    let g = c.args.graph.now in
    let count = length (edges_of g) in
    let openings = g.origins.openings in
    let i = c.openings.index in
    let h = maker_of_opened g in
    let before = filter_map h (take i openings) in
    let counted = c.opening_count-index-end.ensures.held in
    let below : i < length openings = omega (arith, counted, c.openings-test.true) in
    let found = c.in_ok-found.ensures.maker
    ∙ ap (option_and_then h) (slice_get-get_or openings i no-opening below) in
    let more = found-more h openings i no-opening below in
    elim c.match-found.branch [
      | in-Some+in_ok-insert-in-Some w ↦
          let is = sym found ∙ ap (option_map (λ e. e.0)) w.in-Some.is in
          subst (HasNumbers count (filter_map h (take (i + 1) openings))) (sym w.makers-is)
          (subst (λ ns. HasNumbers count ns w.insert.new.self)
          (ap (λ o. before ++ cons_option o []) (sym is) ∙ more)
          (more-has count before c.openings.makers w.insert.new.self w.in-Some.maker.0
          w.in_ok-insert-in-Some.ensures.added c.openings.invariant))
      | in-None w ↦
          let is = sym found ∙ ap (option_map (λ e. e.0)) w.in-None.is in
          subst (HasNumbers count (filter_map h (take (i + 1) openings))) (sym w.makers-is)
          (subst (λ ns. HasNumbers count ns c.openings.makers)
          (sym (append-nil before) ∙ ap (λ o. before ++ cons_option o []) (sym is) ∙ more)
          c.openings.invariant)
    ]
