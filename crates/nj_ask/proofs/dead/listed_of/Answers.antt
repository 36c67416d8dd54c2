use Rattle.std.proofs.Common.{◌≡◌, ◌∙◌, ◌+◌, [], ◌∷◌, ◌++◌, ℕ, List, Bor, ap, map, subst, sym, take}
use Rattle.std.specs.Prelude.{slice_index_or}
use Rattle.std.proofs.lemmas.List.{map-append, take_more}
use Rattle.nj_ask.specs.DeadAnswers.{ListsDead, dead_line}
use Rattle.nj_ask.specs.DeadAnswers.ListsDead.{last, none}
use Rattle.nj_ask.proofs.dead.listed_of.Goals as goal

pub outputs-init : goal.outputs-init
outputs-init g c =
    let times = g.T.FileTimes.times c.args.times.now in
    subst (λ (t : List ℕ). ListsDead times c.args.is_json [] t c.new-warnings.result.items)
    (sym c.new-text.ensures.items)
    (subst (λ (w : List ℕ). ListsDead times c.args.is_json [] [] w) (sym c.new-warnings.ensures.items) none)

pub outputs-preserved : goal.outputs-preserved
outputs-preserved g c =
    let times = g.T.FileTimes.times c.args.times.now in
    let is_json = c.args.is_json in
    let outputs = c.args.outputs.now in
    let n = c.outputs.output-index in
    let no_output : Bor (List ℕ) = record { ref_ptr = (0, 0); now = [] } in
    let output = slice_index_or outputs n no_output in
    let found = c.in_ok-found.found in
    let paths : List (Bor (List ℕ)) → List (List ℕ) = map (λ output. output.now) in
    let longer : paths (take (n + 1) outputs) ≡ paths (take n outputs) ++ output.now ∷ [] =
    ap paths (take_more outputs n no_output c.outputs-test.true)
    ∙ map-append (λ (o : Bor (List ℕ)). o.now) (take n outputs) (output ∷ []) in
    subst (λ (ps : List (List ℕ)). ListsDead times is_json ps c.push_dead.new.text.items
    c.push_unread.new.warnings.items) (sym longer)
    (subst (λ (t : List ℕ). ListsDead times is_json (paths (take n outputs) ++ output.now ∷ []) t
    c.push_unread.new.warnings.items) (sym c.in_ok-push_dead.ensures)
    (subst (λ (w : List ℕ). ListsDead times is_json (paths (take n outputs) ++ output.now ∷ [])
    (c.outputs.text.items ++ dead_line is_json output.now found) w) (sym c.in_ok-push_unread.ensures)
    (last c.outputs.invariant c.in_ok-found.ensures)))
