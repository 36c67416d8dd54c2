use Rattle.std.proofs.Common.{◌<◌, ◌≤◌, ◌+◌, ◌∙◌, [], ap, ap₂, get_or, length, subst, sym, arith}
use Rattle.std.specs.Prelude.{fold, unwrap_or}
use Rattle.std.proofs.lemmas.List.{length-map}
use Rattle.nj_names.specs.NameTables.{name_at, with_name}
use Rattle.nj_ask.specs.LookedThrough.{behind, walked}
use Rattle.nj_ask.specs.Inside.FilesFound.{paths_found}
use Rattle.nj_ask.proofs.LedLemmas.{turn-left, walked-ended, walked-on}
use Rattle.nj_ask.proofs.looked_through.add_led.Goals as goal

pub places-init : goal.places-init
places-init c =
    let files = c.args.graph.now.files in
    let limit = c.args.found.now.limit in
    let count = ap length c.numbers-place.ensures.numbers in
    record {
      limit = c.in_ok-add_files.ensures.limit;
      turns = limit;
      left = ap (λ k. limit + k) count;
      walk = ap₂ (walked c.args.graph.now.edges limit)
          (count ∙ sym (length-map c.args.found.now.numbers (name_at files)))
          c.in_ok-add_files.ensures.found;
    }

pub places-preserved : goal.places-preserved
places-preserved c =
    let files = c.args.graph.now.files in
    let edges = c.args.graph.now.edges in
    let i = c.places.invariant in
    let place = c.places.place in
    let numbers = c.places.found.numbers in
    let within : place < length numbers =
    subst (λ ns. place < length ns) c.numbers.ensures.numbers c.places-test.true in
    let fits : length numbers ≤ c.args.found.now.limit =
    subst (λ k. length numbers ≤ k) i.limit c.numbers.ensures.fits in
    let turn = turn-left i.turns place c.args.found.now.limit (length c.args.found.now.numbers)
    (length numbers) i.left within fits in
    let next = paths_found files c.add_files-in-places.new.found in
    let then = c.in_ok-add_files-2.ensures.found
    ∙ ap (fold with_name (paths_found files c.places.found)) (c.files_behind.ensures.files
    ∙ ap (λ ns. unwrap_or (behind edges (name_at files (get_or ns place 0))) [])
    c.numbers-in-places.ensures.numbers) in
    record {
      limit = c.in_ok-add_files-2.ensures.limit ∙ i.limit;
      turns = turn.0;
      left = omega (arith, i.left, turn.1);
      walk = sym (walked-on edges files numbers i.turns turn.0 place turn.1 within next then) ∙ i.walk;
    }

pub returns-clause-found : goal.returns-clause-found
returns-clause-found c =
    let files = c.args.graph.now.files in
    let i = c.places.invariant in
    sym (walked-ended c.args.graph.now.edges i.turns c.places.place (paths_found files c.places.found)
    (subst (λ n. n ≤ c.places.place)
    (ap length c.numbers.ensures.numbers ∙ sym (length-map c.places.found.numbers (name_at files)))
    c.places-test.false))
    ∙ i.walk
