use Rattle.std.proofs.Common.{◌≡◌, ◌+◌, ◌-◌, ℕ, length, map}
use Rattle.nj_graph.specs.Files.{path_at}
use Rattle.nj_ask.specs.LookedThrough.{walked, with_led}
use Rattle.nj_ask.specs.Inside.FilesFound.{paths_found}
use Rattle.nj_ask.proofs.looked_through.add_led.Given as goal

abbrev pub invariant-places : goal.invariant-places
invariant-places l = record {
  limit : l.found.limit ≡ l.fn.found.limit;
  turns : ℕ;
  left : turns + l.place ≡ l.fn.found.limit + length l.fn.found.numbers;
  walk : walked l.graph.edges turns l.place (paths_found l.graph.files l.found)
      ≡ with_led l.graph.edges l.fn.found.limit (paths_found l.graph.files l.fn.found)
      (map (path_at l.graph.files) l.files);
}

abbrev pub decreases-places : goal.decreases-places
decreases-places l = l.fn.found.limit - l.place
