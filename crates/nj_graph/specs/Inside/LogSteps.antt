-- How the code finds what a deps log names for edges. Nothing here has to be believed.
use Rattle.std.specs.Prelude.{◌≡◌, ℕ, ◌<◌, Option, Some, option_map, List, length, map, slice_get}
use Rattle.nj_scope.specs.ReadingList.{ReadStatement}
use Rattle.nj_deps.specs.Logs.{LogModel}
use Rattle.nj_deps.specs.declared.path_no.PathNo.{PathNo}
use Rattle.nj_graph.specs.DepsLogs.{inputs_logged, number_logged}

-- optional numbers of paths, as plain numbers
abbrev pub numbers_if_any : List (Option PathNo) → List (Option ℕ)
numbers_if_any numbers = map (option_map (λ n. n.0)) numbers

-- the numbers that a log has for the first outputs of edges, by edge
abbrev pub AreNumbersLogged : LogModel → List ReadStatement → (numbers : List (Option ℕ)) → Type 0
AreNumbersLogged log entries numbers = (n : ℕ) → n < length numbers → slice_get numbers n ≡ Some (number_logged log entries n)

-- the inputs that a log has for the outputs with the given numbers
abbrev pub inputs_by_numbers : LogModel → (numbers : List (Option ℕ)) → List (List (List ℕ))
inputs_by_numbers log numbers = map (inputs_logged log) numbers
