-- Durations and critical paths of small builds, worked out on the definitions.
use Rattle.std.proofs.Common.{◌≡◌, ℕ, Bool, true, false, Some, None, List, [], ◌∷◌, refl}
use Rattle.std.specs.Prelude.{codes, ℤ, pos, negsuc}
use Rattle.nj_edges.specs.Edges.{EdgePaths}
use Rattle.nj_edges.specs.Needs.{makers_of_inputs}
use Rattle.nj_build_log.specs.Logs.{LineModel}
use Rattle.nj_times.specs.Times.{duration_of, durations_of, sum_of, unknown_of}
use Rattle.nj_times.specs.Rules.{edges_with, first_edges, rule_sums, rules_of, slowest_in}
use Rattle.nj_times.specs.Inside.CostsHeld.{costliest, greatest}

abbrev edge_of : (output : List ℕ) → (inputs order_only : List (List ℕ)) → (is_phony : Bool) → EdgePaths
edge_of output inputs order_only is_phony = record {
  explicit_outputs = output ∷ [];
  implicit_outputs = [];
  explicit_inputs = inputs;
  implicit_inputs = [];
  order_only_inputs = order_only;
  validations = [];
  is_phony = is_phony;
}

abbrev line : (output : List ℕ) → (start end : ℤ) → LineModel
line output start end = record {
  output = output;
  entry = record { start = start; end = end; time = pos 0; hash = 0 };
}

-- ---- durations

abbrev compiled : EdgePaths
compiled = edge_of (codes "o") (codes "c" ∷ []) [] false

not_logged : duration_of [] compiled ≡ None
not_logged = refl

other_logged : duration_of (line (codes "p") (pos 1) (pos 5) ∷ []) compiled ≡ None
other_logged = refl

-- the last of several builds counts
last_build : duration_of (line (codes "o") (pos 0) (pos 90) ∷ line (codes "o") (pos 7) (pos 12) ∷ []) compiled
    ≡ Some 5
last_build = refl

ends_before_start : duration_of (line (codes "o") (pos 7) (pos 2) ∷ []) compiled ≡ Some 0
ends_before_start = refl

starts_below_zero : duration_of (line (codes "o") (negsuc 2) (pos 4) ∷ []) compiled ≡ Some 7
starts_below_zero = refl

-- a phony edge takes no time, whatever the log says of its output
phony_takes_none : duration_of (line (codes "all") (pos 0) (pos 9) ∷ [])
    (edge_of (codes "all") (codes "o" ∷ []) [] true) ≡ Some 0
phony_takes_none = refl

-- ---- one build: `build a: cc`, `build b: cc`, `build l: phony a b`, `build x: ld l || b`

abbrev edges : List EdgePaths
edges = edge_of (codes "a") [] [] false ∷ edge_of (codes "b") [] [] false
    ∷ edge_of (codes "l") (codes "a" ∷ codes "b" ∷ []) [] true
    ∷ edge_of (codes "x") (codes "l" ∷ []) (codes "b" ∷ []) false ∷ []

abbrev lines : List LineModel
lines = line (codes "a") (pos 0) (pos 30) ∷ line (codes "b") (pos 0) (pos 30) ∷ []

all_durations : durations_of lines edges ≡ Some 30 ∷ Some 30 ∷ Some 0 ∷ None ∷ []
all_durations = refl

all_unknown : unknown_of (durations_of lines edges) (3 ∷ 2 ∷ 0 ∷ 1 ∷ []) ≡ 1
all_unknown = refl

whole_sum : sum_of (durations_of lines edges) (3 ∷ 2 ∷ 0 ∷ 1 ∷ []) ≡ 60
whole_sum = refl

-- by the costs of these edges the path goes on through the phony edge, which is left of the order-only input,
-- and then to the left of two
-- equal inputs
through_phony : costliest (30 ∷ 30 ∷ 30 ∷ 30 ∷ []) (makers_of_inputs edges 3) ≡ Some 2
through_phony = refl

left_of_equals : costliest (30 ∷ 30 ∷ 30 ∷ 30 ∷ []) (makers_of_inputs edges 2) ≡ Some 0
left_of_equals = refl

-- an order-only input counts
order_only_counts : costliest (20 ∷ 30 ∷ 20 ∷ 30 ∷ []) (makers_of_inputs edges 3) ≡ Some 1
order_only_counts = refl

-- the path begins with an edge that took time
nothing_before : costliest (0 ∷ 0 ∷ 0 ∷ 0 ∷ []) (makers_of_inputs edges 2) ≡ None
nothing_before = refl

greatest_before : greatest (20 ∷ 30 ∷ 20 ∷ 30 ∷ []) (makers_of_inputs edges 3) ≡ 30
greatest_before = refl

-- ---- the rules of the same edges: `x` has one of its own

abbrev rules : List (List ℕ)
rules = codes "cc" ∷ codes "cc" ∷ codes "phony" ∷ codes "ld" ∷ []

rules_once : rules_of rules (0 ∷ 1 ∷ 3 ∷ []) ≡ codes "cc" ∷ codes "ld" ∷ []
rules_once = refl

of_one_rule : edges_with rules (0 ∷ 1 ∷ 3 ∷ []) (codes "cc") ≡ 0 ∷ 1 ∷ []
of_one_rule = refl

first_of_each : first_edges rules (0 ∷ 1 ∷ 3 ∷ []) ≡ 0 ∷ 3 ∷ []
first_of_each = refl

-- an unknown duration counts as 0
sum_of_each : rule_sums rules (durations_of lines edges) (0 ∷ 1 ∷ 3 ∷ [])
    ≡ Some 60 ∷ Some 60 ∷ Some 0 ∷ Some 0 ∷ []
sum_of_each = refl

-- the first of two that took as long
slowest_of_two : slowest_in (durations_of lines edges) (0 ∷ 1 ∷ []) ≡ 0
slowest_of_two = refl

slowest_is_later : slowest_in (Some 20 ∷ None ∷ Some 30 ∷ []) (0 ∷ 1 ∷ 2 ∷ []) ≡ 2
slowest_is_later = refl
