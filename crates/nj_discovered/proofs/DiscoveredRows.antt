-- Small edges, worked out on the definitions.
use Rattle.std.proofs.Common.{◌≡◌, ℕ, false, Some, None, List, [], ◌∷◌, ◌++◌, refl}
use Rattle.std.specs.Prelude.{codes}
use Rattle.nj_text.specs.Paths.{clean_path_of, without_leftmost_pair}
use Rattle.nj_edges.specs.Edges.{EdgePaths}
use Rattle.nj_deps.specs.Logs.{LogModel}
use Rattle.nj_depfiles.specs.Pieces.{pieces_after}
use Rattle.nj_depfiles.specs.declared.depfile_fault.DepfileFault.TheVariants.{NoColon}
use Rattle.nj_discovered.specs.Discovered.{Discovery, by_record, by_text, faulty, record_of, unknown}
use Rattle.nj_discovered.specs.Discovered.TextFound.{Text, Unreadable}
use Rattle.nj_discovered.specs.declared.times.TimeFound.TheVariants.{NoAnswer, Time}
use Rattle.nj_discovered.specs.declared.verdict.DepfileError.TheVariants as error
use Rattle.nj_discovered.specs.declared.verdict.Unknown.TheVariants as why
use Rattle.nj_discovered.specs.declared.verdict.Verdict.TheVariants.{Known}

-- an edge that makes `a.o` and `a.map`
edge : EdgePaths
edge = record {
  explicit_outputs = codes "a.o" ∷ codes "a.map" ∷ [];
  implicit_outputs = [];
  explicit_inputs = codes "a.c" ∷ [];
  implicit_inputs = [];
  order_only_inputs = [];
  validations = [];
  is_phony = false;
}

-- ---- depfiles

abbrev file : List ℕ → Discovery
file text = by_text edge (Text (Some text))

one_header : file (codes "a.o: a.c ./a.h" ++ 10 ∷ [])
    ≡ record { verdict = Known; inputs = codes "a.c" ∷ codes "a.h" ∷ [] }
unfolding edge pieces_after clean_path_of without_leftmost_pair
one_header = refl

no_file : by_text edge (Text None) ≡ unknown why.NoDepfile
no_file = refl

empty_file : file [] ≡ unknown why.EmptyDepfile
empty_file = refl

-- the first target is compared as a clean path, before the other targets
first_is_cleaned : file (codes "./a.o: a.h") ≡ record { verdict = Known; inputs = codes "a.h" ∷ [] }
unfolding edge pieces_after clean_path_of without_leftmost_pair
first_is_cleaned = refl

other_target : file (codes "b.o c.o: a.h") ≡ unknown why.OtherTarget
unfolding edge pieces_after clean_path_of without_leftmost_pair
other_target = refl

-- the other targets letter by letter
second_output : file (codes "a.o a.map: a.h") ≡ record { verdict = Known; inputs = codes "a.h" ∷ [] }
unfolding edge pieces_after clean_path_of without_leftmost_pair
second_output = refl

other_is_not_cleaned : file (codes "a.o ./a.map: a.h") ≡ faulty (error.NoSuchOutput (codes "./a.map"))
unfolding edge pieces_after clean_path_of without_leftmost_pair
other_is_not_cleaned = refl

no_target : file (codes ": a.h") ≡ faulty error.NoTarget
unfolding pieces_after
no_target = refl

no_colon : file (codes "a.o a.h") ≡ faulty (error.Depfile NoColon)
unfolding pieces_after
no_colon = refl

not_read : by_text edge Unreadable ≡ faulty error.Unreadable
not_read = refl

-- ---- the log

log : LogModel
log = record {
  paths = codes "a.o" ∷ codes "x/../a.h" ∷ [];
  outputs = record { output = 0; time = 50; inputs = 1 ∷ [] } ∷ [];
  size = 0;
  is_whole = false;
}

same_time : by_record log (record { output = 0; time = 50; inputs = 1 ∷ [] }) (Time (Some 50))
    ≡ record { verdict = Known; inputs = codes "a.h" ∷ [] }
unfolding log clean_path_of without_leftmost_pair
same_time = refl

newer_output : by_record log (record { output = 0; time = 50; inputs = 1 ∷ [] }) (Time (Some 51))
    ≡ unknown why.NewerOutput
newer_output = refl

removed_output : by_record log (record { output = 0; time = 50; inputs = 1 ∷ [] }) (Time None)
    ≡ record { verdict = Known; inputs = codes "a.h" ∷ [] }
unfolding log clean_path_of without_leftmost_pair
removed_output = refl

no_time : by_record log (record { output = 0; time = 50; inputs = 1 ∷ [] }) NoAnswer ≡ unknown why.NoTime
no_time = refl

its_record : record_of log (codes "a.o") ≡ Some (record { output = 0; time = 50; inputs = 1 ∷ [] })
unfolding log
its_record = refl

no_record : record_of log (codes "a.h") ≡ None
unfolding log
no_record = refl
