-- Reasons of edges, worked out on the definitions.
use Rattle.std.proofs.Common.{◌≡◌, ℕ, Bool, true, false, Option, Some, None, List, [], ◌∷◌, refl}
use Rattle.std.specs.Prelude.{codes, pos, find, option_map, unwrap_or, bytes_eq}
use Rattle.nj_edges.specs.Edges.{EdgePaths}
use Rattle.nj_build_log.specs.Logs.{LineModel}
use Rattle.nj_stale.specs.Missing.{first_lost}
use Rattle.nj_stale.specs.States.{newest_place, reason_of, output_time}
use Rattle.nj_stale.specs.Work.{is_idle}
use Rattle.nj_stale.specs.declared.evidence.EdgeFacts.{EdgeFacts}
use Rattle.nj_stale.specs.declared.reason.Reason.{Reason}
use Rattle.nj_stale.specs.declared.reason.Reason.TheVariants.{UnknownInputs, StaleInput, MissingOutput}
use Rattle.nj_stale.specs.declared.reason.Reason.TheVariants.{OlderOutput, OtherCommand, EarlierBuild}
use Rattle.nj_stale.specs.declared.reason.Reason.TheVariants.{NotLogged}

-- ---- one edge: `build o d: cc c | h || g`

abbrev edge_of : (outputs order_only : List (List ℕ)) → (counted : List (List ℕ)) → (is_phony : Bool)
    → EdgePaths
edge_of outputs order_only counted is_phony = record {
  explicit_outputs = outputs;
  implicit_outputs = [];
  explicit_inputs = counted;
  implicit_inputs = [];
  order_only_inputs = order_only;
  validations = [];
  is_phony = is_phony;
}

abbrev compiled : EdgePaths
compiled = edge_of (codes "o" ∷ codes "d" ∷ []) (codes "g" ∷ []) (codes "c" ∷ codes "h" ∷ []) false

abbrev plain : EdgeFacts
plain = record { is_unknown = false; restat = false; generator = false; command_hash = 7 }

-- the times of `o`, `d`, `c`, `h` and `g`
abbrev times_of : (o d c h g : ℕ) → List ℕ → ℕ
times_of o d c h g path = unwrap_or (option_map (λ p. p.1) (find (λ (p : List ℕ × ℕ). bytes_eq path p.0)
    ((codes "o", o) ∷ (codes "d", d) ∷ (codes "c", c) ∷ (codes "h", h) ∷ (codes "g", g) ∷ []))) 0

-- a line of the log
abbrev line : (output : List ℕ) → (time hash : ℕ) → LineModel
line output time hash = record {
  output = output;
  entry = record { start = pos 0; end = pos 0; time = pos time; hash = hash };
}

-- both outputs are in the log, with the given time
abbrev both : (time : ℕ) → List LineModel
both time = line (codes "o") time 7 ∷ line (codes "d") time 7 ∷ []

abbrev asked : EdgePaths → EdgeFacts → (List ℕ → ℕ) → List LineModel → Option Reason
asked edge facts times lines = reason_of
    (record { edges = edge ∷ []; facts = facts ∷ []; disk_time = times; lines = lines })
    (record { reason = λ edge. None; time = times }) 0

pub up_to_date : asked compiled plain (times_of 5 5 4 5 3) (both 5) ≡ None
up_to_date = refl

-- an order-only input does not count
newer_order_only : asked compiled plain (times_of 5 5 4 5 9) (both 5) ≡ None
newer_order_only = refl

unknown_inputs : asked compiled (record plain { is_unknown = true }) (times_of 0 5 0 5 3) []
    ≡ Some UnknownInputs
unknown_inputs = refl

missing_source : asked compiled plain (times_of 0 5 4 0 3) [] ≡ Some (StaleInput 1)
missing_source = refl

missing_order_only : asked compiled plain (times_of 5 5 4 5 0) (both 5) ≡ None
missing_order_only = refl

missing_output : asked compiled plain (times_of 5 0 4 5 3) (both 5) ≡ Some (MissingOutput 1)
missing_output = refl

older_output : asked compiled plain (times_of 5 5 4 6 3) (both 9) ≡ Some (OlderOutput 0)
older_output = refl

-- outputs from the left, and each with all its reasons
left_output_first : asked compiled plain (times_of 5 0 4 6 3) (both 9) ≡ Some (OlderOutput 0)
left_output_first = refl

-- with `restat` the log's time is used, if the log has the output
restat_by_log : asked compiled (record plain { restat = true }) (times_of 5 5 4 6 3) (both 9) ≡ None
restat_by_log = refl

restat_older_log : asked compiled (record plain { restat = true }) (times_of 5 5 4 6 3) (both 5)
    ≡ Some (EarlierBuild 0)
restat_older_log = refl

restat_not_logged : asked compiled (record plain { restat = true }) (times_of 5 5 4 6 3) []
    ≡ Some (OlderOutput 0)
restat_not_logged = refl

earlier_build : asked compiled plain (times_of 9 9 4 6 3) (both 5) ≡ Some (EarlierBuild 0)
earlier_build = refl

other_command : asked compiled (record plain { command_hash = 8 }) (times_of 5 5 4 5 3) (both 5)
    ≡ Some (OtherCommand 0)
other_command = refl

-- the last line of an output is used
other_command_once : asked compiled plain (times_of 5 5 4 5 3) (line (codes "o") 5 8 ∷ both 5) ≡ None
other_command_once = refl

generator_command : asked compiled (record plain { generator = true; command_hash = 8 }) (times_of 5 5 4 5 3)
    (both 5) ≡ None
generator_command = refl

not_logged : asked compiled plain (times_of 5 5 4 5 3) (line (codes "o") 5 7 ∷ []) ≡ Some (NotLogged 1)
not_logged = refl

generator_not_logged : asked compiled (record plain { generator = true }) (times_of 5 5 4 5 3) [] ≡ None
generator_not_logged = refl

-- ---- phony edges

-- without any input
phony_missing : asked (edge_of (codes "o" ∷ []) [] [] true) plain (times_of 0 0 0 0 0) []
    ≡ Some (MissingOutput 0)
phony_missing = refl

phony_there : asked (edge_of (codes "o" ∷ []) [] [] true) plain (times_of 5 0 0 0 0) [] ≡ None
phony_there = refl

-- an order-only input is an input too
phony_order_only : asked (edge_of (codes "o" ∷ []) (codes "g" ∷ []) [] true) plain (times_of 0 0 0 0 0) []
    ≡ None
phony_order_only = refl

phony_older : asked (edge_of (codes "o" ∷ []) [] (codes "c" ∷ []) true) plain (times_of 3 0 4 0 0) [] ≡ None
phony_older = refl

phony_stale_input : asked (edge_of (codes "o" ∷ []) [] (codes "c" ∷ []) true) plain (times_of 3 0 0 0 0) []
    ≡ Some (StaleInput 0)
phony_stale_input = refl

-- the time of an output of a phony edge
abbrev phony_time : (times : List ℕ → ℕ) → Option Reason → ℕ
phony_time times reason = output_time
    (record {
      edges = edge_of (codes "o" ∷ []) [] (codes "c" ∷ codes "h" ∷ []) true ∷ [];
      facts = [];
      disk_time = times;
      lines = [];
    })
    (record { reason = λ edge. reason; time = times }) 0 (codes "o")

lent : phony_time (times_of 0 0 4 6 0) None ≡ 6
lent = refl

own_time : phony_time (times_of 5 0 4 6 0) None ≡ 5
own_time = refl

lent_by_stale : phony_time (times_of 0 0 4 6 0) (Some UnknownInputs) ≡ 0
lent_by_stale = refl

-- ---- the newest input

abbrev newest_of : EdgePaths → (times : List ℕ → ℕ) → Option ℕ
newest_of edge times = newest_place (record { reason = λ edge. None; time = times }) edge

newest_second : newest_of compiled (times_of 9 9 4 6 8) ≡ Some 1
newest_second = refl

-- the first of several
newest_twice : newest_of compiled (times_of 9 9 6 6 8) ≡ Some 0
newest_twice = refl

newest_missing : newest_of compiled (times_of 9 9 0 0 8) ≡ Some 0
newest_missing = refl

newest_of_none : newest_of (edge_of (codes "o" ∷ []) (codes "g" ∷ []) [] false) (times_of 9 9 6 6 8) ≡ None
newest_of_none = refl

-- ---- missing sources

abbrev lost : (is_stated : List ℕ → Bool) → (times : List ℕ → ℕ) → List (List ℕ) → Option (List ℕ)
lost is_stated times paths =
    first_lost (record { edges = compiled ∷ []; facts = []; disk_time = times; lines = [] }) is_stated paths

lost_first : lost (λ path. true) (times_of 5 5 4 0 0) (codes "c" ∷ codes "h" ∷ codes "g" ∷ [])
    ≡ Some (codes "h")
lost_first = refl

-- what an edge makes is not a source
lost_output : lost (λ path. true) (times_of 0 5 4 5 3) (codes "o" ∷ codes "c" ∷ []) ≡ None
lost_output = refl

-- the manifest does not name the source
lost_unnamed : lost (λ path. false) (times_of 5 5 4 0 3) (codes "h" ∷ []) ≡ None
lost_unnamed = refl

-- phony edges without any input
idle : is_idle (edge_of (codes "o" ∷ []) [] [] true) ≡ true
idle = refl

idle_order_only : is_idle (edge_of (codes "o" ∷ []) (codes "g" ∷ []) [] true) ≡ false
idle_order_only = refl

idle_command : is_idle (edge_of (codes "o" ∷ []) [] [] false) ≡ false
idle_command = refl
