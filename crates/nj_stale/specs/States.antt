-- Which edges of a build are stale, and why, by an equation for each edge and each file. The order in which they are examined is left
-- open.
use Rattle.std.specs.Prelude.{◌≡◌, ℕ, ◌<◌, ◌+◌, max, Bool, true, false, ◌&&◌, not, if◌then◌else◌, ◌==◌, nat_lt, ℤ, pos, negsuc, Option, Some, None, unwrap_or, is_some, List, [], ◌∷◌, length, slice_index_or}
use Rattle.std.specs.Option.{option_or}
use Rattle.nj_edges.specs.Edges.{EdgePaths, edge_at, outputs_of, inputs_of, counted_inputs_of, maker_of}
use Rattle.nj_build_log.specs.Logs.{LineModel, entry_of}
use Rattle.nj_build_log.specs.declared.entry.Entry.{Entry}
use Rattle.nj_stale.specs.declared.evidence.EdgeFacts.{EdgeFacts}
use Rattle.nj_stale.specs.declared.reason.Reason.{Reason}
use Rattle.nj_stale.specs.declared.reason.Reason.TheVariants.{UnknownInputs, StaleInput, MissingOutput, OlderOutput, OtherCommand, EarlierBuild, NotLogged}

-- ---- what is known before a build

-- The edges, with the inputs that builds discovered among the implicit inputs; what is known of each edge besides its files; the time
-- of each file on the disk, 0 if it is missing; and the lines of the build log.
pub record Evidence : Type 0 where
  pub edges : List EdgePaths
  pub facts : List EdgeFacts
  pub disk_time : (path : List ℕ) → ℕ
  pub lines : List LineModel

-- the facts of the edge with the given number
abbrev pub facts_at : Evidence → (edge : ℕ) → EdgeFacts
facts_at known edge =
    slice_index_or known.facts edge (record { is_unknown = false; restat = false; generator = false; command_hash = 0 })

-- the file is missing
abbrev pub is_missing : Evidence → (path : List ℕ) → Bool
is_missing known path = known.disk_time path == 0

-- ---- the state of a build

-- For each edge the reason why it is stale, if it is; and for each file the time that it has as an input.
pub record State : Type 0 where
  pub reason : (edge : ℕ) → Option Reason
  pub time : (path : List ℕ) → ℕ

-- an edge is stale: there is a reason
abbrev pub is_stale : State → (edge : ℕ) → Bool
is_stale s edge = is_some (s.reason edge)

-- a source is stale if it is missing, and a file that an edge makes if that edge is stale
abbrev pub is_stale_by : (maker : Option ℕ) → Evidence → State → (path : List ℕ) → Bool
is_stale_by None known s path = is_missing known path
is_stale_by (Some edge) known s path = is_stale s edge

-- a file is stale, by the edge that makes it
abbrev pub is_stale_file : Evidence → State → (path : List ℕ) → Bool
is_stale_file known s path = is_stale_by (maker_of known.edges path) known s path

-- ---- times

-- the newest time of the given files; `None` without files
abbrev pub newest : {File : Type 0} → (time : File → ℕ) → (files : List File) → Option ℕ
newest time [] = None
newest time (file ∷ files) = Some (max (time file) (unwrap_or (newest time files) 0))

-- the newest time of the inputs that count: the explicit, the implicit and the discovered inputs
abbrev pub newest_input : State → EdgePaths → Option ℕ
newest_input s edge = newest s.time (counted_inputs_of edge)

-- the place of the first of the given files that has the wanted time, where the first file has this place
abbrev pub first_with : {File : Type 0} → (time : File → ℕ) → (wanted : ℕ) → (place : ℕ) → (files : List File) → Option ℕ
first_with time wanted place [] = None
first_with time wanted place (file ∷ files) = if time file == wanted then Some place else first_with time wanted (place + 1) files

-- the place of the newest of the given files, the first of several; `None` without files
abbrev pub place_of_newest : {File : Type 0} → (time : File → ℕ) → (files : List File) → Option ℕ
place_of_newest time files = first_with time (unwrap_or (newest time files) 0) 0 files

-- the place of the newest of the inputs that count
abbrev pub newest_place : State → EdgePaths → Option ℕ
newest_place s edge = place_of_newest s.time (counted_inputs_of edge)

-- a time is before the newest time
abbrev pub is_before : ℤ → (newest : Option ℕ) → Bool
is_before time None = false
is_before (pos time) (Some newest) = nat_lt time newest
is_before (negsuc before) (Some newest) = true

-- the time of a missing output: that of the newest input, if its edge is phony and not stale
abbrev pub lent_time : State → EdgePaths → (edge : ℕ) → ℕ
lent_time s paths edge = if paths.is_phony && not (is_stale s edge) then unwrap_or (newest_input s paths) 0 else 0

-- the time of an output of an edge
abbrev pub output_time : Evidence → State → (edge : ℕ) → (path : List ℕ) → ℕ
output_time known s edge path =
    if is_missing known path then lent_time s (edge_at known.edges edge) edge else known.disk_time path

-- ---- reasons

-- the first reason that one of the given files has, each asked with its place
abbrev pub first_reason : {File : Type 0} → (asked : File → (place : ℕ) → Option Reason) → (place : ℕ) → (files : List File) → Option Reason
first_reason asked place [] = None
first_reason asked place (file ∷ files) = option_or (asked file place) (first_reason asked (place + 1) files)

-- the discovered inputs of the edge are unknown
abbrev pub by_discovery : EdgeFacts → Option Reason
by_discovery facts = if facts.is_unknown then Some UnknownInputs else None

-- the file at a place among the inputs that count is stale
abbrev pub by_input : Evidence → State → (path : List ℕ) → (place : ℕ) → Option Reason
by_input known s path place = if is_stale_file known s path then Some (StaleInput place) else None

-- the output at a place is missing
abbrev pub by_missing : Evidence → (path : List ℕ) → (place : ℕ) → Option Reason
by_missing known path place = if is_missing known path then Some (MissingOutput place) else None

-- What the log says of the output at a place: another command made it, unless the edge is a generator; or it was made before the newest
-- input. If the log does not have the output, that is the reason, unless the edge is a generator.
abbrev pub by_log : EdgeFacts → (newest : Option ℕ) → Option Entry → (place : ℕ) → Option Reason
by_log facts newest None place = if facts.generator then None else Some (NotLogged place)
by_log facts newest (Some entry) place =
    if not facts.generator && not (entry.hash == facts.command_hash) then Some (OtherCommand place)
    else (if is_before entry.time newest then Some (EarlierBuild place) else None)

-- The reason of an output, given its time and its entry in the log: it is missing; or it is older than the newest input, unless the
-- edge has `restat` and the log has the output; or the log has a reason.
abbrev pub by_output : EdgeFacts → (newest : Option ℕ) → (time : ℕ) → Option Entry → (place : ℕ) → Option Reason
by_output facts newest time entry place =
    if time == 0 then Some (MissingOutput place)
    else (if is_before (pos time) newest && not (facts.restat && is_some entry) then Some (OlderOutput place) else by_log facts newest entry place)

-- the first reason that an output gives
abbrev pub by_outputs : Evidence → EdgeFacts → (newest : Option ℕ) → EdgePaths → Option Reason
by_outputs known facts newest edge =
    first_reason (λ path place. by_output facts newest (known.disk_time path) (entry_of known.lines path) place) 0 (outputs_of edge)

-- A phony edge does not compare times: a missing output is a reason only if the edge has no input at all.
abbrev pub by_phony_outputs : Evidence → EdgePaths → Option Reason
by_phony_outputs known edge = if length (inputs_of edge) == 0 then first_reason (by_missing known) 0 (outputs_of edge) else None

-- the reason that the outputs of an edge give
abbrev pub by_files : Evidence → EdgeFacts → (newest : Option ℕ) → EdgePaths → Option Reason
by_files known facts newest edge = if edge.is_phony then by_phony_outputs known edge else by_outputs known facts newest edge

-- the reason of an edge: unknown discoveries, then its inputs from the left, then its outputs from the left
abbrev pub reason_of : Evidence → State → (edge : ℕ) → Option Reason
reason_of known s edge =
    let paths = edge_at known.edges edge in
    let facts = facts_at known edge in
    option_or (by_discovery facts)
    (option_or (first_reason (by_input known s) 0 (counted_inputs_of paths)) (by_files known facts (newest_input s paths) paths))

-- ---- the equations

-- the state of the build: the reason of each edge, and the time of each file
pub record IsStateOf (known : Evidence) (s : State) : Type 0 where
  pub edge : (edge : ℕ) → edge < length known.edges → s.reason edge ≡ reason_of known s edge
  pub source : (path : List ℕ) → maker_of known.edges path ≡ None → s.time path ≡ known.disk_time path
  pub output : (path : List ℕ) (edge : ℕ) → maker_of known.edges path ≡ Some edge → s.time path ≡ output_time known s edge path
