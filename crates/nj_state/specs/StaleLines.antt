-- The lines about stale edges.
use Rattle.std.specs.Prelude.{ℕ, Bool, true, false, Option, Some, None, List, [], ◌∷◌, ◌++◌, codes, slice_get}
use Rattle.nj_names.specs.NameTables.{name_at}
use Rattle.nj_edges.specs.Edges.{EdgePaths, edge_at, inputs_of, maker_of, outputs_of}
use Rattle.nj_stale.specs.declared.reason.Reason.{Reason}
use Rattle.nj_stale.specs.declared.reason.Reason.TheVariants.{UnknownInputs, StaleInput, MissingOutput, OlderOutput, OtherCommand, EarlierBuild, NotLogged}
use Rattle.nj_state.specs.declared.commands.StaleEdge.{StaleEdge}

-- the words about an input: a source is missing, and a file that an edge makes is stale
abbrev pub input_words : (maker : Option ℕ) → List ℕ
input_words None = codes " is missing"
input_words (Some edge) = codes " is stale"

-- an input, and the words about it
abbrev pub input_text : List EdgePaths → Option (List ℕ) → List ℕ
input_text edges None = []
input_text edges (Some path) = path ++ input_words (maker_of edges path)

-- the output at a place, and the words about it
abbrev pub output_text : EdgePaths → (place : ℕ) → (words : List ℕ) → List ℕ
output_text e place words = name_at (outputs_of e) place ++ words

-- the newest of the inputs that count, given its place
abbrev pub newest_path : EdgePaths → (newest : Option ℕ) → List ℕ
newest_path e None = []
newest_path e (Some place) = name_at (inputs_of e) place

-- the newest input, and the words about it
abbrev pub newest_text : EdgePaths → (newest : Option ℕ) → (words : List ℕ) → List ℕ
newest_text e newest words = newest_path e newest ++ words

-- the reason of an edge with the given paths, in words
abbrev pub reason_text : List EdgePaths → EdgePaths → (newest : Option ℕ) → Reason → List ℕ
reason_text edges e newest UnknownInputs = codes "its discovered inputs are not known"
reason_text edges e newest (StaleInput place) = input_text edges (slice_get (inputs_of e) place)
reason_text edges e newest (MissingOutput place) = output_text e place (codes " is missing")
reason_text edges e newest (OlderOutput place) = newest_text e newest (codes " is newer")
reason_text edges e newest (OtherCommand place) = codes "the command changed"
reason_text edges e newest (EarlierBuild place) = newest_text e newest (codes " is newer than the last build")
reason_text edges e newest (NotLogged place) = output_text e place (codes " is not in the build log")

-- the reason after a colon, if it is requested
abbrev pub why_text : (why : Bool) → List EdgePaths → StaleEdge → List ℕ
why_text false edges stale = []
why_text true edges stale = codes ": " ++ reason_text edges (edge_at edges stale.edge.0) stale.newest stale.reason

-- the line of a stale edge: its first output, and why it is stale, if that is requested
abbrev pub stale_line : (why : Bool) → List EdgePaths → StaleEdge → List ℕ
stale_line why edges stale = name_at (outputs_of (edge_at edges stale.edge.0)) 0 ++ (why_text why edges stale ++ 10 ∷ [])
