-- Worked rows, computed on the definitions: the additions of dyndep files to the statements of a
-- run, and how that ends.
use Rattle.std.proofs.Common.{◌≡◌, ℕ, true, if◌then◌else◌, Some, None, List, [], ◌∷◌, ◌++◌, map, bytes_eq}
use Rattle.std.proofs.Common.{refl}
use Rattle.std.specs.Prelude.{⊤, codes}
use Rattle.std.specs.Char.{encode_utf8}
use Rattle.std.specs.Str.{chars, is_utf8}
use Rattle.std.proofs.lemmas.Str.{IsUtf8-from_is_utf8}
use Rattle.nj_text.specs.Paths.{clean_path_of, without_leftmost_pair}
use Rattle.nj_text.specs.Units.{cut}
use Rattle.nj_manifest.specs.LineSteps.{name_next, expect_sign, words_within, words_next, section_next}
use Rattle.nj_manifest.specs.Statements.{equals_value}
use Rattle.nj_manifest.specs.Openings.{opening}
use Rattle.nj_manifest.specs.Dyndeps.{version_line, version_next, word_of_form, no_path, no_section}
use Rattle.nj_manifest.specs.Dyndeps.{output_next, added_inputs, entry_line, restat_block, next_entry}
use Rattle.nj_manifest.proofs.StatementRows.{on_strings, at}
use Rattle.nj_scope.specs.Readings.{Reading}
use Rattle.nj_scope.specs.ReadingList.{bounds}
use Rattle.nj_edge_env.specs.VariableCycles.{variable_cycle_of}
use Rattle.nj_edges.specs.Edges.{EdgePaths}
use Rattle.nj_manifest.specs.declared.cause.SyntaxCause.TheVariants.{DyndepVersion}
use Rattle.nj_faults.specs.declared.fault.Cause.TheVariants.{Syntax, Missing, PathNotText, DyndepExtra}
use Rattle.nj_faults.specs.declared.fault.Cause.TheVariants.{DyndepTwice, DyndepNoStatement}
use Rattle.nj_faults.specs.Faults.{fault_at}
use Rattle.nj_discovered.specs.declared.times.TimeFound.TheVariants.{Time}
use Rattle.nj_discovered.specs.Times.{DeclaredTimes}
use Rattle.nj_discovered.specs.Times.IsTimeOf.{asked}
use Rattle.nj_statements.specs.EdgeList.{Pending, edges_read, paths_of_edges, pending_read}
use Rattle.nj_statements.specs.Joining.{discover}
use Rattle.nj_graph.specs.Parsed.{parsed_in}
use Rattle.nj_graph.specs.Reading.{Whole, Refused, Lacking, statements_read, opened_in, main_read}
use Rattle.nj_graph.specs.Runs.{ReachedModel}
use Rattle.nj_graph.specs.Joining.{entries_of, entries_joined, file_joined, files_joined, all_joined}
use Rattle.nj_graph.specs.Joining.{ArePresent}
use Rattle.nj_graph.specs.Joining.ArePresent.{none, there, not_there}
use Rattle.nj_graph.proofs.ReadingRows.{main_file, file, missing, read_of}

-- the definitions that a row unfolds to compute on its files
unfoldable pub on_dyndeps : ⊤
unfolding on_strings is_utf8 chars encode_utf8 bounds clean_path_of without_leftmost_pair edges_read
    pending_read discover variable_cycle_of parsed_in statements_read opened_in main_read cut opening
    next_entry restat_block entry_line added_inputs output_next no_section no_path word_of_form version_next
    version_line equals_value name_next expect_sign words_next words_within section_next entries_of
    entries_joined file_joined files_joined all_joined
on_dyndeps = tt

-- ---- the facts of a row

-- `o` is bound to `dd`
abbrev one_edge : List ℕ
one_edge = codes "build o: phony i | j || dd\n  dyndep = dd\n"

-- `p` to `ee`, and `q` to `dd` too
abbrev three_edges : List ℕ
three_edges = one_edge ++ codes "build p: phony || ee\n  dyndep = ./ee\nbuild q: phony || dd\n  dyndep = dd\n"

-- the result of joining where the main file has this text
abbrev joined_of : (text : List ℕ) → (files : List Reading) → ReachedModel
joined_of text files = all_joined files (read_of text []).entries

-- the text of a dyndep file of the first version
abbrev dyndeps : (entries : List ℕ) → List ℕ
dyndeps entries = codes "ninja_dyndep_version = 1\n" ++ entries

-- where `dd` has the given entries
abbrev joined_by : (text entries : List ℕ) → ReachedModel
joined_by text entries = joined_of text (file (codes "dd") (dyndeps entries) ∷ [])

abbrev paths_joined : ReachedModel → List EdgePaths
paths_joined j = paths_of_edges (edges_read j.read.entries)

abbrev edge_of_o : (outputs inputs : List (List ℕ)) → EdgePaths
edge_of_o outputs inputs = record {
  explicit_outputs = codes "o" ∷ [];
  implicit_outputs = outputs;
  explicit_inputs = codes "i" ∷ [];
  implicit_inputs = codes "j" ∷ inputs;
  order_only_inputs = codes "dd" ∷ [];
  validations = [];
  is_phony = true;
}

-- ---- an entry

pub accepted : paths_joined (joined_by one_edge (codes "build o | m: dyndep | k l\n"))
    ≡ edge_of_o (codes "m" ∷ []) (codes "k" ∷ codes "l" ∷ []) ∷ []
unfolding on_dyndeps
accepted = refl

accepted_end : (joined_by one_edge (codes "build o | m: dyndep | k l\n")).read.end ≡ Whole
unfolding on_dyndeps
accepted_end = refl

accepted_paths : (joined_by one_edge (codes "build o: dyndep\n")).paths ≡ codes "dd" ∷ []
unfolding on_dyndeps
accepted_paths = refl

-- then no edge is pending
accepted_is_pending : pending_read (joined_by one_edge (codes "build o: dyndep\n")).read.entries ≡ []
unfolding on_dyndeps
accepted_is_pending = refl

-- ---- no file

no_file : (joined_of one_edge (missing (codes "dd") ∷ [])).read.end
    ≡ Refused (fault_at main_file (at 1 1) (Missing (codes "dd")))
unfolding on_dyndeps
no_file = refl

-- it is not in the table
not_reported : (joined_of one_edge []).read.end
    ≡ Lacking (codes "dd") (record { file = main_file; spot = at 1 1 })
unfolding on_dyndeps
not_reported = refl

not_reported_paths : (joined_of one_edge []).paths ≡ codes "dd" ∷ []
unfolding on_dyndeps
not_reported_paths = refl

-- nor is it where the path is not UTF-8
not_text : (joined_of (codes "build o: phony || " ++ 255 ∷ codes "\n  dyndep = " ++ 255 ∷ codes "\n")
    []).read.end ≡ Refused (fault_at main_file (at 1 1) PathNotText)
unfolding on_dyndeps
not_text = refl

not_text_paths : (joined_of (codes "build o: phony || " ++ 255 ∷ codes "\n  dyndep = " ++ 255 ∷ codes "\n")
    []).paths ≡ []
unfolding on_dyndeps
not_text_paths = refl

-- ---- the fault of a file

not_bound : (joined_by three_edges (codes "build p: dyndep\n")).read.end
    ≡ Refused (fault_at (codes "dd") (at 2 7) (DyndepExtra (codes "p")))
unfolding on_dyndeps
not_bound = refl

twice : (joined_by one_edge (codes "build o: dyndep\nbuild ./o: dyndep\n")).read.end
    ≡ Refused (fault_at (codes "dd") (at 3 7) (DyndepTwice (codes "o")))
unfolding on_dyndeps
twice = refl

no_entry : (joined_by one_edge []).read.end
    ≡ Refused (fault_at main_file (at 1 1) (DyndepNoStatement (codes "o") (codes "dd")))
unfolding on_dyndeps
no_entry = refl

-- the entries ahead of a fault of syntax come first
entry_first : (joined_by one_edge (codes "build x: dyndep\nbuild\n")).read.end
    ≡ Refused (fault_at (codes "dd") (at 2 7) (DyndepExtra (codes "x")))
unfolding on_dyndeps
entry_first = refl

no_version : (joined_of one_edge (file (codes "dd") (codes "build o: dyndep\n") ∷ [])).read.end
    ≡ Refused (fault_at (codes "dd") (at 1 1) (Syntax DyndepVersion))
unfolding on_dyndeps
no_version = refl

-- ---- two files

abbrev both : List Reading
both = file (codes "ee") (dyndeps (codes "build p: dyndep | k\n")) ∷ file (codes "dd")
    (dyndeps (codes "build q: dyndep\nbuild o | m: dyndep\n")) ∷ []

-- in the order of the first edges, by clean paths
two_files : (joined_of three_edges both).paths ≡ codes "dd" ∷ codes "ee" ∷ []
unfolding on_dyndeps
two_files = refl

two_files_end : (joined_of three_edges both).read.end ≡ Whole
unfolding on_dyndeps
two_files_end = refl

two_files_outputs : map (λ e. e.implicit_outputs) (paths_joined (joined_of three_edges both))
    ≡ (codes "m" ∷ []) ∷ [] ∷ [] ∷ []
unfolding on_dyndeps
two_files_outputs = refl

two_files_inputs : map (λ e. e.implicit_inputs) (paths_joined (joined_of three_edges both))
    ≡ (codes "j" ∷ []) ∷ (codes "k" ∷ []) ∷ [] ∷ []
unfolding on_dyndeps
two_files_inputs = refl

-- the second file does not exist
second_missing : (joined_of three_edges
    (file (codes "dd") (dyndeps (codes "build q: dyndep\nbuild o: dyndep\n")) ∷ missing (codes "ee") ∷
    [])).read.end ≡ Refused (fault_at main_file (at 3 1) (Missing (codes "ee")))
unfolding on_dyndeps
second_missing = refl

-- ---- the second file alone

abbrev dd : (edge : ℕ) → Pending
dd edge = record { edge = edge; file = codes "dd" }

abbrev ee : Pending
ee = record { edge = 1; file = codes "ee" }

abbrev ee_alone : ReachedModel
ee_alone = files_joined both (read_of three_edges []).entries (ee ∷ []) (read_of three_edges []).entries

ee_alone_paths : ee_alone.paths ≡ codes "ee" ∷ []
unfolding on_dyndeps
ee_alone_paths = refl

ee_alone_inputs : map (λ e. e.implicit_inputs) (paths_joined ee_alone)
    ≡ (codes "j" ∷ []) ∷ (codes "k" ∷ []) ∷ [] ∷ []
unfolding on_dyndeps
ee_alone_inputs = refl

-- the edges that are bound to the other file stay pending
ee_alone_is_joined : pending_read ee_alone.read.entries ≡ dd 0 ∷ dd 2 ∷ []
unfolding on_dyndeps
ee_alone_is_joined = refl

-- a source of times has only the time of the second file
abbrev times_of_ee : DeclaredTimes
times_of_ee path = if bytes_eq path (codes "ee") then Some (Time (Some 5)) else Some (Time None)

are_texts : (is_utf8 (codes "dd") ≡ true) × (is_utf8 (codes "ee") ≡ true)
unfolding on_dyndeps
are_texts = (refl, refl)

ee_alone_is_there : ArePresent times_of_ee (dd 0 ∷ ee ∷ []) (ee ∷ [])
ee_alone_is_there =
    there ee (not_there (dd 0) none (asked (IsUtf8-from_is_utf8 (codes "dd") are_texts.0) refl))
    (asked (IsUtf8-from_is_utf8 (codes "ee") are_texts.1) refl)
