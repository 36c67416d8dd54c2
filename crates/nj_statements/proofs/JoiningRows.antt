-- Worked rows, computed on the definitions: the additions of dyndep files' entries to edges, and
-- their faults.
use Rattle.std.proofs.Common.{false, ◌≡◌, ℕ, Some, None, List, [], ◌∷◌, refl}
use Rattle.std.specs.Prelude.{codes, true, Option}
use Rattle.nj_text.specs.declared.spot.Spot.{Spot}
use Rattle.nj_text.specs.Words.{Text, Name, WordModel}
use Rattle.nj_text.specs.Paths.{clean_path_of, without_leftmost_pair}
use Rattle.nj_manifest.specs.Statements.{BuildModel}
use Rattle.nj_manifest.specs.Dyndeps.{EntryModel}
use Rattle.nj_scope.specs.ReadingList.{ReadStatement, bounds}
use Rattle.nj_edges.specs.Edges.{edge_at}
use Rattle.nj_faults.specs.declared.fault.GraphFault.{GraphFault}
use Rattle.nj_faults.specs.declared.fault.Cause.{Cause}
use Rattle.nj_faults.specs.declared.fault.Cause.TheVariants.{EmptyPath, TwoMakers, DyndepExtra, DyndepTwice}
use Rattle.nj_faults.specs.declared.fault.Cause.TheVariants.{DyndepNoStatement}
use Rattle.nj_faults.specs.Faults.{fault_at}
use Rattle.nj_statements.specs.EdgeList.{Pending, edges_read, paths_of_edges, pending_read, restats_read}
use Rattle.nj_statements.specs.Joining.{discover, with_entry, entry_fault, lacking_fault, dyndep_files}
use Rattle.nj_statements.specs.Logged.{with_inputs_named}

-- ---- the main file

abbrev at : (line column : ℕ) → Spot
at line column = record { line = line; column = column }

abbrev word : (column : ℕ) → (text : List ℕ) → WordModel
word column text = record { spot = at 2 column; parts = Text text ∷ [] }

-- a build statement on a line of its own, with an explicit output, an implicit one and one input of each kind
abbrev build : (line : ℕ) → (output implicit dyndep : List ℕ) → ReadStatement
build line output implicit dyndep = record {
  file = codes "build.ninja";
  spot = at line 1;
  depth = 0;
  scope = 0;
  around = [];
  item = BuildModel (record { explicit = word 7 output ∷ []; implicit = word 9 implicit ∷ [] })
      (record { spot = at 2 11; name = codes "phony" })
      (record {
        explicit = word 17 (codes "x") ∷ [];
        implicit = word 19 (codes "y") ∷ [];
        order_only =
            word 21 (codes "dd") ∷ word 24 (codes "ee") ∷ [];
        validations = [];
      })
      (record { spot = at 2 3; name = codes "dyndep"; value = word 12 dyndep } ∷ []);
  was_joined = false;
  discovered = None;
}

-- `build o | m: phony x | y || dd ee` and two more, with `dyndep = dd`, `dyndep = ee` and `dyndep = ./dd`
abbrev stated : List ReadStatement
stated = build 3 (codes "q") (codes "r") (codes "./dd") ∷ build 2 (codes "p") (codes "n") (codes "ee") ∷ build
    1 (codes "o") (codes "m") (codes "dd") ∷ []

abbrev pending : (edge : ℕ) → (file : List ℕ) → Pending
pending edge file = record { edge = edge; file = file }

-- each file once, with its first edge
pub row-files : dyndep_files (pending_read stated) ≡ pending 0 (codes "dd") ∷ pending 1 (codes "ee") ∷ []
unfolding clean_path_of without_leftmost_pair edges_read bounds pending_read
row-files = refl

-- ---- entries of the file `dd`

-- `build OUT | OUTS: dyndep | INS`
abbrev entry : (out : List ℕ) → (outs ins : List WordModel) → EntryModel
entry out outs ins = record { out = word 7 out; outs = outs; ins = ins; restat = false }

-- `build o | o2: dyndep | extra`
abbrev of_o : EntryModel
of_o = entry (codes "o") (word 11 (codes "o2") ∷ []) (word 24 (codes "extra") ∷ [])

abbrev joined : List ReadStatement
joined = with_entry stated stated of_o

-- the fault of an entry, where nothing was joined before
abbrev wrong_with : EntryModel → Option GraphFault
wrong_with e = entry_fault (codes "dd") stated stated e

-- after the entry of `o`
abbrev wrong_after : EntryModel → Option GraphFault
wrong_after e = entry_fault (codes "dd") stated joined e

abbrev wrong : (column : ℕ) → Cause → Option GraphFault
wrong column cause = Some (fault_at (codes "dd") (at 2 column) cause)

pub row-accepted : wrong_with of_o ≡ None
unfolding clean_path_of without_leftmost_pair edges_read bounds pending_read discover
row-accepted = refl

-- the discovered files come after the implicit ones, before the order-only inputs
pub row-joined : edge_at (paths_of_edges (edges_read joined)) 0 ≡ record {
  explicit_outputs = codes "o" ∷ [];
  implicit_outputs = codes "m" ∷ codes "o2" ∷ [];
  explicit_inputs = codes "x" ∷ [];
  implicit_inputs = codes "y" ∷ codes "extra" ∷ [];
  order_only_inputs = codes "dd" ∷ codes "ee" ∷ [];
  validations = [];
  is_phony = true;
}
unfolding clean_path_of without_leftmost_pair edges_read bounds pending_read discover
row-joined = refl

-- no other edge has more
pub row-others : edge_at (paths_of_edges (edges_read joined)) 2
    ≡ edge_at (paths_of_edges (edges_read stated)) 2
unfolding clean_path_of without_leftmost_pair edges_read bounds pending_read discover
row-others = refl

-- the edge is not pending any more
pub row-unjoined : pending_read joined ≡ pending 1 (codes "ee") ∷ pending 2 (codes "dd") ∷ []
unfolding clean_path_of without_leftmost_pair edges_read bounds pending_read discover
row-unjoined = refl

-- `build q: dyndep` with `restat = 1` in its block
abbrev restat_of_q : EntryModel
restat_of_q = record (entry (codes "q") [] []) { restat = true }

-- no edge has it before, and then its edge alone
pub row-no_restat : restats_read joined ≡ false ∷ false ∷ false ∷ []
unfolding clean_path_of without_leftmost_pair edges_read bounds discover restats_read
row-no_restat = refl

pub row-restat : restats_read (with_entry stated joined restat_of_q) ≡ false ∷ false ∷ true ∷ []
unfolding clean_path_of without_leftmost_pair edges_read bounds discover restats_read
row-restat = refl

-- inputs that a deps log names do not change it
pub row-restat_logged : restats_read (with_inputs_named (λ edge. codes "h" ∷ [])
    (with_entry stated joined restat_of_q)) ≡ false ∷ false ∷ true ∷ []
unfolding clean_path_of without_leftmost_pair edges_read bounds discover restats_read with_inputs_named
row-restat_logged = refl

-- `build ./m: dyndep`: an implicit output names the statement too, by its clean path
pub row-implicit : wrong_with (entry (codes "./m") [] []) ≡ None
unfolding clean_path_of without_leftmost_pair edges_read bounds pending_read discover
row-implicit = refl

-- `build $e: dyndep`: a dyndep file binds no name
pub row-empty_path : wrong_with (record
    { out = record { spot = at 2 7; parts = Name (codes "e") ∷ [] }; outs = []; ins = []; restat = false })
    ≡ wrong 7 EmptyPath
unfolding clean_path_of without_leftmost_pair edges_read bounds pending_read discover
row-empty_path = refl

-- `build zz: dyndep`: no statement makes it
pub row-no_maker : wrong_with (entry (codes "zz") [] []) ≡ wrong 7 (DyndepExtra (codes "zz"))
unfolding clean_path_of without_leftmost_pair edges_read bounds pending_read discover
row-no_maker = refl

-- `build p: dyndep`: its statement is bound to `ee`
pub row-other_file : wrong_with (entry (codes "p") [] []) ≡ wrong 7 (DyndepExtra (codes "p"))
unfolding clean_path_of without_leftmost_pair edges_read bounds pending_read discover
row-other_file = refl

-- `build o2: dyndep` after the entry that discovers `o2`
pub row-discovered_names_none : wrong_after (entry (codes "o2") [] []) ≡ wrong 7 (DyndepExtra (codes "o2"))
unfolding clean_path_of without_leftmost_pair edges_read bounds pending_read discover
row-discovered_names_none = refl

-- `build m: dyndep` after the entry of `o`: both denote one statement
pub row-twice : wrong_after (entry (codes "m") [] []) ≡ wrong 7 (DyndepTwice (codes "m"))
unfolding clean_path_of without_leftmost_pair edges_read bounds pending_read discover
row-twice = refl

-- `build o | n: dyndep`: the edge of `p` makes it
pub row-two_makers : wrong_with (entry (codes "o") (word 11 (codes "n") ∷ []) [])
    ≡ wrong 11 (TwoMakers (codes "n"))
unfolding clean_path_of without_leftmost_pair edges_read bounds pending_read discover
row-two_makers = refl

-- `build q | o2: dyndep` after the entry that discovers `o2` for another edge
pub row-discovered_before : wrong_after (entry (codes "q") (word 11 (codes "o2") ∷ []) [])
    ≡ wrong 11 (TwoMakers (codes "o2"))
unfolding clean_path_of without_leftmost_pair edges_read bounds pending_read discover
row-discovered_before = refl

-- `build o | o2 o2: dyndep`
pub row-named_twice : wrong_with (entry (codes "o") (word 11 (codes "o2") ∷ word 14 (codes "o2") ∷ []) [])
    ≡ wrong 14 (TwoMakers (codes "o2"))
unfolding clean_path_of without_leftmost_pair edges_read bounds pending_read discover
row-named_twice = refl

-- `build zz | n: dyndep`: the meaning of the entry comes before its discoveries
pub row-meaning_first : wrong_with (entry (codes "zz") (word 12 (codes "n") ∷ []) [])
    ≡ wrong 7 (DyndepExtra (codes "zz"))
unfolding clean_path_of without_leftmost_pair edges_read bounds pending_read discover
row-meaning_first = refl

-- ---- after the last entry

-- the first edge without an entry is named by its first output
pub row-lacking : lacking_fault (codes "dd") joined
    ≡ Some (fault_at (codes "build.ninja") (at 3 1) (DyndepNoStatement (codes "q") (codes "dd")))
unfolding clean_path_of without_leftmost_pair edges_read bounds pending_read discover
row-lacking = refl

-- `build q: dyndep` after it: no edge is pending on `dd`
pub row-none_lacking : lacking_fault (codes "dd") (with_entry stated joined (entry (codes "q") [] [])) ≡ None
unfolding clean_path_of without_leftmost_pair edges_read bounds pending_read discover
row-none_lacking = refl
