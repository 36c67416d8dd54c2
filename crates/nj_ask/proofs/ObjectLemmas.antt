-- Stale edges as objects: their times, and the texts that are appended.
use Rattle.std.proofs.Common.{◌≡◌, ◌<◌, ◌++◌, ◌∷◌, ◌==◌, ℕ, zero, suc, true, false, Bool, true≢false}
use Rattle.std.proofs.Common.{Option, Some, None}
use Rattle.std.proofs.Common.{List, [], length, option_map, slice_get, unwrap_or, bytes_eq, codes}
use Rattle.std.proofs.Common.{append_assoc, arith, refl, sym, ap, subst, ◌∙◌}
use Rattle.std.specs.Prelude.{IfSome, if◌then◌else◌, ℤ, pos, negsuc, slice_index}
use Rattle.std.specs.Fmt.{signed_decimal}
use Rattle.std.specs.List.{AllByRecursion, IsDistinct}
use Rattle.std.specs.Str.Lossy.{utf8_lossy}
use Rattle.std.proofs.lemmas.Slice.Eq.{bytes_eq-Decides}
use Rattle.serde_json.specs.Data.{number, string}
use Rattle.serde_json.specs.Written.{compact_text}
use Rattle.serde_json.proofs.OnLiterals.{serde_json_on_literals}
use Rattle.nj_names.specs.Files.{AreFiles, path_at}
use Rattle.nj_names.specs.NameTables.{name_at}
use Rattle.nj_build_log.specs.Logs.{LineModel}
use Rattle.nj_edges.specs.EdgeGraphs.{EdgeGraph}
use Rattle.nj_edges.specs.Edges.{edge_at, maker_of, outputs_of}
use Rattle.nj_graph.specs.declared.EdgeNo.{EdgeNo}
use Rattle.nj_graph.specs.declared.FileNo.{FileNo}
use Rattle.nj_stale.specs.Inside.Held.{time_by}
use Rattle.nj_stale.specs.Numbered.{AreLentBy, evidence_of, time_of}
use Rattle.nj_stale.specs.States.{Evidence, State, IsStateOf}
use Rattle.nj_stale.specs.declared.evidence.EdgeFacts.{EdgeFacts}
use Rattle.nj_state.specs.declared.commands.StaleEdge.{StaleEdge}
use Rattle.nj_ask.specs.Affected.{line}
use Rattle.nj_ask.specs.StaleObjects.{integer, newer_time, number_value, older_time, path_value, reason_file}
use Rattle.nj_ask.specs.StaleObjects.{reason_word, stale_object}

-- ---- times

differs-back : (one two : List ℕ) → bytes_eq one two ≡ false → bytes_eq two one ≡ false
differs-back one two differ = by (bytes_eq two one) refl
  where
    by : (b : Bool) → bytes_eq two one ≡ b → b ≡ false
    by true same = absurd (true≢false (sym ((bytes_eq-Decides one two).1
        (sym ((bytes_eq-Decides two one).0 same))) ∙ differ))
    by false same = refl

differs-at : (file : List ℕ) (files : List (List ℕ)) (n : ℕ)
    → AllByRecursion (λ f. bytes_eq file f ≡ false) files
    → n < length files → bytes_eq file (unwrap_or (slice_get files n) []) ≡ false
differs-at file [] n all within = absurd (omega arith)
differs-at file (first ∷ files) zero all within = all.0
differs-at file (first ∷ files) (suc n) all within = differs-at file files n all.1 (omega arith)

-- the time of the path of a file is that of the file
pub time-at : (files : List (List ℕ)) (times : List ℕ) (n : ℕ) → IsDistinct bytes_eq files
    → length times ≡ length files → n < length files
    → time_of files times (name_at files n) ≡ slice_index times n
unfolding IsDistinct
time-at [] times n distinct count within = absurd (omega arith)
time-at (file ∷ files) [] n distinct count within = absurd (omega arith)
time-at (file ∷ files) (time ∷ times) zero distinct count within =
    ap (λ b. if b then time else time_of files times file) ((bytes_eq-Decides file file).1 refl)
time-at (file ∷ files) (time ∷ times) (suc n) distinct count within =
    let path = unwrap_or (slice_get files n) [] in
    ap (λ b. if b then time else time_of files times path)
    (differs-back file path (differs-at file files n distinct.0 (omega arith)))
    ∙ time-at files times n distinct.1 (omega arith) (omega arith)

-- the time that a file has as an input
pub input-time : (g : EdgeGraph) (facts : List EdgeFacts) (times : List ℕ) (lines : List LineModel)
    (lent : List ℕ) (s : State) → IsStateOf (evidence_of g facts times lines) s
    → AreLentBy g.edges s lent → (path : List ℕ) (maker : Option ℕ) → maker_of g.edges path ≡ maker
    → ((edge : ℕ) → maker ≡ Some edge → edge < length g.edges)
    → time_by maker (time_of g.files times path) lent ≡ s.time path
input-time g facts times lines lent s of lends path None none within = sym (of.source path none)
input-time g facts times lines lent s of lends path (Some edge) made within =
    ap (λ n. if time_of g.files times path == 0 then n else time_of g.files times path)
    (lends edge (within edge refl))
    ∙ sym (of.output path edge made)

-- a maker is an edge of the graph
pub maker-within : (count : ℕ) (maker : Option EdgeNo) → IfSome maker (λ (e : EdgeNo). e.0 < count)
    → (edge : ℕ) → option_map (λ (e : EdgeNo). e.0) maker ≡ Some edge → edge < count
maker-within count None known edge is = absurd (cc)
maker-within count (Some e) known edge is =
    let same : e.0 ≡ edge = cc in subst (λ n. n < count) same known

-- ---- places

-- the path of the file at a place
pub path-at-place : (files : List (List ℕ)) (numbers : List FileNo) (paths : List (List ℕ)) (place : ℕ)
    → AreFiles files numbers paths
    → option_map (path_at files) (slice_get numbers place) ≡ slice_get paths place
path-at-place files [] [] place are = refl
path-at-place files [] (path ∷ paths) place are = absurd (cc)
path-at-place files (n ∷ numbers) [] place are = absurd (cc)
path-at-place files (n ∷ numbers) (path ∷ paths) zero are =
    let head : slice_get files n.0 ≡ Some path = cc in
    ap Some (ap (λ (o : Option (List ℕ)). unwrap_or o []) head)
path-at-place files (n ∷ numbers) (path ∷ paths) (suc place) are =
    path-at-place files numbers paths place (let rest : AreFiles files numbers paths = cc in rest)

-- ---- texts

-- an integer in JSON
pub integer-text : (z : ℤ) → signed_decimal z ≡ compact_text (number (integer z))
integer-text (pos n) = refl
integer-text (negsuc n) = refl

-- the parts of an object
parts-of : (old a output b word c file d older e newer f : List ℕ)
    → ((((((((((old ++ a) ++ output) ++ b) ++ word) ++ c) ++ file) ++ d) ++ older) ++ e) ++ newer) ++ f
    ≡ old ++ (a ++ (output ++ (b ++ (word ++ (c ++ (file ++ (d ++ (older ++ (e ++ (newer ++ f))))))))))
parts-of old a output b word c file d older e newer f = simp append_assoc

module _ (known : Evidence) (s : State) (stale : StaleEdge) where
  abbrev output : List ℕ
  output = compact_text (string (utf8_lossy (name_at (outputs_of (edge_at known.edges stale.edge.0)) 0)))

  abbrev word : List ℕ
  word = compact_text (string (reason_word known.edges (edge_at known.edges stale.edge.0) stale.reason))

  abbrev file : List ℕ
  file = compact_text (path_value (reason_file (edge_at known.edges stale.edge.0) stale.newest stale.reason))

  abbrev older : List ℕ
  older = compact_text (number_value (older_time known (edge_at known.edges stale.edge.0) stale.reason))

  abbrev newer : List ℕ
  newer = compact_text (number_value (newer_time s (edge_at known.edges stale.edge.0) stale.newest
      stale.reason))

  object-text : line (compact_text (stale_object known s stale))
      ≡ codes "{\"output\":" ++ (output ++ (codes ",\"reason\":" ++ (word ++ (codes ",\"file\":" ++ (file
      ++ (codes ",\"time\":" ++ (older ++ (codes ",\"file_time\":" ++ (newer ++ codes "}\n")))))))))
  unfolding serde_json_on_literals
  object-text = simp append_assoc

  pub stale-object-is : (old : List ℕ)
      → ((((((((((old ++ codes "{\"output\":") ++ output) ++ codes ",\"reason\":") ++ word)
      ++ codes ",\"file\":") ++ file) ++ codes ",\"time\":") ++ older) ++ codes ",\"file_time\":") ++ newer)
      ++ codes "}\n"
      ≡ old ++ line (compact_text (stale_object known s stale))
  stale-object-is old =
      parts-of old (codes "{\"output\":") output (codes ",\"reason\":") word (codes ",\"file\":") file
      (codes ",\"time\":") older (codes ",\"file_time\":") newer (codes "}\n")
      ∙ ap (λ t. old ++ t) (sym object-text)
