-- The keys of an older manifest, and the commands that it does not have.
use Rattle.std.proofs.Common.{◌≡◌, ◌<◌, ◌+◌, ℕ, true, Bor, List, [], ◌∷◌, ◌++◌, length, map}
use Rattle.std.proofs.Common.{take, get_or}
use Rattle.std.proofs.Common.{◌≤◌, All, Option, Some, None, append-nil, refl, sym, ap, ◌∙◌, arith}
use Rattle.std.specs.Prelude.{unwrap_or, not, nat_lt, slice_index_or, ◌==◌}
use Rattle.std.specs.List.{cons_option}
use Rattle.std.proofs.lemmas.List.{map_more}
use Rattle.std.proofs.lemmas.Bool.{ltb-true}
use Rattle.std.proofs.lemmas.List.Elements.{All-filter, All-map, filter_map-append}
use Rattle.nj_changes.specs.Tables.{SameNames}
use Rattle.nj_graph.specs.declared.EdgeNo.{EdgeNo}
use Rattle.nj_graph.specs.Edges.{is_among}
use Rattle.nj_keys.specs.declared.pages.EdgeKey.{EdgeKey}
use Rattle.nj_names.specs.NameTables.{with_name}
use Rattle.std.specs.Option.{option_or}
use Rattle.nj_graph.specs.ReadingList.{ReadStatement}
use Rattle.nj_graph.specs.Edges.{EdgePaths}
use Rattle.nj_graph.specs.Graph.{GraphModel}
use Rattle.nj_ask.specs.declared.failure.Failure.{Failure}
use Rattle.nj_ask.specs.declared.failure.Failure.TheVariants.{Refused, Write, OutOfMemory}
use Rattle.nj_ask.specs.declared.status.Status.TheVariants.{Fault, Usage}
use Rattle.nj_ask.specs.Inside.Failures.{FailsBy}
use Rattle.nj_ask.specs.Inside.Lent.{texts}
use Rattle.nj_ask.specs.Since.{has_output, key_of, keys_in, new_edges, AreNewCommands, IsWrongLine, LacksKeys}
use Rattle.nj_ask.specs.Since.LacksKeys.{wrong}
use Rattle.nj_ask.proofs.FailureLemmas.{fails-as}
use Rattle.nj_ask.proofs.MeantLemmas.{filter-same}
use Rattle.nj_ask.proofs.FlagLemmas.{and-both}
use Rattle.nj_ask.proofs.OpenedLemmas.{among-more}

-- the keys in one more line
pub keys-more : (lines : List (Bor (List ℕ))) (i : ℕ) (d : Bor (List ℕ)) → i < length lines
    → keys_in (texts (take (i + 1) lines))
    ≡ keys_in (texts (take i lines)) ++ cons_option (key_of (get_or lines i d).now) []
keys-more lines i d below =
    ap keys_in (map_more (λ (line : Bor (List ℕ)). line.now) lines i d below)
    ∙ filter_map-append key_of (texts (take i lines)) ((get_or lines i d).now ∷ [])

-- a table with the keys in some lines, after one more line
module _ (names : List (List ℕ)) (lines : List (Bor (List ℕ))) (i : ℕ) (d : Bor (List ℕ))
    (below : i < length lines)
    (held : SameNames names (keys_in (texts (take i lines)))) where
  abbrev before : List (List ℕ)
  before = keys_in (texts (take i lines))

  pub key-added : (key : List ℕ) (new : List (List ℕ)) → key_of (get_or lines i d).now ≡ Some key
      → new ≡ with_name names key → SameNames new (keys_in (texts (take (i + 1) lines)))
  key-added key new found is name =
      ap (λ ns. is_among ns name) is ∙ among-more names before key name held
      ∙ ap (λ ns. is_among ns name)
      (sym (keys-more lines i d below ∙ ap (λ o. before ++ cons_option o []) found))

  pub key-none : (new : List (List ℕ)) → key_of (get_or lines i d).now ≡ None → new ≡ names
      → SameNames new (keys_in (texts (take (i + 1) lines)))
  key-none new none is name =
      ap (λ ns. is_among ns name) is ∙ held name
      ∙ ap (λ ns. is_among ns name)
      (sym (keys-more lines i d below ∙ ap (λ o. before ++ cons_option o []) none ∙ append-nil before))

-- a line with an output has the digits of a key
pub output-bound : (line : List ℕ) → has_output line ≡ true → 64 ≤ length line
output-bound line is =
    let long = ltb-true 65 (length line)
    (and-both (nat_lt 65 (length line)) (slice_index_or line 64 0 == 32) is).0 in
    omega (arith, long)

-- new edges are edges of the graph
pub new-known : (count : ℕ) (old : List (List ℕ)) (keys : List EdgeKey)
    → All (λ (next : EdgeKey). next.edge.0 < count) keys
    → All (λ (edge : EdgeNo). edge.0 < count) (new_edges old keys)
new-known count old keys all =
    let p = λ (next : EdgeKey). not (is_among old next.key) in
    All-map (λ (edge : EdgeNo). edge.0 < count) (λ (next : EdgeKey). next.edge) _
    (All-filter p (λ (next : EdgeKey). next.edge.0 < count) keys all)

-- ---- what is new

-- the same by another table of the older keys
pub new-as : (g : GraphModel) (edges : List EdgePaths) (entries : List ReadStatement)
    (bases old others : List (List ℕ)) (commands : List ℕ) → SameNames old others
    → AreNewCommands g edges entries bases old commands → AreNewCommands g edges entries bases others commands
new-as g edges entries bases old others commands same are = record {
  keys = are.keys;
  have = are.have;
  new = are.new
      ∙ ap (λ (ks : List EdgeKey). map (λ (e : EdgeNo). e.0) (map (λ (next : EdgeKey). next.edge) ks))
      (filter-same (λ (next : EdgeKey). not (is_among old next.key))
      (λ (next : EdgeKey). not (is_among others next.key)) (λ next. ap not (same next.key)) are.keys);
}

-- a base of accepted options is absolute
pub bases-taken : {X : Type 0} (first bases last : Option X) → option_or first (option_or bases last) ≡ None
    → bases ≡ None
bases-taken None None last is = refl
bases-taken None (Some line) last is = absurd cc
bases-taken (Some line) bases last is = absurd cc

-- so none is refused
pub not-refused : (misuse : Option (List ℕ)) (Says : List ℕ → Type 0) (failure : Failure) → misuse ≡ None
    → FailsBy Usage (λ line. misuse ≡ Some line) failure → FailsBy Fault Says failure
not-refused misuse Says (Refused line given) none fails =
    let is = sym none ∙ fails.0 in absurd cc
not-refused misuse Says Write none fails = absurd fails
not-refused misuse Says OutOfMemory none fails = tt

-- a file that has no keys
pub lacks-keys : (path : Option (List ℕ)) (text : List ℕ) (failure : Failure)
    → FailsBy Fault (IsWrongLine (unwrap_or path []) text) failure
    → FailsBy Fault (LacksKeys path (Some text)) failure
lacks-keys path text failure fails =
    fails-as Fault (IsWrongLine (unwrap_or path []) text) (LacksKeys path (Some text)) failure
    (λ line is. wrong is) fails
