-- Two searches for discovered inputs, in sources that declare the same.
use Rattle.std.proofs.Common.{◌≡◌, inl, inr, ℕ, ◌<◌, true, false, cond, Option, Some, None, Result}
use Rattle.std.proofs.Common.{Ok, Err, IfOk, length}
use Rattle.std.proofs.Common.{List, refl, sym, ap, subst, ◌∙◌, unwrap_or, IfSome, is_some}
use Rattle.std.specs.Prelude.{option_and_then}
use Rattle.std.specs.Str.{is_utf8}
use Rattle.std.proofs.lemmas.Option.{same_Some}
use Rattle.std.proofs.lemmas.Str.{is_utf8-from_IsUtf8}
use Rattle.std.specs.Prelude.{codes}
use Rattle.nj_text.specs.Calls.{is_empty}
use Rattle.nj_scope.specs.ReadingList.{ReadStatement}
use Rattle.nj_scope.specs.Sources.{SourceState, Rises}
use Rattle.nj_edges.specs.Edges.{EdgePaths, edge_at, first_output}
use Rattle.nj_deps.specs.Logs.{LogModel, OutputModel}
use Rattle.nj_discovered.specs.Times.{DeclaredTimes, IsTimeOf}
use Rattle.nj_discovered.specs.Discovered.{Discovery, IsByLog, IsTextOf, IsByText, IsDiscovered, TextFound}
use Rattle.nj_discovered.specs.Discovered.{record_of, by_record, by_text}
use Rattle.nj_discovered.specs.Discovered.IsByLog.{no_record, recorded}
use Rattle.nj_discovered.specs.Discovered.IsDiscovered.{from_log, from_depfile, from_neither}
use Rattle.nj_discovered.specs.Discovered.TextFound.{Text, Unreadable}
use Rattle.nj_discovered.specs.Discoveries.{DiscoveriesModel}
use Rattle.nj_statements.specs.EdgeList.{edges_read, paths_of_edges}
use Rattle.nj_graph.specs.Discovering.{AreDiscovered}
use Rattle.nj_graph.specs.Graph.{late_text_of}
use Rattle.nj_graph.proofs.JoiningTables.{name-bad}
use Rattle.nj_agreement.specs.Agreement.{AgreeIfOk}
use Rattle.nj_agreement.specs.Graphs.{SameDiscoveries}
use Rattle.nj_agreement.specs.Sources.{DeclareSame, TellAll}
use Rattle.nj_agreement.proofs.DeclaredAnswers.{answer-at, declared-is}

-- ---- by the log

module _ (times : DeclaredTimes) (log : LogModel) (edge : EdgePaths)
    (told : (output : List ℕ) → first_output edge ≡ Some output → is_some (times output) ≡ true)
  where
    output-record : Option OutputModel
    output-record = option_and_then (record_of log) (first_output edge)

    has-record : (output : List ℕ) (o : OutputModel) → first_output edge ≡ Some output
        → record_of log output ≡ Some o
        → option_and_then (record_of log) (first_output edge) ≡ Some o
    has-record output o is there = ap (option_and_then (record_of log)) is ∙ there

    logs-agree : (one other : Discovery) → IsByLog times log edge one → IsByLog times log edge other
        → one ≡ other
    logs-agree one other (no_record none is) (no_record none2 also) = is ∙ sym also
    logs-agree one other (no_record none is) (recorded output o time first there at also) =
        absurd (let e = sym none ∙ has-record output o first there in cc)
    logs-agree one other (recorded output o time first there at is) (no_record none also) =
        absurd (let e = sym none ∙ has-record output o first there in cc)
    logs-agree one other (recorded output o time first there at is)
        (recorded output2 p time2 first2 there2 at2 also) =
        let outputs : output ≡ output2 = same_Some output output2 (sym first ∙ first2) in
        let records : o ≡ p = same_Some o p (sym there ∙ ap (record_of log) outputs ∙ there2) in
        let answers : time ≡ time2 = answer-at times output (told output first) time at
        ∙ sym (answer-at times output (told output first) time2
        (subst (λ path. IsTimeOf times path time2) (sym outputs) at2))
        in
        is ∙ ap (λ r. by_record log r time) records ∙ ap (by_record log p) answers ∙ sym also

-- ---- by the text

-- what is declared at the path of a depfile
text_at : (files : List ℕ → Option (Option (List ℕ))) → (depfile : List ℕ) → TextFound
text_at files depfile = cond (is_utf8 depfile) (Text (unwrap_or (files depfile) None)) Unreadable

module _ (files : List ℕ → Option (Option (List ℕ))) (before after : SourceState)
    (same : (path : List ℕ) → before.files path ≡ files path)
    (quiet : ¬ Rises before.failures after.failures)
  where
    text-is : (depfile : List ℕ) → (is_utf8 depfile ≡ true → is_some (files depfile) ≡ true)
        → (text : TextFound) → IsTextOf before after depfile text
        → text ≡ text_at files depfile
    unfolding text_at
    text-is depfile given (Text bytes) (utf8, meant) =
        ap Text (declared-is (files depfile) bytes None (given (is_utf8-from_IsUtf8 depfile utf8))
        (subst (λ o. IfSome o (λ meant. bytes ≡ meant)) (same depfile) meant))
        ∙ sym (ap (λ b. cond b (Text (unwrap_or (files depfile) None)) Unreadable)
        (is_utf8-from_IsUtf8 depfile utf8))
    text-is depfile given Unreadable (inl bad) =
        sym (ap (λ b. cond b (Text (unwrap_or (files depfile) None)) Unreadable) (name-bad depfile bad))
    text-is depfile given Unreadable (inr failed) = absurd (quiet failed)

-- ---- for all edges

-- the time of the first output is declared, and so is the depfile where it matters
pub record IsTold (files : List ℕ → Option (Option (List ℕ))) (times : DeclaredTimes) (edge : EdgePaths)
    (deps depfile : List ℕ) : Type 0 where
  pub time : (output : List ℕ) → first_output edge ≡ Some output → is_some (times output) ≡ true
  pub text : is_empty deps ≡ true → is_empty depfile ≡ false → is_utf8 depfile ≡ true
      → is_some (files depfile) ≡ true

module _ (before after before2 after2 : SourceState)
    (same : (path : List ℕ) → before2.files path ≡ before.files path)
    (quiet : ¬ Rises before.failures after.failures) (quiet2 : ¬ Rises before2.failures after2.failures)
    (times : DeclaredTimes) (log : LogModel)
  where
    texts-agree : (edge : EdgePaths) (depfile : List ℕ)
        → (is_utf8 depfile ≡ true → is_some (before.files depfile) ≡ true) → (one other : Discovery)
        → IsByText before after edge depfile one → IsByText before2 after2 edge depfile other → one ≡ other
    texts-agree edge depfile given one other (text, is, found) (text2, also, found2) =
        found ∙ ap (by_text edge) (text-is before.files before after (λ path. refl) quiet depfile given text
        is
        ∙ sym (text-is before.files before2 after2 same quiet2 depfile given text2 also)) ∙ sym found2

    edges-agree : (edge : EdgePaths) (deps depfile : List ℕ) → IsTold before.files times edge deps depfile
        → (one other : Discovery)
        → IsDiscovered before after times log edge deps depfile one
        → IsDiscovered before2 after2 times log edge deps depfile other → one ≡ other
    edges-agree edge deps depfile told one other (from_log some is) (from_log some2 also) =
        logs-agree times log edge told.time one other is also
    edges-agree edge deps depfile told one other (from_log some is) (from_depfile none _ also) = absurd cc
    edges-agree edge deps depfile told one other (from_log some is) (from_neither none _ also) = absurd cc
    edges-agree edge deps depfile told one other (from_depfile none _ is) (from_log some also) = absurd cc
    edges-agree edge deps depfile told one other (from_depfile none some is) (from_depfile none2 some2 also) =
        texts-agree edge depfile (told.text none some) one other is also
    edges-agree edge deps depfile told one other (from_depfile none some is) (from_neither none2 none3 also) =
        absurd cc
    edges-agree edge deps depfile told one other (from_neither none _ is) (from_log some also) = absurd cc
    edges-agree edge deps depfile told one other (from_neither none none2 is) (from_depfile none3 some also) =
        absurd cc
    edges-agree edge deps depfile told one other (from_neither none none2 is)
        (from_neither none3 none4 also) =
        is ∙ sym also

    -- where what matters is declared
    pub told-agree : (entries : List ReadStatement) (one other : DiscoveriesModel)
        → ((e : ℕ) → e < length (edges_read entries) → IsTold before.files times
        (edge_at (paths_of_edges (edges_read entries)) e) (late_text_of entries e (codes "deps"))
        (late_text_of entries e (codes "depfile")))
        → AreDiscovered before after times log entries one
        → AreDiscovered before2 after2 times log entries other → SameDiscoveries one other
    told-agree entries one other told is also = record {
      count = is.count ∙ sym also.count;
      each = λ e below.
          let within = subst (λ n. e < n) is.count below in
          edges-agree _ _ _ (told e within) _ _ (is.each e within) (also.each e within);
    }

module _ (before after before2 after2 : SourceState) (same : DeclareSame before before2)
    (quiet : ¬ Rises before.failures after.failures) (quiet2 : ¬ Rises before2.failures after2.failures)
    (times : DeclaredTimes) (all : TellAll times) (log : LogModel)
  where
    pub searches-agree : {E : Type 0} (entries : List ReadStatement) (one other : Result DiscoveriesModel E)
        → IfOk one (AreDiscovered before after times log entries)
        → IfOk other (AreDiscovered before2 after2 times log entries) → AgreeIfOk SameDiscoveries one other
    searches-agree entries (Ok a) (Ok b) is also =
        told-agree before after before2 after2 same.same quiet quiet2 times log entries a b
        (λ e _. record { time = λ output _. all output; text = λ _ _ _. same.all _ }) is also
    searches-agree entries (Ok a) (Err f) is also = tt
    searches-agree entries (Err e) (Ok b) is also = tt
    searches-agree entries (Err e) (Err f) is also = tt
