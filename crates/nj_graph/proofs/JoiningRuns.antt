-- The dyndep files of a run, joined one after the other.
use Rattle.std.proofs.Common.{arith}
use Rattle.std.proofs.lemmas.Grind.{common_steps}
use Rattle.std.proofs.Common.{◌≡◌, ◌⊎◌, ℕ, inl, inr, List, [], ◌∷◌, ◌++◌, append-nil, append_assoc, refl, sym}
use Rattle.std.proofs.Common.{ap, subst, ◌∙◌}
use Rattle.nj_graph.specs.Inside.PathsReached.{with_news, come_after, come_joined}
use Rattle.std.specs.Prelude.{⊤}
use Rattle.nj_scope.specs.Readings.{Reading, EachPathOnce, paths_of, IsPrefix}
use Rattle.nj_scope.specs.ReadingList.{ReadStatement}
use Rattle.nj_scope.specs.Sources.{SourceState, Rises}
use Rattle.nj_faults.specs.declared.fault.GraphFault.{GraphFault}
use Rattle.nj_statements.specs.EdgeList.{Pending}
use Rattle.nj_statements.specs.JoiningHeld.{JoiningModel, HasJoined}
use Rattle.nj_graph.specs.Reading.{End, Whole, Refused, Lacking, ReadingModel}
use Rattle.nj_graph.specs.Runs.{IsRead, IsEnd, paths_with, ReachedModel, Stops}
use Rattle.nj_graph.specs.Inside.ReaderContracts.{ReadsAll}
use Rattle.nj_graph.specs.Joining.{continued, path_asked, file_joined, files_joined}
use Rattle.nj_graph.specs.Inside.JoiningContracts.{FileJoined, FileLacksMemory, FileEnds, FileStops}
use Rattle.nj_graph.specs.Inside.JoiningContracts.{FilesJoined, FilesStop}
use Rattle.nj_graph.proofs.Comes.{prefix-then, prefix-named}
use Rattle.nj_graph.proofs.Tables.{extends-trans, read-extends, reads-then, reads-all-then}
use Rattle.nj_graph.proofs.JoiningTables.{all_new-append}

-- ---- ends

-- the joining did not go to its end
abbrev IsStopped : End → Type 0
IsStopped Whole = ⊥
IsStopped (Refused fault) = ⊤
IsStopped (Lacking path place) = ⊤

is-stopped : (before after : SourceState) (end : End) (fault : GraphFault) → IsEnd before after end fault
    → IsStopped end
is-stopped before after Whole fault h = h
is-stopped before after (Refused expected) fault h = tt
is-stopped before after (Lacking path place) fault h = tt

end-before : (before mid after : SourceState) (end : End) (fault : GraphFault)
    → mid.failures ≡ before.failures → IsEnd mid after end fault → IsEnd before after end fault
end-before before mid after Whole fault same h = h
end-before before mid after (Refused expected) fault same h = (h.0, h.1 ∙ same)
end-before before mid after (Lacking path place) fault same h =
    (h.0, subst (λ n. Rises n after.failures) same h.1)

stays : (end : End) (p : Pending) (entries : List ReadStatement) (others : List ReadStatement → ReachedModel)
    → IsStopped end → continued end p entries others
    ≡ record { read = record { entries = entries; end = end }; paths = path_asked p }
stays Whole p entries others h = absurd h
stays (Refused fault) p entries others h = refl
stays (Lacking path place) p entries others h = refl

-- ---- the files so far

-- a joining after another that came to the given paths
abbrev remainder : List (List ℕ) → ReachedModel → ReachedModel
remainder paths j = record { read = j.read; paths = paths ++ j.paths }

-- The joined statements are held, and the whole joins the same as the files that are left from here
-- on.
pub record FilesUnderway (chosen : List Pending) (stated : List ReadStatement) (before after : SourceState)
    (old table : List Reading) (held : JoiningModel) (left : List Pending) : Type 0 where
  pub files : List Reading
  pub reads : ReadsAll before after old files table
  pub now : List ReadStatement
  pub has : HasJoined held stated now
  pub paths : List (List ℕ)
  pub came_to : with_news (paths_of old) paths ≡ paths_of files
  pub continues : (all : List Reading) → IsPrefix files all
      → files_joined all stated chosen stated ≡ remainder paths (files_joined all stated left now)

module _ (chosen : List Pending) (stated : List ReadStatement) (before : SourceState) (old : List Reading)
  where
    pub files-at-first : (held : JoiningModel) → EachPathOnce old → HasJoined held stated stated
        → FilesUnderway chosen stated before before old old held chosen
    files-at-first held once has = grind (arith, common_steps)

    module _ (mid : SourceState) (table : List Reading) (held : JoiningModel) where
      pub files-end : FilesUnderway chosen stated before mid old table held []
          → FilesJoined chosen stated before mid old table held
      unfolding files_joined
      files-end u = record {
        files = u.files;
        reads = u.reads;
        now = u.now;
        has = u.has;
        paths = u.paths;
        came_to = u.came_to;
        joins = λ all ext. u.continues all ext
            ∙ ap (λ ps. record { read = record { entries = u.now; end = Whole }; paths = ps })
            (append-nil u.paths);
      }

      module _ (p : Pending) (others : List Pending)
          (u : FilesUnderway chosen stated before mid old table held (p ∷ others)) where
        -- the next file
        next : (all : List Reading) → IsPrefix u.files all → (r : ReadingModel)
            → file_joined all stated p u.now ≡ r
            → files_joined all stated chosen stated
            ≡ remainder u.paths (continued r.end p r.entries (files_joined all stated others))
        unfolding files_joined
        next all ext r is = u.continues all ext
            ∙ ap (λ (x : ReadingModel). remainder u.paths
            (continued x.end p x.entries (files_joined all stated others))) is

        came : with_news (paths_of old) (u.paths ++ path_asked p)
            ≡ with_news (paths_of u.files) (path_asked p)
        came = all_new-append (paths_of old) u.paths (path_asked p)
            ∙ ap (λ ps. with_news ps (path_asked p)) u.came_to

        pub files-turn : (after : SourceState) (later_table : List Reading) (later : JoiningModel)
            → FileJoined stated u.now p mid after table later_table later
            → FilesUnderway chosen stated before after old later_table later others
        files-turn after later_table later f = record {
          files = f.files;
          reads = reads-all-then before mid after old u.files f.files table later_table u.reads there;
          now = f.now;
          has = f.has;
          paths = u.paths ++ path_asked p;
          came_to = came ∙ subst (λ fs. with_news (paths_of fs) (path_asked p) ≡ paths_of f.files)
              u.reads.held_is f.came_to;
          continues = λ all ext. next all (extends-trans all f.files u.files ext
              (read-extends mid after u.files f.files there.reads)) (record { entries = f.now; end = Whole })
              (f.joins all ext)
              ∙ ap (λ ps. record { read = (files_joined all stated others f.now).read; paths = ps })
              (sym (append_assoc u.paths (path_asked p) (files_joined all stated others f.now).paths));
        }
          where
            there : ReadsAll mid after u.files f.files later_table
            there = subst (λ fs. ReadsAll mid after fs f.files later_table) u.reads.held_is f.reads

        -- the paths begin with the path of the file
        first-asked : (end : End) (entries : List ReadStatement) (k : List ReadStatement → ReachedModel)
            → (more : List (List ℕ)) × ((continued end p entries k).paths ≡ path_asked p ++ more)
        first-asked Whole entries k = ((k entries).paths, refl)
        first-asked (Refused fault) entries k = ([], sym (append-nil (path_asked p)))
        first-asked (Lacking path place) entries k = ([], sym (append-nil (path_asked p)))

        asks : (all : List Reading) → IsPrefix u.files all
            → IsPrefix (with_news (paths_of u.files) (path_asked p))
            (with_news (paths_of old) (files_joined all stated chosen stated).paths)
        asks all ext =
            let r : ReadingModel = file_joined all stated p u.now in
            let more = first-asked r.end r.entries (files_joined all stated others) in
            let paths : (files_joined all stated chosen stated).paths ≡ (u.paths ++ path_asked p) ++ more.0 =
            ap (λ (j : ReachedModel). j.paths) (next all ext r refl) ∙ ap (λ ps. u.paths ++ ps) more.1
            ∙ sym (append_assoc u.paths (path_asked p) more.0) in
            let whole : with_news (paths_of old) (files_joined all stated chosen stated).paths
            ≡ with_news (with_news (paths_of u.files) (path_asked p)) more.0 =
            ap (with_news (paths_of old)) paths
            ∙ all_new-append (paths_of old) (u.paths ++ path_asked p) more.0
            ∙ ap (λ ps. with_news ps more.0) came in
            subst (IsPrefix (with_news (paths_of u.files) (path_asked p))) (sym whole)
            (prefix-named (with_news (paths_of u.files) (path_asked p)) more.0)

        pub files-stop : (after : SourceState) (fault : GraphFault)
            → FileStops stated u.now p mid after table fault → FilesStop chosen stated before after old fault
        files-stop after fault s = record {
          files = s.files;
          reads =
              reads-then before mid after old u.files s.files u.reads.reads there;
          stops = by s.stops;
        }
          where
            there : IsRead mid after u.files s.files
            there = subst (λ fs. IsRead mid after fs s.files) u.reads.held_is s.reads

            within : (all : List Reading) → IsPrefix s.files all → IsPrefix u.files all
            within all ext = extends-trans all s.files u.files ext
                (read-extends mid after u.files s.files there)

            by : FileLacksMemory p mid after table s.files fault
                ⊎ FileEnds stated u.now p mid after table s.files fault
                → Stops before after s.files (come_joined old stated chosen) fault
            by (inl m) = inl (record {
              answered = m.answered;
              failures = m.failures ∙ u.reads.failures;
              came_to = λ all ext. prefix-then (paths_of s.files)
                  (with_news (paths_of u.files) (path_asked p))
                  (with_news (paths_of old) (files_joined all stated chosen stated).paths)
                  (subst (λ fs. IsPrefix (paths_of s.files) (with_news (paths_of fs) (path_asked p)))
                  u.reads.held_is m.came_to) (asks all (within all ext));
            })
            by (inr e) = inr (record {
              reached = come_after (paths_of old)
                  (record {
                    read = record { entries = e.now; end = e.end };
                    paths =
                        u.paths ++ path_asked p;
                  });
              answered = end-before before mid after e.end fault u.reads.failures e.answered;
              read = λ all ext lacks. ap (come_after (paths_of old))
                  (next all (within all ext) (record { entries = e.now; end = e.end }) (e.joins all ext lacks)
                  ∙ ap (remainder u.paths) (stays e.end p e.now (files_joined all stated others)
                  (is-stopped mid after e.end fault e.answered)));
              came_to = came ∙ subst (λ fs. with_news (paths_of fs) (path_asked p) ≡ paths_with e.end s.files)
                  u.reads.held_is e.came_to;
            })
