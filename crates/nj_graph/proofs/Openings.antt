-- A path that a statement names, and how its file is opened.
use Rattle.std.proofs.Common.{inl, inr, ◌≡◌, ◌⊎◌, ℕ, zero, suc, ◌<◌, ◌≤◌, true, false, Option, Some, None}
use Rattle.std.proofs.Common.{is_some, Result, Ok, Err, List, ◌∷◌, refl, sym, ap, subst, ◌∙◌, true≢false}
use Rattle.nj_graph.specs.Inside.PathsReached.{with_news, with_new, paths_read, come_to, reached_by}
use Rattle.std.specs.Global.{Global}
use Rattle.std.specs.Rc.{rc_slice_items}
use Rattle.std.specs.declared.rc.RcSlice.{RcSlice}
use Rattle.std.proofs.lemmas.Bool.{lt-ltb, le-ltb}
use Rattle.nj_scope.specs.Readings.{Reading, EachPathOnce, reading_of, is_read, IsPrefix, paths_of}
use Rattle.nj_scope.specs.ReadingList.{ReadStatement, files_opened, path_named}
use Rattle.nj_scope.specs.Sources.{SourceState}
use Rattle.nj_faults.specs.declared.fault.GraphFault.{GraphFault}
use Rattle.nj_graph.specs.declared.reader.Reader.{Reader}
use Rattle.nj_faults.specs.declared.fault.Place.{Place}
use Rattle.nj_faults.specs.declared.fault.Cause.{Cause}
use Rattle.nj_faults.specs.declared.fault.Cause.TheVariants.{Missing, TooDeep, TooManyOpenings}
use Rattle.nj_faults.specs.Faults.{no_memory}
use Rattle.nj_faults.specs.Limits.{most_opened}
use Rattle.nj_graph.specs.Reading.{Site, Lacking, stopped, text_read, outcome_read, opened_in}
use Rattle.nj_graph.specs.Inside.Outcomes.{if_capacity, path_at_fault}
use Rattle.nj_graph.specs.Inside.ReaderContracts.{StopsAt, ReturnsText, OpensText, OpensPath}
use Rattle.nj_graph.specs.Runs.{IsRead}
use Rattle.nj_graph.proofs.Found.{FindsText, FindsNone, CannotTell, HasNoMemory, found-text, unfound}
use Rattle.nj_graph.proofs.Tables.{reading-kept, with_new-other, read-nothing}
use Rattle.nj_graph.proofs.Comes.{opened-comes, opened-names}

absent : {X : Type 0} (o : Option X) → is_some o ≡ false → o ≡ None
absent None h = refl
absent (Some x) h = absurd (true≢false h)

-- ---- the reading of a file

module _ (all : List Reading) (inner : Site) (place : Place) (e : ReadStatement)
    (entries : List ReadStatement) where
  opened-closed : opened_in all zero inner place e entries ≡ stopped entries place TooDeep
  unfolding opened_in
  opened-closed = refl

  module _ (within : ℕ) where
    opened-full : most_opened ≤ files_opened entries
        → opened_in all (suc within) inner place e entries ≡ stopped entries place TooManyOpenings
    unfolding opened_in
    opened-full h = ap (λ capacity. if_capacity capacity (opened_in all within) all inner place e entries)
        (le-ltb (files_opened entries) most_opened h)

    opened-answered : (outcome : Option Reading) → files_opened entries < most_opened
        → reading_of all inner.file ≡ outcome
        → opened_in all (suc within) inner place e entries
        ≡ outcome_read inner.file place entries (λ t. text_read (opened_in all within) inner t (e ∷ entries))
        outcome
    unfolding opened_in
    opened-answered outcome h is =
        ap (λ capacity. if_capacity capacity (opened_in all within) all inner place e entries)
        (lt-ltb (files_opened entries) most_opened h)
        ∙ ap (outcome_read inner.file place entries
        (λ t. text_read (opened_in all within) inner t (e ∷ entries))) is

-- ---- how a run stops there

module _ (main : List ℕ) (before after : SourceState) (old : List Reading) (place : Place) (path : List ℕ)
    (entries : List ReadStatement) where
  -- the run stops, where the path is the file's and the statement names it
  abbrev pub StopsHere : (left : ℕ) → GraphFault → Type 0
  StopsHere left f = (inner : Site) (e : ReadStatement) → inner.file ≡ path
      → path_named e entries e.item ≡ Some path
      → StopsAt main before after old (λ all. opened_in all left inner place e entries) f

  module _ (paths_are : paths_of old ≡ paths_read main entries) where
    comes : (files : List Reading) → paths_of files ≡ paths_of old
        → (all : List Reading) (left : ℕ) (inner : Site) (e : ReadStatement)
        → IsPrefix (paths_of files) (come_to main (opened_in all left inner place e entries))
    comes files same all left inner e =
        subst (λ front. IsPrefix front (come_to main (opened_in all left inner place e entries)))
        (sym (same ∙ paths_are)) (opened-comes main all left inner place e entries)

    names : (files : List Reading) → paths_of files ≡ with_new (paths_of old) path
        → (all : List Reading) (within : ℕ) (inner : Site) (e : ReadStatement) → inner.file ≡ path
        → path_named e entries e.item ≡ Some path → files_opened entries < most_opened
        → IsPrefix (paths_of files) (come_to main (opened_in all (suc within) inner place e entries))
    names files came_to all within inner e same named capacity =
        subst (λ front. IsPrefix front (come_to main (opened_in all (suc within) inner place e entries)))
        (ap (with_new (paths_read main entries)) same ∙ ap (λ before. with_new before path) (sym paths_are)
        ∙ sym came_to)
        (opened-names main all within inner place e entries (named ∙ ap Some (sym same))
        (lt-ltb (files_opened entries) most_opened capacity))

    -- out of memory for the result
    pub stops-lacking : (left : ℕ) → EachPathOnce old → after ≡ before → (f : GraphFault) → f ≡ no_memory
        → StopsHere left f
    stops-lacking left once stays f answered inner e same named = record {
      files = old;
      reads = subst (λ source. IsRead before source old old) (sym stays) (read-nothing before old once);
      stops = inl (record {
        answered = answered;
        failures = ap (λ source. source.failures) stays;
        came_to =
            λ all is. comes old refl all left inner e;
      });
    }

    -- no more files may be open, or opened
    stops-refused : (left : ℕ) (cause : Cause)
        → ((before : List (List ℕ)) → with_news before (path_at_fault cause) ≡ before)
        → ((all : List Reading) (inner : Site) (e : ReadStatement)
        → opened_in all left inner place e entries ≡ stopped entries place cause)
        → EachPathOnce old → after ≡ before → (f : GraphFault)
        → f ≡ record { place = Some place; cause = cause } → StopsHere left f
    stops-refused left cause none read once stays f answered inner e same named = record {
      files = old;
      reads = subst (λ source. IsRead before source old old) (sym stays) (read-nothing before old once);
      stops = inr (record {
        reached = reached_by main (stopped entries place cause);
        answered = (answered, ap (λ source. source.failures) stays);
        read = λ all is lacking. ap (reached_by main) (read all inner e);
        came_to = none (paths_read main entries) ∙ sym paths_are;
      });
    }

    pub stops-closed : (left : ℕ) → left ≡ 0 → EachPathOnce old → after ≡ before → (f : GraphFault)
        → f ≡ record { place = Some place; cause = TooDeep } → StopsHere left f
    stops-closed left closed =
        stops-refused left TooDeep (λ before. refl)
        (λ all inner e. ap (λ n. opened_in all n inner place e entries) closed
        ∙ opened-closed all inner place e entries)

    module _ (left within : ℕ) (left_is : left ≡ suc within) where
      at_left : (all : List Reading) (inner : Site) (e : ReadStatement)
          → opened_in all left inner place e entries ≡ opened_in all (suc within) inner place e entries
      at_left all inner e = ap (λ n. opened_in all n inner place e entries) left_is

      pub stops-full : most_opened ≤ files_opened entries → EachPathOnce old → after ≡ before
          → (f : GraphFault) → f ≡ record { place = Some place; cause = TooManyOpenings } → StopsHere left f
      stops-full full = stops-refused left TooManyOpenings (λ before. refl)
          (λ all inner e. at_left all inner e ∙ opened-full all inner place e entries within full)

      module _ (capacity : files_opened entries < most_opened) where
        -- there was no memory to find the file
        stops-no_memory : (f : GraphFault) → HasNoMemory before after old path f → StopsHere left f
        stops-no_memory f lacks inner e same named = record {
          files = lacks.files;
          reads = lacks.reads;
          stops = inl (record {
            answered = lacks.answered;
            failures = lacks.failures;
            came_to =
                λ all is. by_paths all lacks.came_to;
          });
        }
          where
            by_paths : (all : List Reading) → (paths_of lacks.files ≡ paths_of old)
                ⊎ ((paths_of lacks.files ≡ with_new (paths_of old) path) × (is_read lacks.files path ≡ true))
                → IsPrefix (paths_of lacks.files) (come_to main (opened_in all left inner place e entries))
            by_paths all (inl old_paths) = comes lacks.files old_paths all left inner e
            by_paths all (inr new) = subst (λ n. IsPrefix (paths_of lacks.files)
                (come_to main (opened_in all n inner place e entries))) (sym left_is)
                (names lacks.files new.0 all within inner e same named capacity)

        -- the source failed
        stops-cannot_tell : (f : GraphFault) → CannotTell before after old place path f → StopsHere left f
        stops-cannot_tell f failed inner e same named = record {
          files = old;
          reads = failed.reads;
          stops = inr (record {
            reached = reached_by main (record { entries = entries; end = Lacking path place });
            answered = (failed.answered, failed.failures);
            read = λ all is lacking.
                ap (reached_by main) (at_left all inner e
                ∙ opened-answered all inner place e entries within None capacity
                (ap (reading_of all) same ∙ absent (reading_of all path) lacking)
                ∙ ap (λ p. record { entries = entries; end = Lacking p place }) same);
            came_to = ap (λ before. with_new before path) (sym paths_are)
                ∙ with_new-other path old failed.lacking;
          });
        }

        -- the file does not exist
        stops-none : (f : GraphFault) → FindsNone before after old place path f → StopsHere left f
        stops-none f none inner e same named = record {
          files = none.files;
          reads = none.reads;
          stops = inr (record {
            reached = reached_by main (stopped entries place (Missing path));
            answered = (none.answered, none.failures);
            read = λ all is lacking.
                ap (reached_by main) (at_left all inner e
                ∙ opened-answered all inner place e entries within _ capacity
                (ap (reading_of all) same ∙ reading-kept path _ all none.files is none.found)
                ∙ ap (λ p. stopped entries place (Missing p)) same);
            came_to = ap (λ before. with_new before path) (sym paths_are) ∙ sym none.came_to;
          });
        }

        pub stops-unfound : (f : GraphFault)
            → HasNoMemory before after old path f
            ⊎ (CannotTell before after old place path f ⊎ FindsNone before after old place path f)
            → StopsHere left f
        stops-unfound f (inl lacks) = stops-no_memory f lacks
        stops-unfound f (inr (inl failed)) = stops-cannot_tell f failed
        stops-unfound f (inr (inr none)) = stops-none f none

-- ---- a file that is open

pub opens-text : (main : List ℕ) (before after : SourceState) (old held : Reader) (left within : ℕ)
    (place : Place) (path : List ℕ) (entries : List ReadStatement) (text : List ℕ) → left ≡ suc within
    → files_opened entries < most_opened
    → FindsText before after old.files held.files path text
    → OpensText main before after old held left place path entries text
opens-text main before after old held left within place path entries text left_is capacity found = record {
  files = found.files;
  reads = found.reads;
  came_to = found.came_to;
  within = within;
  left_is = left_is;
  read = λ inner e all same is.
      ap (λ n. opened_in all n inner place e entries) left_is
      ∙ opened-answered all inner place e entries within _ capacity
      (ap (reading_of all) same ∙ reading-kept path _ all found.files is found.found);
}

-- by the result of the table
pub opens-answered : (main : List ℕ) (before after : SourceState) (old held : Reader) (left within : ℕ)
    (place : Place) (path : List ℕ) (entries : List ReadStatement)
    → paths_of old.files ≡ paths_read main entries → left ≡ suc within → files_opened entries < most_opened
    → EachPathOnce old.files → (result : Result (RcSlice ℕ Global) GraphFault)
    → ReturnsText before after old.files held.files place path result
    → OpensPath main before after old held left place path entries result
opens-answered main before after old held left within place path entries paths_are left_is capacity once
    (Ok text) outcomes =
    opens-text main before after old held left within place path entries (rc_slice_items text) left_is
    capacity (found-text before after old.files held.files path once place text outcomes)
opens-answered main before after old held left within place path entries paths_are left_is capacity once
    (Err fault) outcomes =
    stops-unfound main before after old.files place path entries paths_are left within left_is capacity fault
    (unfound before after old.files held.files path once place fault outcomes)
