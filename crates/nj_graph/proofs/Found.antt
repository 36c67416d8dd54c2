-- The state after opening a file, by the result for it.
use Rattle.std.proofs.Common.{arith}
use Rattle.std.proofs.lemmas.Grind.{common_steps}
use Rattle.std.proofs.Common.{inl, inr, ◌≡◌, ◌⊎◌, ℕ, true, false, Option, Some, None, Ok, Err, List, [], ◌∷◌}
use Rattle.std.proofs.Common.{◌++◌, append-nil, refl, sym, ap, subst, ◌∙◌}
use Rattle.nj_graph.specs.Inside.PathsReached.{with_new}
use Rattle.std.specs.Global.{Global}
use Rattle.std.specs.Rc.{rc_slice_items}
use Rattle.std.specs.declared.rc.RcSlice.{RcSlice}
use Rattle.nj_text.specs.declared.spot.Spot.{Spot}
use Rattle.nj_scope.specs.Readings.{Reading, EachPathOnce, reading_of, is_read, paths_of}
use Rattle.nj_scope.specs.Sources.{SourceState, HasRead, Rises}
use Rattle.nj_scope.specs.Opening as table
use Rattle.nj_scope.specs.Opening.{shared_bytes, AtMostOneReading}
use Rattle.nj_scope.proofs.ReadingLemmas.{is_read-push_new}
use Rattle.nj_scope.proofs.SourceLemmas.{opened-is_read, opened-found}
use Rattle.nj_faults.specs.declared.fault.Place.{Place}
use Rattle.nj_faults.specs.declared.fault.GraphFault.{GraphFault}
use Rattle.nj_faults.specs.declared.fault.Cause.TheVariants.{Missing, Io}
use Rattle.nj_faults.specs.Faults.{no_memory}
use Rattle.nj_graph.specs.Runs.{IsRead}
use Rattle.nj_graph.specs.Inside.ReaderContracts.{ReadsAll, ReturnsText}
use Rattle.nj_graph.proofs.Tables.{reading-at, with_new-known, paths-one_more, read-nothing, read-one}

-- a text that is found at a path
pub record FindsText (before after : SourceState) (old held : List Reading) (path text : List ℕ) : Type 0
  where
    pub files : List Reading
    pub reads : ReadsAll before after old files held
    pub found : reading_of files path ≡ Some (record { path = path; bytes = Some text })
    pub came_to : paths_of files ≡ with_new (paths_of old) path

-- the file does not exist
pub record FindsNone (before after : SourceState) (old : List Reading) (place : Place) (path : List ℕ)
    (fault : GraphFault) : Type 0 where
  pub files : List Reading
  pub reads : IsRead before after old files
  pub failures : after.failures ≡ before.failures
  pub found : reading_of files path ≡ Some (record { path = path; bytes = None })
  pub came_to : paths_of files ≡ with_new (paths_of old) path
  pub answered : fault ≡ record { place = Some place; cause = Missing path }

-- the source failed
pub record CannotTell (before after : SourceState) (old : List Reading) (place : Place) (path : List ℕ)
    (fault : GraphFault) : Type 0 where
  pub reads : IsRead before after old old
  pub failures : Rises before.failures after.failures
  pub lacking : is_read old path ≡ false
  pub answered : fault ≡ record { place = Some place; cause = Io path }

-- out of memory, before the reading or after it
pub record HasNoMemory (before after : SourceState) (old : List Reading) (path : List ℕ)
    (fault : GraphFault) : Type 0 where
  pub files : List Reading
  pub reads : IsRead before after old files
  pub failures : after.failures ≡ before.failures
  pub came_to : (paths_of files ≡ paths_of old)
      ⊎ ((paths_of files ≡ with_new (paths_of old) path) × (is_read files path ≡ true))
  pub answered : fault ≡ no_memory

-- a fault of the word is the fault, where its file has this name
pub outcomes-named : (before after : SourceState) (old held : List Reading) (name file : List ℕ)
    (at spot : Spot) (path : List ℕ) (fault : GraphFault) → name ≡ file → at ≡ spot
    → ReturnsText before after old held (record { file = name; spot = at }) path (Err fault)
    → ReturnsText before after old held (record { file = file; spot = spot }) path (Err fault)
outcomes-named before after old held name file at spot path fault is there outcomes =
    grind (arith, common_steps)

module _ (before after : SourceState) (old held : List Reading) (path : List ℕ) (once : EachPathOnce old)
  where
    -- the path was known, or was read now
    opened-reads : (found : Option (RcSlice ℕ Global)) → table.OpensFile before after old held path (Ok found)
        → ReadsAll before after old held held × (paths_of held ≡ with_new (paths_of old) path)
    opened-reads found (inl known) = (
      record {
        reads = subst (λ fs. IsRead before after old fs) (sym known.table_stays)
            (subst (λ source. IsRead before source old old) (sym known.source_stays)
            (read-nothing before old once));
        held_is = refl;
        failures = ap (λ source. source.failures) known.source_stays;
      },
      ap paths_of known.table_stays ∙ sym (with_new-known path old known.was_read),
    )
    opened-reads found (inr now) = (
      record {
        reads = subst (λ fs. IsRead before after old fs) (sym now.kept)
            (read-one before after old path (shared_bytes found) once now.was_not_read now.read);
        held_is = refl;
        failures = now.failures;
      },
      ap paths_of now.kept ∙ paths-one_more path (shared_bytes found) old now.was_not_read,
    )

    -- the table then
    opened-has : (found : Option (RcSlice ℕ Global)) → table.OpensFile before after old held path (Ok found)
        → reading_of held path ≡ Some (record { path = path; bytes = shared_bytes found })
    opened-has found opens =
        reading-at path held (opened-is_read before after old held path found opens)
        ∙ ap (λ bytes. Some (record { path = path; bytes = bytes }))
        (sym (opened-found before after old held path found opens))

    pub found-text : (place : Place) (text : RcSlice ℕ Global)
        → ReturnsText before after old held place path (Ok text)
        → FindsText before after old held path (rc_slice_items text)
    found-text place text opens = record {
      files = held;
      reads = (opened-reads (Some text) opens).0;
      found = opened-has (Some text) opens;
      came_to = (opened-reads (Some text) opens).1;
    }

    pub unfound : (place : Place) (fault : GraphFault)
        → ReturnsText before after old held place path (Err fault)
        → HasNoMemory before after old path fault
        ⊎ (CannotTell before after old place path fault ⊎ FindsNone before after old place path fault)
    unfound place fault (inl (answered, lacks)) =
        inl (lacks-capacity lacks.readings lacks.at_most_one lacks.read)
      where
        lacks-capacity : (readings : List Reading) → AtMostOneReading old path readings
            → HasRead before after readings → HasNoMemory before after old path fault
        lacks-capacity [] one read = record {
          files = old;
          reads = record { readings = []; added = sym (append-nil old); read = read; once = once };
          failures = lacks.failures;
          came_to = inl refl;
          answered = answered;
        }
        lacks-capacity (r ∷ []) (same, new) read =
            let readings : List Reading = old ++ record { path = path; bytes = r.bytes } ∷ [] in
            record {
              files = readings;
              reads = read-one before after old path r.bytes once new
                  (subst (λ p. HasRead before after (record { path = p; bytes = r.bytes } ∷ [])) same read);
              failures = lacks.failures;
              came_to = inr (
                paths-one_more path r.bytes old new,
                is_read-push_new old (record { path = path; bytes = r.bytes }) new,
              );
              answered = answered;
            }
        lacks-capacity (r ∷ s ∷ others) one read = absurd one
    unfound place fault (inr (inl (answered, failed))) = inr (inl (record {
      reads = record { readings = []; added = sym (append-nil old); read = failed.read; once = once };
      failures = failed.failures;
      lacking = failed.was_not_read;
      answered = answered;
    }))
    unfound place fault (inr (inr (answered, opens))) = inr (inr (record {
      files = held;
      reads = (opened-reads None opens).0.reads;
      failures = (opened-reads None opens).0.failures;
      found = opened-has None opens;
      came_to = (opened-reads None opens).1;
      answered = answered;
    }))
