-- A dyndep file is joined, or the joining stops there.
use Rattle.std.proofs.Common.{◌≡◌, ◌⊎◌, ℕ, inl, inr, true, false, cond, true≢false, Option, Some, None}
use Rattle.std.proofs.Common.{is_some, Result, Ok, Err, List, [], ◌∷◌, get_or, map, refl, sym, ap, subst, ◌∙◌}
use Rattle.nj_graph.specs.Inside.PathsReached.{with_news, with_new}
use Rattle.std.proofs.Math.ListN.{get_or-map}
use Rattle.std.specs.Str.{is_utf8}
use Rattle.nj_text.specs.declared.spot.Spot.{Spot}
use Rattle.nj_scope.specs.Readings.{Reading, EachPathOnce, reading_of, is_read, paths_of, IsPrefix}
use Rattle.nj_scope.specs.Sources.{SourceState}
use Rattle.nj_scope.specs.ReadingList.{ReadStatement}
use Rattle.nj_faults.specs.declared.fault.Place.{Place}
use Rattle.nj_faults.specs.declared.fault.GraphFault.{GraphFault}
use Rattle.nj_faults.specs.declared.fault.Cause.TheVariants.{Missing, PathNotText}
use Rattle.nj_faults.specs.Faults.{IsFault, no_memory}
use Rattle.nj_statements.specs.EdgeList.{Pending, edges_read, EdgeModel}
use Rattle.nj_statements.specs.Built.{EdgeDetail, detail_at, detail_of}
use Rattle.nj_statements.specs.Answers.{Checks}
use Rattle.nj_statements.specs.Joining.{lacking_fault}
use Rattle.nj_statements.specs.JoiningHeld.{JoiningModel}
use Rattle.nj_graph.specs.Reading.{Refused, Lacking, ReadingModel, end_by, stopped, outcome_read}
use Rattle.nj_graph.specs.Joining.{statement_place, text_joined, path_asked, file_joined}
use Rattle.nj_graph.specs.Inside.JoiningContracts.{TextJoined, TextRefused, FileJoined, FileStops, JoinsFile}
use Rattle.nj_graph.proofs.Comes.{prefix-self, prefix-named}
use Rattle.nj_graph.proofs.Found.{FindsText, FindsNone, CannotTell, HasNoMemory}
use Rattle.nj_graph.proofs.Tables.{reading-kept, with_new-other, read-nothing}
use Rattle.nj_graph.proofs.JoiningTables.{asked-named, asked-none}

absent : {X : Type 0} (o : Option X) → is_some o ≡ false → o ≡ None
absent None h = refl
absent (Some x) h = absurd (true≢false h)

abbrev place_of_detail : EdgeDetail → Place
place_of_detail d = record { file = d.file; spot = d.spot }

abbrev place_of_edge : EdgeModel → Place
place_of_edge e = record { file = e.file; spot = e.spot }

places-are : (es : List EdgeModel) → map place_of_detail (map detail_of es) ≡ map place_of_edge es
places-are [] = refl
places-are (e ∷ es) = ap (λ places. place_of_detail (detail_of e) ∷ places) (places-are es)

module _ (stated joined : List ReadStatement) (p : Pending) where
  abbrev at_statement : Place
  at_statement = statement_place stated p.edge

  abbrev reads : (text : List ℕ) → ReadingModel
  reads text = text_joined p.file stated text joined

  named : is_utf8 p.file ≡ true → (all : List Reading)
      → file_joined all stated p joined ≡ outcome_read p.file at_statement joined reads
      (reading_of all p.file)
  unfolding file_joined
  named utf8 all = ap (λ b. cond b (outcome_read p.file at_statement joined reads (reading_of all p.file))
      (stopped joined at_statement PathNotText)) utf8

  not-named : is_utf8 p.file ≡ false → (all : List Reading)
      → file_joined all stated p joined ≡ stopped joined at_statement PathNotText
  unfolding file_joined
  not-named bad all = ap (λ b. cond b (outcome_read p.file at_statement joined reads (reading_of all p.file))
      (stopped joined at_statement PathNotText)) bad

  comes : (old : List Reading) → is_utf8 p.file ≡ true
      → with_news (paths_of old) (path_asked p) ≡ with_new (paths_of old) p.file
  comes old utf8 = ap (with_news (paths_of old)) (asked-named p utf8)

  -- the place of its first edge
  pub is-place : (details : List EdgeDetail) (file : List ℕ) (spot : Spot)
      → details ≡ map detail_of (edges_read stated) → file ≡ (detail_at details p.edge).file
      → spot ≡ (detail_at details p.edge).spot
      → record { file = file; spot = spot } ≡ at_statement
  is-place details file spot are at_file at_spot =
      ap (λ f. record { file = f; spot = spot }) at_file
      ∙ ap (λ s. record { file = (detail_at details p.edge).file; spot = s }) at_spot
      ∙ ap (λ ds. record { file = (detail_at ds p.edge).file; spot = (detail_at ds p.edge).spot }) are
      ∙ sym (get_or-map place_of_detail (map detail_of (edges_read stated)) p.edge
      (record { file = []; spot = record { line = 0; column = 0 }; scope = 0; rule = 0 }))
      ∙ ap (λ (places : List Place). get_or places p.edge
      (record { file = []; spot = record { line = 0; column = 0 } })) (places-are (edges_read stated))

  -- ---- before the file is read

  module _ (source : SourceState) (old : List Reading) (once : EachPathOnce old) (fault : GraphFault) where
    stops-memory : fault ≡ no_memory → FileStops stated joined p source source old fault
    stops-memory none = record {
      files = old;
      reads = read-nothing source old once;
      stops = inl (record {
        answered = none;
        failures = refl;
        came_to =
            prefix-named (paths_of old) (path_asked p);
      });
    }

    stops-unnamed : is_utf8 p.file ≡ false → fault ≡ record { place = Some at_statement; cause = PathNotText }
        → FileStops stated joined p source source old fault
    stops-unnamed bad is = record {
      files = old;
      reads = read-nothing source old once;
      stops = inr (record {
        now = joined;
        end = Refused (record { place = Some at_statement; cause = PathNotText });
        answered = (is, refl);
        joins = λ all ext lacks. not-named bad all;
        came_to = ap (with_news (paths_of old)) (asked-none p bad);
      });
    }

    pub stops-name : (place : Place) → place ≡ at_statement
        → (fault ≡ no_memory) ⊎ ((is_utf8 p.file ≡ false)
        × (fault ≡ record { place = Some place; cause = PathNotText }))
        → FileStops stated joined p source source old fault
    stops-name place same (inl none) = stops-memory none
    stops-name place same (inr (bad, is)) =
        stops-unnamed bad (is ∙ ap (λ x. record { place = Some x; cause = PathNotText }) same)

  module _ (before after : SourceState) (old : List Reading) (utf8 : is_utf8 p.file ≡ true) where
    -- ---- no text is found

    stops-lacking : (fault : GraphFault) → HasNoMemory before after old p.file fault
        → FileStops stated joined p before after old fault
    stops-lacking fault h = record {
      files = h.files;
      reads = h.reads;
      stops =
          inl (record { answered = h.answered; failures = h.failures; came_to = by h.came_to });
    }
      where
        by : (paths_of h.files ≡ paths_of old)
            ⊎ ((paths_of h.files ≡ with_new (paths_of old) p.file) × (is_read h.files p.file ≡ true))
            → IsPrefix (paths_of h.files) (with_news (paths_of old) (path_asked p))
        by (inl same) = subst (λ ps. IsPrefix ps (with_news (paths_of old) (path_asked p))) (sym same)
            (prefix-named (paths_of old) (path_asked p))
        by (inr (one, there)) = subst (λ ps. IsPrefix (paths_of h.files) ps) (one ∙ sym (comes old utf8))
            (prefix-self (paths_of h.files))

    stops-unread : (fault : GraphFault) → CannotTell before after old at_statement p.file fault
        → FileStops stated joined p before after old fault
    stops-unread fault h = record {
      files = old;
      reads = h.reads;
      stops = inr (record {
        now = joined;
        end = Lacking p.file at_statement;
        answered = (h.answered, h.failures);
        joins = λ all ext lacks. named utf8 all
            ∙ ap (λ r. outcome_read p.file at_statement joined reads r)
            (absent (reading_of all p.file) lacks);
        came_to = comes old utf8 ∙ with_new-other p.file old h.lacking;
      });
    }

    stops-missing : (fault : GraphFault) → FindsNone before after old at_statement p.file fault
        → FileStops stated joined p before after old fault
    stops-missing fault h = record {
      files = h.files;
      reads = h.reads;
      stops = inr (record {
        now = joined;
        end = Refused (record { place = Some at_statement; cause = Missing p.file });
        answered = (h.answered, h.failures);
        joins = λ all ext lacks. named utf8 all
            ∙ ap (λ r. outcome_read p.file at_statement joined reads r)
            (reading-kept p.file (record { path = p.file; bytes = None }) all h.files ext h.found);
        came_to = comes old utf8 ∙ sym h.came_to;
      });
    }

    pub stops-unfound : (fault : GraphFault)
        → HasNoMemory before after old p.file fault
        ⊎ (CannotTell before after old at_statement p.file fault
        ⊎ FindsNone before after old at_statement p.file fault)
        → FileStops stated joined p before after old fault
    stops-unfound fault (inl h) = stops-lacking fault h
    stops-unfound fault (inr (inl h)) = stops-unread fault h
    stops-unfound fault (inr (inr h)) = stops-missing fault h

    -- ---- its text

    module _ (table : List Reading) (text : List ℕ) (found : FindsText before after old table p.file text)
      where
        is-text : (all : List Reading) → IsPrefix found.files all
            → file_joined all stated p joined ≡ text_joined p.file stated text joined
        is-text all ext = named utf8 all ∙ ap (λ r. outcome_read p.file at_statement joined reads r)
            (reading-kept p.file (record { path = p.file; bytes = Some text }) all found.files ext
            found.found)

        came : with_news (paths_of old) (path_asked p) ≡ paths_of found.files
        came = comes old utf8 ∙ sym found.came_to

        stops-refused : (fault : GraphFault) → TextRefused p.file stated text joined fault
            → FileStops stated joined p before after old fault
        stops-refused fault r = record {
          files = found.files;
          reads = found.reads.reads;
          stops = inr (record {
            now = r.now;
            end = Refused fault;
            answered = (refl, found.reads.failures);
            joins = λ all ext lacks. is-text all ext ∙ r.joins;
            came_to = came;
          });
        }

        pub stops-text : (fault : GraphFault)
            → (fault ≡ no_memory) ⊎ TextRefused p.file stated text joined fault
            → FileStops stated joined p before after old fault
        stops-text fault (inl none) = record {
          files = found.files;
          reads = found.reads.reads;
          stops = inl (record {
            answered = none;
            failures = found.reads.failures;
            came_to =
                subst (λ ps. IsPrefix (paths_of found.files) ps) (sym came)
                (prefix-self (paths_of found.files));
          });
        }
        stops-text fault (inr r) = stops-refused fault r

        module _ (held : JoiningModel) (t : TextJoined p.file stated text joined held) where
          -- an edge is pending on it
          stops-unjoined : (fault : GraphFault) → IsFault (lacking_fault p.file t.now) fault
              → FileStops stated joined p before after old fault
          stops-unjoined fault (inl none) = stops-text fault (inl none)
          stops-unjoined fault (inr is) = stops-refused fault
              (record {
                now = t.now;
                joins = t.joins
                    ∙ ap (λ f. record { entries = t.now; end = end_by f }) is;
              })

          joins-file : lacking_fault p.file t.now ≡ None
              → FileJoined stated joined p before after old table held
          joins-file none = record {
            files = found.files;
            reads = found.reads;
            came_to = came;
            now = t.now;
            has = t.has;
            joins = λ all ext. is-text all ext ∙ t.joins
                ∙ ap (λ f. record { entries = t.now; end = end_by f }) none;
          }

          pub ends-file : (result : Result (Unit {0}) GraphFault) → Checks (lacking_fault p.file t.now) result
              → JoinsFile stated joined p before after old table held result
          ends-file (Ok done) h = joins-file h
          ends-file (Err fault) h = stops-unjoined fault h
