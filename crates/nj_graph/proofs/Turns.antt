-- The turns of reading a text: the next statement, the file that it names, and the rest after it.
use Rattle.std.proofs.lemmas.Grind.{common_steps}
use Rattle.std.proofs.Common.{◌≡◌, ℕ, ◌-◌, ◌<◌, inl, inr, Option, Some, None, Result, Ok, Err, List, ◌∷◌}
use Rattle.std.proofs.Common.{refl, sym, ap, subst, ◌∙◌, arith}
use Rattle.nj_graph.specs.Inside.PathsReached.{with_news, paths_read, come_to, reached_by}
use Rattle.std.specs.Prelude.{⊤}
use Rattle.nj_text.specs.Lines.{Line}
use Rattle.nj_manifest.specs.Faults.{Fault}
use Rattle.nj_manifest.specs.declared.statement.Placed.{Placed}
use Rattle.nj_manifest.specs.declared.statement.Statement.{Statement}
use Rattle.nj_manifest.specs.Contents.{placed_model}
use Rattle.nj_manifest.specs.Statements.{PlacedModel, next_statement, Left, Lines, Refused}
use Rattle.nj_manifest.proofs.Starts.{ahead}
use Rattle.nj_manifest.proofs.Consumed.{statement_takes}
use Rattle.nj_scope.specs.Readings.{Reading, IsPrefix, paths_of}
use Rattle.nj_scope.specs.ReadingList.{ReadStatement}
use Rattle.nj_scope.specs.Sources.{SourceState, Rises}
use Rattle.nj_faults.specs.declared.fault.GraphFault.{GraphFault}
use Rattle.nj_graph.specs.declared.reader.Reader.{Reader}
use Rattle.nj_faults.specs.Faults.{fault_in, no_memory}
use Rattle.nj_graph.specs.Parsed.{Parsed, parsed_in}
use Rattle.nj_graph.specs.Reading as reading
use Rattle.nj_graph.specs.Reading.{Site, entry_at, End, Whole, Lacking, ReadingModel, continued, and_then}
use Rattle.nj_graph.specs.Reading.{opened_in, statement_read, statements_read, text_read}
use Rattle.nj_graph.specs.Runs.{IsRead, IsEnd, ReachedModel, Stops}
use Rattle.nj_graph.specs.Inside.ReaderContracts.{Has, ReadsAll, ReadsOne, StopsAt, OpensNamed, ReadsText}
use Rattle.nj_graph.specs.Inside.ReaderContracts.{ReadsOrStops, NextOf, NextIs}
use Rattle.nj_graph.proofs.Comes.{and_then-comes, statements-come}
use Rattle.nj_graph.proofs.Tables.{extends-trans, read-extends, reads-then, reads-all-then}
use Rattle.nj_graph.proofs.ParsedLemmas.{and_parsed, parsed-step, parsed-end, parsed-fault}
use Rattle.nj_graph.proofs.Naming.{syntax-names}

-- ---- one reading after the other

-- the reading did not go to its end
abbrev pub IsStopped : End → Type 0
IsStopped Whole = ⊥
IsStopped (reading.Refused fault) = ⊤
IsStopped (Lacking path place) = ⊤

is-stopped : (before after : SourceState) (end : End) (fault : GraphFault) → IsEnd before after end fault
    → IsStopped end
is-stopped before after Whole fault h = h
is-stopped before after (reading.Refused expected) fault h = tt
is-stopped before after (Lacking path place) fault h = tt

is-end-before : (before mid after : SourceState) (end : End) (fault : GraphFault)
    → mid.failures ≡ before.failures → IsEnd mid after end fault → IsEnd before after end fault
is-end-before before mid after Whole fault same h = h
is-end-before before mid after (reading.Refused expected) fault same h = (h.0, h.1 ∙ same)
is-end-before before mid after (Lacking path place) fault same h =
    (h.0, subst (λ n. Rises n after.failures) same h.1)

-- a reading passes on how another reading stops
pub record Passes (main : List ℕ) (files : List Reading) (inner outer : List Reading → ReadingModel) : Type 0
  where
    pub comes : (all : List Reading) → IsPrefix files all → (front : List (List ℕ))
        → IsPrefix front (come_to main (inner all)) → IsPrefix front (come_to main (outer all))
    pub ends : (all : List Reading) → IsPrefix files all → (entries : List ReadStatement) (end : End)
        → IsStopped end → inner all ≡ record { entries = entries; end = end }
        → outer all ≡ record { entries = entries; end = end }

module _ (main : List ℕ) (before mid after : SourceState) (old files held : List Reading)
    (inner outer : List Reading → ReadingModel) (reads : ReadsAll before mid old files held)
    (passes : Passes main files inner outer) where
  pub stops-then : (fault : GraphFault) → StopsAt main mid after held inner fault
      → StopsAt main before after old outer fault
  stops-then fault s = record {
    files = s.files;
    reads =
        reads-then before mid after old files s.files reads.reads there;
    stops = by s.stops;
  }
    where
      there : IsRead mid after files s.files
      there = subst (λ fs. IsRead mid after fs s.files) reads.held_is s.reads

      within : (all : List Reading) → IsPrefix s.files all → IsPrefix files all
      within all e = extends-trans all s.files files e (read-extends mid after files s.files there)

      by : Stops mid after s.files (λ all. reached_by main (inner all)) fault
          → Stops before after s.files (λ all. reached_by main (outer all)) fault
      by (inl m) = inl (record {
        answered = m.answered;
        failures = m.failures ∙ reads.failures;
        came_to =
            λ all e. passes.comes all (within all e) (paths_of s.files) (m.came_to all e);
      })
      by (inr e) = inr (record {
        reached = e.reached;
        answered = is-end-before before mid after e.reached.read.end fault reads.failures e.answered;
        read = λ all ext lacks.
            ap (reached_by main) (passes.ends all (within all ext) e.reached.read.entries e.reached.read.end
            (is-stopped mid after e.reached.read.end fault e.answered)
            (ap (λ (r : ReachedModel). r.read) (e.read all ext lacks)))
            ∙ sym (ap (λ (r : ReachedModel). reached_by main r.read) (e.read all ext lacks))
            ∙ e.read all ext lacks;
        came_to = e.came_to;
      })

-- ---- the file that a statement names

module _ (main : List ℕ) (before mid after : SourceState) (old opened held : Reader) (left : ℕ) (inner : Site)
    (text : List ℕ) (e : ReadStatement) (entries : List ReadStatement) where
  abbrev outer : List Reading → ReadingModel
  outer all = statement_read (opened_in all left) e entries

  pub reads-named : OpensNamed main before mid old opened left inner text e entries
      → (result : Result (Unit {0}) GraphFault)
      → ReadsOrStops main mid after opened held
      (λ all. text_read (opened_in all (left - 1)) inner text (e ∷ entries)) result
      → ReadsOrStops main before after old held outer result
  reads-named o (Ok done) r = record {
    files = r.files;
    reads = reads-all-then before mid after old.files o.files r.files opened.files held.files o.reads
        (subst (λ fs. ReadsAll mid after fs r.files held.files) o.reads.held_is r.reads);
    entries = r.entries;
    has = r.has;
    read = λ all ext. is all (extends-trans all r.files o.files ext
        (read-extends mid after o.files r.files
        (subst (λ fs. IsRead mid after fs r.files) o.reads.held_is r.reads.reads))) ∙ r.read all ext;
  }
    where
      one-less : left - 1 ≡ o.within
      one-less = rw o.left_is (omega arith)

      is : (all : List Reading) → IsPrefix o.files all
          → outer all ≡ text_read (opened_in all (left - 1)) inner text (e ∷ entries)
      is all ext = o.read all ext ∙ ap (λ n. text_read (opened_in all n) inner text (e ∷ entries))
          (sym one-less)
  reads-named o (Err fault) s =
      stops-then main before mid after old.files o.files opened.files
      (λ all. text_read (opened_in all (left - 1)) inner text (e ∷ entries)) outer o.reads (record {
        comes = λ all ext front h. subst (λ r. IsPrefix front (come_to main r)) (sym (is all ext)) h;
        ends = λ all ext entries2 end stopped h. is all ext ∙ h;
      }) fault s
    where
      one-less : left - 1 ≡ o.within
      one-less = rw o.left_is (omega arith)

      is : (all : List Reading) → IsPrefix o.files all
          → outer all ≡ text_read (opened_in all (left - 1)) inner text (e ∷ entries)
      is all ext = o.read all ext ∙ ap (λ n. text_read (opened_in all n) inner text (e ∷ entries))
          (sym one-less)

-- a statement that does not name a file
pub one-read : (main : List ℕ) (before after : SourceState) (old held : Reader) (left : ℕ) (e : ReadStatement)
    (entries : List ReadStatement) → ReadsOne main before after old held e entries
    → ReadsText main before after old held (λ all. statement_read (opened_in all left) e entries)
one-read main before after old held left e entries r = record {
  files = old.files;
  reads = r.reads;
  entries = e ∷ entries;
  has = r.has;
  read = λ all ext. r.read (opened_in all left);
}

-- ---- the statements of a text

abbrev pub lines_left : Left → ℕ
lines_left (Lines ls) = ahead ls
lines_left (Refused fault) = 0

-- The statements read are held, and the text reads the same as the lines that are left from here
-- on.
pub record Underway (main : List ℕ) (before after : SourceState) (old held : Reader) (left : ℕ) (site : Site)
    (text : List ℕ) (entries : List ReadStatement) (lines : List Line) : Type 0 where
  pub files : List Reading
  pub reads : ReadsAll before after old.files files held.files
  pub now : List ReadStatement
  pub has : Has main held now
  pub most : ℕ
  pub capacity : ahead lines < most
  pub continues : (all : List Reading) → IsPrefix files all
      → text_read (opened_in all left) site text entries
      ≡ statements_read (opened_in all left) site (parsed_in next_statement most lines).items
      (parsed_in next_statement most lines).fault now

module _ (main : List ℕ) (before after : SourceState) (old held : Reader) (left : ℕ) (site : Site)
    (text : List ℕ) (entries : List ReadStatement) (lines : List Line) where
  abbrev reading_of_text : List Reading → ReadingModel
  reading_of_text all = text_read (opened_in all left) site text entries

  -- the end of the text
  pub ends-text : (rest : List Line) → Underway main before after old held left site text entries lines
      → next_statement lines ≡ Ok (None, rest) → ReadsText main before after old held reading_of_text
  unfolding statements_read
  ends-text rest u h = record {
    files = u.files;
    reads = u.reads;
    entries = u.now;
    has = u.has;
    read = λ all ext. u.continues all ext ∙ ap
        (λ (s : Parsed PlacedModel). statements_read (opened_in all left) site s.items s.fault u.now)
        (parsed-end next_statement u.most lines rest h);
  }

  -- there was no memory for the next statement
  pub ends-memory : (fault : GraphFault) → Underway main before after old held left site text entries lines
      → fault ≡ no_memory → StopsAt main before after old.files reading_of_text fault
  ends-memory fault u none = record {
    files = u.files;
    reads = u.reads.reads;
    stops = inl (record {
      answered = none;
      failures = u.reads.failures;
      came_to =
          λ all ext. subst (λ r. IsPrefix (paths_of u.files) (come_to main r)) (sym (u.continues all ext))
          (subst (λ ps. IsPrefix ps (come_to main
          (statements_read (opened_in all left) site (parsed_in next_statement u.most lines).items
          (parsed_in next_statement u.most lines).fault u.now))) listed
          (statements-come main all left site (parsed_in next_statement u.most lines).items
          (parsed_in next_statement u.most lines).fault u.now));
    });
  }
    where
      listed : paths_read main u.now ≡ paths_of u.files
      listed = sym u.has.paths_are ∙ ap paths_of u.reads.held_is

  -- a fault of syntax
  pub ends-fault : (fault : GraphFault) (found : Fault)
      → Underway main before after old held left site text entries lines → next_statement lines ≡ Err found
      → fault ≡ fault_in site.file found
      → StopsAt main before after old.files reading_of_text fault
  unfolding statements_read
  ends-fault fault found u h reported = record {
    files = u.files;
    reads = u.reads.reads;
    stops = inr (record {
      reached = reached_by main (record {
        entries = u.now;
        end =
            reading.Refused (fault_in site.file found);
      });
      answered = (reported, u.reads.failures);
      read = λ all ext lacks. ap (reached_by main)
          (u.continues all ext ∙ ap (λ (s : Parsed PlacedModel). statements_read (opened_in all left) site
          s.items s.fault u.now) (parsed-fault next_statement u.most lines found h u.capacity));
      came_to = ap (with_news (paths_read main u.now)) (syntax-names site.file found) ∙ sym u.has.paths_are
          ∙ ap paths_of u.reads.held_is;
    });
  }

  -- ---- a statement

  module _ (last : SourceState) (later : Reader) (s : PlacedModel) (rest : List Line)
      (next : next_statement lines ≡ Ok (Some s, rest)) where
    abbrev remainder : (fewer : ℕ) → List Reading → List ReadStatement → ReadingModel
    remainder fewer all es = statements_read (opened_in all left) site
        (parsed_in next_statement fewer rest).items (parsed_in next_statement fewer rest).fault es

    first : (u : Underway main before after old held left site text entries lines) (fewer : ℕ)
        → parsed_in next_statement u.most lines ≡ and_parsed s (parsed_in next_statement fewer rest)
        → (all : List Reading) → IsPrefix u.files all
        → reading_of_text all ≡ and_then (statement_read (opened_in all left) (entry_at site s) u.now)
        (remainder fewer all)
    unfolding statements_read
    first u fewer is all ext = u.continues all ext
        ∙ ap (λ (x : Parsed PlacedModel). statements_read (opened_in all left) site x.items x.fault u.now) is

    pub turn : (u : Underway main before after old held left site text entries lines)
        → ReadsText main after last held later
        (λ all. statement_read (opened_in all left) (entry_at site s) u.now)
        → Underway main before last old later left site text entries rest
    turn u r =
        let step = parsed-step next_statement u.most lines rest s next (statement_takes lines s rest next)
        u.capacity in
        let there = subst (λ fs. ReadsAll after last fs r.files later.files) u.reads.held_is r.reads in
        record {
          files = r.files;
          reads = reads-all-then before after last old.files u.files r.files held.files later.files u.reads
              there;
          now = r.entries;
          has = r.has;
          most = step.0;
          capacity = step.2;
          continues = λ all ext. first u step.0 step.1 all
              (extends-trans all r.files u.files ext (read-extends after last u.files r.files there.reads))
              ∙ ap (λ x. and_then x (remainder step.0 all)) (r.read all ext);
        }

    pub turn-stops : (fault : GraphFault) (u : Underway main before after old held left site text entries
        lines) → StopsAt main after last held.files
        (λ all. statement_read (opened_in all left) (entry_at site s) u.now) fault
        → StopsAt main before last old.files reading_of_text fault
    turn-stops fault u stops =
        let step = parsed-step next_statement u.most lines rest s next (statement_takes lines s rest next)
        u.capacity in
        stops-then main before after last old.files u.files held.files
        (λ all. statement_read (opened_in all left) (entry_at site s) u.now) reading_of_text u.reads
        (record {
          comes = λ all ext front h. subst (λ r. IsPrefix front (come_to main r))
              (sym (first u step.0 step.1 all ext))
              (and_then-comes main front (statement_read (opened_in all left) (entry_at site s) u.now)
              (remainder step.0 all) h (λ es. statements-come main all left site
              (parsed_in next_statement step.0 rest).items (parsed_in next_statement step.0 rest).fault
              es));
          ends = λ all ext es end stopped h. first u step.0 step.1 all ext
              ∙ ap (λ x. and_then x (remainder step.0 all)) h ∙ stays es end (remainder step.0 all) stopped;
        }) fault stops
      where
        stays : (es : List ReadStatement) (end : End) (k : List ReadStatement → ReadingModel) → IsStopped end
            → continued end es k ≡ record { entries = es; end = end }
        stays es Whole k h = absurd h
        stays es (reading.Refused f) k h = refl
        stays es (Lacking path place) k h = refl

-- ---- the results of a parser

pub next-some : (file : List ℕ) (before after : Left) (lines : List Line) (found : Option (Placed Statement))
    (s : Placed Statement) → before ≡ Lines lines → found ≡ Some s → NextIs file before after (Ok found)
    → (rest : List Line) × (next_statement lines ≡ Ok (Some (placed_model s), rest)) × (after ≡ Lines rest)
next-some file before after lines found s at is next = grind (arith, common_steps)

pub next-none : (file : List ℕ) (before after : Left) (lines : List Line) (found : Option (Placed Statement))
    → before ≡ Lines lines → found ≡ None → NextIs file before after (Ok found)
    → (rest : List Line) × (next_statement lines ≡ Ok (None, rest))
next-none file before after lines found at is next = grind (arith, common_steps)

pub fewer-left : (before after : Left) (lines rest : List Line) (s : PlacedModel) → before ≡ Lines lines
    → after ≡ Lines rest → next_statement lines ≡ Ok (Some s, rest) → lines_left after < lines_left before
fewer-left before after lines rest s at remainder next =
    rw (at, remainder) (statement_takes lines s rest next)

pub next-stops : (main : List ℕ) (reported after : SourceState) (old held : Reader) (left : ℕ) (site : Site)
    (text : List ℕ) (entries : List ReadStatement) (lines : List Line) (before later : Left)
    (fault : GraphFault)
    → Underway main reported after old held left site text entries lines → before ≡ Lines lines
    → NextIs site.file before later (Err fault)
    → StopsAt main reported after old.files (λ all. text_read (opened_in all left) site text entries) fault
next-stops main reported after old held left site text entries lines before later fault u at next =
    by (subst (λ b. NextIs site.file b later (Err fault)) at next)
  where
    by : NextOf site.file lines later (Err fault)
        → StopsAt main reported after old.files (λ all. text_read (opened_in all left) site text entries)
        fault
    by (inl none) = ends-memory main reported after old held left site text entries lines fault u none
    by (inr found) = ends-fault main reported after old held left site text entries lines fault found.0 u
        found.1 found.2

pub site-same : (inner : Site) (file : List ℕ) (number : ℕ) → inner.file ≡ file → inner.scope ≡ number
    → inner ≡ record { file = file; depth = inner.depth; scope = number; around = inner.around }
site-same inner file number is at = grind (arith, common_steps)
