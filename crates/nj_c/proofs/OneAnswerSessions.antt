-- Two sessions that were opened, or to which the same file was supplied.
use Rattle.std.proofs.Common.{◌≡◌, ◌≢◌, inl, inr, ℕ, ℤ, List, Option, refl, sym, ap, map, ◌∙◌}
use Rattle.nj_c.specs.declared.session_state.Kept.{Kept}
use Rattle.nj_c.specs.declared.status.Status.{Status}
use Rattle.nj_c.specs.declared.status.Status.TheVariants.{Done, Nothing, Short, Fault, Wanted, NotLoaded}
use Rattle.nj_c.specs.declared.status.Status.TheVariants.{BadNumber, BadMark, NotUtf8, NotOpen, OutOfMemory}
use Rattle.nj_c.specs.declared.status.Status.TheVariants.{BadLog}
use Rattle.nj_c.specs.Loading.{IsEmpty, Opens, TakesFile, TakesPath}
use Rattle.nj_c.specs.OneAnswer.{Equal, SameChange, SameContents}
use Rattle.nj_c.specs.SuppliedFiles.{Supplied, supplied_for, SameFiles, SetsFile}
use Rattle.nj_c.proofs.OneAnswerChanges.{both-some, equal-options, parts-agree}

-- ---- opened

empty-agree : (one other : Kept) → IsEmpty one → IsEmpty other → SameContents Equal Equal one other
empty-agree one other is also = record {
  files = λ path. ap (λ h. supplied_for h path) (also.files ∙ sym is.files);
  wanted = ap (map (λ p. p.items)) (is.wanted ∙ sym also.wanted);
  graph = equal-options one.graph other.graph (is.graph ∙ sym also.graph);
  fault = is.fault ∙ sym also.fault;
  found = ap (map (λ e. e.0)) (is.lists.0 ∙ sym also.lists.0);
  mark = is.lists.1 ∙ sym also.lists.1;
  stale = is.lists.4 ∙ sym also.lists.4;
  joined = λ _. record {
    log = is.lists.2 ∙ sym also.lists.2;
    unknown = is.lists.3 ∙ sym also.lists.3;
  };
  output = is.output ∙ sym also.output;
  errors = is.errors ∙ sym also.errors;
}

pub opens-agree : (before before2 after after2 : Option Kept) (one other : ℤ) → Opens before after one
    → Opens before2 after2 other → SameChange Equal Equal one other after after2
opens-agree before before2 after after2 one other (inl (kept, is, left, empty))
    (inl (kept2, also, left2, empty2)) _ _ = (
      is ∙ sym also,
      both-some (SameContents Equal Equal) after after2 kept kept2 left left2
          (empty-agree kept kept2 empty empty2),
    )
opens-agree before before2 after after2 one other (inl is) (inr lacks) _ memory = absurd (memory lacks.0)
opens-agree before before2 after after2 one other (inr lacks) also memory _ = absurd (memory lacks.0)

-- ---- supplied

module _ (kept : Kept) (path : List ℕ) (file : Option (List ℕ)) where
  takes : (after : Supplied) (status : Status) → status ≢ OutOfMemory
      → TakesFile kept.files after path file status
      → (status ≡ Done) × SetsFile kept.files after path file
  takes after Done memory is = (refl, is)
  takes after OutOfMemory memory is = absurd (memory refl)
  takes after Nothing memory is = absurd is
  takes after Short memory is = absurd is
  takes after Fault memory is = absurd is
  takes after Wanted memory is = absurd is
  takes after NotLoaded memory is = absurd is
  takes after BadNumber memory is = absurd is
  takes after BadMark memory is = absurd is
  takes after NotUtf8 memory is = absurd is
  takes after NotOpen memory is = absurd is
  takes after BadLog memory is = absurd is

  module _ (new new2 : Kept) (files files2 : Supplied) (left : new ≡ record kept { files = files })
      (left2 : new2 ≡ record kept { files = files2 })
    where
      part : {A : Type 0} (of : Kept → A) → of (record kept { files = files })
          ≡ of (record kept { files = files2 }) → of new ≡ of new2
      part of = parts-agree of new new2 (record kept { files = files }) (record kept { files = files2 }) left
          left2

      same-but-files : SameFiles files files2 → SameContents Equal Equal new new2
      same-but-files same = record {
        files = λ p. sym (part (λ (k : Kept). supplied_for k.files p) (sym (same p)));
        wanted = part (λ (k : Kept). map (λ p. p.items) k.wanted.items) refl;
        graph = equal-options new.graph new2.graph (part (λ (k : Kept). k.graph) refl);
        fault = part (λ (k : Kept). k.fault) refl;
        found = part (λ (k : Kept). map (λ e. e.0) k.found.items) refl;
        mark = part (λ (k : Kept). k.mark.items) refl;
        stale = part (λ (k : Kept). k.stale.items) refl;
        joined = λ _. record {
          log = part (λ (k : Kept). k.log) refl;
          unknown = part (λ (k : Kept). k.unknown.items) refl;
        };
        output = part (λ (k : Kept). k.output.bytes) refl;
        errors = part (λ (k : Kept). k.errors.bytes) refl;
      }

  pub supplies-agree : (new new2 : Kept) (status status2 : Status) → status ≢ OutOfMemory
      → status2 ≢ OutOfMemory
      → TakesPath kept new path file status → TakesPath kept new2 path file status2
      → (status ≡ status2) × SameContents Equal Equal new new2
  supplies-agree new new2 status status2 memory memory2 (files, left, is) (files2, left2, also) =
      let sets = takes files status memory is in
      let sets2 = takes files2 status2 memory2 also in (
        sets.0 ∙ sym sets2.0,
        same-but-files new new2 files files2 left left2
            (λ other. sets2.1.files other ∙ sym (sets.1.files other)),
      )
