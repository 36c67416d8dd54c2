use Rattle.std.proofs.Common.{◌<◌, ◌∙◌, ap, get_or, length, map, refl, subst, sym}
use Rattle.std.specs.Prelude.{All, fold}
use Rattle.std.proofs.lemmas.List.{take_all}
use Rattle.nj_names.specs.NameTables.{with_name}
use Rattle.nj_names.specs.NumberSets.{NumberSetModel}
use Rattle.nj_graph.specs.Files.{path_at}
use Rattle.nj_ask.specs.Inside.FilesFound.{paths_found}
use Rattle.nj_ask.proofs.LedLemmas.{added-below, next-added, number-added}
use Rattle.nj_ask.proofs.looked_through.add_files.Goals as goal

pub files-init : goal.files-init
files-init c = record {
  limit = refl;
  known = c.numbers-found_count.ensures.below;
  found = refl;
}

pub files-preserved : goal.files-preserved
files-preserved c =
    let files = c.args.graph.now.files in
    let numbers = c.files.found.numbers in
    let i = c.files.file-index in
    let n = (get_or c.args.files.now i (record { 0 = 0 })).0 in
    let limit = c.files.invariant.limit ∙ c.requires.limit in
    let below : n < length files = c.requires.files i (record { 0 = 0 }) c.files-test.true in
    let added = c.in_ok-insert.ensures.added in
    record {
      limit = ap (λ (s : NumberSetModel). s.limit) added ∙ c.files.invariant.limit;
      known = subst (λ (s : NumberSetModel). All (λ m. m < s.limit) s.numbers) (sym added)
          (added-below c.files.found.limit numbers c.files.invariant.known n
          (subst (λ k. n < k) (sym limit) below));
      found = next-added (path_at files) (paths_found files c.args.found.now)
          (paths_found files c.files.found) (paths_found files c.insert.new.self) c.args.files.now i
          (record { 0 = 0 }) c.files-test.true c.files.invariant.found
          (ap (paths_found files) added
          ∙ number-added files c.file_count-file_count.ensures.each_path_once numbers
          (subst (λ k. All (λ m. m < k) numbers) limit c.files.invariant.known) n below);
    }

pub insert-requires : goal.insert-requires
insert-requires c =
    subst (λ k. (get_or c.args.files.now c.files.file-index (record { 0 = 0 })).0 < k)
    (sym (c.files.invariant.limit ∙ c.requires.limit))
    (c.requires.files c.files.file-index (record { 0 = 0 }) c.files-test.true)

pub returns-clause-found : goal.returns-clause-found
returns-clause-found c =
    let files = c.args.graph.now.files in
    c.files.invariant.found
    ∙ ap (λ fs. fold with_name (paths_found files c.args.found.now) (map (path_at files) fs))
    (take_all c.files.file-index c.args.files.now c.files-test.false)
