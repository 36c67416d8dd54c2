-- Items of lists of files.
use Rattle.std.proofs.Common.{◌≡◌, ℕ, true≢false, Option, Some, None, is_some, unwrap_or, List, option_map}
use Rattle.std.proofs.Common.{slice_get, refl, sym, ap, ◌∙◌}
use Rattle.nj_names.specs.declared.files.FileNo.{FileNo}
use Rattle.nj_names.specs.Files.{AreFiles}
use Rattle.nj_c.specs.declared.status.Status.TheVariants.{Done, Nothing}
use Rattle.nj_c.specs.Asking.{GivesFile}
use Rattle.nj_c.specs.Statuses.{code_of}
use Rattle.std.proofs.lemmas.Option.{slice_get-map}

-- the item at an index, by the numbers and by the paths
at-index : (files : List (List ℕ)) (list : List FileNo) (paths : List (List ℕ)) (index : ℕ)
    → AreFiles files list paths
    → option_map (λ f. slice_get files f.0) (slice_get list index) ≡ option_map Some (slice_get paths index)
at-index files list paths index are =
    sym (slice_get-map (λ f. slice_get files f.0) list index) ∙ ap (λ os. slice_get os index) are
    ∙ slice_get-map Some paths index

by-some : (files : List (List ℕ)) (file : ℕ) (path : Option (List ℕ))
    → Some (slice_get files file) ≡ option_map Some path → GivesFile files path (code_of Done) file
by-some files file None is = absurd (true≢false (ap is_some is))
by-some files file (Some path) is = (refl, ap (λ o. unwrap_or o None) is)

by-none : (files : List (List ℕ)) (file : ℕ) (path : Option (List ℕ)) → None ≡ option_map Some path
    → GivesFile files path (code_of Nothing) file
by-none files file None is = refl
by-none files file (Some path) is = absurd (true≢false (sym (ap is_some is)))

pub gives-some : (files : List (List ℕ)) (list : List FileNo) (paths : List (List ℕ)) (index : ℕ)
    (found : FileNo) → AreFiles files list paths
    → slice_get list index ≡ Some found → GivesFile files (slice_get paths index) (code_of Done) found.0
gives-some files list paths index found are is =
    by-some files found.0 (slice_get paths index)
    (sym (ap (option_map (λ f. slice_get files f.0)) is) ∙ at-index files list paths index are)

pub gives-none : (files : List (List ℕ)) (list : List FileNo) (paths : List (List ℕ)) (index file : ℕ)
    → AreFiles files list paths
    → slice_get list index ≡ None → GivesFile files (slice_get paths index) (code_of Nothing) file
gives-none files list paths index file are is =
    by-none files file (slice_get paths index)
    (sym (ap (option_map (λ f. slice_get files f.0)) is) ∙ at-index files list paths index are)
