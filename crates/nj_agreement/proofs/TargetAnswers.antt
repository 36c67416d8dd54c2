-- Two answers to one word.
use Rattle.std.proofs.Common.{◌≡◌, ◌⊎◌, inl, inr, ℕ, Some, Result, Ok, Err, List, sym, ap}
use Rattle.std.proofs.Common.{subst, ◌∙◌, bytes_eq}
use Rattle.std.specs.Global.{Vec}
use Rattle.std.specs.List.{IsDistinct}
use Rattle.nj_names.specs.declared.files.FileNo.{FileNo}
use Rattle.nj_names.specs.Files.{AreFiles}
use Rattle.nj_faults.specs.declared.fault.GraphFault.{GraphFault}
use Rattle.nj_faults.specs.Faults.{no_memory}
use Rattle.nj_graph.specs.Graph.{GraphModel}
use Rattle.nj_graph.specs.Handles.{GraphFiles, file_of}
use Rattle.nj_graph.specs.declared.handles.File.{File}
use Rattle.nj_graph.specs.Targets.{Picks, PicksFile, PicksFiles, PicksTargets}
use Rattle.nj_agreement.specs.Agreement.{AgreeUpTo, AgreeBut}
use Rattle.nj_agreement.specs.Memory.{IsGraphOutOfMemory}
use Rattle.nj_agreement.proofs.FileNumbers.{one-number, same-numbers}

oks : {X E : Type 0} (x y : X) (expected : Result X E) → expected ≡ Ok x → expected ≡ Ok y → x ≡ y
oks x y expected is also = let e = sym is ∙ also in let same : Ok x ≡ Ok y = e in cc

-- two faults are the same, unless one is out of memory
faults : {X : Type 0} (expected : Result X GraphFault) (one other : GraphFault)
    → ((one ≡ no_memory) ⊎ (expected ≡ Err one)) → ((other ≡ no_memory) ⊎ (expected ≡ Err other))
    → (one ≡ other) ⊎ (IsGraphOutOfMemory one ⊎ IsGraphOutOfMemory other)
faults expected one other (inl none) _ = inr (inl none)
faults expected one other (inr is) (inl none) = inr (inr none)
faults expected one other (inr is) (inr also) =
    let e = sym is ∙ also in let same : one ≡ other = cc in inl same

unless-memory : {X : Type 0} (expected : Result X GraphFault) (x : X) (fault : GraphFault) → expected ≡ Ok x
    → ((fault ≡ no_memory) ⊎ (expected ≡ Err fault)) → IsGraphOutOfMemory fault
unless-memory expected x fault is (inl none) = none
unless-memory expected x fault is (inr bad) = absurd (let e = sym is ∙ bad in cc)

pub picks-agree : (files : List (List ℕ)) → IsDistinct bytes_eq files
    → (expected : Result (List ℕ) GraphFault)
    → (one other : Result FileNo GraphFault) → Picks files expected one → Picks files expected other
    → AgreeBut IsGraphOutOfMemory one other
picks-agree files distinct expected (Ok a) (Ok b) (path, is, at) (path2, also, at2) =
    one-number files distinct a b path at
    (at2 ∙ ap Some (oks path2 path expected also is))
picks-agree files distinct expected (Ok a) (Err f) (path, is, at) bad = unless-memory expected path f is bad
picks-agree files distinct expected (Err e) (Ok b) bad (path, is, at) = unless-memory expected path e is bad
picks-agree files distinct expected (Err e) (Err f) bad bad2 = faults expected e f bad bad2

pub file-agrees : (graph : GraphModel) (expected : Result (List ℕ) GraphFault)
    (one other : Result File GraphFault)
    → PicksFile graph expected one → PicksFile graph expected other
    → AgreeUpTo (λ a b. file_of a ≡ file_of b) IsGraphOutOfMemory one other
file-agrees graph expected (Ok a) (Ok b) (is, at) (also, at2) =
    ap (λ g. record { graph = g; path = (file_of a).path }) (at ∙ sym at2)
    ∙ ap (λ p. record { graph = (file_of b).graph; path = p })
    (oks (file_of a).path (file_of b).path expected is also)
file-agrees graph expected (Ok a) (Err f) (is, at) bad = unless-memory expected (file_of a).path f is bad
file-agrees graph expected (Err e) (Ok b) bad (is, at) = unless-memory expected (file_of b).path e is bad
file-agrees graph expected (Err e) (Err f) bad bad2 = faults expected e f bad bad2

pub files-agree : (graph : GraphModel) (expected : Result (List (List ℕ)) GraphFault)
    → (one other : Result GraphFiles GraphFault) → PicksFiles graph expected one
    → PicksFiles graph expected other
    → AgreeBut IsGraphOutOfMemory one other
files-agree graph expected (Ok a) (Ok b) (is, at) (also, at2) =
    ap (λ g. record { graph = g; paths = a.paths }) (at ∙ sym at2)
    ∙ ap (λ ps. record { graph = b.graph; paths = ps }) (oks a.paths b.paths expected is also)
files-agree graph expected (Ok a) (Err f) (is, at) bad = unless-memory expected a.paths f is bad
files-agree graph expected (Err e) (Ok b) bad (is, at) = unless-memory expected b.paths e is bad
files-agree graph expected (Err e) (Err f) bad bad2 = faults expected e f bad bad2

pub targets-agree : (files : List (List ℕ)) → IsDistinct bytes_eq files
    → (expected : Result (List (List ℕ)) GraphFault) (one other : Result (Vec FileNo) GraphFault)
    → PicksTargets files expected one → PicksTargets files expected other
    → AgreeUpTo (λ a b. a.items ≡ b.items) IsGraphOutOfMemory one other
targets-agree files distinct expected (Ok a) (Ok b) (paths, is, are) (paths2, also, are2) =
    same-numbers files distinct a.items b.items paths are
    (subst (AreFiles files b.items) (oks paths2 paths expected also is) are2)
targets-agree files distinct expected (Ok a) (Err f) (paths, is, are) bad =
    unless-memory expected paths f is bad
targets-agree files distinct expected (Err e) (Ok b) bad (paths, is, are) =
    unless-memory expected paths e is bad
targets-agree files distinct expected (Err e) (Err f) bad bad2 = faults expected e f bad bad2
