-- Which edges are pending on dyndep files, as the files are joined one after another.
use Rattle.std.proofs.lemmas.Grind.{common_steps}
use Rattle.std.proofs.Common.{◌≡◌, ℕ, zero, suc, ◌<◌, ◌==◌, Bool, true, false, cond, not, ◌||◌, Option, Some}
use Rattle.std.proofs.Common.{None, option_map, List, [], ◌∷◌, find, filter, length, slice_get, bytes_eq}
use Rattle.std.proofs.Common.{option_and_then, arith, refl, sym, ap, subst, ◌∙◌, true≢false}
use Rattle.nj_graph.proofs.Continuing.{unless_fault}
use Rattle.std.specs.List.{AllByRecursion, list_any}
use Rattle.std.specs.Str.{is_utf8}
use Rattle.std.proofs.lemmas.Slice.Eq.{bytes_eq-Decides}
use Rattle.nj_manifest.specs.Faults.{Fault}
use Rattle.nj_manifest.specs.Dyndeps.{EntryModel}
use Rattle.nj_scope.specs.Readings.{Reading, reading_of}
use Rattle.nj_scope.specs.ReadingList.{Discovered, ReadStatement}
use Rattle.nj_faults.specs.declared.fault.Place.{Place}
use Rattle.nj_faults.specs.declared.fault.GraphFault.{GraphFault}
use Rattle.nj_faults.specs.declared.fault.Cause.TheVariants.{PathNotText}
use Rattle.nj_statements.specs.EdgeList.{EdgeModel, Pending, edges_read, pending_read}
use Rattle.nj_statements.specs.Joining.{discover, entry_fault, with_entry, no_statement}
use Rattle.nj_statements.specs.Joining.{lacking_fault, dyndep_files}
use Rattle.nj_statements.proofs.DiscoverEdges.{pending-discover, pending-within}
use Rattle.nj_graph.specs.Reading.{End, Whole, Refused, Lacking, ReadingModel, end_by, stopped, outcome_read}
use Rattle.nj_graph.specs.Inside.Outcomes.{found_read}
use Rattle.nj_graph.specs.Runs.{ReachedModel}
use Rattle.nj_graph.specs.Joining.{entries_joined, text_joined, statement_place, file_joined, continued}
use Rattle.nj_graph.specs.Joining.{files_joined, all_joined, JoinedStaysJoined}

-- ---- lists

some-is : {X : Type 0} (x y : X) → Some x ≡ Some y → x ≡ y
some-is x y h = cc

within-some : {X : Type 0} (xs : List X) (i : ℕ) → i < length xs → slice_get xs i ≡ None → ⊥
within-some [] i within h = omega (arith, within)
within-some (x ∷ xs) zero within h = absurd cc
within-some (x ∷ xs) (suc i) within h = within-some xs i (omega (arith, within)) h

module _ {X : Type 0} (P : X → Type 0) where
  all-filter : (test : X → Bool) (xs : List X) → AllByRecursion P xs → AllByRecursion P (filter test xs)
  all-filter test [] all = tt
  all-filter test (x ∷ xs) all = by (test x) (all-filter test xs all.1)
    where
      by : (b : Bool) → AllByRecursion P (filter test xs)
          → AllByRecursion P (cond b (x ∷ filter test xs) (filter test xs))
      by true others = (all.0, others)
      by false others = others

  all-find : (test : X → Bool) (xs : List X) (x : X) → AllByRecursion P xs → find test xs ≡ Some x → P x
  all-find test [] x all h = absurd cc
  all-find test (y ∷ xs) x all h = by (test y) (all-find test xs x all.1) h
    where
      by : (b : Bool) → (find test xs ≡ Some x → P x) → cond b (Some y) (find test xs) ≡ Some x → P x
      by true others e = subst P (some-is y x e) all.0
      by false others e = others e

  all-to : (Q : X → Type 0) → ((x : X) → P x → Q x) → (xs : List X) → AllByRecursion P xs
      → AllByRecursion Q xs
  all-to Q to [] all = tt
  all-to Q to (x ∷ xs) all = (to x all.0, all-to Q to xs all.1)

  all-both : (Q : X → Type 0) (xs : List X) → AllByRecursion P xs → AllByRecursion Q xs
      → AllByRecursion (λ x. P x × Q x) xs
  all-both Q [] all more = tt
  all-both Q (x ∷ xs) all more = ((all.0, more.0), all-both Q xs all.1 more.1)

find-none : {X : Type 0} (test : X → Bool) (xs : List X) → find test xs ≡ None
    → AllByRecursion (λ x. test x ≡ false) xs
find-none test [] h = tt
find-none test (x ∷ xs) h = by (test x) (find-none test xs) refl h
  where
    by : (b : Bool) → (find test xs ≡ None → AllByRecursion (λ x. test x ≡ false) xs) → test x ≡ b
        → cond b (Some x) (find test xs) ≡ None → AllByRecursion (λ x. test x ≡ false) (x ∷ xs)
    by true others is e = absurd cc
    by false others is e = (is, others e)

-- ---- properties that stay as files are joined

module _ (P : List ReadStatement → Type 0)
    (keeps : (edge : ℕ) (found : Discovered) (entries : List ReadStatement) → P entries
    → P (discover edge found entries)) where
  pub kept-by-entry : (stated joined : List ReadStatement) (entry : EntryModel) → P joined
      → P (with_entry stated joined entry)
  kept-by-entry stated joined entry h = grind (arith, common_steps)

  kept-by-entries : (file : List ℕ) (stated : List ReadStatement) (entries : List EntryModel)
      (fault : Option Fault) (joined : List ReadStatement) → P joined
      → P (entries_joined file stated entries fault joined).entries
  unfolding entries_joined
  kept-by-entries file stated [] None joined h = h
  kept-by-entries file stated [] (Some fault) joined h = h
  kept-by-entries file stated (entry ∷ others) fault joined h =
      by (entry_fault file stated joined entry)
      (kept-by-entries file stated others fault (with_entry stated joined entry)
      (kept-by-entry stated joined entry h))
    where
      by : (f : Option GraphFault) → P (entries_joined file stated others fault
          (with_entry stated joined entry)).entries
          → P (unless_fault f joined (entries_joined file stated others fault
          (with_entry stated joined entry))).entries
      by (Some f) later = h
      by None later = later

  pub kept-by-file : (files : List Reading) (stated : List ReadStatement) (p : Pending)
      (joined : List ReadStatement) → P joined → P (file_joined files stated p joined).entries
  unfolding file_joined
  kept-by-file files stated p joined h = by_text (is_utf8 p.file)
    where
      at_statement : Place
      at_statement = statement_place stated p.edge

      reads : List ℕ → ReadingModel
      reads text = text_joined p.file stated text joined

      by_found : (text : Option (List ℕ)) → P (found_read p.file at_statement joined reads text).entries
      by_found None = h
      by_found (Some text) = kept-by-entries p.file stated _ _ joined h

      by_outcome : (r : Option Reading) → P (outcome_read p.file at_statement joined reads r).entries
      by_outcome None = h
      by_outcome (Some r) = by_found r.bytes

      by_text : (b : Bool) → P (cond b (outcome_read p.file at_statement joined reads
          (reading_of files p.file)) (stopped joined at_statement PathNotText)).entries
      by_text true = by_outcome (reading_of files p.file)
      by_text false = h

  pub kept-by-files : (files : List Reading) (stated : List ReadStatement) (ps : List Pending)
      (joined : List ReadStatement) → P joined → P (files_joined files stated ps joined).read.entries
  unfolding files_joined
  kept-by-files files stated [] joined h = h
  kept-by-files files stated (p ∷ others) joined h =
      by (file_joined files stated p joined).end
      (kept-by-files files stated others (file_joined files stated p joined).entries)
    where
      by : (end : End) → (P (file_joined files stated p joined).entries
          → P (files_joined files stated others (file_joined files stated p joined).entries).read.entries)
          → P (continued end p (file_joined files stated p joined).entries
          (files_joined files stated others)).read.entries
      by Whole later = later (kept-by-file files stated p joined h)
      by (Refused fault) later = kept-by-file files stated p joined h
      by (Lacking path place) later = kept-by-file files stated p joined h

-- ---- after a whole file no edge is pending on it

entries-whole : (file : List ℕ) (stated : List ReadStatement) (entries : List EntryModel)
    (fault : Option Fault) (joined : List ReadStatement)
    → (entries_joined file stated entries fault joined).end ≡ Whole
    → lacking_fault file (entries_joined file stated entries fault joined).entries ≡ None
unfolding entries_joined
entries-whole file stated [] None joined h = by (lacking_fault file joined) h
  where
    by : (f : Option GraphFault) → end_by f ≡ Whole → f ≡ None
    by None e = refl
    by (Some f) e = absurd cc
entries-whole file stated [] (Some fault) joined h = absurd cc
entries-whole file stated (entry ∷ others) fault joined h =
    by (entry_fault file stated joined entry)
    (entries-whole file stated others fault (with_entry stated joined entry)) h
  where
    later : ReadingModel
    later = entries_joined file stated others fault (with_entry stated joined entry)

    by : (f : Option GraphFault) → (later.end ≡ Whole → lacking_fault file later.entries ≡ None)
        → (unless_fault f joined later).end ≡ Whole
        → lacking_fault file (unless_fault f joined later).entries ≡ None
    by (Some f) others e = absurd cc
    by None others e = others e

file-whole : (files : List Reading) (stated : List ReadStatement) (p : Pending) (joined : List ReadStatement)
    → (file_joined files stated p joined).end ≡ Whole
    → lacking_fault p.file (file_joined files stated p joined).entries ≡ None
unfolding file_joined
file-whole files stated p joined h = by_text (is_utf8 p.file) h
  where
    at_statement : Place
    at_statement = statement_place stated p.edge

    reads : List ℕ → ReadingModel
    reads text = text_joined p.file stated text joined

    by_found : (text : Option (List ℕ)) → (found_read p.file at_statement joined reads text).end ≡ Whole
        → lacking_fault p.file (found_read p.file at_statement joined reads text).entries ≡ None
    by_found None e = absurd cc
    by_found (Some text) e = entries-whole p.file stated _ _ joined e

    by_outcome : (r : Option Reading) → (outcome_read p.file at_statement joined reads r).end ≡ Whole
        → lacking_fault p.file (outcome_read p.file at_statement joined reads r).entries ≡ None
    by_outcome None e = absurd cc
    by_outcome (Some r) e = by_found r.bytes e

    by_text : (b : Bool) → (cond b (outcome_read p.file at_statement joined reads (reading_of files p.file))
        (stopped joined at_statement PathNotText)).end ≡ Whole
        → lacking_fault p.file (cond b (outcome_read p.file at_statement joined reads
        (reading_of files p.file)) (stopped joined at_statement PathNotText)).entries ≡ None
    by_text true e = by_outcome (reading_of files p.file) e
    by_text false e = absurd cc

-- if no entry is lacking, no edge is pending on the file
lacking-none : (file : List ℕ) (joined : List ReadStatement) → lacking_fault file joined ≡ None
    → AllByRecursion (λ q. bytes_eq q.file file ≡ false) (pending_read joined)
lacking-none file joined h = find-none (λ q. bytes_eq q.file file) (pending_read joined)
    (by (find (λ q. bytes_eq q.file file) (pending_read joined)) refl h)
  where
    there : (q : Pending) → q.edge < length (edges_read joined) → (found : Option EdgeModel)
        → slice_get (edges_read joined) q.edge ≡ found → option_map (no_statement file) found ≡ None → ⊥
    there q within None at none = within-some (edges_read joined) q.edge within at
    there q within (Some edge) at none = absurd cc

    by : (found : Option Pending) → find (λ q. bytes_eq q.file file) (pending_read joined) ≡ found
        → option_and_then (λ p. option_map (no_statement file) (slice_get (edges_read joined) p.edge)) found
        ≡ None → find (λ q. bytes_eq q.file file) (pending_read joined) ≡ None
    by None is none = is
    by (Some q) is none = absurd (there q (all-find (λ q. q.edge < length (edges_read joined))
        (λ q. bytes_eq q.file file) (pending_read joined) q (pending-within joined) is)
        (slice_get (edges_read joined) q.edge) refl none)

-- ---- the files on which edges are pending

-- an edge is pending on one of the given files
abbrev pending_among : List Pending → Pending → Bool
pending_among files q = list_any (λ p. bytes_eq q.file p.file) files

abbrev PendingAmong : List Pending → List ReadStatement → Type 0
PendingAmong files joined = AllByRecursion (λ q. pending_among files q ≡ true) (pending_read joined)

pending-keeps : (files : List Pending) (edge : ℕ) (found : Discovered) (entries : List ReadStatement)
    → PendingAmong files entries → PendingAmong files (discover edge found entries)
pending-keeps files edge found entries h =
    subst (AllByRecursion (λ q. pending_among files q ≡ true)) (sym (pending-discover edge found entries))
    (all-filter (λ q. pending_among files q ≡ true) (λ p. not (p.edge == edge)) (pending_read entries) h)

pending-others : (p : Pending) (others : List Pending) (joined : List ReadStatement)
    → PendingAmong (p ∷ others) joined → lacking_fault p.file joined ≡ None → PendingAmong others joined
pending-others p others joined h none =
    all-to (λ q. (pending_among (p ∷ others) q ≡ true) × (bytes_eq q.file p.file ≡ false))
    (λ q. pending_among others q ≡ true)
    (λ q both. ap (λ b. b || pending_among others q) (sym both.1) ∙ both.0)
    (pending_read joined) (all-both (λ q. pending_among (p ∷ others) q ≡ true)
    (λ q. bytes_eq q.file p.file ≡ false) (pending_read joined) h (lacking-none p.file joined none))

pending-none : (joined : List ReadStatement) → PendingAmong [] joined → pending_read joined ≡ []
pending-none joined h = by (pending_read joined) h
  where
    by : (ps : List Pending) → AllByRecursion (λ q. pending_among [] q ≡ true) ps → ps ≡ []
    by [] all = refl
    by (p ∷ ps) all = absurd (true≢false (sym all.0))

files-whole : (files : List Reading) (stated : List ReadStatement) (ps : List Pending)
    (joined : List ReadStatement) → PendingAmong ps joined
    → (files_joined files stated ps joined).read.end ≡ Whole
    → pending_read (files_joined files stated ps joined).read.entries ≡ []
unfolding files_joined
files-whole files stated [] joined pends h = pending-none joined pends
files-whole files stated (p ∷ others) joined pends h =
    by (file_joined files stated p joined).end
    (files-whole files stated others (file_joined files stated p joined).entries) refl h
  where
    next : List ReadStatement
    next = (file_joined files stated p joined).entries

    by : (end : End) → (PendingAmong others next → (files_joined files stated others next).read.end ≡ Whole
        → pending_read (files_joined files stated others next).read.entries ≡ [])
        → (file_joined files stated p joined).end ≡ end
        → (continued end p next (files_joined files stated others)).read.end ≡ Whole
        → pending_read (continued end p next (files_joined files stated others)).read.entries ≡ []
    by Whole later is e = later (pending-others p others next
        (kept-by-file (PendingAmong (p ∷ others)) (pending-keeps (p ∷ others)) files stated p joined pends)
        (file-whole files stated p joined is)) e
    by (Refused fault) later is e = absurd cc
    by (Lacking path place) later is e = absurd cc

-- The dyndep files are those on which edges are pending.
listed-after : (p q : Pending) (files : List Pending) → bytes_eq q.file p.file ≡ false
    → pending_among files q ≡ true → pending_among (filter (λ r. not (bytes_eq r.file p.file)) files) q ≡ true
listed-after p q [] other h = h
listed-after p q (r ∷ files) other h = by (bytes_eq r.file p.file) (bytes_eq q.file r.file) refl refl h
    (listed-after p q files other)
  where
    rest : List Pending
    rest = filter (λ r. not (bytes_eq r.file p.file)) files

    by : (same is : Bool) → bytes_eq r.file p.file ≡ same → bytes_eq q.file r.file ≡ is
        → (is || pending_among files q) ≡ true → (pending_among files q ≡ true → pending_among rest q ≡ true)
        → pending_among (cond (not same) (r ∷ rest) rest) q ≡ true
    by true true e f g later = absurd (true≢false
        (sym (ap (λ file. bytes_eq file p.file) ((bytes_eq-Decides q.file r.file).0 f) ∙ e) ∙ other))
    by true false e f g later = later g
    by false true e f g later = ap (λ b. b || pending_among rest q) f
    by false false e f g later = ap (λ b. b || pending_among rest q) f ∙ later g

listed : (ps : List Pending) → AllByRecursion (λ q. pending_among (dyndep_files ps) q ≡ true) ps
listed [] = tt
listed (p ∷ ps) = (
  ap (λ b. b || pending_among (filter (λ q. not (bytes_eq q.file p.file)) (dyndep_files ps)) p)
      ((bytes_eq-Decides p.file p.file).1 refl),
  all-to (λ q. pending_among (dyndep_files ps) q ≡ true) (λ q. pending_among (dyndep_files (p ∷ ps)) q ≡ true)
      (λ q h. by q (bytes_eq q.file p.file) refl h) ps (listed ps),
)
  where
    by : (q : Pending) (b : Bool) → bytes_eq q.file p.file ≡ b → pending_among (dyndep_files ps) q ≡ true
        → (bytes_eq q.file p.file || pending_among
        (filter (λ q. not (bytes_eq q.file p.file)) (dyndep_files ps)) q) ≡ true
    by q true e h = ap (λ b. b || pending_among (filter (λ q. not (bytes_eq q.file p.file)) (dyndep_files ps))
        q) e
    by q false e h = ap (λ b. b || pending_among
        (filter (λ q. not (bytes_eq q.file p.file)) (dyndep_files ps)) q) e
        ∙ listed-after p q (dyndep_files ps) e h

-- After a whole joining no edge is pending.
none-unjoined : (files : List Reading) (stated : List ReadStatement)
    → (all_joined files stated).read.end ≡ Whole → pending_read (all_joined files stated).read.entries ≡ []
unfolding all_joined
none-unjoined files stated h = files-whole files stated (dyndep_files (pending_read stated)) stated
    (listed (pending_read stated)) h

nothing-joined : (files : List Reading) (stated : List ReadStatement) → pending_read stated ≡ []
    → all_joined files stated ≡ record { read = record { entries = stated; end = Whole }; paths = [] }
unfolding all_joined files_joined
nothing-joined files stated none = ap (λ ps. files_joined files stated (dyndep_files ps) stated) none

pub joined_stays_joined : JoinedStaysJoined
joined_stays_joined files others stated joined is whole =
    nothing-joined others joined.read.entries
    (subst (λ (j : ReachedModel). pending_read j.read.entries ≡ []) is
    (none-unjoined files stated (ap (λ (j : ReachedModel). j.read.end) is ∙ whole)))
    ∙ ap (λ end. record { read = record { entries = joined.read.entries; end = end }; paths = [] })
    (sym whole)
