-- Two pages after the mark of one text.
use Rattle.std.proofs.Common.{◌≡◌, ◌≢◌, inl, inr, ℕ, ◌^◌, ◌<◌, Bool, true, false, Option, Some, None, List}
use Rattle.std.proofs.Common.{[]}
use Rattle.std.proofs.Common.{◌∷◌, ◌==◌, leb, refl, sym, ap, subst, ◌∙◌, arith}
use Rattle.std.specs.Prelude.{map, codes, decimal, bytes_eq, option_map, option_and_then}
use Rattle.std.specs.List.{slice_split, join_with_byte, AllByRecursion}
use Rattle.std.specs.Str.{is_utf8, IsAscii}
use Rattle.std.specs.Str.Parse.{digits_value}
use Rattle.std.proofs.lemmas.Bool.Decides.{nat_tests}
use Rattle.std.proofs.lemmas.Fmt.{IsAscii-decimal}
use Rattle.std.proofs.lemmas.Option.{same_Some}
use Rattle.std.proofs.lemmas.Str.{is_utf8-from_IsUtf8, IsUtf8-from_ascii, IsUtf8-nil, IsAscii-append}
use Rattle.std.proofs.lemmas.Str.Ascii.{IsAscii-nil, IsAscii-cons}
use Rattle.nj_cycles.specs.Cycles.{IsAcyclic}
use Rattle.nj_names.specs.declared.files.FileNo.{FileNo}
use Rattle.nj_edges.specs.EdgeGraphs.{EdgeGraph}
use Rattle.nj_needs.specs.Graphs.{count_of, makers_of, row_of}
use Rattle.nj_needs.specs.MarkLaws.{GivenMarksAreWritten}
use Rattle.nj_needs.specs.MarkTexts.{given_mark, is_numeral, mark_text, number_of, numbers_in}
use Rattle.nj_needs.specs.Marks.{is_valid}
use Rattle.nj_needs.specs.PageWalks.{written}
use Rattle.nj_graph.specs.Graph.{GraphModel}
use Rattle.nj_agreement.proofs.MarkAnswers.{same-stops, stops-agree}
use Rattle.nj_agreement.proofs.NeedsAnswers.{same-begins}
use Rattle.nj_c.specs.declared.session_state.Kept.{Kept}
use Rattle.nj_c.specs.declared.status.Status.{Status}
use Rattle.nj_c.specs.declared.status.Status.TheVariants.{OutOfMemory}
use Rattle.nj_c.specs.OneAnswer.{Equal, SameContents}
use Rattle.nj_c.specs.Pages.{end_text, mark_of, numbered, AreKnown, IsBadMark, IsNoMark, IsPage}
use Rattle.nj_c.specs.Pages.{IsPageAfter, ListsPage, PageRefused}
use Rattle.nj_c.proofs.OneAnswerChanges.{lists-agree}
use Rattle.nj_c.proofs.OneAnswerLists.{known-or-refused, one-refusal}

-- ---- texts of marks are UTF-8

number-fits : (part : List ℕ) (n : ℕ) → number_of part ≡ Some n → n < 2 ^ 64
number-fits part n is = by (is_numeral part) (leb (digits_value 10 part) 18446744073709551615) refl refl
  where
    by : (s t : Bool) → is_numeral part ≡ s → leb (digits_value 10 part) 18446744073709551615 ≡ t → n < 2 ^ 64
    by false t a b = let none : number_of part ≡ None = rw a refl in absurd cc
    by true false a b = let none : number_of part ≡ None = rw (a, b) refl in absurd cc
    by true true a b =
        let some : number_of part ≡ Some (digits_value 10 part) = rw (a, b) refl in
        let same : digits_value 10 part ≡ n = cc in
        let small : digits_value 10 part < 2 ^ 64 = grind (arith, nat_tests, b) in
        subst (λ k. k < 2 ^ 64) same small

-- the number of a part, before those of the others
abbrev and_then : Option ℕ → Option (List ℕ) → Option (List ℕ)
and_then one others = option_and_then (λ number. option_map (λ numbers. number ∷ numbers) others) one

parts-fit : (parts : List (List ℕ)) (ns : List ℕ) → numbers_in parts ≡ Some ns
    → AllByRecursion (λ n. n < 2 ^ 64) ns
parts-fit [] ns is = subst (AllByRecursion (λ n. n < 2 ^ 64)) (same_Some [] ns is) tt
parts-fit (p ∷ parts) ns is = by (number_of p) (numbers_in parts) refl refl (parts-fit parts)
  where
    by : (o : Option ℕ) (more : Option (List ℕ)) → number_of p ≡ o → numbers_in parts ≡ more
        → ((ms : List ℕ) → numbers_in parts ≡ Some ms → AllByRecursion (λ n. n < 2 ^ 64) ms)
        → AllByRecursion (λ n. n < 2 ^ 64) ns
    by None more a b rest = let none : numbers_in (p ∷ parts) ≡ None =
        ap (λ (o : Option ℕ). and_then o (numbers_in parts)) a in absurd cc
    by (Some n) None a b rest = let none : numbers_in (p ∷ parts) ≡ None =
        ap (λ (o : Option ℕ). and_then o (numbers_in parts)) a ∙ ap (and_then (Some n)) b in absurd cc
    by (Some n) (Some ms) a b rest =
        let some : numbers_in (p ∷ parts) ≡ Some (n ∷ ms) =
        ap (λ (o : Option ℕ). and_then o (numbers_in parts)) a ∙ ap (and_then (Some n)) b in
        let same : n ∷ ms ≡ ns = cc in
        subst (AllByRecursion (λ n. n < 2 ^ 64)) same (number-fits p n a, rest ms b)

marks-fit : (text mark : List ℕ) → given_mark text ≡ Some mark → AllByRecursion (λ n. n < 2 ^ 64) mark
unfolding given_mark
marks-fit text mark is = by (bytes_eq text (codes "start")) refl
  where
    by : (t : Bool) → bytes_eq text (codes "start") ≡ t → AllByRecursion (λ n. n < 2 ^ 64) mark
    by true start =
        let none : given_mark text ≡ Some [] = rw start refl in
        subst (AllByRecursion (λ n. n < 2 ^ 64)) (same_Some [] mark (sym none ∙ is)) tt
    by false other =
        let numbers : given_mark text ≡ numbers_in (slice_split (λ b. b == 46) text) = rw other refl in
        parts-fit (slice_split (λ b. b == 46) text) mark (sym numbers ∙ is)

numbers-ascii : (n : ℕ) (ns : List ℕ) → AllByRecursion (λ k. k < 2 ^ 64) (n ∷ ns)
    → IsAscii (join_with_byte 46 (map decimal (n ∷ ns)))
numbers-ascii n [] fit = IsAscii-decimal n fit.0
numbers-ascii n (m ∷ ns) fit = IsAscii-append (decimal n) (46 ∷ join_with_byte 46 (map decimal (m ∷ ns)))
    (IsAscii-decimal n fit.0)
    (IsAscii-cons 46 (join_with_byte 46 (map decimal (m ∷ ns))) (omega arith) (numbers-ascii m ns fit.1))

start-ascii : IsAscii (codes "start")
start-ascii =
    IsAscii-cons 115 (codes "tart") (omega arith) (IsAscii-cons 116 (codes "art") (omega arith)
    (IsAscii-cons 97 (codes "rt") (omega arith) (IsAscii-cons 114 (codes "t") (omega arith)
    (IsAscii-cons 116 [] (omega arith) IsAscii-nil))))

mark-ascii : (mark : List ℕ) → AllByRecursion (λ k. k < 2 ^ 64) mark → IsAscii (mark_text mark)
mark-ascii [] fit = start-ascii
mark-ascii (n ∷ ns) fit = numbers-ascii n ns fit

marks-utf8 : GivenMarksAreWritten → (text mark : List ℕ) → mark_of text ≡ Some mark → is_utf8 text ≡ true
marks-utf8 law [] mark is = is_utf8-from_IsUtf8 [] IsUtf8-nil
marks-utf8 law (b ∷ bs) mark is =
    ap is_utf8 (sym (law (b ∷ bs) mark is)) ∙ is_utf8-from_IsUtf8 (mark_text mark)
    (IsUtf8-from_ascii (mark_text mark) (mark-ascii mark (marks-fit (b ∷ bs) mark is)))

mark-or-none : GivenMarksAreWritten → (text mark : List ℕ) → mark_of text ≡ Some mark → IsNoMark text → ⊥
mark-or-none law text mark is (inl bad) = let e = sym (marks-utf8 law text mark is) ∙ bad in absurd cc
mark-or-none law text mark is (inr none) = let e = sym is ∙ none in absurd cc

-- ---- pages

-- of one walk, and after one mark
one-page : (g : EdgeGraph) → IsAcyclic (makers_of g) (count_of g) → (targets : List FileNo) (mark : List ℕ)
    (limit : ℕ)
    (edges others end end2 : List ℕ)
    → IsPage g targets mark limit edges end → IsPage g targets mark limit others end2
    → (edges ≡ others) × (end ≡ end2)
one-page g acyclic targets mark limit edges others end end2
    (valid, (walk, begins, (are, (stop, text, stops))))
    (valid2, (walk2, begins2, (are2, (stop2, text2, stops2)))) =
    let same = same-begins g targets mark walk walk2 begins begins2 in
    let acyclic2 : IsAcyclic (makers_of walk.graph) (count_of walk.graph) =
    subst (λ h. IsAcyclic (makers_of h) (count_of h)) (sym begins.graph) acyclic in (
      are ∙ ap (written (Some limit)) same.left ∙ sym are2,
      text ∙ ap end_text (stops-agree walk acyclic2 (Some limit) stop stop2 stops
          (same-stops walk walk2 same (Some limit) stop2 stops2)) ∙ sym text2,
    )

module _ (law : GivenMarksAreWritten) (kept : Kept) (targets text : List ℕ) (limit : ℕ)
    (acyclic : (g : GraphModel) → kept.graph ≡ Some g
    → IsAcyclic (makers_of g.built.graph) (count_of g.built.graph))
  where
    page-listed : (g : GraphModel) → kept.graph ≡ Some g → AreKnown g targets
        → (edges others end end2 : List ℕ)
        → IsPageAfter targets text limit g edges end → IsPageAfter targets text limit g others end2
        → (edges ≡ others) × (end ≡ end2)
    page-listed g at known edges others end end2 (mark, is, page) (mark2, is2, page2) =
        one-page g.built.graph (acyclic g at) (numbered targets) mark limit edges others end end2 page
        (subst (λ m. IsPage g.built.graph (numbered targets) m limit others end2)
        (same_Some mark2 mark (sym is2 ∙ is)) page2)

    good-or-bad : (g : GraphModel) (edges end : List ℕ) → IsPageAfter targets text limit g edges end
        → IsBadMark g.built.graph (numbered targets) text → ⊥
    good-or-bad g edges end (mark, is, page) (inl none) = mark-or-none law text mark is none
    good-or-bad g edges end (mark, is, (valid, page)) (inr (mark2, is2, bad)) =
        let e = sym valid
        ∙ ap (is_valid (makers_of g.built.graph) (row_of g.built.graph (numbered targets)))
        (same_Some mark mark2 (sym is ∙ is2)) ∙ bad in absurd cc

    listed-or-refused : (g : GraphModel) → kept.graph ≡ Some g → AreKnown g targets → (edges end : List ℕ)
        → IsPageAfter targets text limit g edges end → (status : Status) → status ≢ OutOfMemory
        → PageRefused kept.graph targets text status → ⊥
    listed-or-refused g at known edges end is status memory (inl lacks) =
        known-or-refused kept.graph targets g at known status memory lacks
    listed-or-refused g at known edges end is status memory (inr (h, at2, known2, bad, why)) =
        good-or-bad g edges end is (subst (λ k. IsBadMark k.built.graph (numbered targets) text)
        (same_Some h g (sym at2 ∙ at)) why)

    one-page-refusal : (status other : Status) → status ≢ OutOfMemory → other ≢ OutOfMemory
        → PageRefused kept.graph targets text status → PageRefused kept.graph targets text other
        → status ≡ other
    one-page-refusal status other memory memory2 (inl lacks) (inl lacks2) =
        one-refusal kept.graph targets status other memory memory2 lacks lacks2
    one-page-refusal status other memory memory2 (inl lacks) (inr (g, at, known, bad, why)) =
        absurd (known-or-refused kept.graph targets g at known status memory lacks)
    one-page-refusal status other memory memory2 (inr (g, at, known, bad, why)) (inl lacks) =
        absurd (known-or-refused kept.graph targets g at known other memory2 lacks)
    one-page-refusal status other memory memory2 (inr (g, at, known, bad, why))
        (inr (h, at2, known2, bad2, why2)) =
        bad ∙ sym bad2

    pub pages-agree : (new new2 : Kept) (status status2 : Status) → status ≢ OutOfMemory
        → status2 ≢ OutOfMemory
        → ListsPage kept new targets text limit status → ListsPage kept new2 targets text limit status2
        → (status ≡ status2) × SameContents Equal Equal new new2
    pages-agree = lists-agree Equal kept targets (IsPageAfter targets text limit)
        (PageRefused kept.graph targets text) (λ list. refl) page-listed listed-or-refused one-page-refusal
