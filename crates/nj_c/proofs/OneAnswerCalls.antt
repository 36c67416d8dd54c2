-- Two answers about the contents of a session, its graph, and the edges and files of that.
use Rattle.std.proofs.Common.{◌≡◌, ◌≢◌, ℕ, ℤ, List, [], ◌∷◌, Option, Some, None}
use Rattle.std.proofs.Common.{MatchOption, get_or, length, drop, map, slice_get, sym, ap}
use Rattle.std.proofs.Common.{subst, ◌∙◌, bytes_eq}
use Rattle.std.specs.Prelude.{⊤}
use Rattle.std.specs.List.{IsDistinct}
use Rattle.std.proofs.lemmas.Option.{slice_get-get_or}
use Rattle.nj_agreement.proofs.FileNumbers.{one-number, same-numbers}
use Rattle.nj_c.specs.declared.status.Status.TheVariants.{Done, Nothing, NotLoaded, NotOpen}
use Rattle.nj_c.specs.Asking.{IfNumber, GivesFile, GivesItem, GivesText, GivesTextOrNot, GivesTextAt}
use Rattle.nj_c.specs.Asking.{GivesMark, KeptUnlessDone}
use Rattle.nj_c.specs.Buffers.{filled, GivesFiles, GivesNumbers}
use Rattle.nj_c.specs.OneAnswer.{SameAnswer, SameBuffer, InMemory}
use Rattle.nj_c.specs.Statuses.{code_of}
use Rattle.nj_c.proofs.OneAnswerLemmas.{Refuses, not-open, not-loaded, nothing, refused, refused-buffer}
use Rattle.nj_c.proofs.OneAnswerLemmas.{at-option, at-number, items-agree, texts-agree, texts-agree-in-memory}
use Rattle.nj_c.proofs.OneAnswerLemmas.{done-agree, values-agree}

-- ---- the contents, and the graph

-- what is said of the contents of a session
abbrev pub OfContents : {K : Type 0} → (session : Option K) → (result : ℤ) → (does : K → Type 0) → Type 0
OfContents session result does = MatchOption session (result ≡ code_of NotOpen) does

-- of its graph
abbrev pub OfGraph : {K G : Type 0} → (graph : K → Option G) → (session : Option K) → (result : ℤ)
    → (does : G → Type 0) → Type 0
OfGraph graph session result does =
    OfContents session result (λ kept. MatchOption (graph kept) (result ≡ code_of NotLoaded) does)

-- what is known of any graph of a session
abbrev pub Known : {K G : Type 0} → (graph : K → Option G) → (session : Option K) → (G → Type 0) → Type 0
Known graph session knows = MatchOption session ⊤ (λ kept. MatchOption (graph kept) ⊤ knows)

module _ {one other : ℤ} {Same : Type 0} (refuse : Refuses one other Same) {K : Type 0} where
  pub at-contents : (session session2 : Option K) → session ≡ session2 → (D E : K → Type 0)
      → ((kept : K) → session ≡ Some kept → D kept → E kept → Same)
      → OfContents session one D → OfContents session2 other E → Same
  at-contents session session2 alike D E both is also =
      at-option refuse session NotOpen not-open D E both is
      (subst (λ s. OfContents s other E) (sym alike) also)

  pub at-known : {G : Type 0} (graph : K → Option G) (session session2 : Option K) → session ≡ session2
      → (knows D E : G → Type 0) → ((g : G) → knows g → D g → E g → Same)
      → Known graph session knows
      → OfGraph graph session one D → OfGraph graph session2 other E → Same
  at-known graph session session2 alike knows D E both known is also =
      by session known is (subst (λ s. OfGraph graph s other E) (sym alike) also)
    where
      within : (g : Option _) → MatchOption g ⊤ knows → MatchOption g (one ≡ code_of NotLoaded) D
          → MatchOption g (other ≡ code_of NotLoaded) E → Same
      within None known is also = refuse NotLoaded not-loaded is also
      within (Some g) known is also = both g known is also

      by : (s : Option K) → Known graph s knows → OfGraph graph s one D → OfGraph graph s other E → Same
      by None known is also = refuse NotOpen not-open is also
      by (Some kept) known is also = within (graph kept) known is also

  pub at-graph : {G : Type 0} (graph : K → Option G) (session session2 : Option K) → session ≡ session2
      → (D E : G → Type 0) → ((g : G) → D g → E g → Same)
      → OfGraph graph session one D → OfGraph graph session2 other E → Same
  at-graph graph session session2 alike D E both is also =
      at-contents session session2 alike (λ kept. MatchOption (graph kept) (one ≡ code_of NotLoaded) D)
      (λ kept. MatchOption (graph kept) (other ≡ code_of NotLoaded) E)
      (λ kept _ a b. at-option refuse (graph kept) NotLoaded not-loaded D E (λ g _ d e. both g d e) a b) is
      also

-- it holds, of a graph only if that is the graph of statements
abbrev pub OfStated : {K G E : Type 0} → (graph : K → Option G) → (Is : G → E → Type 0) → (session : Option K)
    → (holds : Type 0) → Type 0
OfStated {E = E} graph Is session holds =
    MatchOption session holds (λ kept. MatchOption (graph kept) holds (λ g. (e : E) → Is g e → holds))

module _ {one other : ℤ} {Same : Type 0} (refuse : Refuses one other Same) {K G E : Type 0}
    (graph : K → Option G)
    (Is : G → E → Type 0)
  where
    pub at-stated : (session session2 : Option K) → session ≡ session2 → (D F : G → Type 0)
        → ((g : G) (e : E) → Is g e → D g → F g → Same)
        → OfGraph graph session one D → OfGraph graph session2 other F → OfStated graph Is session Same
    at-stated session session2 alike D F both is also =
        by session is (subst (λ s. OfGraph graph s other F) (sym alike) also)
      where
        within : (g : Option G) → MatchOption g (one ≡ code_of NotLoaded) D
            → MatchOption g (other ≡ code_of NotLoaded) F
            → MatchOption g Same (λ h. (e : E) → Is h e → Same)
        within None is also = refuse NotLoaded not-loaded is also
        within (Some g) is also = λ e are. both g e are is also

        by : (s : Option K) → OfGraph graph s one D → OfGraph graph s other F → OfStated graph Is s Same
        by None is also = refuse NotOpen not-open is also
        by (Some kept) is also = within (graph kept) is also

    pub at-known-stated : (session session2 : Option K) → session ≡ session2 → (knows D F : G → Type 0)
        → ((g : G) (e : E) → Is g e → knows g → D g → F g → Same) → Known graph session knows
        → OfGraph graph session one D → OfGraph graph session2 other F → OfStated graph Is session Same
    at-known-stated session session2 alike knows D F both known is also =
        by session known is (subst (λ s. OfGraph graph s other F) (sym alike) also)
      where
        within : (g : Option G) → MatchOption g ⊤ knows → MatchOption g (one ≡ code_of NotLoaded) D
            → MatchOption g (other ≡ code_of NotLoaded) F
            → MatchOption g Same (λ h. (e : E) → Is h e → Same)
        within None known is also = refuse NotLoaded not-loaded is also
        within (Some g) known is also = λ e are. both g e are known is also

        by : (s : Option K) → Known graph s knows → OfGraph graph s one D → OfGraph graph s other F
            → OfStated graph Is s Same
        by None known is also = refuse NotOpen not-open is also
        by (Some kept) known is also = within (graph kept) known is also

-- something else is the same, too
also-given : (one other : ℤ) (Same More : Type 0) → More → SameAnswer one other Same
    → SameAnswer one other (Same × More)
also-given one other Same More more is =
    record { status = is.status; given = λ given. (is.given given, more) }

-- ---- numbers of files

module _ (files : List (List ℕ)) (distinct : IsDistinct bytes_eq files) where
  pub one-file : (f h : ℕ) (path : List ℕ) → slice_get files f ≡ Some path → slice_get files h ≡ Some path
      → f ≡ h
  one-file f h path is also =
      ap (λ n. n.0) (one-number files distinct (record { 0 = f }) (record { 0 = h }) path is also)

  pub files-agree : (one other : ℤ) (path : Option (List ℕ)) (file file2 : ℕ) → GivesFile files path one file
      → GivesFile files path other file2 → SameAnswer one other (file ≡ file2)
  files-agree one other path file file2 is also =
      items-agree one other path (λ p. slice_get files file ≡ Some p) (λ p. slice_get files file2 ≡ Some p)
      (file ≡ file2) (λ p _ a b. one-file file file2 p a b) is also

-- ---- lists of numbers

module _ (one other : ℤ) (from : ℕ) (before before2 after after2 : List ℕ) (count count2 : ℕ)
    (alike : before ≡ before2)
  where
    pub numbers-agree : (numbers : List ℕ) → GivesNumbers numbers from before after count one
        → GivesNumbers numbers from before2 after2 count2 other
        → SameBuffer one other after after2 count count2
    numbers-agree numbers is also = record {
      answer = record { status = is.0 ∙ sym also.0; given = λ _. is.1 ∙ sym also.1 };
      buffer = is.2 ∙ ap (filled (drop from numbers)) alike ∙ sym also.2;
    }

    pub file-lists-agree : (files paths : List (List ℕ)) → IsDistinct bytes_eq files
        → GivesFiles files paths from before after count one
        → GivesFiles files paths from before2 after2 count2 other
        → SameBuffer one other after after2 count count2
    file-lists-agree files paths distinct (ns, are, gives) (others, are2, gives2) =
        numbers-agree (map (λ f. f.0) ns) gives
        (subst (λ list. GivesNumbers (map (λ f. f.0) list) from before2 after2 count2 other)
        (sym (same-numbers files distinct ns others paths are are2)) gives2)

-- ---- by the graph

module _ {K G : Type 0} (graph : K → Option G) (session session2 : Option K) (alike : session ≡ session2)
    (one other : ℤ)
  where
    pub value-at-graph : {A : Type 0} (of : G → A) (x y : A)
        → OfGraph graph session one (λ g. (one ≡ code_of Done) × (x ≡ of g))
        → OfGraph graph session2 other (λ g. (other ≡ code_of Done) × (y ≡ of g))
        → SameAnswer one other (x ≡ y)
    value-at-graph of x y is also =
        at-graph (refused one other (x ≡ y)) graph session session2 alike
        (λ g. (one ≡ code_of Done) × (x ≡ of g)) (λ g. (other ≡ code_of Done) × (y ≡ of g))
        (λ g a b. values-agree one other (of g) x y a b) is also

    pub value-at-number : {A : Type 0} (count : G → ℕ) (number : ℕ) (of : G → A) (x y : A)
        → OfGraph graph session one (λ g. IfNumber number (count g) one ((one ≡ code_of Done) × (x ≡ of g)))
        → OfGraph graph session2 other
        (λ g. IfNumber number (count g) other ((other ≡ code_of Done) × (y ≡ of g)))
        → SameAnswer one other (x ≡ y)
    value-at-number count number of x y is also =
        let refuse = refused one other (x ≡ y) in
        at-graph refuse graph session session2 alike
        (λ g. IfNumber number (count g) one ((one ≡ code_of Done) × (x ≡ of g)))
        (λ g. IfNumber number (count g) other ((other ≡ code_of Done) × (y ≡ of g)))
        (λ g a b. at-number refuse number (count g) ((one ≡ code_of Done) × (x ≡ of g))
        ((other ≡ code_of Done) × (y ≡ of g)) (λ _ v w. values-agree one other (of g) x y v w) a b) is also

    pub item-at-graph : {A : Type 0} (item : G → Option A) (x y : A)
        → OfGraph graph session one (λ g. GivesItem (item g) one (λ n. x ≡ n))
        → OfGraph graph session2 other (λ g. GivesItem (item g) other (λ n. y ≡ n))
        → SameAnswer one other (x ≡ y)
    item-at-graph item x y is also =
        at-graph (refused one other (x ≡ y)) graph session session2 alike
        (λ g. GivesItem (item g) one (λ n. x ≡ n)) (λ g. GivesItem (item g) other (λ n. y ≡ n))
        (λ g a b. items-agree one other (item g) (λ n. x ≡ n) (λ n. y ≡ n) (x ≡ y) (λ n _ v w. v ∙ sym w) a b)
        is
        also

    pub item-at-number : {A : Type 0} (count : G → ℕ) (number : ℕ) (item : G → Option A) (x y : A)
        → OfGraph graph session one (λ g. IfNumber number (count g) one (GivesItem (item g) one (λ n. x ≡ n)))
        → OfGraph graph session2 other
        (λ g. IfNumber number (count g) other (GivesItem (item g) other (λ n. y ≡ n)))
        → SameAnswer one other (x ≡ y)
    item-at-number count number item x y is also =
        let refuse = refused one other (x ≡ y) in
        at-graph refuse graph session session2 alike
        (λ g. IfNumber number (count g) one (GivesItem (item g) one (λ n. x ≡ n)))
        (λ g. IfNumber number (count g) other (GivesItem (item g) other (λ n. y ≡ n)))
        (λ g a b. at-number refuse number (count g) (GivesItem (item g) one (λ n. x ≡ n))
        (GivesItem (item g) other (λ n. y ≡ n))
        (λ _ v w. items-agree one other (item g) (λ n. x ≡ n) (λ n. y ≡ n) (x ≡ y) (λ n _ p q. p ∙ sym q) v w)
        a b) is also

    -- ---- files

    module _ (files : G → List (List ℕ)) (known : Known graph session (λ g. IsDistinct bytes_eq (files g)))
      where
        pub file-at-graph : (path : G → Option (List ℕ)) (file file2 : ℕ)
            → OfGraph graph session one (λ g. GivesFile (files g) (path g) one file)
            → OfGraph graph session2 other (λ g. GivesFile (files g) (path g) other file2)
            → SameAnswer one other (file ≡ file2)
        file-at-graph path file file2 is also =
            at-known (refused one other (file ≡ file2)) graph session session2 alike
            (λ g. IsDistinct bytes_eq (files g)) (λ g. GivesFile (files g) (path g) one file)
            (λ g. GivesFile (files g) (path g) other file2)
            (λ g distinct a b. files-agree (files g) distinct one other (path g) file file2 a b) known is also

        pub file-at-number : (count : G → ℕ) (number : ℕ) (path : G → Option (List ℕ)) (file file2 : ℕ)
            → OfGraph graph session one (λ g. IfNumber number (count g) one
            (GivesFile (files g) (path g) one file))
            → OfGraph graph session2 other
            (λ g. IfNumber number (count g) other (GivesFile (files g) (path g) other file2))
            → SameAnswer one other (file ≡ file2)
        file-at-number count number path file file2 is also =
            let refuse = refused one other (file ≡ file2) in
            at-known refuse graph session session2 alike (λ g. IsDistinct bytes_eq (files g))
            (λ g. IfNumber number (count g) one (GivesFile (files g) (path g) one file))
            (λ g. IfNumber number (count g) other (GivesFile (files g) (path g) other file2))
            (λ g distinct a b. at-number refuse number (count g) (GivesFile (files g) (path g) one file)
            (GivesFile (files g) (path g) other file2)
            (λ _ v w. files-agree (files g) distinct one other (path g) file file2 v w) a b) known is also

        pub input-at-number : {A : Type 0} (count : G → ℕ) (number : ℕ) (path : G → Option (List ℕ))
            (of : G → A)
            (file file2 : ℕ) (kind kind2 : A)
            → OfGraph graph session one
            (λ g. IfNumber number (count g) one (GivesFile (files g) (path g) one file × (kind ≡ of g)))
            → OfGraph graph session2 other
            (λ g. IfNumber number (count g) other (GivesFile (files g) (path g) other file2 × (kind2 ≡ of g)))
            → SameAnswer one other ((file ≡ file2) × (kind ≡ kind2))
        input-at-number count number path of file file2 kind kind2 is also =
            let refuse = refused one other ((file ≡ file2) × (kind ≡ kind2)) in
            at-known refuse graph session session2 alike (λ g. IsDistinct bytes_eq (files g))
            (λ g. IfNumber number (count g) one (GivesFile (files g) (path g) one file × (kind ≡ of g)))
            (λ g. IfNumber number (count g) other (GivesFile (files g) (path g) other file2 × (kind2 ≡ of g)))
            (λ g distinct a b. at-number refuse number (count g)
            (GivesFile (files g) (path g) one file × (kind ≡ of g))
            (GivesFile (files g) (path g) other file2 × (kind2 ≡ of g))
            (λ _ v w. also-given one other (file ≡ file2) (kind ≡ kind2) (v.1 ∙ sym w.1)
            (files-agree (files g) distinct one other (path g) file file2 v.0 w.0)) a b) known is also

    -- ---- texts

    module _ (before before2 after after2 : List ℕ) (needed needed2 : ℕ) (same : before ≡ before2)
        (kept : KeptUnlessDone before after one) (kept2 : KeptUnlessDone before2 after2 other)
      where
        refuse-text : Refuses one other (SameBuffer one other after after2 needed needed2)
        refuse-text = refused-buffer one other before before2 after after2 needed needed2 same kept kept2

        pub text-at-number : (count : G → ℕ) (number : ℕ) (text : G → List ℕ)
            → OfGraph graph session one
            (λ g. IfNumber number (count g) one (GivesText (text g) before after needed one))
            → OfGraph graph session2 other
            (λ g. IfNumber number (count g) other (GivesText (text g) before2 after2 needed2 other))
            → SameBuffer one other after after2 needed needed2
        text-at-number count number text is also =
            at-graph refuse-text graph session session2 alike
            (λ g. IfNumber number (count g) one (GivesText (text g) before after needed one))
            (λ g. IfNumber number (count g) other (GivesText (text g) before2 after2 needed2 other))
            (λ g a b. at-number refuse-text number (count g) (GivesText (text g) before after needed one)
            (GivesText (text g) before2 after2 needed2 other)
            (λ _ v w. texts-agree one other (text g) before before2 after after2 needed needed2 same v w) a b)
            is
            also

        -- the text of a file that has one
        pub path-at-number : (files : G → List (List ℕ)) (number : ℕ)
            → OfGraph graph session one
            (λ g. IfNumber number (length (files g)) one
            ((path : List ℕ) → slice_get (files g) number ≡ Some path
            → GivesText path before after needed one))
            → OfGraph graph session2 other
            (λ g. IfNumber number (length (files g)) other
            ((path : List ℕ) → slice_get (files g) number ≡ Some path
            → GivesText path before2 after2 needed2 other))
            → SameBuffer one other after after2 needed needed2
        path-at-number files number is also =
            at-graph refuse-text graph session session2 alike
            (λ g. IfNumber number (length (files g)) one
            ((path : List ℕ) → slice_get (files g) number ≡ Some path
            → GivesText path before after needed one))
            (λ g. IfNumber number (length (files g)) other
            ((path : List ℕ) → slice_get (files g) number ≡ Some path
            → GivesText path before2 after2 needed2 other))
            (λ g a b. at-number refuse-text number (length (files g))
            ((path : List ℕ) → slice_get (files g) number ≡ Some path
            → GivesText path before after needed one)
            ((path : List ℕ) → slice_get (files g) number ≡ Some path
            → GivesText path before2 after2 needed2 other)
            (λ below v w. texts-agree one other (get_or (files g) number []) before before2 after after2
            needed
            needed2 same (v (get_or (files g) number []) (slice_get-get_or (files g) number [] below))
            (w (get_or (files g) number []) (slice_get-get_or (files g) number [] below))) a b) is also

        pub text-of-list : (texts : G → List (List ℕ)) (index : ℕ)
            → OfGraph graph session one (λ g. GivesTextAt (texts g) index before after needed one)
            → OfGraph graph session2 other (λ g. GivesTextAt (texts g) index before2 after2 needed2 other)
            → SameBuffer one other after after2 needed needed2
        text-of-list texts index is also =
            at-graph refuse-text graph session session2 alike
            (λ g. GivesTextAt (texts g) index before after needed one)
            (λ g. GivesTextAt (texts g) index before2 after2 needed2 other)
            (λ g a b. at-option refuse-text (slice_get (texts g) index) Nothing nothing
            (λ text. GivesText text before after needed one)
            (λ text. GivesText text before2 after2 needed2 other)
            (λ text _ v w. texts-agree one other text before before2 after after2 needed needed2 same v w) a
            b) is
            also

        -- ---- by the statements of the graph

        module _ {E : Type 0} (Is : G → E → Type 0) (count : G → ℕ) (number : ℕ) (text : E → List ℕ) where
          within : (g : G) (e : E) → Is g e
              → IfNumber number (count g) one ((d : E) → Is g d → GivesText (text d) before after needed one)
              → IfNumber number (count g) other ((d : E) → Is g d
              → GivesText (text d) before2 after2 needed2 other)
              → SameBuffer one other after after2 needed needed2
          within g e are a b = at-number refuse-text number (count g)
              ((d : E) → Is g d → GivesText (text d) before after needed one)
              ((d : E) → Is g d → GivesText (text d) before2 after2 needed2 other)
              (λ _ v w. texts-agree one other (text e) before before2 after after2 needed needed2 same
              (v e are)
              (w e are)) a b

          pub stated-text : OfGraph graph session one
              (λ g. IfNumber number (count g) one
              ((d : E) → Is g d → GivesText (text d) before after needed one))
              → OfGraph graph session2 other (λ g. IfNumber number (count g) other
              ((d : E) → Is g d → GivesText (text d) before2 after2 needed2 other))
              → OfStated graph Is session (SameBuffer one other after after2 needed needed2)
          stated-text is also = at-stated refuse-text graph Is session session2 alike
              (λ g. IfNumber number (count g) one
              ((d : E) → Is g d → GivesText (text d) before after needed one))
              (λ g. IfNumber number (count g) other
              ((d : E) → Is g d → GivesText (text d) before2 after2 needed2 other))
              within is also

          within-memory : (old old2 : ℕ) (g : G) (e : E) → Is g e
              → IfNumber number (count g) one
              ((d : E) → Is g d → GivesTextOrNot (text d) before after old needed one)
              → IfNumber number (count g) other
              ((d : E) → Is g d → GivesTextOrNot (text d) before2 after2 old2 needed2 other)
              → InMemory one other (SameBuffer one other after after2 needed needed2)
          within-memory old old2 g e are a b m m2 = at-number refuse-text number (count g)
              ((d : E) → Is g d → GivesTextOrNot (text d) before after old needed one)
              ((d : E) → Is g d → GivesTextOrNot (text d) before2 after2 old2 needed2 other)
              (λ _ v w. texts-agree-in-memory one other (text e) before before2 after after2 old old2 needed
              needed2
              same (v e are) (w e are) m m2) a b

          pub stated-value : (old old2 : ℕ) → OfGraph graph session one (λ g. IfNumber number (count g) one
              ((d : E) → Is g d → GivesTextOrNot (text d) before after old needed one))
              → OfGraph graph session2 other (λ g. IfNumber number (count g) other
              ((d : E) → Is g d → GivesTextOrNot (text d) before2 after2 old2 needed2 other))
              → OfStated graph Is session (InMemory one other
              (SameBuffer one other after after2 needed needed2))
          stated-value old old2 is also =
              at-stated (λ status none a b _ _. refuse-text status none a b) graph Is session session2 alike
              (λ g. IfNumber number (count g) one
              ((d : E) → Is g d → GivesTextOrNot (text d) before after old needed one))
              (λ g. IfNumber number (count g) other
              ((d : E) → Is g d → GivesTextOrNot (text d) before2 after2 old2 needed2 other))
              (within-memory old old2) is also

    -- ---- many items at a time

    module _ (from : ℕ) (before before2 after after2 : List ℕ) (count count2 : ℕ) (same : before ≡ before2)
        (kept : KeptUnlessDone before after one) (kept2 : KeptUnlessDone before2 after2 other)
      where
        refuse-list : Refuses one other (SameBuffer one other after after2 count count2)
        refuse-list = refused-buffer one other before before2 after after2 count count2 same kept kept2

        pub numbers-at-number : (limit : G → ℕ) (number : ℕ) (numbers : G → List ℕ)
            → OfGraph graph session one
            (λ g. IfNumber number (limit g) one (GivesNumbers (numbers g) from before after count one))
            → OfGraph graph session2 other
            (λ g. IfNumber number (limit g) other (GivesNumbers (numbers g) from before2 after2 count2 other))
            → SameBuffer one other after after2 count count2
        numbers-at-number limit number numbers is also =
            at-graph refuse-list graph session session2 alike
            (λ g. IfNumber number (limit g) one (GivesNumbers (numbers g) from before after count one))
            (λ g. IfNumber number (limit g) other (GivesNumbers (numbers g) from before2 after2 count2 other))
            (λ g a b. at-number refuse-list number (limit g)
            (GivesNumbers (numbers g) from before after count one)
            (GivesNumbers (numbers g) from before2 after2 count2 other)
            (λ _ v w. numbers-agree one other from before before2 after after2 count count2 same (numbers g) v
            w) a
            b) is also

        module _ (files : G → List (List ℕ))
            (known : Known graph session (λ g. IsDistinct bytes_eq (files g)))
            (limit : G → ℕ) (number : ℕ) (paths : G → List (List ℕ))
          where
            pub files-at-number : OfGraph graph session one
                (λ g. IfNumber number (limit g) one
                (GivesFiles (files g) (paths g) from before after count one))
                → OfGraph graph session2 other (λ g. IfNumber number (limit g) other
                (GivesFiles (files g) (paths g) from before2 after2 count2 other))
                → SameBuffer one other after after2 count count2
            files-at-number is also =
                at-known refuse-list graph session session2 alike (λ g. IsDistinct bytes_eq (files g))
                (λ g. IfNumber number (limit g) one
                (GivesFiles (files g) (paths g) from before after count one))
                (λ g. IfNumber number (limit g) other
                (GivesFiles (files g) (paths g) from before2 after2 count2 other))
                (λ g distinct a b. at-number refuse-list number (limit g)
                (GivesFiles (files g) (paths g) from before after count one)
                (GivesFiles (files g) (paths g) from before2 after2 count2 other)
                (λ _ v w. file-lists-agree one other from before before2 after after2 count count2 same
                (files g)
                (paths g) distinct v w) a b) known is also

            -- with other items beside them
            pub inputs-at-number : {A : Type 0} (items : G → List A) (old old2 new new2 : List A) → old ≡ old2
                → (one ≢ code_of Done → new ≡ old) → (other ≢ code_of Done → new2 ≡ old2)
                → OfGraph graph session one (λ g. IfNumber number (limit g) one
                (GivesFiles (files g) (paths g) from before after count one
                × (new ≡ filled (drop from (items g)) old)))
                → OfGraph graph session2 other (λ g. IfNumber number (limit g) other
                (GivesFiles (files g) (paths g) from before2 after2 count2 other
                × (new2 ≡ filled (drop from (items g)) old2)))
                → SameBuffer one other after after2 count count2 × (new ≡ new2)
            inputs-at-number items old old2 new new2 olds stays stays2 is also =
                at-known refuse graph session session2 alike (λ g. IsDistinct bytes_eq (files g))
                (λ g. IfNumber number (limit g) one
                (GivesFiles (files g) (paths g) from before after count one
                × (new ≡ filled (drop from (items g)) old)))
                (λ g. IfNumber number (limit g) other
                (GivesFiles (files g) (paths g) from before2 after2 count2 other
                × (new2 ≡ filled (drop from (items g)) old2)))
                (λ g distinct a b. at-number refuse number (limit g)
                (GivesFiles (files g) (paths g) from before after count one
                × (new ≡ filled (drop from (items g)) old))
                (GivesFiles (files g) (paths g) from before2 after2 count2 other
                × (new2 ≡ filled (drop from (items g)) old2))
                (λ _ v w. (
                  file-lists-agree one other from before before2 after after2 count count2 same (files g)
                      (paths g) distinct v.0 w.0,
                  v.1 ∙ ap (filled (drop from (items g))) olds ∙ sym w.1,
                )) a b) known is also
              where
                refuse : Refuses one other (SameBuffer one other after after2 count count2 × (new ≡ new2))
                refuse status none a b = (
                  refuse-list status none a b,
                  (refused-buffer one other old old2 new new2 count count2 olds stays stays2 status none a
                      b).buffer,
                )

-- ---- by the contents

module _ {K : Type 0} (session session2 : Option K) (alike : session ≡ session2) (one other : ℤ) where
  -- of a part that there may be
  pub part-agrees : {P : Type 0} (part : K → Option P) (D E : P → Type 0) (Same : Type 0)
      → Refuses one other Same → ((p : P) → D p → E p → Same)
      → OfContents session one (λ kept. MatchOption (part kept) (one ≡ code_of Nothing) D)
      → OfContents session2 other (λ kept. MatchOption (part kept) (other ≡ code_of Nothing) E) → Same
  part-agrees part D E Same refuse both is also =
      at-contents refuse session session2 alike
      (λ kept. MatchOption (part kept) (one ≡ code_of Nothing) D)
      (λ kept. MatchOption (part kept) (other ≡ code_of Nothing) E)
      (λ kept _ a b. at-option refuse (part kept) Nothing nothing D E (λ p _ v w. both p v w) a b) is also

  pub value-of-part : {P A : Type 0} (part : K → Option P) (of : P → A) (x y : A)
      → OfContents session one (λ kept. MatchOption (part kept) (one ≡ code_of Nothing)
      (λ p. (one ≡ code_of Done) × (x ≡ of p)))
      → OfContents session2 other (λ kept. MatchOption (part kept) (other ≡ code_of Nothing)
      (λ p. (other ≡ code_of Done) × (y ≡ of p)))
      → SameAnswer one other (x ≡ y)
  value-of-part part of x y is also =
      part-agrees part (λ p. (one ≡ code_of Done) × (x ≡ of p)) (λ p. (other ≡ code_of Done) × (y ≡ of p))
      (SameAnswer one other (x ≡ y)) (refused one other (x ≡ y))
      (λ p v w. values-agree one other (of p) x y v w) is also

  pub item-of-part : {P : Type 0} (part : K → Option P) (D E : P → Type 0) (Same : Type 0)
      → ((p : P) → D p → E p → Same) → OfContents session one (λ kept. GivesItem (part kept) one D)
      → OfContents session2 other (λ kept. GivesItem (part kept) other E) → SameAnswer one other Same
  item-of-part part D E Same both is also =
      part-agrees part (λ p. (one ≡ code_of Done) × D p) (λ p. (other ≡ code_of Done) × E p)
      (SameAnswer one other Same) (refused one other Same)
      (λ p v w. done-agree one other Same v.0 w.0 (both p v.1 w.1)) is also

  module _ (before before2 after after2 : List ℕ) (needed needed2 : ℕ) (same : before ≡ before2)
      (kept : KeptUnlessDone before after one) (kept2 : KeptUnlessDone before2 after2 other)
    where
      refuse-kept : Refuses one other (SameBuffer one other after after2 needed needed2)
      refuse-kept = refused-buffer one other before before2 after after2 needed needed2 same kept kept2

      pub text-of-part : {P : Type 0} (part : K → Option P) (text : P → List ℕ)
          → OfContents session one (λ k. MatchOption (part k) (one ≡ code_of Nothing)
          (λ p. GivesText (text p) before after needed one))
          → OfContents session2 other (λ k. MatchOption (part k) (other ≡ code_of Nothing)
          (λ p. GivesText (text p) before2 after2 needed2 other))
          → SameBuffer one other after after2 needed needed2
      text-of-part part text is also =
          part-agrees part (λ p. GivesText (text p) before after needed one)
          (λ p. GivesText (text p) before2 after2 needed2 other)
          (SameBuffer one other after after2 needed needed2)
          refuse-kept
          (λ p v w. texts-agree one other (text p) before before2 after after2 needed needed2 same v w) is
          also

      pub value-text-of-part : {P : Type 0} (part : K → Option P) (text : P → List ℕ) (old old2 : ℕ)
          → OfContents session one (λ k. MatchOption (part k) (one ≡ code_of Nothing)
          (λ p. GivesTextOrNot (text p) before after old needed one))
          → OfContents session2 other (λ k. MatchOption (part k) (other ≡ code_of Nothing)
          (λ p. GivesTextOrNot (text p) before2 after2 old2 needed2 other))
          → InMemory one other (SameBuffer one other after after2 needed needed2)
      value-text-of-part part text old old2 is also m m2 =
          part-agrees part (λ p. GivesTextOrNot (text p) before after old needed one)
          (λ p. GivesTextOrNot (text p) before2 after2 old2 needed2 other)
          (SameBuffer one other after after2 needed needed2) refuse-kept
          (λ p v w. texts-agree-in-memory one other (text p) before before2 after after2 old old2 needed
          needed2
          same v w m m2) is also

      pub text-of-contents : (text : K → List ℕ)
          → OfContents session one (λ k. GivesText (text k) before after needed one)
          → OfContents session2 other (λ k. GivesText (text k) before2 after2 needed2 other)
          → SameBuffer one other after after2 needed needed2
      text-of-contents text is also =
          at-contents refuse-kept session session2 alike (λ k. GivesText (text k) before after needed one)
          (λ k. GivesText (text k) before2 after2 needed2 other)
          (λ k _ v w. texts-agree one other (text k) before before2 after after2 needed needed2 same v w) is
          also

      mark-agrees : (text : List ℕ) → GivesMark text before after needed one
          → GivesMark text before2 after2 needed2 other → SameBuffer one other after after2 needed needed2
      mark-agrees [] is also = refuse-kept Nothing nothing is also
      mark-agrees (b ∷ bs) is also =
          texts-agree one other (b ∷ bs) before before2 after after2 needed needed2 same is also

      pub mark-of-contents : (text : K → List ℕ)
          → OfContents session one (λ k. GivesMark (text k) before after needed one)
          → OfContents session2 other (λ k. GivesMark (text k) before2 after2 needed2 other)
          → SameBuffer one other after after2 needed needed2
      mark-of-contents text is also =
          at-contents refuse-kept session session2 alike (λ k. GivesMark (text k) before after needed one)
          (λ k. GivesMark (text k) before2 after2 needed2 other) (λ k _ v w. mark-agrees (text k) v w) is also

-- ---- by a part beside the graph

module _ {K G : Type 0} (graph : K → Option G) (session session2 : Option K) (alike : session ≡ session2)
    (one other : ℤ)
  where
    -- of an item that there may be if there is a graph
    pub item-beside-graph : {P : Type 0} (item : K → Option P) (D E : P → Type 0) (Same : Type 0)
        → ((p : P) → D p → E p → Same)
        → OfContents session one
        (λ kept. MatchOption (graph kept) (one ≡ code_of NotLoaded) (λ g. GivesItem (item kept) one D))
        → OfContents session2 other
        (λ kept. MatchOption (graph kept) (other ≡ code_of NotLoaded) (λ g. GivesItem (item kept) other E))
        → SameAnswer one other Same
    item-beside-graph item D E Same both is also =
        let refuse = refused one other Same in
        at-contents refuse session session2 alike
        (λ kept. MatchOption (graph kept) (one ≡ code_of NotLoaded) (λ g. GivesItem (item kept) one D))
        (λ kept. MatchOption (graph kept) (other ≡ code_of NotLoaded) (λ g. GivesItem (item kept) other E))
        (λ kept _ a b. at-option refuse (graph kept) NotLoaded not-loaded
        (λ g. GivesItem (item kept) one D) (λ g. GivesItem (item kept) other E)
        (λ g _ v w. items-agree one other (item kept) D E Same (λ p _ x y. both p x y) v w) a b) is also

    -- and if a number is below a count
    pub item-beside-number : {P : Type 0} (count : G → ℕ) (number : ℕ) (item : K → Option P)
        (D E : P → Type 0)
        (Same : Type 0)
        → ((p : P) → D p → E p → Same)
        → OfContents session one (λ kept. MatchOption (graph kept) (one ≡ code_of NotLoaded)
        (λ g. IfNumber number (count g) one (GivesItem (item kept) one D)))
        → OfContents session2 other (λ kept. MatchOption (graph kept) (other ≡ code_of NotLoaded)
        (λ g. IfNumber number (count g) other (GivesItem (item kept) other E)))
        → SameAnswer one other Same
    item-beside-number count number item D E Same both is also =
        let refuse = refused one other Same in
        at-contents refuse session session2 alike
        (λ kept. MatchOption (graph kept) (one ≡ code_of NotLoaded)
        (λ g. IfNumber number (count g) one (GivesItem (item kept) one D)))
        (λ kept. MatchOption (graph kept) (other ≡ code_of NotLoaded)
        (λ g. IfNumber number (count g) other (GivesItem (item kept) other E)))
        (λ kept _ a b. at-option refuse (graph kept) NotLoaded not-loaded
        (λ g. IfNumber number (count g) one (GivesItem (item kept) one D))
        (λ g. IfNumber number (count g) other (GivesItem (item kept) other E))
        (λ g _ v w. at-number refuse number (count g) (GivesItem (item kept) one D)
        (GivesItem (item kept) other E)
        (λ _ x y. items-agree one other (item kept) D E Same (λ p _ m n. both p m n) x y) v w) a b) is also
