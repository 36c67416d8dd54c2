-- Mistakes in the arguments of `targets`.
use Rattle.std.proofs.Common.{◌≡◌, ◌≢◌, ℕ, Bool, true, false, List, [], ◌∷◌, Option, Some, None, Ok, Err}
use Rattle.std.proofs.Common.{refl, sym, ap, ◌∙◌}
use Rattle.std.specs.Prelude.{codes, ok_or, option_map, if◌then◌else◌}
use Rattle.std.specs.Str.{bytes_eq}
use Rattle.std.proofs.lemmas.Slice.Eq.{bytes_eq-Decides}
use Rattle.clap.specs.Words.{Row}
use Rattle.nj_args.specs.Fields.{words_in}
use Rattle.nj_args.specs.FirstFaults.{bad_words, bad_depth, IsView, roots, one_level, levels, all_outputs}
use Rattle.nj_args.specs.FirstFaults.{sources, of_rule, NamesTool, no_depth, Lacks, first, later}
use Rattle.nj_args.specs.Numbers.{given_depth}
use Rattle.nj_args.specs.Inside.Held.{depth_of}
use Rattle.nj_args.specs.Requests.{view_of}
use Rattle.nj_args.specs.declared.usage_fault.UsageFault.TheVariants.{BadNumber, BadWords}
use Rattle.nj_args.specs.declared.tools.Tool.TheVariants.{Targets}
use Rattle.nj_requests.specs.declared.view.TargetsView.{TargetsView}
use Rattle.nj_requests.specs.declared.view.TargetsView.TheVariants.{OfRule, Sources, Depth, All}
use Rattle.nj_args.proofs.Mistakes.{Ends, in_value, in_fault, lacks_bad_words, refuses}

same_text : (text other : List ℕ) → bytes_eq text other ≡ true → text ≡ other
same_text text other e = (bytes_eq-Decides text other).0 e

other_text : (text other : List ℕ) → bytes_eq text other ≡ false → text ≢ other
other_text text other e = λ same. let d = (bytes_eq-Decides text other).1 same in cc

module _ (rows : List Row) (name : List ℕ) (names : NamesTool rows name Targets) where
  viewed : (view : TargetsView) → IsView (words_in rows)
      → ((depth : List ℕ) → words_in rows ≢ codes "depth" ∷ depth ∷ [])
      → Ends rows (bad_words ∷ bad_depth ∷ []) (Ok view)
  viewed view is no_levels = in_value (lacks_bad_words rows name Targets names is, (without, tt))
    where
      without : Lacks rows bad_depth
      without fault (no_depth other text two f k) = absurd (no_levels text f)

  no_view : ¬ IsView (words_in rows) → Ends {A = TargetsView} rows (bad_words ∷ bad_depth ∷ [])
      (Err (BadWords name))
  no_view wrong = refuses rows name Targets names TargetsView wrong

  word_ends : (word : List ℕ) → words_in rows ≡ word ∷ []
      → Ends rows (bad_words ∷ bad_depth ∷ []) (view_of name (word ∷ []))
  word_ends word e = by_tests (bytes_eq word (codes "depth")) (bytes_eq word (codes "all"))
      (bytes_eq word (codes "rule")) refl refl refl
    where
      is : (other : List ℕ) → bytes_eq word other ≡ true → words_in rows ≡ other ∷ []
      is other t = e ∙ ap (λ w. w ∷ []) (same_text word other t)

      one : (depth : List ℕ) → words_in rows ≢ codes "depth" ∷ depth ∷ []
      one depth f = let both : word ∷ [] ≡ codes "depth" ∷ depth ∷ [] = sym e ∙ f in cc

      is_not : (other : List ℕ) → bytes_eq word other ≡ false → words_in rows ≢ other ∷ []
      is_not other t f =
          let both : word ∷ [] ≡ other ∷ [] = sym e ∙ f in
          let same : word ≡ other = cc in
          absurd (other_text word other t same)

      wrong : bytes_eq word (codes "depth") ≡ false → bytes_eq word (codes "all") ≡ false
          → bytes_eq word (codes "rule") ≡ false
          → ¬ IsView (words_in rows)
      wrong a b c (roots f) = let both : word ∷ [] ≡ [] = sym e ∙ f in cc
      wrong a b c (one_level f) = is_not (codes "depth") a f
      wrong a b c (levels depth f) = let both : word ∷ [] ≡ codes "depth" ∷ depth ∷ [] = sym e ∙ f in cc
      wrong a b c (all_outputs f) = is_not (codes "all") b f
      wrong a b c (sources f) = is_not (codes "rule") c f
      wrong a b c (of_rule rule f) = let both : word ∷ [] ≡ codes "rule" ∷ rule ∷ [] = sym e ∙ f in cc

      by_tests : (s t u : Bool) → bytes_eq word (codes "depth") ≡ s → bytes_eq word (codes "all") ≡ t
          → bytes_eq word (codes "rule") ≡ u
          → Ends rows (bad_words ∷ bad_depth ∷ [])
          (if s then Ok (Depth 1) else if t then Ok All else if u then Ok Sources else Err (BadWords name))
      by_tests true t u a b c = viewed (Depth 1) (one_level (is (codes "depth") a)) one
      by_tests false true u a b c = viewed All (all_outputs (is (codes "all") b)) one
      by_tests false false true a b c = viewed Sources (sources (is (codes "rule") c)) one
      by_tests false false false a b c = no_view (wrong a b c)

  depth_ends : (text : List ℕ) → words_in rows ≡ codes "depth" ∷ text ∷ []
      → Ends rows (bad_words ∷ bad_depth ∷ []) (depth_of text)
  depth_ends text e = by_number (given_depth text) refl
    where
      right : Lacks rows bad_words
      right = lacks_bad_words rows name Targets names (levels text e)

      meant : (number : ℕ) → given_depth text ≡ Some number → Lacks rows bad_depth
      meant number k fault (no_depth name' other two f none) =
          let words : codes "depth" ∷ text ∷ [] ≡ codes "depth" ∷ other ∷ [] = sym e ∙ f in
          let same : text ≡ other = cc in
          let both : Some number ≡ None = sym k ∙ ap given_depth same ∙ none in
          absurd (cc)

      by_number : (number : Option ℕ) → given_depth text ≡ number
          → Ends rows (bad_words ∷ bad_depth ∷ []) (ok_or (option_map Depth number) (BadNumber text))
      by_number None k = in_fault (later right (first (no_depth name text names e k)))
      by_number (Some number) k = in_value (right, (meant number k, tt))

  pair_ends : (word value : List ℕ) → words_in rows ≡ word ∷ value ∷ []
      → Ends rows (bad_words ∷ bad_depth ∷ []) (view_of name (word ∷ value ∷ []))
  pair_ends word value e = by_tests (bytes_eq word (codes "depth")) (bytes_eq word (codes "rule")) refl refl
    where
      is : (other : List ℕ) → bytes_eq word other ≡ true → words_in rows ≡ other ∷ value ∷ []
      is other t = e ∙ ap (λ w. w ∷ value ∷ []) (same_text word other t)

      is_not : (other : List ℕ) → bytes_eq word other ≡ false → (next : List ℕ)
          → words_in rows ≢ other ∷ next ∷ []
      is_not other t next f =
          let both : word ∷ value ∷ [] ≡ other ∷ next ∷ [] = sym e ∙ f in
          let same : word ≡ other = cc in
          absurd (other_text word other t same)

      wrong : bytes_eq word (codes "depth") ≡ false → bytes_eq word (codes "rule") ≡ false
          → ¬ IsView (words_in rows)
      wrong a b (roots f) = let both : word ∷ value ∷ [] ≡ [] = sym e ∙ f in cc
      wrong a b (one_level f) = let both : word ∷ value ∷ [] ≡ codes "depth" ∷ [] = sym e ∙ f in cc
      wrong a b (levels depth f) = is_not (codes "depth") a depth f
      wrong a b (all_outputs f) = let both : word ∷ value ∷ [] ≡ codes "all" ∷ [] = sym e ∙ f in cc
      wrong a b (sources f) = let both : word ∷ value ∷ [] ≡ codes "rule" ∷ [] = sym e ∙ f in cc
      wrong a b (of_rule rule f) = is_not (codes "rule") b rule f

      by_tests : (s t : Bool) → bytes_eq word (codes "depth") ≡ s → bytes_eq word (codes "rule") ≡ t
          → Ends rows (bad_words ∷ bad_depth ∷ [])
          (if s then depth_of value else if t then Ok (OfRule value) else Err (BadWords name))
      by_tests true t a b = depth_ends value (is (codes "depth") a)
      by_tests false true a b = viewed (OfRule value) (of_rule value (is (codes "rule") b))
          (is_not (codes "depth") a)
      by_tests false false a b = no_view (wrong a b)

  pub view_ends : (words : List (List ℕ)) → words_in rows ≡ words
      → Ends rows (bad_words ∷ bad_depth ∷ []) (view_of name words)
  view_ends [] e = viewed (Depth 1) (roots e)
      (λ depth f. let both : [] ≡ codes "depth" ∷ depth ∷ [] = sym e ∙ f in cc)
  view_ends (word ∷ []) e = word_ends word e
  view_ends (word ∷ value ∷ []) e = pair_ends word value e
  view_ends (word ∷ value ∷ more ∷ words) e = no_view wrong
    where
      longer : (words' : List (List ℕ)) → words_in rows ≡ words' → word ∷ value ∷ more ∷ words ≡ words'
      longer words' f = sym e ∙ f

      wrong : ¬ IsView (words_in rows)
      wrong (roots f) = let both = longer [] f in cc
      wrong (one_level f) = let both = longer (codes "depth" ∷ []) f in cc
      wrong (levels depth f) = let both = longer (codes "depth" ∷ depth ∷ []) f in cc
      wrong (all_outputs f) = let both = longer (codes "all" ∷ []) f in cc
      wrong (sources f) = let both = longer (codes "rule" ∷ []) f in cc
      wrong (of_rule rule f) = let both = longer (codes "rule" ∷ rule ∷ []) f in cc
