-- Mistakes in the rows of the arguments, and computations that end with the fault of the first mistake.
use Rattle.std.proofs.Common.{◌≡◌, ◌≢◌, ℕ, Bool, true, false, cond, List, [], ◌∷◌, ◌++◌, map, take, drop}
use Rattle.std.proofs.Common.{Option, Some, None, Result, Ok, Err, refl, sym, ap, subst, ◌∙◌}
use Rattle.std.specs.Prelude.{⊤, codes, not, ◌&&◌, is_some, find}
use Rattle.nj_manifest.specs.LineSteps.{◌>>=◌}
use Rattle.clap.specs.Words.{Row, first_of}
use Rattle.nj_args.specs.Fields.{words_in}
use Rattle.nj_args.specs.FirstFaults.{Mistake, foreign_option, bad_take, bad_mark, bad_words, bad_depth}
use Rattle.nj_args.specs.FirstFaults.{TakesWords, NamesTool, HasMistake, toolless, unknown, foreign}
use Rattle.nj_args.specs.FirstFaults.{no_number, no_mark, wrong_words, no_depth, Lacks, IsFirstOf, first}
use Rattle.nj_args.specs.FirstFaults.{later}
use Rattle.nj_args.specs.Inside.Held.{first_foreign}
use Rattle.nj_args.specs.Tools.{tool_named, is_foreign, all_options}
use Rattle.nj_args.specs.declared.usage_fault.ToolOption.{ToolOption}
use Rattle.nj_args.specs.declared.usage_fault.ToolOption.TheVariants as option
use Rattle.nj_args.specs.declared.usage_fault.UsageFault.{UsageFault}
use Rattle.nj_args.specs.declared.usage_fault.UsageFault.TheVariants.{ForeignOption, BadWords}
use Rattle.nj_args.specs.declared.tools.Tool.{Tool}
use Rattle.nj_args.specs.declared.tools.Tool.TheVariants.{Targets}

-- ---- one fault for a mistake, one first fault

-- only one tool is named
same_tool : {rows : List Row} {name other : List ℕ} {tool another : Tool} → NamesTool rows name tool
    → NamesTool rows other another
    → (name ≡ other) × (tool ≡ another)
same_tool {rows} {name} {other} {tool} {another} one two =
    let names : Some name ≡ Some other = sym one.asked ∙ two.asked in
    let same : name ≡ other = cc in
    let tools : Some tool ≡ Some another = sym one.known ∙ ap tool_named same ∙ two.known in
    (same, cc)

-- a mistake is reported by one fault
one_fault : {rows : List Row} {mistake : Mistake} {fault other : UsageFault} → HasMistake rows mistake fault
    → HasMistake rows mistake other → fault ≡ other
one_fault (toolless e) (toolless f) = refl
one_fault (unknown name e k) (unknown other f l) = let same : Some name ≡ Some other = sym e ∙ f in cc
one_fault (foreign name tool option one e) (foreign other another option' two f) =
    ap (λ n. ForeignOption option n) (same_tool one two).0
one_fault (no_number text e k) (no_number other f l) = let same : Some text ≡ Some other = sym e ∙ f in cc
one_fault (no_mark text e k) (no_mark other f l) = let same : Some text ≡ Some other = sym e ∙ f in cc
one_fault (wrong_words name tool one e) (wrong_words other another two f) = ap BadWords (same_tool one two).0
one_fault (no_depth name text one e k) (no_depth other text' two f l) =
    let same : codes "depth" ∷ text ∷ [] ≡ codes "depth" ∷ text' ∷ [] = sym e ∙ f in
    cc

-- of some mistakes one is the first
one_first : {rows : List Row} {mistakes : List Mistake} {fault other : UsageFault}
    → IsFirstOf rows mistakes fault
    → IsFirstOf rows mistakes other → fault ≡ other
one_first (first h) (first k) = one_fault h k
one_first (first h) (later lacks k) = absurd (lacks _ h)
one_first (later lacks h) (first k) = absurd (lacks _ k)
one_first (later lacks h) (later lacks' k) = one_first h k

-- ---- a computation ends in its first fault

abbrev pub LacksAll : List Row → List Mistake → Type 0
LacksAll rows [] = ⊤
LacksAll rows (mistake ∷ mistakes) = Lacks rows mistake × LacksAll rows mistakes

-- it ends with a value if none of the mistakes is present; otherwise with the fault of the first mistake
pub data Ends {A : Type 0} (rows : List Row) (mistakes : List Mistake) : Result A UsageFault → Type 0 where
  in_value : {x : A} → LacksAll rows mistakes → Ends rows mistakes (Ok x)
  in_fault : {fault : UsageFault} → IsFirstOf rows mistakes fault → Ends rows mistakes (Err fault)

-- one more mistake is absent
pub skip : {A : Type 0} {rows : List Row} {mistake : Mistake} {mistakes : List Mistake}
    {result : Result A UsageFault}
    → Lacks rows mistake → Ends rows mistakes result → Ends rows (mistake ∷ mistakes) result
skip lacks (in_value none) = in_value (lacks, none)
skip lacks (in_fault h) = in_fault (later lacks h)

-- the value is made into another
pub mapped : {A B : Type 0} {rows : List Row} {mistakes : List Mistake} {result : Result A UsageFault}
    (f : A → B)
    → Ends rows mistakes result → Ends rows mistakes (result >>= (λ x. Ok (f x)))
mapped f (in_value none) = in_value none
mapped f (in_fault h) = in_fault h

-- one mistake is looked for, then others
pub bound : {A B : Type 0} {rows : List Row} {mistake : Mistake} {mistakes : List Mistake}
    {result : Result A UsageFault}
    (f : A → Result B UsageFault) → Ends rows (mistake ∷ []) result → ((x : A) → Ends rows mistakes (f x))
    → Ends rows (mistake ∷ mistakes) (result >>= f)
bound f (in_value {x} none) next = skip none.0 (next x)
bound f (in_fault (first h)) next = in_fault (first h)
bound f (in_fault (later lacks h)) next = elim h [ ]

no_first : {rows : List Row} {mistakes : List Mistake} {fault : UsageFault} → LacksAll rows mistakes
    → ¬ IsFirstOf rows mistakes fault
no_first none (first h) = none.0 _ h
no_first none (later lacks h) = no_first none.1 h

-- a computation that ends so has a fault exactly if the fault reports the first mistake
pub reported : {A : Type 0} {rows : List Row} {mistakes : List Mistake} {fault : UsageFault}
    {result : Result A UsageFault}
    → Ends rows mistakes result → IsFirstOf rows mistakes fault → result ≡ Err fault
reported (in_value none) h = absurd (no_first none h)
reported (in_fault k) h = ap Err (one_first k h)

-- ---- options that do not go with the tool

module _ (rows : List Row) (name : List ℕ) (tool : Tool) (names : NamesTool rows name tool) where
  goes : (option : ToolOption) → is_foreign tool rows option ≡ false → Lacks rows (foreign_option option)
  goes option e fault (foreign other another option' two f) =
      let same : tool ≡ another = (same_tool names two).1 in
      let g : is_foreign another rows option ≡ false = rw (← same) e in
      absurd (cc)

  -- a first foreign option is found
  pub found : (options : List ToolOption) (rest : List Mistake) (option : ToolOption)
      → find (is_foreign tool rows) options ≡ Some option
      → IsFirstOf rows (map foreign_option options ++ rest) (ForeignOption option name)
  found [] rest option e = absurd (cc)
  found (x ∷ options) rest option e = by_test (is_foreign tool rows x) refl e (found options rest option)
    where
      by_test : (b : Bool) → is_foreign tool rows x ≡ b
          → cond b (Some x) (find (is_foreign tool rows) options) ≡ Some option
          → (find (is_foreign tool rows) options ≡ Some option
          → IsFirstOf rows (map foreign_option options ++ rest) (ForeignOption option name))
          → IsFirstOf rows (foreign_option x ∷ (map foreign_option options ++ rest))
          (ForeignOption option name)
      by_test true b e others = let same : x ≡ option = cc in
          rw (← same) (first (foreign name tool x names b))
      by_test false b e others = later (goes x b) (others e)

  -- no option is foreign
  pub none_found : {A : Type 0} (options : List ToolOption) (rest : List Mistake)
      (result : Result A UsageFault)
      → find (is_foreign tool rows) options ≡ None → Ends rows rest result
      → Ends rows (map foreign_option options ++ rest) result
  none_found [] rest result e ends = ends
  none_found (x ∷ options) rest result e ends =
      by_test (is_foreign tool rows x) refl e (λ e. none_found options rest result e ends)
    where
      by_test : (b : Bool) → is_foreign tool rows x ≡ b
          → cond b (Some x) (find (is_foreign tool rows) options) ≡ None
          → (find (is_foreign tool rows) options ≡ None
          → Ends rows (map foreign_option options ++ rest) result)
          → Ends rows (foreign_option x ∷ (map foreign_option options ++ rest)) result
      by_test true b e others = absurd (cc)
      by_test false b e others = skip (goes x b) (others e)

-- a test that no option of a list passes is not passed by an option of that list
passed_over : (p : ToolOption → Bool) (before : List ToolOption) (x : ToolOption) (after : List ToolOption)
    → find p (before ++ x ∷ after) ≡ None → p x ≡ false
passed_over p [] x after e = by_test (p x) refl e
  where
    by_test : (b : Bool) → p x ≡ b → cond b (Some x) (find p after) ≡ None → p x ≡ false
    by_test true b e = absurd (cc)
    by_test false b e = b
passed_over p (y ∷ before) x after e = by_test (p y) e (passed_over p before x after)
  where
    by_test : (b : Bool) → cond b (Some y) (find p (before ++ x ∷ after)) ≡ None
        → (find p (before ++ x ∷ after) ≡ None → p x ≡ false) → p x ≡ false
    by_test true e others = absurd (cc)
    by_test false e others = others e

pub record NotForeign (tool : Tool) (rows : List Row) : Type 0 where
  pub take : is_foreign tool rows option.Take ≡ false
  pub resume : is_foreign tool rows option.Resume ≡ false

pub not_foreign : (tool : Tool) (rows : List Row) → first_foreign tool rows ≡ None → NotForeign tool rows
not_foreign tool rows e = record {
  take = passed_over (is_foreign tool rows) (take 4 all_options) option.Take (drop 5 all_options) e;
  resume = passed_over (is_foreign tool rows) (take 5 all_options) option.Resume (drop 6 all_options) e;
}

-- an option that does not go with the tool, and is not foreign, is not given
pub not_given : {A : Type 0} (given : Option A) (goes : Bool) → (is_some given && not goes) ≡ false
    → goes ≡ false → given ≡ None
not_given None goes e f = refl
not_given (Some x) true e f = absurd (cc)
not_given (Some x) false e f = absurd (cc)

pub lacks_bad_take : (rows : List Row) → first_of (codes "--take") rows ≡ None → Lacks rows bad_take
lacks_bad_take rows e fault (no_number text f k) = absurd (cc)

pub lacks_bad_mark : (rows : List Row) → first_of (codes "--resume") rows ≡ None → Lacks rows bad_mark
lacks_bad_mark rows e fault (no_mark text f k) = absurd (cc)

-- ---- the arguments of a tool

module _ (rows : List Row) (name : List ℕ) (tool : Tool) (names : NamesTool rows name tool) where
  pub lacks_bad_words : TakesWords tool (words_in rows) → Lacks rows bad_words
  lacks_bad_words takes fault (wrong_words other another two wrong) =
      absurd (wrong (subst (λ t. TakesWords t (words_in rows)) (same_tool names two).1 takes))

  pub lacks_bad_depth : tool ≢ Targets → Lacks rows bad_depth
  lacks_bad_depth e fault (no_depth other text two f k) = absurd (e (same_tool names two).1)

  -- a tool that accepts the arguments, and is not `targets`
  pub takes_all : {A : Type 0} (x : A) → tool ≢ Targets → TakesWords tool (words_in rows)
      → Ends rows (bad_words ∷ bad_depth ∷ []) (Ok x)
  takes_all x other takes = in_value (lacks_bad_words takes, (lacks_bad_depth other, tt))

  pub refuses : (A : Type 0) → ¬ TakesWords tool (words_in rows)
      → Ends {A = A} rows (bad_words ∷ bad_depth ∷ []) (Err (BadWords name))
  refuses A wrong = in_fault (first (wrong_words name tool names wrong))
