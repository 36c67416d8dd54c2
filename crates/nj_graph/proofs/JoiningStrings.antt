-- The entries of a dyndep file's text, joined one after the other.
use Rattle.std.proofs.lemmas.Grind.{common_steps}
use Rattle.std.proofs.Common.{◌≡◌, ◌⊎◌, ℕ, suc, ◌<◌, inl, inr, Bool, true, false, Option, Some, None, Result}
use Rattle.std.proofs.Common.{Ok, Err, List, length, refl, sym, ap, subst, ◌∙◌, arith}
use Rattle.nj_graph.proofs.Continuing.{unless_fault}
use Rattle.nj_text.specs.Lines.{Line, text_lines}
use Rattle.nj_manifest.specs.declared.entries.Entry as text
use Rattle.nj_manifest.specs.Faults.{Fault}
use Rattle.nj_manifest.specs.LineSteps.{◌>>=◌}
use Rattle.nj_manifest.specs.Dyndeps as dyndep
use Rattle.nj_manifest.specs.Dyndeps.{EntryModel, version_next, next_entry, left_entry, DyndepLeft}
use Rattle.nj_manifest.specs.DyndepParsers.{entry_model}
use Rattle.nj_manifest.specs.Inside.ParserContracts.{left_by}
use Rattle.nj_manifest.proofs.Starts.{ahead}
use Rattle.nj_manifest.proofs.DyndepMeasures.{entry-takes, version-takes, left_entry-takes, text-ahead}
use Rattle.nj_scope.specs.ReadingList.{ReadStatement}
use Rattle.nj_faults.specs.declared.fault.GraphFault.{GraphFault}
use Rattle.nj_faults.specs.Faults.{IsFault, fault_in, no_memory}
use Rattle.nj_statements.specs.Joining.{entry_fault, with_entry}
use Rattle.nj_statements.specs.JoiningHeld.{JoiningModel, HasJoined}
use Rattle.nj_graph.specs.Parsed.{Parsed, parsed_in}
use Rattle.nj_graph.specs.Reading.{Refused}
use Rattle.nj_graph.specs.Joining.{after_version, entries_of, entries_joined, text_joined}
use Rattle.nj_graph.proofs.ParsedLemmas.{none_parsed, and_parsed, parsed-step, parsed-end, parsed-fault}
use Rattle.nj_graph.specs.Inside.JoiningContracts.{TextJoined, TextRefused, NextEntryOf, NextEntryIs}

bind-ok : {A B : Type 0} (r : Result A Fault) (k : A → Result B Fault) (y : B) → (r >>= k) ≡ Ok y
    → (x : A) × (r ≡ Ok x) × (k x ≡ Ok y)
bind-ok (Ok x) k y h = (x, refl, h)
bind-ok (Err e) k y h = absurd cc

bind-err : {A B : Type 0} (r : Result A Fault) (k : A → Result B Fault) (f : Fault) → (r >>= k) ≡ Err f
    → (r ≡ Err f) ⊎ ((x : A) × (r ≡ Ok x) × (k x ≡ Err f))
bind-err (Ok x) k f h = inr (x, refl, h)
bind-err (Err e) k f h = inl cc

-- ---- the entries to come

-- the entries of the lines that a parser has before it, the version first if it was not read
abbrev pub entries_left : (most : ℕ) → (version_read : Bool) → List Line → Parsed EntryModel
entries_left most true lines = parsed_in next_entry most lines
entries_left most false lines = after_version most (version_next lines)

-- An entry is the first entry of the rest; after it there are fewer lines.
pub entries-step : (most : ℕ) (b : Bool) (ls rest : List Line) (entry : EntryModel)
    → left_entry b ls ≡ Ok (Some entry, rest) → ahead ls < most
    → (fewer : ℕ) × (entries_left most b ls ≡ and_parsed entry (entries_left fewer true rest))
    × (ahead rest < fewer)
entries-step most true ls rest entry h less =
    parsed-step next_entry most ls rest entry h (entry-takes ls entry rest h) less
entries-step most false ls rest entry h less =
    let version = bind-ok (version_next ls) next_entry (Some entry, rest) h in
    let first = version-takes ls version.0 version.1 in
    let step = parsed-step next_entry most version.0 rest entry version.2
    (entry-takes version.0 entry rest version.2) (omega (arith, first, less)) in
    (step.0, ap (after_version most) version.1 ∙ step.1, step.2)

pub entries-end : (most : ℕ) (b : Bool) (ls rest : List Line) → left_entry b ls ≡ Ok (None, rest)
    → entries_left most b ls ≡ none_parsed None
entries-end most true ls rest h = parsed-end next_entry most ls rest h
entries-end most false ls rest h =
    let version = bind-ok (version_next ls) next_entry (None, rest) h in
    ap (after_version most) version.1 ∙ parsed-end next_entry most version.0 rest version.2

pub entries-fault : (most : ℕ) (b : Bool) (ls : List Line) (f : Fault) → left_entry b ls ≡ Err f
    → ahead ls < most → entries_left most b ls ≡ none_parsed (Some f)
entries-fault most true ls f h less = parsed-fault next_entry most ls f h less
entries-fault most false ls f h less = by (bind-err (version_next ls) next_entry f h)
  where
    by : (version_next ls ≡ Err f) ⊎ ((rest : List Line) × (version_next ls ≡ Ok rest)
        × (next_entry rest ≡ Err f)) → entries_left most false ls ≡ none_parsed (Some f)
    by (inl version) = ap (after_version most) version
    by (inr (rest, version, next)) =
        let first = version-takes ls rest version in
        ap (after_version most) version ∙ parsed-fault next_entry most rest f next
        (omega (arith, first, less))

-- ---- the entries so far

-- The joined statements are held, and the text joins the same as the lines that are left from here
-- on.
pub record TextUnderway (file : List ℕ) (stated : List ReadStatement) (text : List ℕ)
    (joined : List ReadStatement) (held : JoiningModel) (version_read : Bool) (lines : List Line) : Type 0
  where
    pub now : List ReadStatement
    pub has : HasJoined held stated now
    pub most : ℕ
    pub capacity : ahead lines < most
    pub continues : text_joined file stated text joined
        ≡ entries_joined file stated (entries_left most version_read lines).items
        (entries_left most version_read lines).fault now

module _ (file : List ℕ) (stated : List ReadStatement) (text : List ℕ) (joined : List ReadStatement)
    (held : JoiningModel) where
  pub text-at-first : HasJoined held stated joined
      → TextUnderway file stated text joined held false (text_lines text)
  unfolding entries_of
  text-at-first has = record {
    now = joined;
    has = has;
    most = suc (length text);
    capacity = text-ahead text;
    continues = refl;
  }

  module _ (b : Bool) (lines : List Line) (u : TextUnderway file stated text joined held b lines) where
    pub text-ends : (rest : List Line) → left_entry b lines ≡ Ok (None, rest)
        → TextJoined file stated text joined held
    unfolding entries_joined
    text-ends rest h = record {
      now = u.now;
      has = u.has;
      joins = u.continues ∙ ap (λ (es : Parsed EntryModel). entries_joined file stated es.items es.fault
          u.now) (entries-end u.most b lines rest h);
    }

    pub text-fault : (fault : GraphFault) (found : Fault) → left_entry b lines ≡ Err found
        → fault ≡ fault_in file found → TextRefused file stated text joined fault
    unfolding entries_joined
    text-fault fault found h is = record {
      now = u.now;
      joins = u.continues ∙ ap (λ (es : Parsed EntryModel). entries_joined file stated es.items es.fault
          u.now) (entries-fault u.most b lines found h u.capacity)
          ∙ ap (λ f. record { entries = u.now; end = Refused f }) (sym is);
    }

    module _ (entry : EntryModel) (rest : List Line) (next : left_entry b lines ≡ Ok (Some entry, rest)) where
      step : (fewer : ℕ) × (entries_left u.most b lines ≡ and_parsed entry (entries_left fewer true rest))
          × (ahead rest < fewer)
      step = entries-step u.most b lines rest entry next u.capacity

      joins-next : text_joined file stated text joined
          ≡ unless_fault (entry_fault file stated u.now entry) u.now
          (entries_joined file stated (entries_left step.0 true rest).items
          (entries_left step.0 true rest).fault (with_entry stated u.now entry))
      unfolding entries_joined
      joins-next = u.continues ∙ ap (λ (es : Parsed EntryModel). entries_joined file stated es.items es.fault
          u.now) step.1

      pub text-turn : (later : JoiningModel) → entry_fault file stated u.now entry ≡ None
          → HasJoined later stated (with_entry stated u.now entry)
          → TextUnderway file stated text joined later true rest
      text-turn later none has = record {
        now = with_entry stated u.now entry;
        has = has;
        most = step.0;
        capacity = step.2;
        continues = joins-next ∙ ap (λ f. unless_fault f u.now
            (entries_joined file stated (entries_left step.0 true rest).items
            (entries_left step.0 true rest).fault (with_entry stated u.now entry))) none;
      }

      pub text-refused : (fault : GraphFault) → IsFault (entry_fault file stated u.now entry) fault
          → (fault ≡ no_memory) ⊎ TextRefused file stated text joined fault
      text-refused fault (inl none) = inl none
      text-refused fault (inr is) = inr (record {
        now = u.now;
        joins = joins-next ∙ ap (λ f. unless_fault f u.now
            (entries_joined file stated (entries_left step.0 true rest).items
            (entries_left step.0 true rest).fault (with_entry stated u.now entry))) is;
      })

-- ---- the results of a parser

abbrev pub lines_to_come : DyndepLeft → ℕ
lines_to_come (dyndep.WholeFile lines) = ahead lines
lines_to_come (dyndep.Entries lines) = ahead lines
lines_to_come (dyndep.Refusing fault) = 0

next-of : (file : List ℕ) (b : Bool) (lines : List Line) (after : DyndepLeft)
    (result : Result (Option text.Entry) GraphFault) → NextEntryIs file (left_by b lines) after result
    → NextEntryOf file (left_entry b lines) after result
next-of file true lines after result h = h
next-of file false lines after result h = h

pub next-some : (file : List ℕ) (before after : DyndepLeft) (b : Bool) (lines : List Line)
    (found : Option text.Entry) (entry : text.Entry) → before ≡ left_by b lines → found ≡ Some entry
    → NextEntryIs file before after (Ok found)
    → (rest : List Line) × (left_entry b lines ≡ Ok (Some (entry_model entry), rest))
    × (after ≡ left_by true rest)
next-some file before after b lines found entry at is next = grind (arith, common_steps)

pub next-none : (file : List ℕ) (before after : DyndepLeft) (b : Bool) (lines : List Line)
    (found : Option text.Entry) → before ≡ left_by b lines → found ≡ None
    → NextEntryIs file before after (Ok found)
    → (rest : List Line) × (left_entry b lines ≡ Ok (None, rest))
next-none file before after b lines found at is next = grind (arith, common_steps)

to-come : (b : Bool) (lines : List Line) → lines_to_come (left_by b lines) ≡ ahead lines
to-come true lines = refl
to-come false lines = refl

pub fewer-to-come : (before after : DyndepLeft) (b : Bool) (lines rest : List Line) (entry : EntryModel)
    → before ≡ left_by b lines → after ≡ left_by true rest → left_entry b lines ≡ Ok (Some entry, rest)
    → lines_to_come after < lines_to_come before
fewer-to-come before after b lines rest entry at remainder next =
    let takes = left_entry-takes b lines entry rest next in
    let here : lines_to_come before ≡ ahead lines = ap lines_to_come at ∙ to-come b lines in
    let there : lines_to_come after ≡ ahead rest = ap lines_to_come remainder in
    omega (arith, takes, here, there)

pub next-stops : (file : List ℕ) (stated : List ReadStatement) (text : List ℕ) (joined : List ReadStatement)
    (held : JoiningModel) (b : Bool) (lines : List Line) (before after : DyndepLeft) (fault : GraphFault)
    → TextUnderway file stated text joined held b lines → before ≡ left_by b lines
    → NextEntryIs file before after (Err fault)
    → (fault ≡ no_memory) ⊎ TextRefused file stated text joined fault
next-stops file stated text joined held b lines before after fault u at next =
    by (next-of file b lines after (Err fault) (subst (λ s. NextEntryIs file s after (Err fault)) at next))
  where
    by : NextEntryOf file (left_entry b lines) after (Err fault)
        → (fault ≡ no_memory) ⊎ TextRefused file stated text joined fault
    by (inl none) = inl none
    by (inr (found, refused, is)) = inr (text-fault file stated text joined held b lines u fault found refused
        is)
