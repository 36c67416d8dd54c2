-- Arguments that `clap` accepts name a subcommand of the program.
use Rattle.std.proofs.Common.{◌≡◌, Bool, true, false, Option, Some, None, List, [], ◌∷◌, refl, ap, subst}
use Rattle.std.specs.Prelude.{⊤, ◌&&◌, not, is_some, find, if◌then◌else◌, option_map, unwrap_or}
use Rattle.std.specs.List.{list_any}
use Rattle.clap.proofs.OnLiterals.{clap_on_literals}
use Rattle.clap.specs.Words.{App, Kinds, Row, Shape, Text, built, fault_of, subcommand_of}
use Rattle.clap.specs.Faults as clap
use Rattle.clap.specs.Kinds.{check_kinds, or_else}
use Rattle.clap.specs.Simple.{argument_words, entered, label_of, names_of, rows_at}
use Rattle.clap.specs.Facts.{explicit_source}
use Rattle.clap.specs.Takes.{is_given}
use Rattle.clap.specs.Walk.{Held, Names, answers_to, finished, nothing_held, settled, stop_after, walk}
use Rattle.clap.specs.Walk.{walk_from}
use Rattle.nj_questions.specs.CommandLine.{command}
use Rattle.nj_questions.specs.QuestionOf.{subject_in}
use Rattle.nj_questions.specs.Inside.Held.{is_question}

-- ---- a subcommand is met

last : (a b c d e : Kinds) → or_else a (or_else b (or_else c (or_else d e))) ≡ [] → e ≡ []
last [] [] [] [] e none = none
last [] [] [] (k ∷ ks) e none = absurd cc
last [] [] (k ∷ ks) d e none = absurd cc
last [] (k ∷ ks) c d e none = absurd cc
last (k ∷ ks) b c d e none = absurd cc

checked : (help entered required argument : Bool) → required ≡ true
    → check_kinds (not entered && help) (not entered && required) argument ≡ [] → entered ≡ true
checked help true required argument needed passed = refl
checked true false required argument needed passed = absurd cc
checked false false true argument needed passed = absurd cc
checked false false false argument needed passed = absurd cc

level : (s : Shape) (names : Names) (h : Held) (words : List Text) (entered : Bool) (below : Kinds)
    → s.subcommand_required ≡ true → clap.level_fault s names h words entered below ≡ [] → entered ≡ true
level s names h words entered below needed passed =
    let end = (walk s.rules names h words).held in
    let rows = finished s.rules end in
    checked (s.arg_required_else_help && not (list_any (λ r. explicit_source r.source) rows)) entered
    s.subcommand_required
    (not (s.subcommand_negates_reqs && entered)
    && list_any (λ a. a.required && not (is_given a.id rows)) s.rules) needed
    (last (clap.walk_fault s names (walk_from h) words) below
    (clap.settle_fault s.rules s.args_override_self end)
    (clap.defaults_fault (settled s.rules end).rows s.rules) (clap.check_fault s rows entered) passed)

-- ---- and is a subcommand of the program

abbrev IsTopic : Shape → Type 0
IsTopic s = (rows : List Row) → is_some (subject_in s.name rows) ≡ true

abbrev AreTopics : List Shape → Type 0
AreTopics [] = ⊤
AreTopics (s ∷ rest) = IsTopic s × AreTopics rest

first_or_later : (b : Bool) (first s : Shape) (later : Option Shape) → IsTopic first
    → (later ≡ Some s → IsTopic s) → (if b then Some first else later) ≡ Some s → IsTopic s
first_or_later true first s later topic more e =
    subst IsTopic (ap (λ (one : Option Shape). unwrap_or one first) e) topic
first_or_later false first s later topic more e = more e

found : (test : Shape → Bool) (subs : List Shape) (s : Shape) → AreTopics subs → find test subs ≡ Some s
    → IsTopic s
found test [] s topics e = absurd cc
found test (first ∷ rest) s topics e =
    first_or_later (test first) first s (find test rest) topics.0 (found test rest s topics.1) e

topic : (test : Shape → Bool) (subs : List Shape) (words : List Text) (one : Option Shape) → AreTopics subs
    → find test subs ≡ one → is_some (option_map (λ s. rows_at s words) one) ≡ true
    → is_question (option_map (λ s. rows_at s words) one) ≡ true
topic test subs words None topics e met = absurd cc
topic test subs words (Some s) topics e met = found test subs s topics e (rows_at s words).1

stopped : (app : App) (stop : Option (Text × List Text)) → AreTopics app.subs
    → is_some (entered app stop) ≡ true
    → is_question (entered app stop) ≡ true
stopped app None topics met = absurd cc
stopped app (Some p) topics met =
    topic (λ s. answers_to p.0 (label_of s)) app.subs p.1 (find (λ s. answers_to p.0 (label_of s)) app.subs)
    topics refl met

also : {X Y : Type 0} → X → Y → X × Y
also x y = (x, y)

all_topics : AreTopics (built command).subs
unfolding command clap_on_literals
all_topics =
    also (λ rows. refl) (also (λ rows. refl) (also (λ rows. refl)
    (also (λ rows. refl) (also (λ rows. refl) (also (λ rows. refl) (also (λ rows. refl)
    (also (λ rows. refl) (also (λ rows. refl) tt))))))))

required : (built command).top.subcommand_required ≡ true
unfolding command clap_on_literals
required = refl

named : (app : App) (words : List Text) → AreTopics (built app).subs
    → (built app).top.subcommand_required ≡ true
    → fault_of app words ≡ [] → is_question (subcommand_of app words) ≡ true
named app words topics needed passed =
    let own = built app in
    let stop = stop_after own.top.rules (names_of own) (argument_words app words) in
    stopped own stop topics
    (level own.top (names_of own) nothing_held (argument_words app words) (is_some (entered own stop))
    (clap.entered_fault own stop) needed passed)

pub names_subject : (words : List Text) → fault_of command words ≡ []
    → is_question (subcommand_of command words) ≡ true
names_subject words passed = named command words all_topics required passed
