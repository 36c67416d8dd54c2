-- The bases and targets of `keys` keep their order: the walk of `clap` over them, word by word.
use Rattle.std.proofs.Common.{◌≡◌, ◌∙◌, true, false, Option, Some, None, List, [], ◌∷◌, ◌++◌, map, refl, sym}
use Rattle.std.proofs.Common.{ap, ap₂, subst}
use Rattle.std.specs.Prelude.{codes, find, fold, is_some, ok_or}
use Rattle.std.proofs.lemmas.List.{append-nil, append_assoc}
use Rattle.clap.proofs.OnLiterals.{clap_on_literals}
use Rattle.clap.specs.Words.{App, Kinds, Row, Rule, Shape, Text, built, fault_of, subcommand_of}
use Rattle.clap.specs.Faults as clap
use Rattle.clap.specs.Kinds.{or_else}
use Rattle.clap.specs.Simple.{entered, label_of, names_of, new_shape}
use Rattle.clap.specs.Walk.{Names, Walk, answers_to, finished, nothing_held, positional, settled, walk_from}
use Rattle.clap.specs.Walk.{walked}
use Rattle.clap.specs.declared.builder.value_parser.Reading.TheVariants.{AsWritten}
use Rattle.clap.specs.declared.parser.matches.ValueSource.TheVariants.{CommandLine}
use Rattle.nj_questions.specs.CommandLine.{command}
use Rattle.nj_questions.specs.Questions.{QuestionModel, keys}
use Rattle.nj_questions.specs.QuestionOf.{has_old_option, question_in, unparsed}
use Rattle.nj_questions.specs.ReadingLaws.{KeysKeepOrder, base_word}
use Rattle.nj_questions.proofs.QuestionSteps.{of_taken}

abbrev own : App
own = built command

abbrev the_shape : Option Shape → Shape
the_shape (Some s) = s
the_shape None = new_shape []

-- the subcommand
abbrev shape : Shape
shape = the_shape (find (λ s. answers_to (codes "keys") (label_of s)) own.subs)

abbrev asked : (bases targets : List Text) → QuestionModel
asked bases targets = record {
  folder = None;
  graph = record { file = codes "build.ninja"; dyndep = false; deps = false; log = None };
  subject = keys (record {
    bases = bases;
    additions = [];
    files = [];
    take = None;
    resume = None;
    all = false;
    json = false;
    targets =
        targets;
  });
}

-- ---- where the walk stands

abbrev row : (name : Text) (values : List Text) → Row
row name values = record {
  id = name;
  values = values;
  count = None;
  source = Some CommandLine;
  reading =
      AsWritten;
}

abbrev rows : (name : Text) (values : List Text) → List Row
rows name [] = []
rows name (v ∷ vs) = row name (v ∷ vs) ∷ []

-- after bases
abbrev based : (bases : List Text) → Walk
based bases = walk_from (record nothing_held { rows = rows (codes "base") bases })

-- after `--`
abbrev dashed : (bases : List Text) → Walk
dashed bases = record (based bases) { is_trailing = true }

-- after targets, when the last target is not yet kept
abbrev targeted : (bases done : List Text) (target : Text) → Walk
targeted bases done target = record {
  held = record {
    rows = rows (codes "base") bases ++ rows (codes "targets") done;
    pending = Some (codes "targets", target ∷ []);
    skip = 0;
  };
  waiting = positional;
  position = 1;
  is_trailing = true;
  stopped = None;
}

-- ---- each word

base-met : (bases : List Text) (base : Text)
    → walked shape.rules [] (based bases) (base_word base) ≡ based (bases ++ base ∷ [])
unfolding command clap_on_literals
base-met [] base = refl
base-met (first ∷ bases) base = refl

base-faultless : (bases : List Text) (base : Text)
    → clap.turn_fault shape [] (based bases) (base_word base) ≡ []
unfolding command clap_on_literals
base-faultless [] base = refl
base-faultless (first ∷ bases) base = refl

dashes-met : (bases : List Text) → walked shape.rules [] (based bases) (codes "--") ≡ dashed bases
unfolding command clap_on_literals
dashes-met [] = refl
dashes-met (first ∷ bases) = refl

dashes-faultless : (bases : List Text) → clap.turn_fault shape [] (based bases) (codes "--") ≡ []
unfolding command clap_on_literals
dashes-faultless [] = refl
dashes-faultless (first ∷ bases) = refl

first-met : (bases : List Text) (target : Text)
    → walked shape.rules [] (dashed bases) target ≡ targeted bases [] target
unfolding command clap_on_literals
first-met [] target = refl
first-met (first ∷ bases) target = refl

first-faultless : (bases : List Text) (target : Text) → clap.turn_fault shape [] (dashed bases) target ≡ []
unfolding command clap_on_literals
first-faultless [] target = refl
first-faultless (first ∷ bases) target = refl

target-met : (bases done : List Text) (last target : Text)
    → walked shape.rules [] (targeted bases done last) target ≡ targeted bases (done ++ last ∷ []) target
unfolding command clap_on_literals
target-met [] [] last target = refl
target-met [] (one ∷ done) last target = refl
target-met (first ∷ bases) [] last target = refl
target-met (first ∷ bases) (one ∷ done) last target = refl

target-faultless : (bases done : List Text) (last target : Text)
    → clap.turn_fault shape [] (targeted bases done last) target ≡ []
unfolding command clap_on_literals
target-faultless [] [] last target = refl
target-faultless [] (one ∷ done) last target = refl
target-faultless (first ∷ bases) [] last target = refl
target-faultless (first ∷ bases) (one ∷ done) last target = refl

-- ---- all words

abbrev run : Walk → (words : List Text) → Walk
run w words = fold (walked shape.rules []) w words

-- the faults at the end of a walk
abbrev end_fault : Walk → Kinds
end_fault w = or_else (clap.settle_fault shape.rules shape.args_override_self w.held)
    (or_else (clap.defaults_fault (settled shape.rules w.held).rows shape.rules)
    (clap.check_fault shape (finished shape.rules w.held) false))

-- from there on, the given words have no fault, and are the given question
record Reads (w : Walk) (words : List Text) (question : QuestionModel) : Type 0 where
  walked_through : clap.walk_fault shape [] w words ≡ []
  ended : end_fault (run w words) ≡ []
  meant : question_in (codes "keys") (finished shape.rules (run w words).held) ≡ Some question

one_more : (w after : Walk) (word : Text) (words : List Text) (question : QuestionModel)
    → clap.turn_fault shape [] w word ≡ [] → walked shape.rules [] w word ≡ after
    → Reads after words question → Reads w (word ∷ words) question
unfolding clap.walk_fault
one_more w after word words question faultless met reads =
    let then : Reads (walked shape.rules [] w word) words question =
    subst (λ (v : Walk). Reads v words question) (sym met) reads in
    record {
      walked_through = ap₂ or_else faultless then.walked_through;
      ended = then.ended;
      meant = then.meant;
    }

no_targets : (bases : List Text) → Reads (dashed bases) [] (asked bases [])
unfolding command clap_on_literals
no_targets [] = record { walked_through = refl; ended = refl; meant = refl }
no_targets (first ∷ bases) = record { walked_through = refl; ended = refl; meant = refl }

last_target : (bases done : List Text) (last : Text)
    → Reads (targeted bases done last) [] (asked bases (done ++ last ∷ []))
unfolding command clap_on_literals
last_target [] [] last = record { walked_through = refl; ended = refl; meant = refl }
last_target [] (one ∷ done) last = record { walked_through = refl; ended = refl; meant = refl }
last_target (first ∷ bases) [] last = record { walked_through = refl; ended = refl; meant = refl }
last_target (first ∷ bases) (one ∷ done) last = record { walked_through = refl; ended = refl; meant = refl }

more_targets : (bases done : List Text) (last : Text) (targets : List Text)
    → Reads (targeted bases done last) targets (asked bases (done ++ last ∷ targets))
more_targets bases done last [] = last_target bases done last
more_targets bases done last (target ∷ targets) =
    one_more (targeted bases done last) (targeted bases (done ++ last ∷ []) target) target targets _
    (target-faultless bases done last target) (target-met bases done last target)
    (subst (λ (all : List Text). Reads (targeted bases (done ++ last ∷ []) target) targets (asked bases all))
    (append_assoc done (last ∷ []) (target ∷ targets))
    (more_targets bases (done ++ last ∷ []) target targets))

all_targets : (bases targets : List Text) → Reads (dashed bases) targets (asked bases targets)
all_targets bases [] = no_targets bases
all_targets bases (target ∷ targets) =
    one_more (dashed bases) (targeted bases [] target) target targets (asked bases (target ∷ targets))
    (first-faultless bases target) (first-met bases target) (more_targets bases [] target targets)

all_words : (bases more targets : List Text)
    → Reads (based bases) (map base_word more ++ codes "--" ∷ targets) (asked (bases ++ more) targets)
all_words bases [] targets =
    subst (λ (all : List Text). Reads (based bases) (codes "--" ∷ targets) (asked all targets))
    (sym (append-nil bases))
    (one_more (based bases) (dashed bases) (codes "--") targets (asked bases targets)
    (dashes-faultless bases) (dashes-met bases) (all_targets bases targets))
all_words bases (base ∷ more) targets =
    one_more (based bases) (based (bases ++ base ∷ [])) (base_word base) _ _
    (base-faultless bases base) (base-met bases base)
    (subst (λ (all : List Text). Reads (based (bases ++ base ∷ []))
    (map base_word more ++ codes "--" ∷ targets) (asked all targets))
    (append_assoc bases (base ∷ []) more) (all_words (bases ++ base ∷ []) more targets))

-- ---- the program's own walk stops at the subcommand

abbrev stopped_at : (words : List Text) → Walk
stopped_at words = record (walk_from nothing_held) { stopped = Some (codes "keys", words) }

module _ (c : List Rule) (names : Names) where
  stays : (before words : List Text) → fold (walked c names) (stopped_at before) words
      ≡ stopped_at (before ++ words)
  unfolding walked
  stays before [] = ap stopped_at (sym (append-nil before))
  stays before (word ∷ words) = stays (before ++ word ∷ []) words
      ∙ ap stopped_at (append_assoc before (word ∷ []) words)

stays-faultless : (s : Shape) (names : Names) (before words : List Text)
    → clap.walk_fault s names (stopped_at before) words ≡ []
unfolding walked clap.walk_fault
stays-faultless s names before [] = refl
stays-faultless s names before (word ∷ words) = stays-faultless s names (before ++ word ∷ []) words

keys-met : walked own.top.rules (names_of own) (walk_from nothing_held) (codes "keys") ≡ stopped_at []
unfolding command clap_on_literals
keys-met = refl

whole : (words : List Text) → fold (walked own.top.rules (names_of own)) (walk_from nothing_held)
    (codes "keys" ∷ words) ≡ stopped_at words
whole words = ap (λ (w : Walk). fold (walked own.top.rules (names_of own)) w words) keys-met
    ∙ stays own.top.rules (names_of own) [] words

keys-faultless : clap.turn_fault own.top (names_of own) (walk_from nothing_held) (codes "keys") ≡ []
unfolding command clap_on_literals
keys-faultless = refl

whole-faultless : (words : List Text) → clap.walk_fault own.top (names_of own) (walk_from nothing_held)
    (codes "keys" ∷ words) ≡ []
unfolding clap.walk_fault
whole-faultless words = ap₂ or_else keys-faultless
    (ap (λ (w : Walk). clap.walk_fault own.top (names_of own) w words) keys-met
    ∙ stays-faultless own.top (names_of own) [] words)

-- the faults after it, of a walk that ends so
abbrev later_fault : Walk → Kinds
later_fault w = or_else (clap.entered_fault own w.stopped)
    (or_else (clap.settle_fault own.top.rules own.top.args_override_self w.held)
    (or_else (clap.defaults_fault (settled own.top.rules w.held).rows own.top.rules)
    (clap.check_fault own.top (finished own.top.rules w.held) (is_some (entered own w.stopped)))))

later-faultless : (words : List Text) (question : QuestionModel) → Reads (based []) words question
    → later_fault (stopped_at words) ≡ []
unfolding command clap_on_literals
later-faultless words question reads = ap
    (λ kinds. or_else (or_else kinds (end_fault (run (based []) words))) []) reads.walked_through
    ∙ ap (λ kinds. or_else kinds []) reads.ended

taken : (words : List Text) (question : QuestionModel) → Reads (based []) words question
    → fault_of command (codes "keys" ∷ words) ≡ []
unfolding command
taken words question reads = ap₂ (λ kinds (w : Walk). or_else kinds (later_fault w)) (whole-faultless words)
    (whole words)
    ∙ later-faultless words question reads

met : (words : List Text) → subcommand_of command (codes "keys" ∷ words)
    ≡ entered own (Some (codes "keys", words))
unfolding command
met words = ap (λ (w : Walk). entered own w.stopped) (whole words)

entered-keys : (words : List Text) → entered own (Some (codes "keys", words))
    ≡ Some (codes "keys", finished shape.rules (run (based []) words).held)
unfolding command clap_on_literals
entered-keys words = refl

-- ---- no word is the old option

no_old : (bases targets : List Text) → has_old_option (map base_word bases ++ codes "--" ∷ targets) ≡ false
no_old [] targets = refl
no_old (base ∷ bases) targets = no_old bases targets

pub keys-keep_order : KeysKeepOrder
keys-keep_order bases targets =
    let words = map base_word bases ++ codes "--" ∷ targets in
    let reads = all_words [] bases targets in
    of_taken (codes "keys" ∷ words) (codes "keys" ∷ words) (asked bases targets)
    (Some (codes "keys", finished shape.rules (run (based []) words).held))
    (no_old bases targets) refl (taken words (asked bases targets) reads)
    (sym (met words ∙ entered-keys words))
    (ap (λ question. ok_or question unparsed) reads.meant)
