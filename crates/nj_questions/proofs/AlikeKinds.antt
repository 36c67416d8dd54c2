-- The kinds of `clap`'s errors at one command line: all of them are requests for help or the version, or none
-- is.
use Rattle.std.proofs.Common.{◌≡◌, ◌⊎◌, ℕ, zero, suc, Bool, true, false, Option, Some, None, List, [], ◌∷◌}
use Rattle.std.proofs.Common.{length, refl, sym, ap}
use Rattle.std.proofs.Common.{◌∙◌, inl, inr}
use Rattle.std.specs.Prelude.{◌==◌, ◌+◌, ◌&&◌, ◌||◌, not, min, nat_lt, if◌then◌else◌, find, drop, encode_utf8}
use Rattle.std.specs.Prelude.{slice_get, codes, is_some}
use Rattle.std.specs.List.{list_any}
use Rattle.std.specs.Option.{option_map_or}
use Rattle.std.specs.Str.{bytes_eq, chars}
use Rattle.clap.specs.Words.{App, IsAmong, Kinds, Row, Rule, Shape, Text, built, fault_of}
use Rattle.clap.specs.Faults as clap
use Rattle.clap.specs.Kinds.{check_kinds, or_else, range_kinds, request_kinds, value_kinds, values_kinds}
use Rattle.clap.specs.Facts.{explicit_source, parser_of_value, unwrap_or_range}
use Rattle.clap.specs.Lexer.{long_of, short_of}
use Rattle.clap.specs.Matches.{count_text}
use Rattle.clap.specs.Simple.{argument_words, entered, label_of, names_of}
use Rattle.clap.specs.Takes.{is_given}
use Rattle.clap.specs.ValueTests.{accepts}
use Rattle.clap.specs.Values.{refused_kind}
use Rattle.clap.specs.Walk.{Held, Names, Step, Waiting, Walk, action_of, answers_to, arg_by_id, arg_by_index}
use Rattle.clap.specs.Walk.{arg_by_long, arg_by_short}
use Rattle.clap.specs.Walk.{attached_value, finished, has_row, idle, option, positional, is_empty, is_pending}
use Rattle.clap.specs.Walk.{most_values, nothing_held, count_of}
use Rattle.clap.specs.Walk.{reacted, settled, subcommand, subcommand_met, takes_several, takes_values}
use Rattle.clap.specs.Walk.{trailing, next, value}
use Rattle.clap.specs.Walk.{values_or_missing, walk, walk_from, walked, with_default, word_met}
use Rattle.clap.specs.declared.builder.action.ArgAction.{ArgAction}
use Rattle.clap.specs.declared.builder.action.ArgAction.TheVariants as action
use Rattle.clap.specs.declared.builder.value_parser.ValueParser.{ValueParser}
use Rattle.clap.specs.declared.error.kind.ErrorKind.{ErrorKind}
use Rattle.clap.specs.declared.error.kind.ErrorKind.TheVariants as kind
use Rattle.nj_questions.specs.QuestionOf.{is_help}

abbrev pub Alike : Kinds → Type 0
Alike kinds = (x y : ErrorKind) → IsAmong x kinds → IsAmong y kinds → is_help x ≡ is_help y

-- ---- lists of kinds

none : Alike []
none x y a b = absurd a

one : (k : ErrorKind) → Alike (k ∷ [])
one k x y (inl a) (inl b) = ap is_help a ∙ sym (ap is_help b)
one k x y (inl a) (inr b) = absurd b
one k x y (inr a) b = absurd a

is_refusal : (x : ErrorKind) → IsAmong x (kind.UnknownArgument ∷ kind.InvalidSubcommand ∷ [])
    → is_help x ≡ false
is_refusal x (inl a) = ap is_help a
is_refusal x (inr (inl a)) = ap is_help a
is_refusal x (inr (inr a)) = absurd a

stray : Alike (kind.UnknownArgument ∷ kind.InvalidSubcommand ∷ [])
stray x y a b = is_refusal x a ∙ sym (is_refusal y b)

either : (b : Bool) (these those : Kinds) → Alike these → Alike those → Alike (if b then these else those)
either true these those left right = left
either false these those left right = right

in_turn : (these those : Kinds) → Alike these → Alike those → Alike (or_else these those)
in_turn [] those left right = right
in_turn (k ∷ ks) those left right = left

of_some : {X : Type 0} (f : X → Kinds) (x : Option X) → ((y : X) → Alike (f y)) → Alike (option_map_or f x [])
of_some f None each = none
of_some f (Some x) each = each x

-- ---- values

of_value : (ignore_case : Bool) (parser : ValueParser) (text : Text)
    → Alike (value_kinds ignore_case parser text)
of_value ignore_case parser text = either (accepts ignore_case parser text) _ _ none
    (one (refused_kind parser))

of_values : (ignore_case : Bool) (parser : ValueParser) (texts : List Text)
    → Alike (values_kinds ignore_case parser texts)
of_values ignore_case parser [] = none
of_values ignore_case parser (text ∷ texts) =
    in_turn _ _ (of_value ignore_case parser text) (of_values ignore_case parser texts)

of_range : (least most n : ℕ) → Alike (range_kinds least most n)
of_range least most n = either (nat_lt 0 least && n == 0) _ _ (one kind.InvalidValue)
    (either (least == most) _ _ (either (least == n) _ _ none (one kind.WrongNumberOfValues))
    (either (nat_lt n least) _ _ (one kind.TooFewValues)
    (either (nat_lt most n) _ _ (one kind.TooManyValues) none)))

of_request : (asked : ArgAction) → Alike (request_kinds asked)
of_request action.Help = one kind.DisplayHelp
of_request action.HelpShort = one kind.DisplayHelp
of_request action.HelpLong = one kind.DisplayHelp
of_request action.Version = one kind.DisplayVersion
of_request action.Set = none
of_request action.Append = none
of_request action.SetTrue = none
of_request action.SetFalse = none
of_request action.Count = none

of_checks : (help level argument : Bool) → Alike (check_kinds help level argument)
of_checks help level argument = either help _ _ (one kind.DisplayHelpOnMissingArgumentOrSubcommand)
    (either level _ _ (one kind.MissingSubcommand)
    (either argument _ _ (one kind.MissingRequiredArgument) none))

-- ---- one use of an argument

of_texts : (a : Rule) (texts : List Text) → Alike (clap.values_fault a texts)
of_texts a texts = of_values a.ignore_case (parser_of_value a.parser) texts

of_count : (a : Rule) (values : List Text) (rows : List Row) → Alike (clap.count_fault a values rows)
of_count a [] rows =
    of_value a.ignore_case (parser_of_value a.parser) (count_text (min (count_of a.id rows + 1) 255))
of_count a (v ∷ vs) rows = of_texts a (v ∷ vs)

of_set : (again : Bool) (a : Rule) (values : List Text) (rows : List Row)
    → Alike (clap.set_fault again a values rows)
of_set again a values rows = in_turn _ _
    (either (has_row a.id rows && not again) _ _ (one kind.ArgumentConflict) none)
    (of_texts a values)

of_action : (done : ArgAction) (again : Bool) (a : Rule) (values : List Text) (rows : List Row)
    → Alike (clap.action_fault done again a values rows)
of_action action.Set again a values rows = of_set again a values rows
of_action action.SetTrue again a values rows = of_set again a values rows
of_action action.SetFalse again a values rows = of_set again a values rows
of_action action.Append again a values rows = of_texts a values
of_action action.Count again a values rows = of_count a values rows
of_action action.Help again a values rows = of_request action.Help
of_action action.HelpShort again a values rows = of_request action.HelpShort
of_action action.HelpLong again a values rows = of_request action.HelpLong
of_action action.Version again a values rows = of_request action.Version

of_use : (again : Bool) (a : Rule) (values : List Text) (rows : List Row)
    → Alike (clap.use_fault again a values rows)
of_use again a values rows = in_turn _ _
    (of_range (unwrap_or_range a.range).start_inclusive (most_values a) (length values))
    (of_action (action_of a) again a (values_or_missing a values) rows)

-- ---- the walk

module _ (c : List Rule) (again : Bool) where
  of_settling : (h : Held) → Alike (clap.settle_fault c again h)
  of_settling h = of_some _ h.pending (λ p. of_some _ (arg_by_id c p.0) (λ a. of_use again a p.1 h.rows))

  of_reaction : (a : Rule) (values : List Text) (h : Held) → Alike (clap.react_fault c again a values h)
  of_reaction a values h = in_turn _ _ (of_settling h) (of_use again a values (settled c h).rows)

  of_option : (a : Rule) (v : Option Text) (h : Held) → Alike (clap.option_fault c again a v h)
  of_option a (Some v) h = of_reaction a (v ∷ []) h
  of_option a None h = of_settling h

  of_long : (a : Option Rule) (v : Option Text) (h : Held) → Alike (clap.long_fault c again a v h)
  of_long None v h = one kind.UnknownArgument
  of_long (Some a) v h = either (takes_values a) _ _ (of_option a v h)
      (either (is_some v) _ _ (one kind.TooManyValues) (of_reaction a [] h))

  of_short : (a : Option Rule) (rest : Text) (h : Held) (more : Held → Kinds) → ((g : Held) → Alike (more g))
      → Alike (clap.short_fault c again a rest h more)
  of_short None rest h more each = one kind.UnknownArgument
  of_short (Some a) rest h more each = either (takes_values a) _ _ (of_option a (attached_value rest) h)
      (in_turn _ _ (of_reaction a [] h) (each (reacted c a [] h)))

  of_letter : (x : Option ℕ) (flags : Text) (skip : ℕ) (h : Held) (more : Text → ℕ → Held → Kinds)
      → ((f : Text) (k : ℕ) (g : Held) → Alike (more f k g))
      → Alike (clap.bundle_step_fault c again x flags skip h more)
  of_letter None flags skip h more each = none
  of_letter (Some x) flags zero h more each =
      let rest = drop (length (encode_utf8 x)) flags in
      of_short (arg_by_short c x) rest h (more rest 0) (each rest 0)
  of_letter (Some x) flags (suc skip) h more each = each (drop (length (encode_utf8 x)) flags) skip h

  of_flags : (k : ℕ) (flags : Text) (skip : ℕ) (h : Held) → Alike (clap.flags_fault c again k flags skip h)
  unfolding clap.flags_fault
  of_flags zero flags skip h = none
  of_flags (suc k) flags skip h = of_letter (slice_get (chars flags) 0) flags skip h
      (clap.flags_fault c again k) (of_flags k)

  of_flag_word : (long : Option (Text × Option Text)) (word : Text) (h : Held)
      → Alike (clap.flag_word_fault c again long word h)
  of_flag_word (Some p) word h = of_long (arg_by_long c p.0) p.1 h
  of_flag_word None word h = of_some _ (short_of word)
      (λ flags. of_flags (length flags) flags h.skip (record h { skip = 0 }))

  of_positional : (a : Rule) (h : Held) → Alike (clap.positional_fault c again a h)
  of_positional a h = either (is_pending a h.pending && takes_several a) _ _ none (of_settling h)

-- a word that is not a subcommand; a word that is, if help is not a subcommand
of_plain : (s : Shape) (word : Text) (h : Held) → Alike (clap.other_fault s None word h)
of_plain s word h = either (bytes_eq word (45 ∷ 45 ∷ [])) _ _ none
    (of_flag_word s.rules s.args_override_self (long_of word) word h)

without_help : (named disabled : Bool) → disabled ≡ true
    → Alike (if named && not disabled then kind.DisplayHelp ∷ kind.InvalidSubcommand ∷ [] else [])
without_help true disabled e = rw e none
without_help false disabled e = none

-- help is not a subcommand, or the command has no subcommands
abbrev pub HasNoHelp : Shape → Names → Type 0
HasNoHelp s names = (s.disable_help_subcommand ≡ true) ⊎ (names ≡ [])

no_subcommand : (waiting : Waiting) (word : Text) → subcommand_met [] waiting word ≡ None
no_subcommand idle word = refl
no_subcommand (option id) word = refl
no_subcommand positional word = refl

module _ (s : Shape) where
  of_other : (met : Option Text) (word : Text) (h : Held) → s.disable_help_subcommand ≡ true
      → Alike (clap.other_fault s met word h)
  of_other (Some name) word h off = without_help (bytes_eq name (codes "help")) s.disable_help_subcommand off
  of_other None word h off = of_plain s word h

  of_met : (names : Names) → HasNoHelp s names → (waiting : Waiting) (word : Text) (h : Held)
      → Alike (clap.other_fault s (subcommand_met names waiting word) word h)
  of_met names (inl off) waiting word h = of_other (subcommand_met names waiting word) word h off
  of_met names (inr nameless) waiting word h = rw (nameless, no_subcommand waiting word) (of_plain s word h)

  of_step : (position : ℕ) (h : Held) (step : Step) → Alike (clap.step_fault s position h step)
  of_step position h value = by_position (arg_by_index s.rules position)
    where
      strays : (is_leaf : Bool) → Alike (if is_leaf then kind.UnknownArgument ∷ [] else kind.UnknownArgument ∷
          kind.InvalidSubcommand ∷ [])
      strays is_leaf = either is_leaf _ _ (one kind.UnknownArgument) stray

      by_position : (a : Option Rule) → Alike
          (option_map_or (λ a. clap.positional_fault s.rules s.args_override_self a h) a (clap.stray_fault s))
      by_position None = strays s.is_leaf
      by_position (Some a) = of_positional s.rules s.args_override_self a h
  of_step position h (next waiting) = none
  of_step position h (trailing at) = none
  of_step position h (subcommand name) = none

  of_turn : (names : Names) → HasNoHelp s names → (w : Walk) (word : Text)
      → Alike (clap.turn_fault s names w word)
  of_turn names helpless w word =
      let met = word_met s.rules names w.is_trailing w.waiting w.position word w.held in
      either (is_some w.stopped) _ _ none
      (in_turn _ _ (either w.is_trailing _ _ none (of_met names helpless w.waiting word w.held))
      (of_step w.position met.0 met.1))

  of_walk : (names : Names) → HasNoHelp s names → (w : Walk) (words : List Text)
      → Alike (clap.walk_fault s names w words)
  unfolding clap.walk_fault
  of_walk names helpless w [] = none
  of_walk names helpless w (word ∷ words) =
      in_turn _ _ (of_turn names helpless w word) (of_walk names helpless (walked s.rules names w word) words)

-- ---- after the walk

of_default : (rows : List Row) (a : Rule) → Alike (clap.default_fault rows a)
of_default rows a = either (has_row a.id rows || is_empty a.defaults) _ _ none
    (in_turn _ _ (of_request (action_of a)) (of_texts a a.defaults))

of_defaults : (rows : List Row) (rules : List Rule) → Alike (clap.defaults_fault rows rules)
unfolding clap.defaults_fault
of_defaults rows [] = none
of_defaults rows (a ∷ rules) = in_turn _ _ (of_default rows a) (of_defaults (with_default rows a) rules)

of_level : (s : Shape) (names : Names) → HasNoHelp s names
    → (h : Held) (words : List Text) (entered : Bool) (below : Kinds)
    → Alike below → Alike (clap.level_fault s names h words entered below)
of_level s names helpless h words entered below under =
    let end = (walk s.rules names h words).held in
    let rows = finished s.rules end in
    in_turn _ _ (of_walk s names helpless (walk_from h) words)
    (in_turn _ _ under (in_turn _ _ (of_settling s.rules s.args_override_self end)
    (in_turn _ _ (of_defaults (settled s.rules end).rows s.rules)
    (of_checks (not entered && (s.arg_required_else_help
    && not (list_any (λ r. explicit_source r.source) rows)))
    (not entered && s.subcommand_required)
    (not (s.subcommand_negates_reqs && entered)
    && list_any (λ a. a.required && not (is_given a.id rows)) s.rules)))))

-- the kinds at the words of a command with subcommands, if help is not a subcommand
pub alike : (app : App) (words : List Text) → (built app).top.disable_help_subcommand ≡ true
    → Alike (fault_of app words)
alike app words off =
    let own = built app in
    let given = argument_words app words in
    let stop = (walk own.top.rules (names_of own) nothing_held given).stopped in
    of_level own.top (names_of own) (inl off) nothing_held given (is_some (entered own stop))
    (clap.entered_fault own stop)
    (of_some _ stop (λ p. of_some _ (find (λ s. answers_to p.0 (label_of s)) own.subs)
    (λ s. of_level s [] (inr refl) nothing_held p.1 false [] none)))
