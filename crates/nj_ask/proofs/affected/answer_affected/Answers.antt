use Rattle.std.proofs.Common.{◌==◌, Some, [], inl, inr, map, option_map, string_bytes, sym, ap, subst, ◌∙◌}
use Rattle.nj_changes.specs.Ignored.{AreLeft}
use Rattle.nj_questions.specs.Questions.{affected_model}
use Rattle.nj_ask.specs.Affected.{unknown_rule}
use Rattle.nj_ask.specs.Inside.Lent.{asked_of, texts}
use Rattle.nj_ask.specs.Answers.{change_asked}
use Rattle.nj_ask.specs.Given.{given_paths}
use Rattle.nj_ask.specs.Inside.Asking.{named_files}
use Rattle.nj_ask.specs.Inside.Reached.{AreEdgesOf}
use Rattle.nj_ask.specs.Inside.Lent.{change_model, new_model}
use Rattle.nj_ask.proofs.AffectedLemmas.{gives-no-keys, gives-no-path, gives-no-rule, gives-report}
use Rattle.nj_ask.proofs.InputLemmas.{no-lines, some-lines}
use Rattle.nj_ask.proofs.LineLemmas.{none-is}
use Rattle.nj_ask.proofs.affected.answer_affected.Goals as goal
use Rattle.nj_ask.proofs.affected.answer_affected.Goals.{else-is_empty-via-else-is_empty}
use Rattle.nj_ask.proofs.affected.answer_affected.Goals.{else-is_empty-via-then-is_empty+else-not-options}

pub returns-in-Some : goal.returns-in-Some
returns-in-Some g c entries graph =
    gives-no-rule c.args.known.now entries (g.T.FileTimes.times c.args.times.now) c.args.folder.now
    (affected_model c.args.options.now)
    (named_files c.args.named.now).since c.args.input.now
    c.as_bytes-name.result.now c.in_words.result
    (ap (λ names. unknown_rule c.args.known.now.graph (map string_bytes names)) (sym c.deref.ensures.value)
    ∙ sym c.unknown_rule.ensures ∙ ap (option_map (λ name. name.now)) c.in-Some.is
    ∙ ap Some (sym c.as_bytes-name.ensures.value))
    c.in_words.ensures

pub returns-then-not-options : goal.returns-then-not-options
returns-then-not-options g c entries graph =
    gives-no-path c.args.known.now entries (g.T.FileTimes.times c.args.times.now) c.args.folder.now
    (affected_model c.args.options.now)
    (named_files c.args.named.now).since c.args.input.now
    c.in_ok-without_paths.field-0
    (ap (λ names. unknown_rule c.args.known.now.graph (map string_bytes names)) (sym c.deref.ensures.value)
    ∙ sym c.unknown_rule.ensures
    ∙ ap (option_map (λ name. name.now)) (none-is c.unknown_rule.result c.in_default.not-Some))
    c.in_ok-without_paths.ensures.looks
    (no-lines (λ line. line.now) (given_paths (affected_model c.args.options.now) c.args.input.now)
    c.in_ok-given.given.items c.in_ok-given.ensures
    (ap (λ n. n == 0) (sym c.in_ok-given.given.ok.0) ∙ sym c.is_empty.ensures ∙ c.if-is_empty.true))
    c.if-not-options.true c.in_ok-without_paths.ensures.output c.in_ok-without_paths.ensures.warnings

pub returns : goal.returns
returns g c entries graph =
    gives-report c.args.known.now entries (g.T.FileTimes.times c.args.times.now) c.args.folder.now
    (affected_model c.args.options.now)
    (named_files c.args.named.now).since c.args.input.now
    c.in_ok-report_of.field-0
    (ap (λ names. unknown_rule c.args.known.now.graph (map string_bytes names)) (sym c.deref.ensures.value)
    ∙ sym c.unknown_rule.ensures
    ∙ ap (option_map (λ name. name.now)) (none-is c.unknown_rule.result c.in_default.not-Some))
    c.in_ok-report_of.ensures.looks
    (change_model c.change_of-change.result) (asked_of c.listed_by-listed.result)
    (texts c.in_ok-paths.paths.items) (new_model c.in-Ok.since)
    (elim c.else-is_empty.branch [
      | else-is_empty-via-then-is_empty+else-not-options w ↦ inr w.if-not-options.false
      | else-is_empty-via-else-is_empty w ↦
          inl (some-lines (λ line. line.now) (given_paths (affected_model c.args.options.now)
          c.args.input.now)
          c.in_ok-given.given.items c.in_ok-given.ensures
          (ap (λ n. n == 0) (sym c.in_ok-given.given.ok.0) ∙ sym c.is_empty.ensures ∙ w.if-is_empty.false))
    ])
    (c.in-Ok.ensures.new entries graph)
    (record {
      globs = c.args.globs.now;
      are_globs = c.requires.globs.are;
      are_left = subst (λ given. AreLeft c.args.globs.now given (texts c.in_ok-paths.paths.items))
          (ap texts c.deref-2.ensures.value ∙ c.in_ok-given.ensures) c.in_ok-paths.ensures.left;
    })
    (c.change_of-change.ensures.model
    ∙ ap (λ files. change_asked (affected_model c.args.options.now) c.args.folder.now files
    (texts c.deref-3.result.now) (new_model c.in-Ok.since)) c.new-no_files.ensures
    ∙ ap (λ paths. change_asked (affected_model c.args.options.now) c.args.folder.now [] paths
    (new_model c.in-Ok.since)) (ap texts c.deref-3.ensures.value))
    c.listed_by-listed.ensures (c.in_ok-report_of.ensures.report entries graph)

pub report_of-requires-clause-commands : goal.report_of-requires-clause-commands
report_of-requires-clause-commands g c =
    subst (AreEdgesOf c.args.known.now.graph) (sym c.change_of-change.ensures.commands)
    c.in-Ok.ensures.known

pub returns-in-Err : goal.returns-in-Err
returns-in-Err g c entries graph =
    gives-no-keys c.args.known.now entries (g.T.FileTimes.times c.args.times.now) c.args.folder.now
    (affected_model c.args.options.now)
    (named_files c.args.named.now).since c.args.input.now c.in-Err.failure
    (ap (λ names. unknown_rule c.args.known.now.graph (map string_bytes names)) (sym c.deref.ensures.value)
    ∙ sym c.unknown_rule.ensures
    ∙ ap (option_map (λ name. name.now)) (none-is c.unknown_rule.result c.in_default.not-Some))
    (elim c.else-is_empty.branch [
      | else-is_empty-via-then-is_empty+else-not-options w ↦ inr w.if-not-options.false
      | else-is_empty-via-else-is_empty w ↦
          inl (some-lines (λ line. line.now) (given_paths (affected_model c.args.options.now)
          c.args.input.now)
          c.in_ok-given.given.items c.in_ok-given.ensures
          (ap (λ n. n == 0) (sym c.in_ok-given.given.ok.0) ∙ sym c.is_empty.ensures ∙ w.if-is_empty.false))
    ])
    c.in-Err.ensures.wrong
