use Rattle.std.proofs.Common.{List, String, Global, map, string_bytes, subst, ap, ◌∙◌}
use Rattle.nj_text.specs.Paths.{clean_path_of}
use Rattle.nj_questions.specs.Questions.{affected_model}
use Rattle.nj_ask.specs.Answers.{manifest_edges}
use Rattle.nj_ask.specs.Given.{base_misuse, folder_misuse, since_misuse}
use Rattle.nj_ask.specs.Inside.Reached.{edge_numbers}
use Rattle.nj_ask.specs.Since.{keys_in, lines_in, AreNewCommands}
use Rattle.nj_ask.proofs.SinceLemmas.{bases-taken, new-as, not-refused}
use Rattle.nj_ask.proofs.since.commands_since.Goals as goal

pub returns-clause-new : goal.returns-clause-new
returns-clause-new c entries graph =
    let known = c.args.known.now in
    let commands = edge_numbers c.in_ok-new_commands.field-0.items in
    let keys = keys_in (lines_in c.args.text.now) in
    let bases = c.in-Ok-bases_of.ensures.bases
    ∙ ap (λ (ps : List (String Global)). map clean_path_of (map string_bytes ps)) c.deref.ensures.value in
    subst (λ bs. AreNewCommands known.graph (manifest_edges known) entries bs keys commands) bases
    (new-as known.graph (manifest_edges known) entries c.in-Ok-bases_of.bases c.in-Ok.old keys commands
    c.in-Ok.ensures.names (c.in_ok-new_commands.ensures.new entries graph))

pub returns-in-Err-bases_of-clause-wrong : goal.returns-in-Err-bases_of-clause-wrong
returns-in-Err-bases_of-clause-wrong c =
    let options = affected_model c.args.options.now in
    not-refused (base_misuse (map string_bytes c.deref.result.now)) _ c.in-Err-bases_of.failure
    (ap (λ (ps : List (String Global)). base_misuse (map string_bytes ps)) c.deref.ensures.value
    ∙ bases-taken (folder_misuse options.source_dirs) (base_misuse options.bases)
    (since_misuse options.since options.bases) c.requires) c.in-Err-bases_of.ensures.refused
