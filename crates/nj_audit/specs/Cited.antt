-- What the contracts of this crate cite: each name comes from the module in its line.
pub use Rattle.nj_graph.specs.Graph.{OfStatements, IsGraphOf, edges_of, files_of}
pub use Rattle.std.specs.List.{flat_map, cons_option, position_or_len, AllZip, list_any, slice_split}
pub use Rattle.nj_audit.specs.LoggedInputs.{inputs_in, AreUndeclaredFindings, IsLoggedAlone, IsNamedUnordered, input_in}
pub use Rattle.nj_audit.specs.Audits.{IsAudit}
pub use Rattle.nj_audit.specs.Inside.ByKind.{asked_of, findings_of}
pub use Rattle.nj_audit.specs.Kinds.{all_kinds, AskFor, contains, first_unknown, is_asked_for, is_on_by_default, is_taken, is_unknown}
pub use Rattle.nj_audit.specs.Kinds.{name_of, selection_of, texts, meaning_of, phrase_of}
pub use Rattle.nj_graph.specs.Handles.{OfEdge, edge_of, file_of, file_in, paths_of}
pub use Rattle.nj_scope.specs.ReadingList.{ReadStatement}
pub use Rattle.nj_graph.specs.Edges.{is_among, maker_of, inputs_of}
pub use Rattle.nj_audit.specs.Audit.{commands_at, repeated_commands, has_depfile_without_deps, depfiles_without_deps, repeated_inputs}
pub use Rattle.nj_audit.specs.Audit.{repeated_inputs_at, path_of, unused_outputs, unused_outputs_at, is_unused_output, first_output_at}
pub use Rattle.nj_audit.specs.Audit.{pools_of_edges, unused_pool, unused_pools, defaults_of, is_used_rule, unused_rules, is_set}
pub use Rattle.nj_audit.specs.Audit.{missing_sources, edge_numbers, has_generator, is_known, names_in, rule_at, unused_names}
pub use Rattle.nj_audit.specs.Audit.{unused_variables, unused_variables_at}
pub use Rattle.nj_audit.specs.Inside.Handles.{repeated_among, AreIn, input_of, missing_file, HaveNumbers}
pub use Rattle.nj_names.specs.NameTables.{with_name}
pub use Rattle.nj_graph.specs.Origins.{place_text}
pub use Rattle.nj_audit.specs.Findings.{finding_model, edge_finding}
pub use Rattle.nj_audit.specs.Laws.{ListedTextsAreNames, QuotedPathsAreWords}
pub use Rattle.nj_audit.specs.Roles.{makes_opened, built_by_default, is_run_by_hand, maker_of_opened, makers_of_opened}
pub use Rattle.nj_names.specs.Files.{path_at}
pub use Rattle.nj_audit.specs.UnorderedFiles.{files_named, is_meant, AreNamedUnordered, IsOther, IsTwin, IsUnordered, is_looked_at}
pub use Rattle.nj_audit.specs.UnorderedFiles.{response_of}
pub use Rattle.nj_audit.specs.Inside.LoggedFound.{AddsLogged}
pub use Rattle.nj_audit.specs.Inside.RolesHeld.{HasRoles, HasNumbers}
pub use Rattle.nj_audit.specs.ReadWords.{after_token, after_word, command_names, names_in_word, names_of_next, names_of_token}
pub use Rattle.nj_audit.specs.ReadWords.{names_of_word, names_within, script_names, after_operator, after_part, begins_command}
pub use Rattle.nj_audit.specs.ReadWords.{ends_in_option, entered, first_word, is_assignment, is_cd, is_copy, is_option, is_output_option}
pub use Rattle.nj_audit.specs.ReadWords.{is_read, is_script, is_script_part, is_shell, is_tee, names_output, part_after, part_in_shell}
pub use Rattle.nj_audit.specs.WordNames.{names_in_parts, names_in_text, after_sign, attached_to, is_bare, is_sign}
pub use Rattle.nj_audit.specs.NamedPaths.{seen_from, after_slash, path_below, path_named, path_seen, stands_alone, without_folder}
pub use Rattle.nj_audit.specs.NamedPaths.{without_here}
pub use Rattle.nj_audit.specs.Inside.Tokens.{token_model}
pub use Rattle.nj_audit.specs.Inside.FilesNamed.{AddsFiles}
pub use Rattle.nj_text.specs.Paths.{is_absolute}
pub use Rattle.nj_audit.specs.Inside.FileSets.{HasDefaults}
pub use Rattle.nj_names.specs.NumberSets.{has}
pub use Rattle.nj_audit.specs.Inside.Served.{AreFound, HasCommand, MakesOneOf}
pub use Rattle.nj_edges.specs.Inside.ChangesHeld.{FindsMore}
pub use Rattle.nj_audit.specs.Serving.{ServesCommand}
pub use Rattle.nj_audit.specs.ShellWords.{ends_at, is_cut, is_gap, is_dropped, keeps_backslash, kept, next_bare, next_quoting, read_text}
pub use Rattle.nj_audit.specs.ShellWords.{tokens_after, tokens_of}
pub use Rattle.nj_audit.specs.Inside.PlainBytes.{is_special}
pub use Rattle.nj_audit.specs.declared.shell_words.Quoting.TheVariants.{Bare, Between}
pub use Rattle.nj_audit.specs.Inside.UnorderedFound.{AddsUnordered, AddsOnce}
pub use Rattle.nj_audit.specs.Inside.References.{HasReferences}
pub use Rattle.nj_audit.specs.Inside.Parts.{parts_left}
