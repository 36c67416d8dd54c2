use Rattle.nj_graph.proofs.ReadingLaws.{read_is_faultless, open_files_are_bounded, openings_are_bounded}
use Rattle.nj_graph.proofs.ReadingLaws.{main_rules_rise}
use Rattle.nj_graph.proofs.OtherFiles.{others_are_not_read}
use Rattle.nj_graph.proofs.laws.statements_up_to_the_first_fault.Goals as goal

pub returns-clause-faultless : goal.returns-clause-faultless
returns-clause-faultless c = read_is_faultless

pub returns-clause-openings : goal.returns-clause-openings
returns-clause-openings c = openings_are_bounded

pub returns-clause-others : goal.returns-clause-others
returns-clause-others c = others_are_not_read

pub returns-clause-rules : goal.returns-clause-rules
returns-clause-rules c = main_rules_rise

pub returns-clause-open_files : goal.returns-clause-open_files
returns-clause-open_files c = open_files_are_bounded
