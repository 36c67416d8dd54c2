use Rattle.nj_graph.proofs.TargetLaws.{words_mean_paths, empty_word_means_nothing}
use Rattle.nj_graph.proofs.laws.words_mean_targets.Goals as goal

pub returns-clause-words : goal.returns-clause-words
returns-clause-words c = words_mean_paths

pub returns-clause-empty : goal.returns-clause-empty
returns-clause-empty c = empty_word_means_nothing
