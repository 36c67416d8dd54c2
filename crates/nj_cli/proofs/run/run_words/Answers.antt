use Rattle.nj_cli.proofs.RunLemmas.{RunsWords-kept}
use Rattle.nj_cli.proofs.run.run_words.Goals as goal

pub returns : goal.returns
returns g c = rw c.status_of.ensures (RunsWords-kept _ _ _ _ _ c.run_words_and_keep.ensures)
