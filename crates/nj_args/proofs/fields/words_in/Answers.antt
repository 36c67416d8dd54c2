use Rattle.clap.specs.Words.{found_of}
use Rattle.nj_args.proofs.Given.{words_held}
use Rattle.nj_args.proofs.fields.words_in.Goals as goal

pub returns : goal.returns
returns c = words_held c.get_strs.result (found_of c.args.matches.now) c.get_strs.ensures
