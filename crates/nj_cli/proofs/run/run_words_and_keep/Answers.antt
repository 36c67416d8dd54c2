use Rattle.std.proofs.Common.{map, string_bytes}
use Rattle.nj_cli.proofs.run.run_words_and_keep.Goals as goal

pub returns : goal.returns
returns g c = c.run_read_words.ensures (map string_bytes c.args.words.now) c.read_words-read.ensures.ok
    c.read_words-read.ensures.err
