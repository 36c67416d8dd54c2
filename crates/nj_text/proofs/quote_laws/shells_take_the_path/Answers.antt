use Rattle.nj_text.proofs.QuotedStrings.{takes_the_path}
use Rattle.nj_text.proofs.quote_laws.shells_take_the_path.Goals as goal

pub returns : goal.returns
returns c = takes_the_path
