use Rattle.std.proofs.lemmas.Result.{on_ok_weaker}
use Rattle.serde_json.specs.Data.{number, unsigned}
use Rattle.nj_ask.proofs.JsonTextLemmas.{adds-item}
use Rattle.nj_ask.proofs.json_text.push_number.Goals as goal

pub returns : goal.returns
returns c =
    on_ok_weaker c.push_digits.result
    (adds-item c.args.later (number (unsigned c.args.value)) c.args.text.now.items
    c.push_comma.new.text.items c.push_digits.new.text.items c.in_ok-push_comma.ensures)
    c.push_digits.ensures
