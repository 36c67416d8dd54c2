use Rattle.std.proofs.Common.{true}
use Rattle.std.proofs.lemmas.Result.{on_ok_weaker}
use Rattle.serde_json.specs.Data.{boolean}
use Rattle.nj_ask.proofs.JsonTextLemmas.{adds-value}
use Rattle.nj_ask.proofs.json_text.add_bool.Goals as goal

pub returns : goal.returns
returns c =
    on_ok_weaker c.push_bool.result
    (adds-value true c.args.name.now (boolean c.args.value) c.args.text.now.items
    c.begin_member.new.text.items c.push_bool.new.text.items c.in_ok-begin_member.ensures)
    c.push_bool.ensures
