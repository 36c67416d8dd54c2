use Rattle.std.proofs.Common.{true}
use Rattle.std.proofs.lemmas.Result.{on_ok_weaker}
use Rattle.nj_ask.specs.KeyObjects.{text_value}
use Rattle.nj_ask.proofs.JsonTextLemmas.{adds-value}
use Rattle.nj_ask.proofs.json_text.add_text.Goals as goal

pub returns : goal.returns
returns c =
    on_ok_weaker c.push_bytes.result
    (adds-value true c.args.name.now (text_value c.args.value.now) c.args.text.now.items
    c.begin_member.new.text.items c.push_bytes.new.lines.items c.in_ok-begin_member.ensures)
    c.push_bytes.ensures
