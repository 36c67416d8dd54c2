use Rattle.std.proofs.Common.{codes, true}
use Rattle.std.proofs.lemmas.Result.{on_ok_weaker}
use Rattle.serde_json.specs.Data.{array}
use Rattle.nj_ask.specs.KeyObjects.{bases_named, number_items}
use Rattle.nj_ask.proofs.JsonTextLemmas.{adds-value}
use Rattle.nj_ask.proofs.key_texts.add_bases.Goals as goal

pub returns : goal.returns
returns c =
    on_ok_weaker c.push_bases.result
    (adds-value true (codes "bases") (array (number_items (bases_named c.args.bases.now c.args.texts.now)))
    c.args.text.now.items c.begin_member.new.text.items c.push_bases.new.text.items
    c.in_ok-begin_member.ensures)
    c.push_bases.ensures
