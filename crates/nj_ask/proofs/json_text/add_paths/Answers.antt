use Rattle.std.proofs.Common.{map, true}
use Rattle.std.proofs.lemmas.Result.{on_ok_weaker}
use Rattle.serde_json.specs.Data.{array}
use Rattle.nj_graph.specs.Files.{path_at}
use Rattle.nj_ask.specs.KeyObjects.{path_items}
use Rattle.nj_ask.proofs.JsonTextLemmas.{adds-value}
use Rattle.nj_ask.proofs.json_text.add_paths.Goals as goal

pub returns : goal.returns
returns c =
    on_ok_weaker c.push_paths.result
    (adds-value true c.args.name.now
    (array (path_items (map (path_at c.args.graph.now.files) c.args.files.now))) c.args.text.now.items
    c.begin_member.new.text.items c.push_paths.new.text.items c.in_ok-begin_member.ensures)
    c.push_paths.ensures
