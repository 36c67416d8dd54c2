use Rattle.nj_edge_env.proofs.ListLemmas.{padded-ok, padded-err}
use Rattle.nj_edge_env.proofs.number_lists.pad.Goals as goal

pub returns-clause-padded : goal.returns-clause-padded
returns-clause-padded c = padded-ok c.resize.result c.args.starts.now.items c.resize.new.self.items
    c.args.count c.args.starts.now.len c.args.start c.args.starts.now.ok.0 c.requires c.resize.ensures.items

pub returns-clause-refused : goal.returns-clause-refused
returns-clause-refused c = padded-err c.resize.result c.args.starts.now.items c.resize.new.self.items _
    c.resize.ensures.items
