use Rattle.std.proofs.Common.{rules}
use Rattle.nj_c.proofs.AskLemmas.{changes}
use Rattle.nj_c.proofs.sessions.nx_add_absent.Goals as goal

pub returns-in-Some : goal.returns-in-Some
returns-in-Some c =
    changes c.args.session.now.kept c.in-Some.seal.kept c.set_file-changed.result.0.kept c.put.new.self.kept _
    c.set_file-changed.result.1 _ c.in-Some.ensures.taken c.put.ensures
    (search rules) c.set_file-changed.ensures
