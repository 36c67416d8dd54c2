use Rattle.std.proofs.Common.{map, sym, subst, option_map}
use Rattle.std.proofs.Common.{string_bytes}
use Rattle.nj_tools.specs.Compdb.{compdb_text, text_fault, unheld_edge}
use Rattle.nj_tools.specs.Compdb.{WritesCompdb}
use Rattle.nj_one_answer.proofs.ToolAnswers.{databases-agree, database-sinks-agree}
use Rattle.nj_one_answer.proofs.tools.write_compdb.Goals as goal

pub returns-clause-agree : goal.returns-clause-agree
returns-clause-agree g c = λ entries is. let state = g.S.Sink.state in
    databases-agree (state c.args.one.now) (state c.write_compdb.new.out) (state c.write_compdb-2.new.out)
    (compdb_text entries c.args.directory.now (map string_bytes c.args.rules.now) c.args.expand)
    (option_map (text_fault entries) (unheld_edge entries (map string_bytes c.args.rules.now)
    c.args.expand)) c.write_compdb.result c.write_compdb-2.result
    (c.write_compdb.ensures entries is) (subst
    (λ s. WritesCompdb s (state c.write_compdb-2.new.out)
    (compdb_text entries c.args.directory.now (map string_bytes c.args.rules.now) c.args.expand)
    (option_map (text_fault entries) (unheld_edge entries (map string_bytes c.args.rules.now)
    c.args.expand)) c.write_compdb-2.result)
    (sym c.requires) (c.write_compdb-2.ensures entries is))

pub returns-clause-sinks : goal.returns-clause-sinks
returns-clause-sinks g c = λ entries is. let state = g.S.Sink.state in
    database-sinks-agree (state c.args.one.now) (state c.write_compdb.new.out)
    (state c.write_compdb-2.new.out)
    (compdb_text entries c.args.directory.now (map string_bytes c.args.rules.now) c.args.expand)
    (option_map (text_fault entries) (unheld_edge entries (map string_bytes c.args.rules.now)
    c.args.expand)) c.write_compdb.result c.write_compdb-2.result
    (c.write_compdb.ensures entries is) (subst
    (λ s. WritesCompdb s (state c.write_compdb-2.new.out)
    (compdb_text entries c.args.directory.now (map string_bytes c.args.rules.now) c.args.expand)
    (option_map (text_fault entries) (unheld_edge entries (map string_bytes c.args.rules.now)
    c.args.expand)) c.write_compdb-2.result)
    (sym c.requires) (c.write_compdb-2.ensures entries is))
