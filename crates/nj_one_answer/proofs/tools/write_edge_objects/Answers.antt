use Rattle.std.proofs.Common.{sym, subst, option_map}
use Rattle.nj_tools.specs.Compdb.{text_fault}
use Rattle.nj_tools.specs.EdgeObjects.{edge_lines, unwritable_edge}
use Rattle.nj_tools.specs.Compdb.{WritesCompdb}
use Rattle.nj_one_answer.proofs.ToolAnswers.{databases-agree, database-sinks-agree}
use Rattle.nj_one_answer.proofs.tools.write_edge_objects.Goals as goal

pub returns-clause-agree : goal.returns-clause-agree
returns-clause-agree g c = λ entries is. let state = g.S.Sink.state in
    databases-agree (state c.args.one.now) (state c.write_edge_objects.new.out)
    (state c.write_edge_objects-2.new.out)
    (edge_lines entries c.args.discoveries.now)
    (option_map (text_fault entries) (unwritable_edge entries c.args.discoveries.now))
    c.write_edge_objects.result c.write_edge_objects-2.result
    (c.write_edge_objects.ensures entries is)
    (subst (λ s. WritesCompdb s (state c.write_edge_objects-2.new.out)
    (edge_lines entries c.args.discoveries.now)
    (option_map (text_fault entries) (unwritable_edge entries c.args.discoveries.now))
    c.write_edge_objects-2.result)
    (sym c.requires) (c.write_edge_objects-2.ensures entries is))

pub returns-clause-sinks : goal.returns-clause-sinks
returns-clause-sinks g c = λ entries is. let state = g.S.Sink.state in
    database-sinks-agree (state c.args.one.now) (state c.write_edge_objects.new.out)
    (state c.write_edge_objects-2.new.out)
    (edge_lines entries c.args.discoveries.now)
    (option_map (text_fault entries) (unwritable_edge entries c.args.discoveries.now))
    c.write_edge_objects.result c.write_edge_objects-2.result
    (c.write_edge_objects.ensures entries is)
    (subst (λ s. WritesCompdb s (state c.write_edge_objects-2.new.out)
    (edge_lines entries c.args.discoveries.now)
    (option_map (text_fault entries) (unwritable_edge entries c.args.discoveries.now))
    c.write_edge_objects-2.result)
    (sym c.requires) (c.write_edge_objects-2.ensures entries is))
