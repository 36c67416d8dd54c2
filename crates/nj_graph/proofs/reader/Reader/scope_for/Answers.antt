use Rattle.std.proofs.Common.{refl}
use Rattle.nj_scope.proofs.DeclarationLemmas.{takes-include}
use Rattle.nj_graph.proofs.Naming.{enters-new}
use Rattle.nj_graph.proofs.reader.Reader.scope_for.Goals as goal

pub returns-in-Include-clause-enters : goal.returns-in-Include-clause-enters
returns-in-Include-clause-enters c = λ start word entries around depth declares inside.
    rw (c.in-Include.is) (record {
      number_is = refl;
      scope = inside;
      declares = takes-include c.args.self.now.declarations c.args.file.scope.0 around word entries
          c.args.file.name.now start depth declares;
    })

pub returns-in-Subninja-clause-enters : goal.returns-in-Subninja-clause-enters
returns-in-Subninja-clause-enters c = λ start word entries around depth declares inside.
    let opens = c.open.ensures in
    rw (c.in-Subninja.is)
    (enters-new c.args.self.now c.open.new.self c.args.file start word entries around depth c.open.result
    opens.number opens.within opens.others opens.count (opens.opened around word) declares inside)
