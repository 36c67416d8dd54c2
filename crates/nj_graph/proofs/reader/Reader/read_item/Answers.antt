use Rattle.std.proofs.Common.{List, Ok, refl, ap, subst}
use Rattle.nj_text.specs.declared.word.Word.{Word}
use Rattle.nj_text.specs.Words.{word_model}
use Rattle.nj_manifest.specs.Statements.{BindingModel, DefaultModel}
use Rattle.nj_manifest.specs.Contents.{words_model, rule_model, pool_model, build_model, statement_model}
use Rattle.nj_scope.specs.ReadingList.{ReadStatement}
use Rattle.nj_faults.specs.Faults.{IsFault}
use Rattle.nj_graph.specs.Reading.{entry_at, own_fault}
use Rattle.nj_graph.specs.Inside.ReaderContracts.{Declares, site_of}
use Rattle.nj_manifest.proofs.Handed.{handed}
use Rattle.nj_graph.proofs.Naming.{stops-item, reads-one}
use Rattle.nj_graph.proofs.reader.Reader.read_item.Goals as goal

pub returns-in_err-bind-in-Binding-clause-reads : goal.returns-in_err-bind-in-Binding-clause-reads
returns-in_err-bind-in-Binding-clause-reads g c = λ main entries around depth has inside.
    let item = BindingModel c.in-Binding.name.now (word_model c.in-Binding.value) in
    let e : ReadStatement = entry_at (site_of c.args.file around depth)
    (record { spot = c.args.statement.now.spot; item = item }) in
    let source = g.S.FileSource.state c.args.source.now in
    let fault = c.in_err-bind-in-Binding.field-0.0 in
    rw (handed fault c.from_residual.result c.from_residual.ensures)
    (stops-item main source source c.args.self.now entries has refl c.args.file.left
    (site_of c.args.file around depth) c.args.statement.now.spot _ item fault
    (ap statement_model c.in-Binding.is)
    (c.in_err-bind-in-Binding.ensures.declares main entries around depth has inside))

pub returns-in_err-declare_rule-in-Rule-clause-reads : goal.returns-in_err-declare_rule-in-Rule-clause-reads
returns-in_err-declare_rule-in-Rule-clause-reads g c = λ main entries around depth has inside.
    let start = c.args.statement.now.spot in
    let e : ReadStatement = entry_at (site_of c.args.file around depth)
    (record { spot = start; item = rule_model c.in-Rule.rule }) in
    let source = g.S.FileSource.state c.args.source.now in
    let fault = c.in_err-declare_rule-in-Rule.field-0.0 in
    rw (handed fault c.from_residual-in_err-declare_rule-in-Rule.result
    c.from_residual-in_err-declare_rule-in-Rule.ensures)
    (stops-item main source source c.args.self.now entries has refl c.args.file.left
    (site_of c.args.file around depth) c.args.statement.now.spot _ (rule_model c.in-Rule.rule) fault
    (ap statement_model c.in-Rule.is) (c.in_err-declare_rule-in-Rule.ensures.declares main entries around
    depth has inside))

pub returns-in_err-declare_pool-in-Pool-clause-reads : goal.returns-in_err-declare_pool-in-Pool-clause-reads
returns-in_err-declare_pool-in-Pool-clause-reads g c = λ main entries around depth has inside.
    let start = c.args.statement.now.spot in
    let e : ReadStatement = entry_at (site_of c.args.file around depth)
    (record { spot = start; item = pool_model c.in-Pool.pool }) in
    let source = g.S.FileSource.state c.args.source.now in
    let fault = c.in_err-declare_pool-in-Pool.field-0.0 in
    rw (handed fault c.from_residual-in_err-declare_pool-in-Pool.result
    c.from_residual-in_err-declare_pool-in-Pool.ensures)
    (stops-item main source source c.args.self.now entries has refl c.args.file.left
    (site_of c.args.file around depth) c.args.statement.now.spot _ (pool_model c.in-Pool.pool) fault
    (ap statement_model c.in-Pool.is)
    (c.in_err-declare_pool-in-Pool.ensures.declares main entries around depth has inside))

pub returns-in_ok-declare_rule-in-Rule-clause-reads : goal.returns-in_ok-declare_rule-in-Rule-clause-reads
returns-in_ok-declare_rule-in-Rule-clause-reads g c = λ main entries around depth has inside.
    let start = c.args.statement.now.spot in
    let e : ReadStatement = entry_at (site_of c.args.file around depth)
    (record { spot = start; item = rule_model c.in-Rule.rule }) in
    let source = g.S.FileSource.state c.args.source.now in
    let declares = c.in_ok-declare_rule-in-Rule.ensures.declares main entries around depth has inside in
    rw (ap statement_model c.in-Rule.is)
    (reads-one main source c.args.self.now c.declare_rule.new.self e entries
    has declares.1 declares.0 c.in_ok-declare_rule-in-Rule.ensures.files (λ opens. refl))

pub returns-in_err-build-in-Build-clause-reads : goal.returns-in_err-build-in-Build-clause-reads
returns-in_err-build-in-Build-clause-reads g c = λ main entries around depth has inside.
    let source = g.S.FileSource.state c.args.source.now in
    let e : ReadStatement = entry_at (site_of c.args.file around depth)
    (record { spot = c.args.statement.now.spot; item = build_model c.in-Build.build }) in
    let fault = c.in_err-build-in-Build.field-0.0 in
    rw (handed fault c.from_residual-in_err-build-in-Build.result
    c.from_residual-in_err-build-in-Build.ensures)
    (stops-item main source source c.args.self.now entries has refl c.args.file.left
    (site_of c.args.file around depth) c.args.statement.now.spot _ (build_model c.in-Build.build) fault
    (ap statement_model c.in-Build.is) (c.in_err-build-in-Build.ensures.declares main entries around depth
    has inside))

pub returns-in_ok-build-in-Build-clause-reads : goal.returns-in_ok-build-in-Build-clause-reads
returns-in_ok-build-in-Build-clause-reads g c = λ main entries around depth has inside.
    let source = g.S.FileSource.state c.args.source.now in
    let e : ReadStatement = entry_at (site_of c.args.file around depth)
    (record { spot = c.args.statement.now.spot; item = build_model c.in-Build.build }) in
    let declares = c.in_ok-build-in-Build.ensures.declares main entries around depth has inside in
    rw (ap statement_model c.in-Build.is)
    (reads-one main source c.args.self.now c.build.new.self e entries has declares.1 declares.0
    c.in_ok-build-in-Build.ensures.files (λ opens. refl))

pub returns-in_err-add_defaults-in-Default-clause-reads :
    goal.returns-in_err-add_defaults-in-Default-clause-reads
returns-in_err-add_defaults-in-Default-clause-reads g c = λ main entries around depth has inside.
    let source = g.S.FileSource.state c.args.source.now in
    let at : List Word → ReadStatement = λ words. entry_at (site_of c.args.file around depth)
    (record { spot = c.args.statement.now.spot; item = DefaultModel (words_model words) }) in
    let fault = c.in_err-add_defaults-in-Default.field-0.0 in
    rw (handed fault c.from_residual-in_err-add_defaults-in-Default.result
    c.from_residual-in_err-add_defaults-in-Default.ensures)
    (stops-item main source source c.args.self.now entries has refl c.args.file.left
    (site_of c.args.file around depth) c.args.statement.now.spot _
    (DefaultModel (words_model c.in-Default.words.items)) fault (ap statement_model c.in-Default.is)
    (subst (λ words. IsFault (own_fault (at words) entries) fault) c.as_slice.ensures.value
    (c.in_err-add_defaults-in-Default.ensures.declares main entries around depth has inside)))

pub returns-in_ok-add_defaults-in-Default-clause-reads :
    goal.returns-in_ok-add_defaults-in-Default-clause-reads
returns-in_ok-add_defaults-in-Default-clause-reads g c = λ main entries around depth has inside.
    let source = g.S.FileSource.state c.args.source.now in
    let at : List Word → ReadStatement = λ words. entry_at (site_of c.args.file around depth)
    (record { spot = c.args.statement.now.spot; item = DefaultModel (words_model words) }) in
    let declares = subst (λ words. Declares main c.add_defaults.new.self (at words) entries (Ok tt))
    c.as_slice.ensures.value (c.in_ok-add_defaults-in-Default.ensures.declares main entries around depth
    has inside) in
    rw (ap statement_model c.in-Default.is)
    (reads-one main source c.args.self.now c.add_defaults.new.self (at c.in-Default.words.items) entries has
    declares.1 declares.0 c.in_ok-add_defaults-in-Default.ensures.files (λ opens. refl))

pub returns-in_ok-named-in-Include-clause-reads : goal.returns-in_ok-named-in-Include-clause-reads
returns-in_ok-named-in-Include-clause-reads g c = λ main entries around depth has inside.
    rw (ap statement_model c.in-Include.is)
    (c.in_ok-named-in-Include.ensures.opens main entries around depth has inside)

pub returns-in_ok-named-in-Subninja-clause-reads : goal.returns-in_ok-named-in-Subninja-clause-reads
returns-in_ok-named-in-Subninja-clause-reads g c = λ main entries around depth has inside.
    rw (ap statement_model c.in-Subninja.is)
    (c.in_ok-named-in-Subninja.ensures.opens main entries around depth has inside)

pub returns-in_ok-bind-in-Binding-clause-reads : goal.returns-in_ok-bind-in-Binding-clause-reads
returns-in_ok-bind-in-Binding-clause-reads g c = λ main entries around depth has inside.
    let item = BindingModel c.in-Binding.name.now (word_model c.in-Binding.value) in
    let e : ReadStatement = entry_at (site_of c.args.file around depth)
    (record { spot = c.args.statement.now.spot; item = item }) in
    let declares = c.in_ok-bind-in-Binding.ensures.declares main entries around depth has inside in
    rw (ap statement_model c.in-Binding.is)
    (reads-one main (g.S.FileSource.state c.args.source.now) c.args.self.now c.bind.new.self e entries has
    declares.1 declares.0 c.in_ok-bind-in-Binding.ensures.files (λ opens. refl))

pub returns-in_ok-declare_pool-in-Pool-clause-reads : goal.returns-in_ok-declare_pool-in-Pool-clause-reads
returns-in_ok-declare_pool-in-Pool-clause-reads g c = λ main entries around depth has inside.
    let start = c.args.statement.now.spot in
    let e : ReadStatement = entry_at (site_of c.args.file around depth)
    (record { spot = start; item = pool_model c.in-Pool.pool }) in
    let declares = c.in_ok-declare_pool-in-Pool.ensures.declares main entries around depth has inside in
    rw (ap statement_model c.in-Pool.is)
    (reads-one main (g.S.FileSource.state c.args.source.now) c.args.self.now c.declare_pool.new.self e entries
    has declares.1 declares.0 c.in_ok-declare_pool-in-Pool.ensures.files (λ opens. refl))
