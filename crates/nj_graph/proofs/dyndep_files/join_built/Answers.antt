use Rattle.std.proofs.Common.{◌≡◌, sym, subst}
use Rattle.nj_faults.specs.Faults.{no_memory}
use Rattle.nj_graph.specs.Inside.JoiningContracts.{chosen_files}
use Rattle.nj_graph.specs.Inside.JoiningContracts.JoinsChosen.{joined, unchosen}
use Rattle.nj_manifest.proofs.Handed.{handed-as}
use Rattle.nj_graph.proofs.JoiningGraphs.{joins-memory, joins-stop, joins-built}
use Rattle.nj_graph.proofs.dyndep_files.join_built.Goals as goal

pub returns-in_err-joining : goal.returns-in_err-joining
returns-in_err-joining g c = λ stated is.
    let reported = g.S.FileSource.state c.args.source.now in
    let fault = handed-as (λ e. e ≡ no_memory) c.from_residual.result c.from_residual.ensures in
    rw fault.1 (unchosen (joins-memory stated reported c.args.files.now c.requires.once fault.0 fault.2))

pub returns-in-Err : goal.returns-in-Err
returns-in-Err g c = λ stated is.
    let reported = g.S.FileSource.state c.args.source.now in
    unchosen (joins-memory stated reported c.args.files.now c.requires.once c.from.result c.from.ensures)

pub returns : goal.returns
returns g c = λ stated is.
    let before = g.S.FileSource.state c.args.source.now in
    let after = g.S.FileSource.state c.join_files.new.source in
    let fault = c.in-Err-join_files.fault in
    let has = c.in_ok-joining.ensures stated is in
    let held = c.in_ok-joining.joining in
    let chosen = chosen_files held.dyndep_files c.deref.result.now in
    let chooses = subst (λ files. g.C.DyndepChoice.chooses c.args.choice.now files chosen) has.dyndep_files
    (subst (λ indices. g.C.DyndepChoice.chooses c.args.choice.now held.dyndep_files
    (chosen_files held.dyndep_files indices)) (sym c.deref.ensures.value) c.in-Ok.ensures.chosen)
    in
    joined chooses (joins-stop chosen stated before after c.args.files.now fault
    (c.in-Err-join_files.ensures.joins stated has))

pub finish-requires : goal.finish-requires
finish-requires g c =
    let entries = c.requires.built.0 in
    (c.in-Ok-join_files.ensures.joins entries
    (c.in_ok-joining.ensures entries c.requires.built.1)).has.none_open

pub returns-in-Ok-join_files : goal.returns-in-Ok-join_files
returns-in-Ok-join_files g c = λ stated is.
    let before = g.S.FileSource.state c.args.source.now in
    let after = g.S.FileSource.state c.join_files.new.source in
    let old = c.args.files.now in
    let table = c.join_files.new.files in
    let held = c.join_files.new.joining in
    let has = c.in_ok-joining.ensures stated is in
    let before_held = c.in_ok-joining.joining in
    let chosen = chosen_files before_held.dyndep_files c.deref.result.now in
    let chooses = subst (λ files. g.C.DyndepChoice.chooses c.args.choice.now files chosen) has.dyndep_files
    (subst (λ indices. g.C.DyndepChoice.chooses c.args.choice.now before_held.dyndep_files
    (chosen_files before_held.dyndep_files indices)) (sym c.deref.ensures.value)
    c.in-Ok.ensures.chosen) in
    let f = c.in-Ok-join_files.ensures.joins stated has in
    joins-built chosen stated before after old table held f (g.C.DyndepChoice.chooses c.args.choice.now)
    chooses c.finish.result (c.finish.ensures stated f.now f.has)
