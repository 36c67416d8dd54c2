use Rattle.std.proofs.Common.{ap, option_map, sym, ◌∙◌}
use Rattle.nj_deps.specs.Logs.{numbers_of}
use Rattle.nj_graph.proofs.UndeclaredLemmas.{among-none, among-numbers}
use Rattle.nj_graph.proofs.undeclared.has_path.Goals as goal

pub returns-in-Some : goal.returns-in-Some
returns-in-Some c =
    c.has_number.ensures
    ∙ among-numbers c.args.log.now.paths c.requires.each_path_once c.args.path.now c.in-Some.wanted.0
    (sym c.number.ensures ∙ ap (option_map (λ n. n.0)) c.in-Some.is) (numbers_of c.args.numbers.now)
    c.requires.known

pub returns-in-None : goal.returns-in-None
returns-in-None c = among-none c.args.log.now.paths c.requires.each_path_once c.args.path.now
    (sym c.number.ensures ∙ ap (option_map (λ n. n.0)) c.in-None.is) (numbers_of c.args.numbers.now)
    c.requires.known
