use Rattle.nj_text.specs.Words.{word_model}
use Rattle.nj_statements.proofs.Keeps.{known-meant, known-path}
use Rattle.nj_statements.proofs.stated_files.known_file.Goals as goal

pub returns-clause-file : goal.returns-clause-file
returns-clause-file c = λ values. known-path c.args.edges.now.files c.in_ok-path.path.now
    (word_model c.args.word.now) c.requires values c.in_ok-path.ensures c.file_named.result
    c.file_named.ensures.index

pub returns-clause-meant : goal.returns-clause-meant
returns-clause-meant c = λ values. known-meant c.args.edges.now.files c.in_ok-path.path.now
    (word_model c.args.word.now) c.requires values c.in_ok-path.ensures c.file_named.result
    c.file_named.ensures.index
