use Rattle.std.proofs.Common.{map, refl}
use Rattle.std.specs.Prelude.{string_bytes}
use Rattle.nj_c.specs.declared.session_state.Kept.{Kept}
use Rattle.nj_c.proofs.RunLemmas.{files-stay, from-new}
use Rattle.nj_c.proofs.program_runs.run_program.Goals as goal

pub returns : goal.returns
returns c =
    let words = map string_bytes c.args.words.now in
    let before = c.args.kept.now in
    let after : Kept = record before {
      files = c.run_words.new.source;
      output = c.run_words.new.out;
      errors =
          c.run_words.new.err;
    } in
    record {
      files = files-stay words _ _ c.run_words.result c.run_words.ensures;
      wanted = refl;
      load = record {
        graph = refl;
        fault = refl;
        found = refl;
        mark = refl;
        stale = refl;
        log = refl;
        unknown = refl;
      };
      runs = from-new words before after c.run_words.result c.requires c.run_words.ensures;
    }
