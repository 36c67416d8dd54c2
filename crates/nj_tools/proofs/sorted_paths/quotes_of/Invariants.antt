use Rattle.std.proofs.Common.{◌≡◌, ◌++◌, List, map, not}
use Rattle.std.specs.Prelude.{filter}
use Rattle.nj_text.specs.Quotes.{quoted}
use Rattle.nj_graph.specs.Handles.{GraphFile}
use Rattle.nj_tools.specs.Inside.QuotesHeld.{precedes_plain}
use Rattle.nj_tools.proofs.sorted_paths.quotes_of.Given as goal

abbrev pub invariant-files : goal.invariant-files
invariant-files l =
    let quotes = λ (files : List GraphFile). map quoted (map (λ file. file.path) files) in
    record {
      quoted : map (λ text. text.items) l.quoted.items ++ filter precedes_plain (quotes l.file-iterator)
          ≡ filter precedes_plain (quotes l.fn.files);
      plain : map (λ path. path.now) l.plain.items
          ++ filter (λ text. not (precedes_plain text)) (quotes l.file-iterator)
          ≡ filter (λ text. not (precedes_plain text)) (quotes l.fn.files);
    }
