-- Words that are lent, as definitions have them.
use Rattle.std.specs.Prelude.{ℕ, List, map, string_bytes}
use Rattle.std.specs.Borrow.{Bor}
use Rattle.nj_ask.specs.declared.listing.Listed.{Listed}
use Rattle.nj_ask.specs.declared.report.Change.{Change}
use Rattle.nj_ask.specs.Affected.{Asked}
use Rattle.nj_ask.specs.declared.since.Since.{Since}
use Rattle.nj_ask.specs.Reports.{ChangeModel}
use Rattle.nj_ask.specs.Since.{NewModel}

-- words that are lent
abbrev pub texts : List (Bor (List ℕ)) → List (List ℕ)
texts words = map (λ word. word.now) words

-- the outputs that are listed
abbrev pub asked_of : Listed → Asked
asked_of listed = record { rules = map string_bytes listed.rules.now; prefix = listed.prefix.now; no_phony = listed.no_phony }

-- a change of files
abbrev pub change_model : Change → ChangeModel
change_model change = record {
  working = change.working.now;
  folders = map string_bytes change.folders.now;
  paths = texts change.paths.now;
  ignores_unknown = change.ignores_unknown;
  test_files = change.test_files.now;
  commands = map (λ edge. edge.0) change.commands.now;
  is_settled = change.is_settled;
}

-- what is new since an older manifest
abbrev pub new_model : Since → NewModel
new_model since = record { commands = map (λ edge. edge.0) since.commands.items; is_settled = since.is_settled }
