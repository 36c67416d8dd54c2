-- The meaning of a build statement with the given rule, where names have the given values on its line.
use Rattle.std.specs.Prelude.{◌==◌, Option, List, ◌∷◌}
use Rattle.std.specs.Option.{option_or}
use Rattle.nj_manifest.specs.declared.statement.Build.{Build}
use Rattle.nj_manifest.specs.Contents.{outputs_model, inputs_model}
use Rattle.nj_scope.specs.ReadingList.{value_after, pools}
use Rattle.nj_edges.specs.Edges.{EdgePaths, inputs_of}
use Rattle.nj_edge_env.specs.LateStrings.{LateNames}
use Rattle.nj_faults.specs.declared.fault.GraphFault.{GraphFault}
use Rattle.nj_statements.specs.declared.context.Context.{Context}
use Rattle.nj_statements.specs.declared.rule_references.UsedRule.{UsedRule}
use Rattle.nj_statements.specs.EdgeList.{Values, stated_paths, edge_paths}
use Rattle.nj_statements.specs.BuildFaults.{paths_fault}
use Rattle.nj_statements.specs.Inside.EdgeSteps.{SeesNames, bound_by, names_read, names_fault}

-- the paths of its edge
abbrev pub paths_meant : Build → UsedRule → Values → EdgePaths
paths_meant build rule values = edge_paths (stated_paths values (outputs_model build) (inputs_model build) (rule.number.0 == 0))

-- the names of its edge
abbrev pub names_meant : (context : Context) → Build → UsedRule → (values : Values) → SeesNames context values → LateNames
names_meant context build rule values sees =
    names_read (paths_meant build rule values) (bound_by context) rule.rule.now (value_after sees.entries (context.scope.0 ∷ sees.around))

-- the first fault of its paths, and then of its names, after the given edges
abbrev pub edge_fault : (context : Context) → Build → UsedRule → (values : Values) → SeesNames context values → (earlier : List EdgePaths)
    → Option GraphFault
edge_fault context build rule values sees earlier =
    option_or (paths_fault context.place.file.now values earlier (outputs_model build) (inputs_model build))
    (names_fault context.place.file.now context.place.spot (pools sees.entries) (inputs_of (paths_meant build rule values))
    (names_meant context build rule values sees))
