use Rattle.std.proofs.Common.{◌==◌, ◌<◌, length, take, All, sym, subst}
use Rattle.nj_names.specs.declared.files.FileNo.{FileNo}
use Rattle.nj_edges.specs.EdgeTables.{edge_read}
use Rattle.nj_statements.specs.Inside.EdgeSteps.{bound_by, names_read}
use Rattle.nj_statements.proofs.LateLemmas.{first-known, names-by-numbers}
use Rattle.nj_statements.proofs.stated_files.late_edge.Goals as goal

pub invariant_of-result : goal.invariant_of-result
invariant_of-result c = record {
  inputs_known = subst (λ files. All (λ (f : FileNo). f.0 < length files)
      (take c.args.kinds.explicit_inputs c.open_input_files.result.now)) (sym c.files.ensures.files)
      (first-known c.args.edges.now.files c.open_input_files.result.now c.args.edges.now.«open».inputs
      c.args.kinds.explicit_inputs c.open_input_files.ensures);
  outputs_known = subst (λ files. All (λ (f : FileNo). f.0 < length files)
      (take c.args.kinds.explicit_outputs c.open_output_files.result.now)) (sym c.files.ensures.files)
      (first-known c.args.edges.now.files c.open_output_files.result.now c.args.edges.now.«open».outputs
      c.args.kinds.explicit_outputs c.open_output_files.ensures);
  scope_known = c.args.context.scope_known;
}

pub returns-clause-names : goal.returns-clause-names
returns-clause-names c = λ file.
    names-by-numbers c.args.edges.now.files c.files.result.now c.open_input_files.result.now
    c.open_output_files.result.now c.args.edges.now.«open».inputs c.args.edges.now.«open».outputs
    c.args.kinds.explicit_inputs c.args.kinds.explicit_outputs
    (names_read (edge_read c.args.edges.now.«open» c.args.kinds (c.args.rule.number.0 == 0))
    (bound_by c.args.context) c.args.rule.rule.now file)
    c.files.ensures.files c.open_input_files.ensures c.open_output_files.ensures
