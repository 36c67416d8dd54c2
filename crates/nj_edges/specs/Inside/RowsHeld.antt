-- How the rows of edges are held: their numbers in 32 bits.
use Rattle.std.specs.Prelude.{List, map}
use Rattle.nj_edges.specs.declared.edges.EdgeRow.{EdgeRow}
use Rattle.nj_edges.specs.declared.edges.Span.{Span}
use Rattle.nj_edges.specs.declared.rows.NarrowRow.{NarrowRow}
use Rattle.nj_edges.specs.declared.rows.NarrowSpan.{NarrowSpan}

abbrev pub wide_span : NarrowSpan → Span
wide_span span = record { start = span.start; end = span.end }

-- the row that is held so
abbrev pub wide_row : NarrowRow → EdgeRow
wide_row row = record {
  outputs = wide_span row.outputs;
  inputs = wide_span row.inputs;
  validations = wide_span row.validations;
  kinds = record {
    explicit_outputs = row.explicit_outputs;
    explicit_inputs = row.explicit_inputs;
    implicit_inputs = row.implicit_inputs;
  };
  is_phony = row.is_phony;
}

abbrev pub wide_rows : List NarrowRow → List EdgeRow
wide_rows rows = map wide_row rows
