-- Findings and their places.
use Rattle.std.specs.Prelude.{ℕ, List}
use Rattle.nj_faults.specs.declared.fault.Place.{Place}
use Rattle.nj_graph.specs.Built.{EdgeDetail, detail_at}
use Rattle.nj_graph.specs.Graph.{GraphModel}
use Rattle.nj_graph.specs.Origins.{place_text}
use Rattle.nj_audit.specs.declared.findings.Finding.{Finding}
use Rattle.nj_audit.specs.declared.kinds.Kind.{Kind}

-- a finding at the statement of a place, and the name that the finding is about
pub record FindingModel : Type 0 where
  pub place : Place
  pub kind : Kind
  pub name : List ℕ

-- a finding whose strings are lent
abbrev pub finding_model : Finding → FindingModel
finding_model f = record { place = place_text f.place; kind = f.kind; name = f.name.now }

-- the place of a build statement
abbrev pub place_of_detail : EdgeDetail → Place
place_of_detail d = record { file = d.file; spot = d.spot }

-- a finding at the statement of an edge
abbrev pub edge_finding : GraphModel → (edge : ℕ) → Kind → (name : List ℕ) → FindingModel
edge_finding g edge kind name = record {
  place = place_of_detail (detail_at g.built.details edge);
  kind = kind;
  name = name;
}
