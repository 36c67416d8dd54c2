-- When two choices of kinds are the same.
use Rattle.std.specs.Prelude.{◌≡◌}
use Rattle.nj_audit.specs.Kinds.{contains}
use Rattle.nj_audit.specs.declared.kinds.Kind.{Kind}
use Rattle.nj_audit.specs.declared.kinds.Kinds.{Kinds}

-- they contain the same kinds
abbrev pub SameKinds : (one other : Kinds) → Type 0
SameKinds one other = (kind : Kind) → contains one kind ≡ contains other kind
