-- The address that a walk saved last, against the path of open edges.
use Rattle.std.specs.Prelude.{◌≡◌, ◌≤◌, List, length, take}
use Rattle.nj_needs.specs.Inside.Paths.{places}
use Rattle.nj_needs.specs.declared.frame.Frame.{Frame}
use Rattle.nj_needs.specs.declared.resume_point.Saved.{Saved}

-- the numbers that are kept are the numbers of the path
pub record KeepsFront (s : Saved) (path : List Frame) : Type 0 where
  pub within : s.kept ≤ length s.numbers.items
  pub short : s.kept ≤ length path
  pub same : take s.kept s.numbers.items ≡ take s.kept (places path)
