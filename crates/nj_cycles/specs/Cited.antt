-- What the contracts of this crate cite: each name comes from the module in its line.
pub use Rattle.nj_cycles.specs.Cycles.{AreAfterNeeds, IsAcyclic, IsFirstOnCycle, FallingRanksLeaveNoCycle, AreEdges, Needs}
pub use Rattle.nj_cycles.specs.Inside.Walks.{stage_of, stage_of_maker, IsSeen, IsSoundAt, WalkIsSound, EndsAt, TakesTurn, IsFalling, Walked}
pub use Rattle.std.specs.Global.{Vec}
pub use Rattle.nj_cycles.specs.Inside.Users.{HaveUsers, users_of, NeedsSoFar, lists_of, with_user}
pub use Rattle.nj_cycles.specs.Inside.Marks.{IsMarked, AreMarks, MarksMore, IsLeastOf}
