-- The reading that a table of files keeps.
use Rattle.std.specs.Prelude.{ℕ, Option, option_map}
use Rattle.std.specs.Global.{Vec}
use Rattle.std.specs.Rc.{rc_slice_items}
use Rattle.std.specs.declared.rc.RcSlice.{RcSlice}
use Rattle.nj_scope.specs.Readings.{Reading}

-- the reading that an entry keeps
abbrev pub kept_reading : {Z : Type 0} → Vec ℕ × Option (RcSlice ℕ Z) → Reading
kept_reading e = record { path = e.0.items; bytes = option_map rc_slice_items e.1 }
