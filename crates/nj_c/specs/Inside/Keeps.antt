-- The memory that a session owns.
use Rattle.std.specs.Prelude.{◌≡◌}
use denote.Struct.Lending.{lent_at}
use base.Fml.{Lft, Fml, ftrue, fsep, fex}
use base.Stored.{Coded}
use denote.RawPtr.{Ptr, block_ptr, null_ptr, Testable}
use Rattle.std.specs.Global.{Global}
use Rattle.std.specs.declared.option.Option.{Option}
use Rattle.std.specs.declared.option.Option.TheVariants.{None, Some}
use Rattle.std.specs.contracts.option.Option as option
use Rattle.std_heap.specs.contracts.GlobalAllocator.TheImpl.{ghosts}
use Rattle.std_alloc.specs.Box.Ownership.{box_owns}
use Rattle.nj_c.specs.contracts.session_state.Kept.{the_row}

abbrev pub boxed : Global → Ptr → the_row.Denot → Fml
boxed alloc = box_owns (ghosts.dealloc_token alloc) the_row

-- A fact, as a formula.
abbrev pub pure : Type 0 → Fml
pure P = fex P (λ _. ftrue)

-- At the null pointer nothing is kept, and at any other a box.
abbrev pub keeps : Global → Ptr → Option the_row.Denot → Fml
keeps alloc null_ptr kept = pure (kept ≡ None)
keeps alloc (block_ptr b o) kept = fex the_row.Denot (λ value. fsep
    (pure ((kept ≡ Some value) × Testable (block_ptr b o))) (boxed alloc (block_ptr b o) value))

abbrev pub kept_coded : Coded (Option the_row.Denot)
kept_coded = (option.the_row the_row).coded

-- the loan of a `&` to a seal, and how its contents are stored
abbrev pub lends : Ptr → the_row.Denot → Lft → Fml
lends = lent_at the_row

abbrev pub value_coded : Coded the_row.Denot
value_coded = the_row.coded
