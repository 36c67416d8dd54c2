-- How a reading goes on where a statement names a file: by what was found at its path, and by whether more files may be opened.
use Rattle.std.specs.Prelude.{ℕ, Bool, Option, None, List, ◌∷◌, cond}
use Rattle.std.specs.Option.{option_map_or}
use Rattle.nj_scope.specs.Readings as table
use Rattle.nj_scope.specs.Readings.{reading_of}
use Rattle.nj_scope.specs.ReadingList.{ReadStatement}
use Rattle.nj_faults.specs.declared.fault.Place.{Place}
use Rattle.nj_faults.specs.declared.fault.Cause.{Cause}
use Rattle.nj_faults.specs.declared.fault.Cause.TheVariants.{Missing, TooManyOpenings}
use Rattle.nj_graph.specs.Reading.{Site, Refused, ReadingModel, Opens, stopped, text_read, outcome_read, path_at_end}

-- by the bytes at a path that was read, if there was a file
abbrev pub found_read : (path : List ℕ) → Place → (before : List ReadStatement) → (List ℕ → ReadingModel) → Option (List ℕ) → ReadingModel
found_read path place before reads text = option_map_or reads text (stopped before place (Missing path))

abbrev pub if_capacity : Bool → (within : Opens) → (files : List table.Reading) → Site → Place → ReadStatement
    → (before : List ReadStatement) → ReadingModel
if_capacity capacity within files site place e before =
    cond capacity
    (outcome_read site.file place before (λ text. text_read within site text (e ∷ before)) (reading_of files site.file))
    (stopped before place TooManyOpenings)

-- the path at which a fault with this cause ends a reading
abbrev pub path_at_fault : Cause → List (List ℕ)
path_at_fault cause = path_at_end (Refused (record { place = None; cause = cause }))
