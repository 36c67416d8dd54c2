-- Which files the manifest is made from.
use Rattle.std.specs.Prelude.{◌≡◌, ◌≢◌, ◌⊎◌, ℕ, ℤ, Bool, List, map, Some}
use Rattle.nj_graph.specs.Graph.{GraphModel}
use Rattle.nj_ask.specs.MadeFrom.{TellMadeFrom}
use Rattle.nj_c.specs.declared.status.Status.TheVariants.{Done}
use Rattle.nj_c.specs.Asking.{bool_code}
use Rattle.nj_c.specs.Buffers.{filled}
use Rattle.nj_c.specs.Loading.{Returns}
use Rattle.nj_c.specs.Pages.{AreKnown, AreRefused}
use Rattle.nj_c.specs.Statuses.{code_of}

-- as many of the flags as fit were written to a buffer, or a status says why not
abbrev pub GivesMadeFrom : GraphModel → (files : List ℕ) → (before after : List ℤ) → ℤ → Type 0
GivesMadeFrom g files before after result =
    ((made : List Bool) × AreKnown g files × TellMadeFrom g files made × (result ≡ code_of Done)
    × (after ≡ filled (map bool_code made) before))
    ⊎ Returns result (AreRefused (Some g) files)

-- a buffer is written only by a call that succeeded
abbrev pub FlagsKeptUnlessDone : (before after : List ℤ) → ℤ → Type 0
FlagsKeptUnlessDone before after result = result ≢ code_of Done → after ≡ before
