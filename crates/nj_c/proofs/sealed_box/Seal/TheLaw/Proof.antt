-- A `&` to the seal is made where one to its contents is.
use base.Fraction.{full_share}
use contract.BorrowLft.{⊑_static}
use denote.Memory.{lone}
use denote.RawPtr.{lies_at}
use denote.Shares.{Shares-less}
use denote.Param.Shared.{copy_shared}
use denote.Struct.Field.{RawPtr-field}
use denote.Struct.Laws.{RawPtr-copy}
use denote.Struct.Lending.{lent_at, lent_at_shr_laws, Lends-lies, Lends-first, of_Lends}
use mir.Raw.{raw as bare}
use Rattle.std_heap.specs.contracts.Global as Heap
use Rattle.std_heap.specs.contracts.GlobalAllocator.TheImpl.{ghosts}
use Rattle.std_heap.proofs.Global.TheLaws as heap
use Rattle.nj_c.specs.contracts.session_state.Kept.{the_row as T}
use Rattle.nj_c.proofs.session_state.Kept.TheLaws.{the_row_laws as L}
use Rattle.nj_c.specs.contracts.sealed_box.Seal as C
use Rattle.nj_c.proofs.sealed_box.Seal.TheLaw.Statement.{statement}

pub shares : statement
shares = of_Lends C.struct (C.the_codes Heap.the_row.coded) C.the_heap C.the_lent
    (λ d p. lent_at_shr_laws T L.shr_laws d.at d.kept)
    (copy_shared RawPtr-field RawPtr-copy, (heap.the_field_shared, tt)) (λ M 𝓤 𝓛 d p.
    let l = C.the_row.lives in
    Lends-first 𝓛 (lies_at T full_share d.at d.kept) (ghosts.dealloc_token d.alloc (bare (lone T.mir)) d.at)
    (lent_at T d.at d.kept) l
    (Lends-lies 𝓛 T l d.at d.kept (Shares-less 𝓛 T T.lives l (⊑_static l) (L.shares 𝓛) d.kept)))
