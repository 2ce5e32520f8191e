-- What a ring with one owner owns may go to another thread where its items and its allocator may: what the memory of a closed table owns names no thread.
use Rattle.std.proofs.Common.{◌+◌, Bool, true, false, List, [], ◌∷◌}
use base.{Fraction.full_share, Shift.Keyless, Fml.Lft, Fml.Fml, Fml.ftrue}
use mir.{Raw.raw, Syntax.ty_ptr, Syntax.ty_int, Syntax.w64}
use denote.{Builtin.u64, RattleType.RattleType, Struct.Field.row_field}
use denote.RawPtr.{Ptr, block_ptr, null_ptr, block_of, count_of, in_block, ◌+ₚ◌}
use denote.Param.Send.{IsSend, IsSync, Frees, part_keyless, whole-keyless, cell_keyless, view_send, view_sync, sendable}
use denote.Param.SendFields.{declared_send, declared_sync, as_row_send, as_row_sync}
use Rattle.std.specs.declared.alloc.Allocator as Allocator
use Rattle.std.specs.Mem.Slots.Ownership.{bytes_of, slot, slots, slot_lent, slots_lent}
use Rattle.atomic_table.specs.contracts.owned.Closed.{the_row, the_type}
use Rattle.own_cells.specs.contracts.ring.own_ring.OwnRing.{the_row as ring_row, TheInside.the_type as ring_type}
use Rattle.std.proofs.option.Option.TheSendSync.{the_send as option_send, the_sync as option_sync}

in_block_sent : (p : Ptr) (F : Fml) → Keyless F → Keyless (in_block p F)
in_block_sent (block_ptr b o) F k = k
in_block_sent null_ptr F k = tt

module _ (R : RattleType) (s : IsSend R) where
  slot_sent : (f : Bool) (p : Ptr) (x : R.Denot) → Keyless (slot R f p x)
  slot_sent true (block_ptr b o) x = part_keyless R s full_share x b o
  slot_sent true null_ptr x = tt
  slot_sent false (block_ptr b o) x = tt
  slot_sent false null_ptr x = tt

  slots_sent : (p : Ptr) (xs : List R.Denot) (fs : List Bool) → Keyless (slots R p xs fs)
  slots_sent p [] fs = tt
  slots_sent p (x ∷ xs) [] = tt
  slots_sent p (x ∷ xs) (f ∷ fs) = (slot_sent f p x, slots_sent (p +ₚ bytes_of R) xs fs)

module _ (R : RattleType) (s : IsSync R) where
  slot_shared : (f : Bool) (p : Ptr) (x : R.Denot) (κ : Lft) → Keyless (slot_lent R f p x κ)
  slot_shared true p x κ = (in_block_sent p ftrue tt, s.shared x (block_of p) (count_of p) κ)
  slot_shared false p x κ = tt

  slots_shared : (p : Ptr) (xs : List R.Denot) (fs : List Bool) (κ : Lft) → Keyless (slots_lent R p xs fs κ)
  slots_shared p [] fs κ = tt
  slots_shared p (x ∷ xs) [] κ = tt
  slots_shared p (x ∷ xs) (f ∷ fs) κ = (slot_shared f p x κ, slots_shared (p +ₚ bytes_of R) xs fs κ)

pub closed_send : (S A : RattleType) (g : Allocator.Ghosts A.Denot) → IsSend S → IsSend A → Frees g g.dealloc_token → IsSend (the_row S A g)
closed_send S A g s t f = declared_send (the_type S A g) (
  record { owned = λ d vs. ((λ vss. (tt, (tt, ((tt, tt), tt)))), (tt, in_block_sent d.ptr (slots u64 d.ptr d.items d.filled) (slots_sent u64 (search sendable) d.ptr d.items d.filled))); leaving = λ k x vs. tt },
  (
    record { owned = λ d vs. ((λ vss. (tt, (tt, ((tt, tt), tt)))), (tt, in_block_sent d.ptr (slots S d.ptr d.items d.filled) (slots_sent S s d.ptr d.items d.filled))); leaving = λ k x vs. tt },
    (
      record { owned = λ d vs. ((λ vss. (tt, (tt, ((tt, tt), ((λ uss. (tt, tt)), tt))))), f.frees d.alloc _ d.ptr); leaving = λ k x vs. tt },
      (record { owned = λ d vs. ((λ vss. (tt, (tt, ((tt, tt), ((λ uss. (tt, tt)), tt))))), f.frees d.alloc _ d.ptr); leaving = λ k x vs. tt }, (as_row_send (row_field A) t, tt)),
    ),
  ),
)

pub closed_sync : (S A : RattleType) (g : Allocator.Ghosts A.Denot) → IsSync S → IsSync A → Frees g g.dealloc_token → IsSync (the_row S A g)
closed_sync S A g s t f = declared_sync (the_type S A g) (
  record { shared = λ d b o κ. ((((λ vs. (tt, λ q. cell_keyless q (raw ty_ptr ∷ []) vs b (o + 0))), ((λ vs. ((tt, tt), λ q. cell_keyless q (raw (ty_int w64) ∷ []) vs b (o + 8))), tt)), λ q. tt), (tt, slots_shared u64 (search sendable) d.ptr d.items d.filled κ)) },
  (
    record { shared = λ d b o κ. ((((λ vs. (tt, λ q. cell_keyless q (raw ty_ptr ∷ []) vs b (o + 0))), ((λ vs. ((tt, tt), λ q. cell_keyless q (raw (ty_int w64) ∷ []) vs b (o + 8))), tt)), λ q. tt), (tt, slots_shared S s d.ptr d.items d.filled κ)) },
    (
      record { shared = λ d b o κ q. whole-keyless _ _ (λ x vs. ((λ vss. (tt, (tt, ((tt, tt), ((λ uss. (tt, tt)), tt))))), f.frees x.alloc _ x.ptr)) q d b o },
      (record { shared = λ d b o κ q. whole-keyless _ _ (λ x vs. ((λ vss. (tt, (tt, ((tt, tt), ((λ uss. (tt, tt)), tt))))), f.frees x.alloc _ x.ptr)) q d b o }, (as_row_sync (row_field A) t, tt)),
    ),
  ),
)

pub ring_send : (T A : RattleType) (g : Allocator.Ghosts A.Denot) → IsSend T → IsSend A → Frees g g.dealloc_token → IsSend (ring_row T A g)
ring_send T A g s t f = view_send _ _ _ _ _ (declared_send (ring_type T A g) (search sendable, (closed_send _ A g (option_send T s) t f, tt)))

pub ring_sync : (T A : RattleType) (g : Allocator.Ghosts A.Denot) → IsSync T → IsSync A → Frees g g.dealloc_token → IsSync (ring_row T A g)
ring_sync T A g s t f = view_sync _ _ _ _ _ (declared_sync (ring_type T A g) (search sendable, (closed_sync _ A g (option_sync T s) t f, tt)))
