use Rattle.std.proofs.Common.{◌<◌, arith}
use Rattle.own_cells.proofs.{OneRing.ItemsLeft.one_fewer, chain.reading.ItemsIterator.next.Goals.then-self-eq-BLOCK_SLOTS, chain.reading.ItemsIterator.next.Goals.else-self-eq-BLOCK_SLOTS}
use Rattle.own_cells.proofs.OneChain.ItemsLeft.{can-read, can-pass, reads, reads-behind}
use Rattle.own_cells.proofs.chain.reading.ItemsIterator.next.Goals as goal

pub item-item-requires : goal.item-item-requires
item-item-requires g c =
    let s = c.self.inside in
    let some : 0 < s.left = omega arith in
    can-read s.blocks.now c.in-Some.block s.slot s.left some (rw c.in-Some.is at c.self.invariant)

pub next-self-inside-requires : goal.next-self-inside-requires
next-self-inside-requires g c =
    let s = c.self.inside in
    let some : 0 < s.left = omega arith in
    can-pass s.blocks.now c.in-Some.block s.slot s.left some (rw c.in-Some.is at c.self.invariant)

pub invariant_of-self : goal.invariant_of-self
invariant_of-self g c =
    let s = c.self.inside in
    let some : 0 < s.left = omega arith in
    rw c.next-self-inside.ensures (reads-behind s.blocks.now c.in-Some.block s.slot s.left some (rw c.in-Some.is at c.self.invariant) (omega arith))

pub returns-clause-steps : goal.returns-clause-steps
returns-clause-steps g c =
    let s = c.self.inside in
    let some : 0 < s.left = omega arith in
    let first = reads s.blocks.now c.in-Some.block s.slot s.left some (rw c.in-Some.is at c.self.invariant) c.item-item.result.now c.item-item.ensures in
    elim c.if-self-eq-BLOCK_SLOTS.branch [
      | then-self-eq-BLOCK_SLOTS w ↦ rw (w.self-is, ← c.self.view_is) first
      | else-self-eq-BLOCK_SLOTS w ↦ rw (w.self-is, ← c.self.view_is) first
    ]

pub returns-clause-goes : goal.returns-clause-goes
returns-clause-goes g c =
    let s = c.self.inside in
    let some : 0 < s.left = omega arith in
    let first = reads s.blocks.now c.in-Some.block s.slot s.left some (rw c.in-Some.is at c.self.invariant) c.item-item.result.now c.item-item.ensures in
    elim c.if-self-eq-BLOCK_SLOTS.branch [
      | then-self-eq-BLOCK_SLOTS w ↦ rw (w.self-is, ← c.self.view_is) (record { on = λ _. (tt, tt, one_fewer _ _ _ first); keeps = tt; rests = λ _. tt })
      | else-self-eq-BLOCK_SLOTS w ↦ rw (w.self-is, ← c.self.view_is) (record { on = λ _. (tt, tt, one_fewer _ _ _ first); keeps = tt; rests = λ _. tt })
    ]
