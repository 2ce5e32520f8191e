use Rattle.std.proofs.Common.{◌≡◌, ◌<◌, ap, sym, ◌∙◌, arith}
use Rattle.own_cells.specs.OneRing.RingCells.{RingState}
use Rattle.own_cells.proofs.{OneRing.ItemsLeft.full, OneRing.ItemsLeft.reads, OneRing.ItemsLeft.reads-on, OneRing.ItemsLeft.reads-round, OneRing.ItemsLeft.one_fewer, ring.reading.ItemsIterator.next.Goals.then-self-ring, ring.reading.ItemsIterator.next.Goals.else-self-ring}
use Rattle.own_cells.proofs.ring.reading.ItemsIterator.next.Goals as goal

pub unreachable-requires : goal.unreachable-requires
unreachable-requires g c =
    let s = c.self.inside in
    let some : 0 < s.left = omega arith in
    let there = full s.ring.now s.slot s.left some c.self.invariant in
    cc (c.content.ensures, c.in_default.is, there.1)

pub invariant_of-self : goal.invariant_of-self
invariant_of-self g c =
    let s = c.self.inside in
    let some : 0 < s.left = omega arith in
    let cap : c.ring.inside.capacity ≡ s.ring.now.cap = ap (λ (r : RingState g.row.T.Denot). r.cap) c.ring.view_is in
    reads-round s.ring.now s.slot s.left some c.self.invariant (omega arith)

pub invariant_of-self-else-self-ring : goal.invariant_of-self-else-self-ring
invariant_of-self-else-self-ring g c =
    let s = c.self.inside in
    let some : 0 < s.left = omega arith in
    let cap : c.ring.inside.capacity ≡ s.ring.now.cap = ap (λ (r : RingState g.row.T.Denot). r.cap) c.ring.view_is in
    reads-on s.ring.now s.slot s.left some c.self.invariant (λ last. omega arith)

pub returns-clause-steps : goal.returns-clause-steps
returns-clause-steps g c =
    let s = c.self.inside in
    let some : 0 < s.left = omega arith in
    let first = reads s.ring.now s.slot s.left some c.self.invariant c.in-Some.item (sym c.content.ensures ∙ c.in-Some.is) in
    elim c.if-self-ring.branch [
      | then-self-ring w ↦ rw (w.self-is, ← c.self.view_is) first
      | else-self-ring w ↦ rw (w.self-is, ← c.self.view_is) first
    ]

pub returns-clause-goes : goal.returns-clause-goes
returns-clause-goes g c =
    let s = c.self.inside in
    let some : 0 < s.left = omega arith in
    let first = reads s.ring.now s.slot s.left some c.self.invariant c.in-Some.item (sym c.content.ensures ∙ c.in-Some.is) in
    elim c.if-self-ring.branch [
      | then-self-ring w ↦ rw (w.self-is, ← c.self.view_is) (record { on = λ _. (tt, tt, one_fewer _ _ _ first); keeps = tt; rests = λ _. tt })
      | else-self-ring w ↦ rw (w.self-is, ← c.self.view_is) (record { on = λ _. (tt, tt, one_fewer _ _ _ first); keeps = tt; rests = λ _. tt })
    ]
