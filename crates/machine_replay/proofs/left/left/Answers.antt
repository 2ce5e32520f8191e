use Rattle.std.proofs.Common.{◌≡◌, ◌∙◌, ◌≤◌, ap, length, subst, sym, vec_capacity}
use Rattle.machine_steps.specs.{Left.left_of, Left.listed_in, Machine.world_of}
use Rattle.machine_replay.proofs.Engine.Gathering.{left-slots}
use Rattle.machine_replay.proofs.left.left.Goals as goal

pub left-requires-clause-empty : goal.left-requires-clause-empty
left-requires-clause-empty g c = c.requires.empty

pub left-requires-clause-room : goal.left-requires-clause-room
left-requires-clause-room g c = subst (λ k. length (left_of k (world_of c.args.machine)) ≤ vec_capacity c.args.left) c.in-Unbounded.is c.requires.room

pub returns-in-Unbounded : goal.returns-in-Unbounded
returns-in-Unbounded g c = c.left.ensures ∙ ap (λ k. left_of k (world_of c.args.machine)) (sym c.in-Unbounded.is)

pub list-requires : goal.list-requires
list-requires g c =
    let m = c.args.machine in
    let same : listed_in m.kind m.memory.lock m.memory.head m.memory.tail c.settle.result.items ≡ left_of m.kind (world_of m) =
    ap (λ slots. listed_in m.kind m.memory.lock m.memory.head m.memory.tail slots) c.settle.ensures ∙ sym (left-slots m.kind (world_of m) c.in_default.not-Unbounded) in
    record { some = c.requires.some; empty = c.requires.empty; room = subst (λ items. length items ≤ vec_capacity c.args.left) (sym same) c.requires.room }

pub returns : goal.returns
returns g c =
    let m = c.args.machine in
    c.list.ensures ∙ ap (λ slots. listed_in m.kind m.memory.lock m.memory.head m.memory.tail slots) c.settle.ensures ∙ sym (left-slots m.kind (world_of m) c.in_default.not-Unbounded)
