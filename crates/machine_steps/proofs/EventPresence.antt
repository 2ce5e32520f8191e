-- No event makes more blocks than there were, unless one was granted.
use Rattle.std.proofs.Common.{◌&&◌, Bool, true, false, if◌then◌else◌, Option, Some, None, arith}
use Rattle.queue_steps.specs.declared.{model.Reply.Reply, steps.types.Kind.Kind}
use Rattle.machine_memory.specs.{declared.calls.Running.Running, declared.types.Event.Event, declared.types.Event.TheVariants.Begin, declared.types.Event.TheVariants.Step, declared.types.Told.Told, declared.types.Told.TheVariants.Skipped, SharedMemory.MemoryState, SharedMemory.block_touched}
use Rattle.machine_memory.proofs.Presence.{none_more, without-none, touched-none, Sparing, sparing, operated-sparing}
use Rattle.machine_steps.specs.{Steps.after_touch, Steps.after_operation, Steps.next_after, Steps.spare_in, Steps.shared_then, Steps.step_of, Steps.start_of, Machine.event_of, World.World, World.Begun, World.call_at, World.can_begin, World.stepped_if, World.began_by}

-- one step gives a number out, or makes no more blocks
step-sparing : {T : Type 0} (k : Kind) (ok : Bool) (s : MemoryState T) (x : Running T) → Sparing s.blocks (shared_then k ok s x).blocks
step-sparing k ok s x =
    let touch = touched-none x.touch (block_touched x.op) s x.carried in
    let operate = operated-sparing ok (after_touch s x) x.op in
    let end = without-none (spare_in (next_after k ok s x)) (after_operation ok s x).blocks in
    let a = touch.0 in let b = touch.1 in let c = operate.0 in let d = end.0 in let e = end.1 in
    (omega arith, λ same. (let less = operate.1 (omega arith) in omega arith))

-- and so does an event
pub event-sparing : {T : Type 0} (k : Kind) (ok : Bool) (w : World (MemoryState T) (Running T)) (e : Event T) → Sparing w.shared.blocks (event_of k ok w e).0.shared.blocks
event-sparing {T} k ok w (Begin p c) = by_test (can_begin w p) (start_of k c)
  where
    by_call : (x : Option (Running T)) (r : Option (Reply T)) → Sparing w.shared.blocks (began_by w p (record { call = x; reply = r })).0.shared.blocks
    by_call None r = sparing w.shared.blocks w.shared.blocks (none_more w.shared.blocks)
    by_call (Some x) r = sparing w.shared.blocks w.shared.blocks (none_more w.shared.blocks)

    by_test : (t : Bool) (b : Begun (Running T) T) → Sparing w.shared.blocks (if◌then◌else◌ {A = World (MemoryState T) (Running T) × Told T} t (began_by w p b) (w, Skipped)).0.shared.blocks
    by_test true b = by_call b.call b.reply
    by_test false b = sparing w.shared.blocks w.shared.blocks (none_more w.shared.blocks)
event-sparing {T} k ok w (Step p granted) = by_call (call_at w p)
  where
    by_call : (x : Option (Running T)) → Sparing w.shared.blocks (stepped_if (step_of k) w (granted && ok) p x).0.shared.blocks
    by_call None = sparing w.shared.blocks w.shared.blocks (none_more w.shared.blocks)
    by_call (Some x) = step-sparing k (granted && ok) w.shared x
