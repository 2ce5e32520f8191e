-- A run of the machine that is copied, or goes on, and where it then stands.
use Rattle.std.proofs.Common.{◌≡◌, ◌∙◌, ℕ, true, List, Option, Some, sym, ap}
use Rattle.std.specs.Prelude.{map}
use Rattle.queue_steps.specs.declared.{model.Reply.Reply, model.Call.Call, steps.types.Kind.Kind, steps.types.Local.Local}
use Rattle.machine_steps.specs.{Left.left_of, Machine.event_of, World.World, World.call_at}
use Rattle.machine_replay.specs.{Conforms.party_of, MachineRuns.KeepsRun, MachineRuns.IsSomeMachineRun, Played.local_in, declared.machine_run.MachineRun.MachineRun}
use Rattle.machine_memory.specs.{SharedMemory.MemoryState, declared.calls.Running.Running, declared.types.Event.Event, declared.types.Told.Told}
use Rattle.machine_explore.specs.{Moves.event_at, Moves.led, Positions.Outcome, Positions.Progress, Positions.Standing, Positions.outcome_at, Traces.IsSeen, Traces.Seen, declared.schedule.Move.Move}
use Rattle.machine_explore.proofs.Showing.{event_party}

pub copied-some : {T A : Type 0} (c d : MachineRun T A) → KeepsRun c d → IsSomeMachineRun c → IsSomeMachineRun d
copied-some c d same on = (on.0, on.1, on.2, on.3, same on.0 on.1 on.2 on.3 on.4)

-- a standing, part by part
pub standing_is : (s : Standing) (kind : Kind) (world : World (MemoryState ℕ) (Running ℕ)) (parties : List (Progress ℕ)) → kind ≡ s.kind → world ≡ s.world → parties ≡ s.parties
    → (let x : Standing = record { kind = kind; world = world; parties = parties } in x) ≡ s
standing_is s kind world parties kind_is world_is parties_are =
    let make : Kind → World (MemoryState ℕ) (Running ℕ) → List (Progress ℕ) → Standing = λ k w ps. record { kind = k; world = w; parties = ps } in
    ap (λ k. make k world parties) kind_is ∙ ap (λ w. make s.kind w parties) world_is ∙ ap (λ ps. make s.kind s.world ps) parties_are

-- what a standing ends with, part by part
pub outcome_is : (s : Standing) (replies : List (List (Reply ℕ))) (left : List ℕ) → replies ≡ map (λ (g : Progress ℕ). g.replies) s.parties → left ≡ left_of s.kind s.world
    → (let x : Outcome ℕ = record { replies = replies; left = left } in x) ≡ outcome_at s
outcome_is s replies left replies_are left_is =
    let make : List (List (Reply ℕ)) → List ℕ → Outcome ℕ = λ r l. record { replies = r; left = l } in
    ap (λ r. make r left) replies_are ∙ ap (λ l. make (map (λ (g : Progress ℕ). g.replies) s.parties) l) left_is

-- what is seen of the event of a move, part by part
pub seen_here : (calls : List (List (Call ℕ))) (s : Standing) (m : Move) (e : Event ℕ) (local : Option (Local ℕ)) (t : Told ℕ) (list : List ℕ) (later : Standing)
    → event_at calls s m.party m.granted ≡ Some e → t ≡ (event_of s.kind true s.world e).1 → later ≡ led s.kind s e → local ≡ local_in (call_at s.world m.party) → list ≡ left_of later.kind later.world
    → IsSeen calls s m (record { event = e; local = local; told = t; list = list }) later
seen_here calls s m e local t list later is told_is leads local_is list_is =
    let make : Option (Local ℕ) → Told ℕ → List ℕ → Seen = λ l x xs. record { event = e; local = l; told = x; list = xs } in
    let party : party_of e ≡ m.party = event_party calls s m.party m.granted e is in
    let local_at : local ≡ local_in (call_at s.world (party_of e)) = local_is ∙ ap (λ p. local_in (call_at s.world p)) (sym party) in
    let list_at : list ≡ left_of s.kind (event_of s.kind true s.world e).0 = list_is ∙ ap (λ (x : Standing). left_of x.kind x.world) leads in
    record {
      event = is;
      seen = ap (λ l. make l t list) local_at ∙ ap (λ x. make (local_in (call_at s.world (party_of e))) x list) told_is ∙ ap (λ xs. make (local_in (call_at s.world (party_of e))) (event_of s.kind true s.world e).1 xs) list_at;
      leads = leads;
    }
