-- A call that stands after one of its steps, at a table or in a web, whichever call it is: what it is to do next, and whether it has had no effect.
use Rattle.std.specs.Prelude.{◌≡◌, ℕ, Bool, false, Option}
use Rattle.atomic_table.specs.declared.shared.Seat.{Seat}
use Rattle.mem_blocks.specs.declared.block.BlockPtr.{BlockPtr as Link}
use Rattle.queue_laws.specs.Common.Vocabulary.{Kind, Answer, Local, Next}
use Rattle.queue_steps.specs.Next.{CanNext, next_of}
use Rattle.shared_parties.specs.declared.known.{CallState.CallState, InCall.InCall}
use Rattle.shared_tables.specs.{TableRule.TableOf, TableTurns.After}
use Rattle.shared_chain.specs.Names.{link_of, local_map, answer_map}
use Rattle.shared_chain.specs.Steps as chain
use Rattle.shared_calls.specs.{declared.chain.Asking.Asking, declared.left.Left.Left, Early.is_early}

-- what a call is to do next
abbrev pub next_at : {T B : Type 0} → Left T B → Next B
next_at l = next_of l.kind l.progress.local l.progress.answer

-- a step before which the call has had no effect
abbrev pub is_early_step : {B : Type 0} → Next B → Bool
is_early_step (Next.Step l t o) = is_early l
is_early_step (Next.Reply r spare) = false

-- what the seat at a table was told is of a call that goes on so
abbrev pub Halts : {T : Type 0} → TableOf T → Seat (Option T) (CallState T) → Left T ℕ → Type 0
Halts {T} K s l =
    (l.kind ≡ K.calls.kind) × (b : InCall T) × CanNext K.calls.kind l.progress.local l.progress.answer × After K b l.carried (next_of K.calls.kind l.progress.local l.progress.answer) s.me

-- the same in a web
abbrev pub HaltsIn : {T A Q : Type 0} → Asking T A Q → Left T (Link T) → Type 0
HaltsIn {T} s l =
    (l.kind ≡ Kind.Unbounded) × (b : InCall T) × (i : Local ℕ) × (a : Answer ℕ) × (local_map link_of i ≡ l.progress.local) × (l.progress.answer ≡ answer_map link_of a) × CanNext Kind.Unbounded i a × chain.After b l.carried (next_of Kind.Unbounded i a) s.seat.sitter
