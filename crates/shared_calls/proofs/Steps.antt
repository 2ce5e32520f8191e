-- A call that is to do a step is that of its seat, at a table and in a web.
use Rattle.shared_calls.specs.Pausing.{IsStep}
use Rattle.mem_blocks.specs.Web.{Sitter}
use Rattle.queue_laws.specs.Common.Vocabulary.{Next}
use Rattle.shared_chain.specs.Names.{link_of, next_map}
use Rattle.shared_chain.specs.Steps as chain
use Rattle.shared_parties.specs.{Called.call_of_work, Called.nothing_called, CallsAt.begun_at, Quitting.its_call, declared.known.CallState.CallState, declared.known.InCall.InCall, declared.known.Work.Work as work}
use Rattle.shared_tables.specs.{Seats.Seated, TableRule.TableOf, TableTurns.After}
use Rattle.std.proofs.Common.{◌≡◌, ℕ, Option, refl, ap}

-- a step is one whatever the blocks are named by
pub step_named : (T : Type 0) (n : Next ℕ) → IsStep (next_map (link_of {T = T}) n) → IsStep n
step_named T (Next.Step l t o) is = tt
step_named T (Next.Reply x spare) is = absurd is

module _ {T : Type 0} where
  -- a call that is to do a step is that of its seat
  pub at_step : (K : TableOf T) (b : InCall T) (v : Option T) (n : Next ℕ) (m : Seated T) → IsStep n → After K b v n m → (d : InCall T) × (m.0.work ≡ work.Calls d) × (d.call ≡ b.call) × (begun_at d ≡ begun_at b) × After K d v n m
  at_step K b v (Next.Step l t o) m is (d, at, local, touch, op, carried, call, begun, lends, touched, word) = (d, at, call, begun, (d, at, local, touch, op, carried, refl, refl, lends, touched, word))
  at_step K b v (Next.Reply x spare) m is h = absurd is

  pub at_its : (d : CallState T) (c : InCall T) → d.work ≡ work.Calls c → its_call d ≡ c
  at_its d c at = ap (call_of_work nothing_called) at

  -- a call that is to do a step is that of its seat
  pub in_step : (b : InCall T) (v : Option T) (n : Next ℕ) (m : Sitter T (CallState T)) → IsStep n → chain.After b v n m → (d : InCall T) × (m.view.work ≡ work.Calls d) × (d.call ≡ b.call) × (begun_at d ≡ begun_at b) × chain.After d v n m
  in_step b v (Next.Step l t o) m is (xs, (d, at, local, touch, op, carried, call, begun, lends), holds, may) = (d, at, call, begun, (xs, (d, at, local, touch, op, carried, refl, refl, lends), holds, may))
  in_step b v (Next.Reply x spare) m is h = absurd is
