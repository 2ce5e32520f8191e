-- The driver's laws for what a seat and a queue show are laws for the seat and the queue.
use Rattle.std.specs.Prelude.{ℕ, Option, Some, None}
use Rattle.queue_steps.specs.declared.{model.Call.Call, model.Reply.Reply, steps.types.Answer.Answer, steps.types.Next.Next, steps.types.Next.Next as next, steps.types.Op.Op, steps.types.Touch.Touch, steps.types.Local.Local}
use Rattle.std.proofs.Common.{ap}
use Rattle.call_driver.specs.Leads.{Leads}

module _ {T B M N R S : Type 0} (can : N → R → Call Unit → Local B → Touch → Op B → Option T → Type 0) (does : N → R → Call Unit → Local B → Touch → Op B → Option T → Answer B → R → Option T → Type 0)
    (spares : N → R → B → Type 0) (gives : N → R → B → R → Type 0)
    (stands : ℕ → N → R → Call T → Local B → Answer B → R → Option T → Type 0) (ended : N → R → Call T → Reply T → R → Type 0)
    (f : M → N) (g : S → R) where
  -- what leads on for what a seat and a queue show leads on for them
  pub leads-through : (n : ℕ) (m : M) (first s : S) (c : Call T) (todo : Next B) (x : Option T) → Leads can does spares gives stands ended n (f m) (g first) c todo (g s) x
      → Leads {M = M} {S = S} (λ n r. can (f n) (g r)) (λ n r k l u o y a q. does (f n) (g r) k l u o y a (g q)) (λ n r. spares (f n) (g r)) (λ n r b q. gives (f n) (g r) b (g q)) (λ i n r k l a q. stands i (f n) (g r) k l a (g q)) (λ n r k y q. ended (f n) (g r) k y (g q)) n m first c todo s x
  leads-through n m first s c (next.Reply r None) x h = (tt, λ after same. h.1 (g after) (ap g same))
  leads-through n m first s c (next.Reply r (Some block)) x h = (h.0, λ after gift. h.1 (g after) gift)
  leads-through n m first s c (next.Step l t o) x h = (h.0, λ a after left did. h.1 a (g after) left did)
