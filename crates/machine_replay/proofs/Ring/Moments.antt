-- What a step of a call on a ring is in the book: its effects begin those of a reply, and its effect moves the queue.
use Rattle.std.proofs.Common.{ℕ, ◌+◌, ◌≡◌, ◌==◌, inr, Bool, true, false, if◌then◌else◌, Option, Some, None, Ok, List, [], ◌∷◌, refl}
use Rattle.queue_steps.specs.{State.State, Words.position_of, Words.is_shut, declared.steps.ring.RingLocal.RingLocal as ring}
use Rattle.machine_replay.specs.{Vocabulary.Reply, Vocabulary.Effect, Vocabulary.Kind, Vocabulary.Answer, Vocabulary.Local, Vocabulary.EffectKind, Book.IsBegun, Book.Open, Book.Moves}
use Rattle.queue_laws.specs.{Common.Effects.Leads, Common.Effects.Whether, Common.Effects.with_effect, Common.Stand.Stand, Ring.RingCells.Ring, Ring.RingAt.At, Ring.RingAt.filling, Ring.RingAt.arriving, Ring.RingAt.swapping, Ring.RingAt.emptying}
use Rattle.queue_laws.proofs.Ring.RingStepOk.{IsEffect}
use Rattle.machine_memory.specs.EffectOf.{effect_of}
use Rattle.machine_replay.proofs.Engine.{Moments.begun_none, Moments.begun_append, Moving.no_move, Moving.moved, Moving.won, Moving.marked, Moving.appends, Moving.takes}

-- the effects of a call in progress begin those of some reply
pub ring_begun : {A : Type 0} {cap : ℕ} {r : Ring A} {who : ℕ} {ms : List (State A)} {was : Bool} {c : Stand A}
    → At cap r who ms was c → IsBegun c.call c.effects
ring_begun (filling d v q one) = begun_append d v
ring_begun (arriving old v t h below e one) = (Reply.ForcePush (Ok (Some old)), Effect.Arrive ∷ [], inr refl)
ring_begun (swapping old v h one) = (Reply.ForcePush (Ok (Some old)), [], inr refl)
ring_begun (emptying x h one) = (Reply.Pop (Ok x), [], refl)
ring_begun {c = c} x = begun_none c.call

-- the exchange of the head that wins takes the front off, by a call that saw the queue open
fronts : {A : Type 0} (Q R S : State A) (o : Open A) (e : Option (Effect A)) (b : Bool) → Q ≡ R → Whether b ((x : A × A) × (e ≡ Some (Effect.Front x.0 x.1)) × (o.was_open ≡ true)) (e ≡ None) → Leads R e S
    → Moves Q o (if b then Some EffectKind.Front else None) S (with_effect o.effects e)
fronts Q R S o e true is h makes = moved Q R S o e (Effect.Front h.0.0 h.0.1) EffectKind.Front is h.1 refl h.2 makes
fronts Q R S o e false is h makes = no_move Q R S o e is h makes

-- the effect that is told of a step moves the queue
pub ring_moves : {A : Type 0} (cap : ℕ) (Q R S : State A) (o : Open A) (l : Local ℕ) (a : Answer ℕ) (e : Option (Effect A)) → Q ≡ R → IsEffect cap o.was_open l a e → Leads R e S
    → Moves Q o (effect_of (Kind.Bounded cap) l a) S (with_effect o.effects e)
ring_moves cap Q R S o (Local.Ring (ring.Claiming d tail)) (Answer.Found found) e is h makes = won Q R S o e EffectKind.Append (found == tail) is tt (appends (found == tail) e h) makes
ring_moves cap Q R S o (Local.Ring (ring.Displacing tail)) (Answer.Found found) e is h makes = fronts Q R S o e (found + cap == position_of tail) is h makes
ring_moves cap Q R S o (Local.Ring (ring.Arriving tail)) (Answer.Found found) e is h makes = moved Q R S o e Effect.Arrive EffectKind.Arrive is h refl tt makes
ring_moves cap Q R S o (Local.Ring (ring.ClosingAtLimit d)) (Answer.Found found) e is h makes = marked Q R S o e Effect.SelfClose EffectKind.SelfClose (is_shut found) is refl tt h makes
ring_moves cap Q R S o (Local.Ring (ring.Taking head)) (Answer.Found found) e is h makes = won Q R S o e EffectKind.Take (found == head) is tt (takes (found == head) e h) makes
ring_moves cap Q R S o (Local.Ring ring.Closing) (Answer.Found found) e is h makes = marked Q R S o e Effect.Close EffectKind.Close (is_shut found) is refl tt h makes
ring_moves cap Q R S o (Local.Ring _) (Answer.Found found) e is h makes = no_move Q R S o e is h makes
ring_moves cap Q R S o (Local.Ring _) _ e is h makes = no_move Q R S o e is h makes
ring_moves cap Q R S o _ a e is h makes = absurd h
