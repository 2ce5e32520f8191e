-- What a step of a call on one slot is in the book: its effects begin those of a reply, and its effect moves the queue.
use Rattle.std.proofs.Common.{ℕ, ◌≡◌, ◌==◌, inl, Bool, true, false, if◌then◌else◌, Option, Some, None, Ok, [], refl}
use Rattle.queue_steps.specs.{State.State, SlotNext.is_marked, declared.steps.slot.SlotLocal.TheVariants.Pushing, declared.steps.slot.SlotLocal.TheVariants.Forcing, declared.steps.slot.SlotLocal.TheVariants.Popping, declared.steps.slot.SlotLocal.TheVariants.Closing}
use Rattle.machine_replay.specs.{Vocabulary.Reply, Vocabulary.Effect, Vocabulary.Kind, Vocabulary.Answer, Vocabulary.Local, Vocabulary.PushKind, Vocabulary.EffectKind, Book.IsBegun, Book.Open, Book.Moves}
use Rattle.queue_laws.specs.{Common.Effects.Leads, Common.Effects.with_effect, Common.Effects.Whether, Common.Stand.Stand, Slot.SlotHolder.SlotHolder}
use Rattle.queue_laws.specs.Slot.SlotRows.{At, push_put, force_put_empty, force_put_full, pop_take, IsEffect}
use Rattle.machine_memory.specs.EffectOf.{effect_of}
use Rattle.machine_replay.proofs.Engine.{Moments.begun_none, Moments.begun_append, Moving.no_move, Moving.moved, Moving.won, Moving.marked, Moving.appends, Moving.takes}

-- the effects of a call in progress begin those of some reply
pub slot_begun : {T : Type 0} {c : Stand T} {own : SlotHolder T} → At c own → IsBegun c.call c.effects
slot_begun (push_put v) = begun_append PushKind.Push v
slot_begun (force_put_empty v) = begun_append PushKind.Force v
slot_begun (force_put_full old v) = (Reply.ForcePush (Ok (Some old)), [], inl refl)
slot_begun (pop_take x) = (Reply.Pop (Ok x), [], refl)
slot_begun {c = c} x = begun_none c.call

-- the exchange of a push by force that wins appends, or replaces the item that it saw
forces : {T : Type 0} (Q R S : State T) (o : Open T) (e : Option (Effect T)) (shut same empty : Bool) → Q ≡ R
    → Whether shut (e ≡ None) (Whether same (Whether empty ((v : T) × (e ≡ Some (Effect.Append v))) ((x : T × T) × (e ≡ Some (Effect.Replace x.0 x.1)))) (e ≡ None)) → Leads R e S
    → Moves Q o (if shut then None else (if same then (if empty then Some EffectKind.Append else Some EffectKind.Replace) else None)) S (with_effect o.effects e)
forces Q R S o e false true true is h makes = moved Q R S o e (Effect.Append h.0) EffectKind.Append is h.1 refl tt makes
forces Q R S o e false true false is h makes = moved Q R S o e (Effect.Replace h.0.0 h.0.1) EffectKind.Replace is h.1 refl tt makes
forces Q R S o e shut same empty is h makes = no_move Q R S o e is h makes

-- the effect that is told of a step moves the queue
pub slot_moves : {T : Type 0} (Q R S : State T) (o : Open T) (l : Local ℕ) (a : Answer ℕ) (e : Option (Effect T)) → Q ≡ R → IsEffect l a e → Leads R e S
    → Moves Q o (effect_of Kind.Single l a) S (with_effect o.effects e)
slot_moves Q R S o (Local.Slot Pushing) (Answer.Found found) e is h makes = won Q R S o e EffectKind.Append (found == 0) is tt (appends (found == 0) e h) makes
slot_moves Q R S o (Local.Slot (Forcing seen)) (Answer.Found found) e is h makes = forces Q R S o e (is_marked found) (found == seen) (seen == 0) is h makes
slot_moves Q R S o (Local.Slot (Popping seen)) (Answer.Found found) e is h makes = won Q R S o e EffectKind.Take (found == seen) is tt (takes (found == seen) e h) makes
slot_moves Q R S o (Local.Slot Closing) (Answer.Found found) e is h makes = marked Q R S o e Effect.Close EffectKind.Close (is_marked found) is refl tt h makes
slot_moves Q R S o (Local.Slot _) (Answer.Found found) e is h makes = no_move Q R S o e is h makes
slot_moves Q R S o (Local.Slot _) _ e is h makes = no_move Q R S o e is h makes
slot_moves Q R S o _ a e is h makes = absurd h
