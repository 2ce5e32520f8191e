-- All calls on their way on a shared queue, and what one of their steps tells its seat, whatever the queue is made of.
use Rattle.std.specs.Prelude.{◌≡◌, ◌⊎◌, ℕ, false, List, [], map, Option, Some}
use mathlib.Core.Option.{some}
use lib.ListN.{get_elem?}
use Rattle.queue_laws.specs.Common.Vocabulary.{Reply, Effect, Next}
use Rattle.queue_steps.specs.{Effect.after, Kinds.call_value, Kinds.filled, Parties.View, Parties.SharedCall}
use Rattle.shared_parties.specs.{declared.known.CallState.CallState, declared.known.InCall.InCall, declared.known.Work.Work as work, Known.party, Known.view_of, Known.Kept, Calling.CallsOf, Calling.cap_of, Calling.Standing, Calling.first_of}
use Rattle.shared_parties.specs.CallStates.{is_busy, known_by, idle, IsResting, HasAll}

-- The cells are those of the state after the one history h. Each call stands at them where the laws of its kind have it, and whoever is at nothing has no part in
-- them. What the seats know is true of the history, and n counts the parties
pub record CallsAt {T : Type 0} (K : CallsOf T) (g : K.Cells) (h : List (Effect T)) (n : ℕ) (views : List (CallState T)) : Type 0 where
  pub ok : K.Ok g
  pub state : K.queue_of g ≡ after (cap_of K) h
  pub calls : (j : ℕ) (d : CallState T) (c : InCall T) → get_elem? views j ≡ some d → d.work ≡ work.Calls c → Standing K g h j d.known c
  pub free : (j : ℕ) → ((d : CallState T) → get_elem? views j ≡ some d → is_busy d.work ≡ false) → K.Idle g j
  pub kept : Kept (cap_of K) h n (map known_by views)

-- the call is about to take its first step
pub record IsFirst {T : Type 0} (K : CallsOf T) (d : CallState T) (c : InCall T) : Type 0 where
  pub rests : d ≡ idle (party (cap_of K) d.known.seen d.known.mine d.known.share)
  pub since : c.since ≡ d.known.seen
  pub before : c.before ≡ d.known.mine
  pub share : c.share ≡ d.known.share
  pub effects : c.effects ≡ []
  pub places : c.places ≡ []
  pub lends : c.lends ≡ []
  pub carried : c.carried ≡ call_value c.call
  pub step : first_of K.kind c.call ≡ Next.Step c.local c.touch c.op

-- the seat is at the call c
abbrev pub Ready : {T : Type 0} → CallsOf T → CallState T → InCall T → Type 0
Ready K d c = (d.work ≡ work.Calls c) ⊎ IsFirst K d c

-- what the party of a call had seen and done when it began
abbrev pub begun_at : {T : Type 0} → InCall T → View T
begun_at c = record { seen = c.since; mine = c.before; share = c.share }

-- what the call's step tells: it is at its next step, with v carried and the slots xs; or it ended as a shared call, with no slot
abbrev pub Told : {T : Type 0} → CallsOf T → InCall T → Option T → List (ℕ × Option T) → Next ℕ → CallState T → Type 0
Told {T} K c v xs (Next.Step l t o) w = (d : InCall T) × (w.work ≡ work.Calls d) × (d.local ≡ l) × (d.touch ≡ t) × (d.op ≡ o) × (d.carried ≡ v) × (d.call ≡ c.call) × (begun_at d ≡ begun_at c) × (d.lends ≡ xs)
Told {T} K c v xs (Next.Reply x spare) w =
    K.Gives spare × (xs ≡ []) × ((y : Reply T) × (filled x v ≡ Some y) × IsResting w × (w.known.cap ≡ cap_of K) × HasAll w × SharedCall (cap_of K) (begun_at c) (view_of w.known) c.call y)
