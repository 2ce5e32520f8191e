-- What a party has done, as the effects at its own places tell.
use Rattle.std.specs.Prelude.{◌≡◌, ℕ, ◌+◌, ◌==◌, Bool, true, false, List}
use Rattle.std.specs.List.{count_by}
use mathlib.Core.{Option.Option, Option.none, Option.some, List.IsPrefix}
use lib.ListN.{get_elem?}
use Rattle.queue_steps.specs.{declared.model.Effect.Effect, declared.model.Effect.Effect as effect, Effect.after, Parties.View}
use Rattle.queue_laws.specs.History.Histories.{IsDrained}
use Rattle.concurrent_queue.specs.Shared.{PartyView}

abbrev pub passes : {T : Type 0} → (Effect T → Bool) → Option (Effect T) → Bool
passes test none = false
passes test (some e) = test e

-- at how many of the party's own places an effect stands that passes the test
abbrev pub done_by : {T : Type 0} → (Effect T → Bool) → View T → ℕ
done_by test v = count_by (λ p. passes test (get_elem? v.seen p)) v.mine

abbrev pub is_take : ℕ → Effect ℕ → Bool
is_take x (effect.Take y) = y == x
is_take x e = false

abbrev pub is_append : ℕ → Effect ℕ → Bool
is_append x (effect.Append y) = y == x
is_append x e = false

-- the effect hands such an item in: it is appended, takes another's place, or is on its way in
abbrev pub hands_in_such : {T : Type 0} → (T → Bool) → Effect T → Bool
hands_in_such such (effect.Append v) = such v
hands_in_such such (effect.Replace old v) = such v
hands_in_such such (effect.Front old v) = such v
hands_in_such such e = false

-- the effect hands such an item out: it is taken, or displaced
abbrev pub hands_out_such : {T : Type 0} → (T → Bool) → Effect T → Bool
hands_out_such such (effect.Take v) = such v
hands_out_such such (effect.Replace old v) = such old
hands_out_such such (effect.Front old v) = such old
hands_out_such such e = false

-- the effect hands this number in, and out
abbrev pub hands_in : ℕ → Effect ℕ → Bool
hands_in x = hands_in_such (λ v. v == x)

abbrev pub hands_out : ℕ → Effect ℕ → Bool
hands_out x = hands_out_such (λ v. v == x)

-- how often the party took the value
abbrev pub takes : ℕ → View ℕ → ℕ
takes x v = done_by (is_take x) v

-- how often the party appended the value
abbrev pub appends : ℕ → View ℕ → ℕ
appends x v = done_by (is_append x) v

-- from v to w the party did these, whatever is counted of them
abbrev pub Did : {T : Type 0} → View T → View T → List (Effect T) → Type 0
Did {T} v w es = (test : Effect T → Bool) → done_by test w ≡ done_by test v + count_by test es

-- the party, which is the queue's as before and has its share, did these
pub record Acts {T : Type 0} (v w : PartyView T) (es : List (Effect T)) : Type 0 where
  pub queue : w.queue ≡ v.queue
  pub share : w.view.share ≡ v.view.share
  pub did : Did v.view w.view es

-- the party has seen the queue closed
abbrev pub SawClosed : {T : Type 0} → PartyView T → Type 0
SawClosed p = (after p.queue.cap p.view.seen).closed ≡ true

-- the party has seen the queue closed and empty
abbrev pub SawDrained : {T : Type 0} → PartyView T → Type 0
SawDrained {T} p = (h : List (Effect T)) × IsPrefix h p.view.seen × IsDrained (after p.queue.cap h)
