-- The front whose item is on its way in, and the arrive that belongs to it.
use Rattle.std.proofs.Common.{◌≡◌, ℕ, ◌<◌, Option, Some, None, is_some, List, [], ◌∷◌, ◌++◌, refl, arith}
use Rattle.std.specs.List.{AllByRecursion}
use Rattle.queue_steps.specs.{State.State, Effect.made, Effect.after_from}
use Rattle.queue_laws.proofs.Common.TellsAs.{TellsAs, displace, tells_as}
use Rattle.machine_replay.specs.{Vocabulary.Call, Vocabulary.Reply, Vocabulary.Effect, Book.IsBegun, Meaning.Entry, Meaning.effects_in, Meaning.displacing, Meaning.IsArrivalOf, Meaning.FrontsArrive}
use Rattle.machine_replay.proofs.Engine.Calls.{with_reply, unanswered-late}

-- the front whose item is on its way in after the history H
abbrev pub pending : {T : Type 0} → Option (Entry T) → List (Entry T) → Option (Entry T)
pending f [] = f
pending f (x ∷ xs) = pending (displacing f x x.effect) xs

pub pending-append : {T : Type 0} (f : Option (Entry T)) (H : List (Entry T)) (x : Entry T) → pending f (H ++ x ∷ []) ≡ displacing (pending f H) x x.effect
pending-append f [] x = refl
pending-append f (y ∷ H) x = pending-append (displacing f y y.effect) H x

coming-one : {T : Type 0} (Q : State T) (f : Option (Entry T)) (x : Entry T) (e : Effect T) → is_some Q.coming ≡ is_some f → is_some (made e Q).coming ≡ is_some (displacing f x e)
coming-one Q f x (Effect.Front old v) same = refl
coming-one Q f x Effect.Arrive same = refl
coming-one Q f x e same = same

-- an item is on its way in where a front has no arrive yet
pub coming-pending : {T : Type 0} (Q : State T) (f : Option (Entry T)) (H : List (Entry T)) → is_some Q.coming ≡ is_some f → is_some (after_from Q (effects_in H)).coming ≡ is_some (pending f H)
coming-pending Q f [] same = same
coming-pending Q f (x ∷ H) same = coming-pending (made x.effect Q) (displacing f x x.effect) H (coming-one Q f x x.effect same)

arrival-late : {T : Type 0} (n p : ℕ) (r : Option (Reply T)) (R : List (ℕ × ℕ × Reply T)) (f : Option (Entry T)) (x : Entry T) (e : Effect T) → x.event < n → IsArrivalOf R f x e → IsArrivalOf (with_reply n p r R) f x e
arrival-late n p r R None x Effect.Arrive lt h = h
arrival-late n p r R (Some f) x Effect.Arrive lt h = (h.0, unanswered-late n p f.party f.event x.event r R (omega arith) h.1)
arrival-late n p r R f x e lt h = tt

-- a later reply changes nothing
pub arrivals-late : {T : Type 0} (n p : ℕ) (r : Option (Reply T)) (R : List (ℕ × ℕ × Reply T)) (f : Option (Entry T)) (H : List (Entry T)) → AllByRecursion (λ x. x.event < n) H → FrontsArrive R f H → FrontsArrive (with_reply n p r R) f H
arrivals-late n p r R f [] early all = tt
arrivals-late n p r R f (x ∷ H) early all = (arrival-late n p r R f x x.effect early.0 all.0, arrivals-late n p r R (displacing f x x.effect) H early.1 all.1)

pub arrivals-append : {T : Type 0} (R : List (ℕ × ℕ × Reply T)) (f : Option (Entry T)) (H : List (Entry T)) (x : Entry T) → FrontsArrive R f H → IsArrivalOf R (pending f H) x x.effect → FrontsArrive R f (H ++ x ∷ [])
arrivals-append R f [] x all here = (here, tt)
arrivals-append R f (y ∷ H) x all here = (all.0, arrivals-append R (displacing f y y.effect) H x all.1 here)

-- a list of effects of a call in which an arrive stands after these has a front before it
front-before : {T : Type 0} {c : Call T} {r : Reply T} (es more : List (Effect T)) → TellsAs c r ((es ++ Effect.Arrive ∷ []) ++ more) → (old v : T) × (es ≡ Effect.Front old v ∷ [])
front-before (x ∷ []) more (displace old v asked told) = (old, v, refl)
front-before (x ∷ y ∷ []) more t = elim t [ ]
front-before es more t = elim t [ ]

-- a call whose effects go on with an arrive has taken off a front, and nothing else
pub begun-by-front : {T : Type 0} (c : Call T) (es : List (Effect T)) → IsBegun c (es ++ Effect.Arrive ∷ []) → (old v : T) × (es ≡ Effect.Front old v ∷ [])
begun-by-front c es b = front-before es b.1 (tells_as c b.0 ((es ++ Effect.Arrive ∷ []) ++ b.1) b.2)
