-- The moments of a call and the effects that it begins with, for rings and chains alike.
use Rattle.std.proofs.Common.{suc, ◌≡◌, false, inl, inr, None, Ok, List, [], ◌∷◌, refl, arith}
use Rattle.std.specs.List.{Any}
use Rattle.queue_steps.specs.{State.State, State.start, Sequential.sequential_reply}
use Rattle.machine_replay.specs.{Vocabulary.Call, Vocabulary.Reply, Vocabulary.Effect, Vocabulary.PushKind, Book.IsBegun, Book.seen_by}
use Rattle.queue_laws.specs.Common.Moments as laws
use Rattle.queue_laws.specs.Common.{Moments.SeenIn, Pushes.pushes}

-- what was so at some moment is so at one of them
pub any_in : {A : Type 0} (ms : List (State A)) (P R : State A → Type 0) → ((m : State A) → P m → R m) → SeenIn ms P → Any R ms
any_in [] P R f seen = absurd seen
any_in (m ∷ ms) P R f (inl p) = (0, m, omega arith, refl, f m p)
any_in (m ∷ ms) P R f (inr seen) = let a = any_in ms P R f seen in (suc a.0, a.1, omega arith, a.3, a.4)

-- the moments with one more, in the words of the laws and of the book
pub same_moments : {A : Type 0} (q : State A) (ms : List (State A)) → laws.seen_by q ms ≡ seen_by q ms
same_moments q [] = refl
same_moments q (m ∷ ms) = refl

-- no effect begins the effects of every call
pub begun_none : {A : Type 0} (c : Call A) → IsBegun c []
begun_none (Call.Push v) = (Reply.Push (Ok tt), Effect.Append v ∷ [], refl)
begun_none (Call.ForcePush v) = (Reply.ForcePush (Ok None), Effect.Append v ∷ [], refl)
begun_none Call.Close = (Reply.Close false, [], refl)
begun_none c = (sequential_reply (start None 0) c, [], refl)

-- what a push has appended are the effects of a push
pub begun_append : {A : Type 0} (d : PushKind) (v : A) → IsBegun (pushes d v) (Effect.Append v ∷ [])
begun_append PushKind.Push v = (Reply.Push (Ok tt), [], refl)
begun_append PushKind.Force v = (Reply.ForcePush (Ok None), [], refl)
