-- Which steps on a chain are those of a pop: a call goes on as the call that it is.
use Rattle.std.proofs.Common.{ℕ, ◌≡◌, Bool, true, false, Option, Some, List, refl, sym, subst}
use Rattle.machine_replay.specs.Vocabulary.{Call, Effect, Local, Next, PushKind, Running, Look}
use Rattle.queue_steps.specs.{State.State, Looks.call_of_look, declared.steps.chain.ChainLocal.ChainLocal as chain}
use Rattle.queue_laws.{specs.Common.Pushes.pushes, specs.Common.Stand.Stand, specs.Chain.ChainCells.Chain, proofs.Chain.ChainRight.NextOkSpares}
use Rattle.queue_laws.specs.Chain.ChainAt.{At, push_tail, push_block, asking, installing, showing, claiming, laying, opening, chaining, writing, spending, count_tail, count_head, count_again}
use Rattle.machine_steps.specs.Steps.{running_after}

-- the steps of a pop
unfoldable pub is_pop : Local ℕ → Bool
is_pop (Local.Chain chain.PopHead) = true
is_pop (Local.Chain (chain.PopBlock head)) = true
is_pop (Local.Chain (chain.PopTail head block)) = true
is_pop (Local.Chain (chain.Taking head block)) = true
is_pop (Local.Chain (chain.Following head block)) = true
is_pop (Local.Chain (chain.Peeking head block after)) = true
is_pop (Local.Chain (chain.Passing head block more)) = true
is_pop (Local.Chain (chain.Entering head block)) = true
is_pop (Local.Chain (chain.Awaiting head block)) = true
is_pop (Local.Chain (chain.Reading block slot)) = true
is_pop (Local.Chain (chain.Walking block slot)) = true
is_pop (Local.Chain (chain.Destroying block slot)) = true
is_pop _ = false

pub is_pop_call : {A : Type 0} → Call A → Bool
is_pop_call Call.Pop = true
is_pop_call _ = false

no_pop : {A : Type 0} (d : PushKind) (v : A) → is_pop_call (pushes d v) ≡ false
unfolding is_pop_call
no_pop PushKind.Push v = refl
no_pop PushKind.Force v = refl

look_no_pop : (A : Type 0) (l : Look) → is_pop_call (call_of_look {T = A} l) ≡ false
unfolding is_pop_call
look_no_pop A Look.Len = refl
look_no_pop A l = refl

pub by_call : {A : Type 0} {c : Chain A} {who : ℕ} {ms : List (State A)} {k : Stand A} → At c who ms k → is_pop k.local ≡ is_pop_call k.call
unfolding is_pop is_pop_call
by_call (push_tail d v spare none spare_is) = sym (no_pop d v)
by_call (push_block d v spare q none spare_is saw) = sym (no_pop d v)
by_call (asking d v q block none saw asked) = sym (no_pop d v)
by_call (installing d v f none saw fresh) = sym (no_pop d v)
by_call (showing d v name first saw is named) = sym (no_pop d v)
by_call (claiming d v q name spare none spare_is saw block enough) = sym (no_pop d v)
by_call (laying d v n name f holds mine lays fresh) = sym (no_pop d v)
by_call (opening d v n name f holds mine opens links named) = sym (no_pop d v)
by_call (chaining d v n name f holds mine links named) = sym (no_pop d v)
by_call (writing d v n name spare holds mine spare_is) = sym (no_pop d v)
by_call (spending d v spare none spare_is spent) = sym (no_pop d v)
by_call {A} (count_tail l count none) = sym (look_no_pop A l)
by_call {A} (count_head l w count none small low) = sym (look_no_pop A l)
by_call {A} (count_again l w h count none small seen) = sym (look_no_pop A l)
by_call x = refl

-- a call goes on as the call that it is
pub goes_as : {A : Type 0} (c : Chain A) (who : ℕ) (ms : List (State A)) (n : Next ℕ) (v : Option A) (k : Call A) (es : List (Effect A)) (x : Running A)
    → running_after n v ≡ Some x → NextOkSpares c who ms n v k es → is_pop x.local ≡ is_pop_call k
goes_as c who ms (Next.Step l t o) v k es x e ends =
    let same : record { local = l; touch = t; op = o; carried = v } ≡ x = cc in
    subst (λ y. is_pop y.local ≡ is_pop_call k) same (by_call ends.0)
goes_as c who ms (Next.Reply y spare) v k es x e ends = cc
