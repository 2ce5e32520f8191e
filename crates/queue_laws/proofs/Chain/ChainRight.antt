-- A step of a call on a chain with all that follows it: the block that is given up with a reply, and the spare that is left.
use Rattle.std.proofs.Common.{ℕ, ◌≡◌, Option, Some, None, List, [], ◌∷◌}
use Rattle.queue_steps.specs.{State.State, Kinds.filled, Replies.Tells, Replies.Allows, ChainNext.FitsChain, ChainNext.chain_next}
use Rattle.queue_laws.specs.{Common.Moments.SeenIn, Common.Effects.Leads, Common.Effects.with_effect, Common.Stand.Stand, Common.Stand.stand, Chain.ChainCells.Chain, Chain.ChainCells.queue_of, Chain.ChainCells.ChainOk, Chain.ChainCells.HoldsOnly, Chain.ChainCells.Nothing, Chain.ChainPasses.Passes}
use Rattle.queue_laws.specs.Chain.{ChainPasses.spare_in, ChainPasses.Spares, ChainAt.At, ChainAnswers.Answers, ChainAfter.chain_of, ChainAfter.carried_of, ChainAfter.after_of, ChainAfter.left_by}
use Rattle.queue_laws.specs.Common.Vocabulary.{Call, Reply, Effect, Answer, Next, ChainLocal}
use Rattle.queue_laws.proofs.Chain.{ChainStepOk.GivesUp, ChainStepOk.NextOk, ChainStepOk.IsEffect, ChainStep.step_good, ChainGiven.given_ok, ChainGiven.passes_given, ChainGiven.makes_given, ChainGiven.holds_given, ChainSpares.SparesAfter, ChainSpares.step_spares}

-- what is given up with a reply is the call's to give
abbrev pub Gives : {A : Type 0} → Chain A → ℕ → Next ℕ → Type 0
Gives r who (Next.Step l t o) = Unit {0}
Gives r who (Next.Reply x spare) = GivesUp r who spare

-- the call stands on, with no spare but that in its hands, or it ends with a reply that is right, and its party holds nothing
abbrev pub NextOkSpares : {A : Type 0} → Chain A → ℕ → List (State A) → Next ℕ → Option A → Call A → List (Effect A) → Type 0
NextOkSpares s who ms (Next.Step l t o) v k es = At s who ms (stand l t o v k es) × Spares s who (spare_in l)
NextOkSpares {A} s who ms (Next.Reply x spare) v k es = HoldsOnly s who Nothing × Spares s who None × ((y : Reply A) × (filled x v ≡ Some y) × Tells k y es × (es ≡ [] → SeenIn ms (Allows k y)))

-- the step that got this answer leads from the chain c to r, and a block given up with it from there: it is a step of the queue
pub record Right {A : Type 0} (c r : Chain A) (who : ℕ) (ms : List (State A)) (l : ChainLocal ℕ) (v : Option A) (k : Call A) (es : List (Effect A)) (a : Answer ℕ) : Type 0 where
  pub e : Option (Effect A)
  pub told : IsEffect l a e
  pub goes_on : FitsChain l a
  pub gives : Gives r who (chain_next l a)
  pub ok : ChainOk (left_by r (chain_next l a))
  pub makes : Leads (queue_of c) e (queue_of (left_by r (chain_next l a)))
  pub passes : Passes who c (left_by r (chain_next l a))
  pub ends : NextOkSpares (left_by r (chain_next l a)) who (queue_of (left_by r (chain_next l a)) ∷ ms) (chain_next l a) v k (with_effect es e)

goes_gives : {A : Type 0} (r : Chain A) (who : ℕ) (ms : List (State A)) (n : Next ℕ) (v : Option A) (k : Call A) (es : List (Effect A)) → NextOk r who ms n v k es → Gives r who n
goes_gives r who ms (Next.Step l t o) v k es goes = tt
goes_gives r who ms (Next.Reply x spare) v k es goes = goes.1

left_ok : {A : Type 0} (r : Chain A) (n : Next ℕ) → ChainOk r → ChainOk (left_by r n)
left_ok r (Next.Step l t o) ok = ok
left_ok r (Next.Reply x spare) ok = given_ok r spare ok

left_makes : {A : Type 0} (c r : Chain A) (n : Next ℕ) (e : Option (Effect A)) → Leads (queue_of c) e (queue_of r) → Leads (queue_of c) e (queue_of (left_by r n))
left_makes c r (Next.Step l t o) e h = h
left_makes c r (Next.Reply x spare) e h = makes_given c r spare e h

left_passes : {A : Type 0} (c r : Chain A) (who : ℕ) (n : Next ℕ) → ChainOk r → Gives r who n → Passes who c r → Passes who c (left_by r n)
left_passes c r who (Next.Step l t o) ok gives pass = pass
left_passes c r who (Next.Reply x spare) ok gives pass = passes_given c r who spare ok gives pass

left_ends : {A : Type 0} (r : Chain A) (who : ℕ) (ms : List (State A)) (n : Next ℕ) (v : Option A) (k : Call A) (es : List (Effect A))
    → NextOk r who (queue_of r ∷ ms) n v k es → SparesAfter r who n → NextOkSpares (left_by r n) who (queue_of (left_by r n) ∷ ms) n v k es
left_ends r who ms (Next.Step l t o) v k es goes only = (goes, only)
left_ends r who ms (Next.Reply x None) v k es goes only = (goes.0, only, goes.2)
left_ends r who ms (Next.Reply x (Some f)) v k es goes only = (holds_given r who (Some f) Nothing goes.0, only, goes.2)

-- each step of a call is right, wherever the call stands
pub step_right : {A : Type 0} {c : Chain A} {who : ℕ} {ms : List (State A)} {k : Stand A} (at : At c who ms k) (a : Answer ℕ)
    → ChainOk c → Answers c k.op a → Spares c who (spare_in k.local) → Right c (after_of at a) who ms (chain_of k.local) (carried_of at) k.call k.effects a
step_right {c = c} {who = who} {ms = ms} {k = k} at a ok found only =
    let good = step_good at a ok found in
    let r = after_of at a in
    let n = chain_next (chain_of k.local) a in
    let v = carried_of at in
    let gives = goes_gives r who (queue_of r ∷ ms) n v k.call (with_effect k.effects good.e) good.goes in
    record {
      e = good.e;
      told = good.told;
      goes_on = good.goes_on;
      gives = gives;
      ok = left_ok r n good.ok;
      makes = left_makes c r n good.e good.makes;
      passes = left_passes c r who n good.ok gives good.passes;
      ends = left_ends r who ms n v k.call (with_effect k.effects good.e) good.goes (step_spares at a ok found only);
    }
