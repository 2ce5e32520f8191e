-- What is owed of each step of a call on a chain.
use Rattle.std.proofs.Common.{ℕ, ◌≡◌, ◌==◌, ◌⊎◌, inl, Option, Some, None, List, [], ◌∷◌, refl}
use Rattle.queue_steps.specs.{State.State, Kinds.filled, Replies.Tells, Replies.Allows, ChainNext.FitsChain, ChainNext.chain_next, Words.is_shut, declared.steps.chain.ChainLocal.ChainLocal as chain}
use Rattle.queue_laws.specs.Common.{Vocabulary.Call, Vocabulary.Reply, Vocabulary.Effect, Vocabulary.Answer, Vocabulary.Next, Vocabulary.ChainLocal, Moments.SeenIn, Effects.Leads, Effects.with_effect, Effects.Whether, Stand.stand}
use Rattle.queue_laws.specs.Chain.{ChainCells.Spare, ChainCells.GivenUp, ChainCells.Chain, ChainCells.queue_of, ChainCells.ChainOk, ChainCells.HoldsOnly, ChainCells.Nothing, ChainPasses.Passes, ChainFacts.IsNamed, ChainFacts.HasSpare, ChainAt.At}
use Rattle.queue_laws.proofs.Chain.ChainPasses.{passes_same}

-- the block that a call gives up is its spare, or a passed one that nobody reads any more
abbrev pub GivesUp : {A : Type 0} → Chain A → ℕ → Option ℕ → Type 0
GivesUp c who None = Unit {0}
GivesUp c who (Some f) = (c.uses f ≡ Spare who) ⊎ ((b : ℕ) × IsNamed c b f × (c.walks b ≡ GivenUp))

-- the call goes on, or ends with a reply that is right, and holds nothing
abbrev pub NextOk : {A : Type 0} → Chain A → ℕ → List (State A) → Next ℕ → Option A → Call A → List (Effect A) → Type 0
NextOk c who ms (Next.Step l t o) v k es = At c who ms (stand l t o v k es)
NextOk {A} c who ms (Next.Reply x spare) v k es =
    HoldsOnly c who Nothing × GivesUp c who spare × ((y : Reply A) × (filled x v ≡ Some y) × Tells k y es × (es ≡ [] → SeenIn ms (Allows k y)))

-- the effect of the step at this local state that got this answer: the exchange of the tail or the head that wins, and the mark on an open tail
abbrev pub IsEffect : {A : Type 0} → ChainLocal ℕ → Answer ℕ → Option (Effect A) → Type 0
IsEffect {A} (chain.Claiming d tail name spare) (Answer.Found found) e = Whether (found == tail) ((v : A) × (e ≡ Some (Effect.Append v))) (e ≡ None)
IsEffect (chain.ClosingAtLimit d spare) (Answer.Found found) e = Whether (is_shut found) (e ≡ None) (e ≡ Some Effect.SelfClose)
IsEffect {A} (chain.Taking head name) (Answer.Found found) e = Whether (found == head) ((x : A) × (e ≡ Some (Effect.Take x))) (e ≡ None)
IsEffect chain.Closing (Answer.Found found) e = Whether (is_shut found) (e ≡ None) (e ≡ Some Effect.Close)
IsEffect l a e = e ≡ None

-- the step that got this answer, after which the chain is s and the call carries v, is a step of the queue that leaves the chain right
pub record StepOk {A : Type 0} (c s : Chain A) (who : ℕ) (ms : List (State A)) (l : ChainLocal ℕ) (v : Option A) (k : Call A) (es : List (Effect A)) (a : Answer ℕ) : Type 0 where
  pub e : Option (Effect A)
  pub told : IsEffect l a e
  pub goes_on : FitsChain l a
  pub ok : ChainOk s
  pub makes : Leads (queue_of c) e (queue_of s)
  pub passes : Passes who c s
  pub goes : NextOk s who (queue_of s ∷ ms) (chain_next l a) v k (with_effect es e)

-- a step that changes nothing
pub still : {A : Type 0} (c : Chain A) (who : ℕ) (ms : List (State A)) (l : ChainLocal ℕ) (v : Option A) (k : Call A) (es : List (Effect A)) (a : Answer ℕ)
    → IsEffect {A = A} l a None → ChainOk c → FitsChain l a → NextOk c who (queue_of c ∷ ms) (chain_next l a) v k es → StepOk c c who ms l v k es a
still c who ms l v k es a told ok fits goes = record { e = None; told = told; goes_on = fits; ok = ok; makes = refl; passes = passes_same c who; goes = goes }

-- a step that changes the chain, and not the queue that it stands for
pub silent : {A : Type 0} (c s : Chain A) (who : ℕ) (ms : List (State A)) (l : ChainLocal ℕ) (v : Option A) (k : Call A) (es : List (Effect A)) (a : Answer ℕ)
    → IsEffect {A = A} l a None → ChainOk s → queue_of s ≡ queue_of c → Passes who c s → FitsChain l a → NextOk s who (queue_of s ∷ ms) (chain_next l a) v k es → StepOk c s who ms l v k es a
silent c s who ms l v k es a told ok same pass fits goes = record { e = None; told = told; goes_on = fits; ok = ok; makes = same; passes = pass; goes = goes }

pub spare_gives : {A : Type 0} (c : Chain A) (who : ℕ) (spare : Option ℕ) → HasSpare c who spare → GivesUp c who spare
spare_gives c who None h = tt
spare_gives c who (Some f) h = inl h.0
