-- What a step of a call on a chain is in the book: its effects begin those of a reply, its effect moves the queue, and its reply is right at a moment.
use Rattle.std.proofs.Common.{ℕ, ◌≡◌, ◌==◌, Option, Ok, List, [], refl}
use Rattle.std.specs.List.{Any}
use Rattle.queue_steps.specs.{State.State, Words.is_shut, declared.steps.chain.ChainLocal.ChainLocal as chain}
use Rattle.machine_replay.specs.{Vocabulary.Call, Vocabulary.Reply, Vocabulary.Effect, Vocabulary.Kind, Vocabulary.Answer, Vocabulary.Local, Vocabulary.ChainLocal, Vocabulary.EffectKind, Book.Open, Book.Moves, Book.Allows, Book.IsBegun}
use Rattle.queue_laws.specs.{Common.Moments.SeenIn, Common.Effects.Leads, Common.Effects.with_effect, Common.Stand.Stand, Chain.ChainCells.Chain, Chain.ChainCells.queue_of}
use Rattle.queue_laws.specs.Chain.ChainAt.{At, laying, opening, chaining, writing, following, peeking, passing, entering, awaiting, reading, beginning, walking, destroying}
use Rattle.queue_laws.proofs.Chain.ChainStepOk.{IsEffect}
use Rattle.machine_memory.specs.EffectOf.{effect_of}
use Rattle.machine_replay.proofs.Engine.{Moments.any_in, Moments.begun_none, Moments.begun_append, Moving.no_move, Moving.won, Moving.marked, Moving.appends, Moving.takes}

-- the effects of a call in progress begin those of some reply
pub chain_begun : {A : Type 0} {c : Chain A} {who : ℕ} {ms : List (State A)} {k : Stand A} → At c who ms k → IsBegun k.call k.effects
chain_begun (laying d x n name f holds mine lays fresh) = begun_append d x
chain_begun (opening d x n name f holds mine opens links named) = begun_append d x
chain_begun (chaining d x n name f holds mine links named) = begun_append d x
chain_begun (writing d x n name spare holds mine spare_is) = begun_append d x
chain_begun (following x n name more holds got pass) = (Reply.Pop (Ok x), [], refl)
chain_begun (peeking x n name after more holds got pass behind) = (Reply.Pop (Ok x), [], refl)
chain_begun (passing x n name after more further holds got pass behind room) = (Reply.Pop (Ok x), [], refl)
chain_begun (entering x n name more further holds got enters room) = (Reply.Pop (Ok x), [], refl)
chain_begun (awaiting x n name more holds got) = (Reply.Pop (Ok x), [], refl)
chain_begun (reading x n name more holds got wrote inner) = (Reply.Pop (Ok x), [], refl)
chain_begun (beginning x n name more holds got wrote last) = (Reply.Pop (Ok x), [], refl)
chain_begun (walking x b name slot holds is named) = (Reply.Pop (Ok x), [], refl)
chain_begun (destroying x b name slot holds is named) = (Reply.Pop (Ok x), [], refl)
chain_begun {k = k} x = begun_none k.call

pub allowed_in : {A : Type 0} (k : Call A) (y : Reply A) (ms : List (State A)) → SeenIn ms (Allows k y) → Any (Allows k y) ms
allowed_in k y ms seen = any_in ms (Allows k y) (Allows k y) (λ m right. right) seen

-- the effect that is told of a step moves the queue
pub chain_moves : {A : Type 0} (Q : State A) (c s : Chain A) (o : Open A) (l : ChainLocal ℕ) (a : Answer ℕ) (e : Option (Effect A)) → Q ≡ queue_of c → IsEffect l a e → Leads (queue_of c) e (queue_of s)
    → Moves Q o (effect_of Kind.Unbounded (Local.Chain l) a) (queue_of s) (with_effect o.effects e)
chain_moves Q c s o (chain.Claiming d tail name spare) (Answer.Found found) e is h makes = won Q (queue_of c) (queue_of s) o e EffectKind.Append (found == tail) is tt (appends (found == tail) e h) makes
chain_moves Q c s o (chain.ClosingAtLimit d spare) (Answer.Found found) e is h makes = marked Q (queue_of c) (queue_of s) o e Effect.SelfClose EffectKind.SelfClose (is_shut found) is refl tt h makes
chain_moves Q c s o (chain.Taking head name) (Answer.Found found) e is h makes = won Q (queue_of c) (queue_of s) o e EffectKind.Take (found == head) is tt (takes (found == head) e h) makes
chain_moves Q c s o chain.Closing (Answer.Found found) e is h makes = marked Q (queue_of c) (queue_of s) o e Effect.Close EffectKind.Close (is_shut found) is refl tt h makes
chain_moves Q c s o _ (Answer.Found found) e is h makes = no_move Q (queue_of c) (queue_of s) o e is h makes
chain_moves Q c s o _ a e is h makes = no_move Q (queue_of c) (queue_of s) o e is h makes
