-- Who can make a call wait: where a party stands in a run, and how soon a call replies that nobody hinders.
use Rattle.std.specs.Prelude.{◌≡◌, ◌≢◌, ℕ, ◌+◌, ◌*◌, ◌<◌, ◌==◌, Bool, true, false, if◌then◌else◌, Option, Some, None, IsSome, List, [], ◌∷◌, count_by}
use Rattle.machine_replay.specs.Vocabulary.{Reply, Kind, Local, BLOCK_SLOTS, Event, Told, EffectKind, Step, Skipped, Ran, Running}
use Rattle.queue_steps.specs.declared.steps.chain.ChainLocal.{ChainLocal as chain}
use Rattle.machine_replay.specs.{Conforms.capacity_of, Conforms.party_of, Played.told_of, Played.world_after, Replays.CanReplay, Replays.is_too_large, Within.is_step_of}
use Rattle.machine_steps.specs.{Left.opening_world, World.World, World.call_at}
use Rattle.machine_memory.specs.SharedMemory.{MemoryState}

-- a party is between calls, in a call that has had no effect, or in one that has had an effect and has not replied
pub data Standing : Type 0 where
  Between : Standing
  Undone : Standing
  HalfDone : Standing

-- where a party stands after an event of its own, of which this was told
abbrev pub stands_after : {T : Type 0} → Standing → Told T → Standing
stands_after x Skipped = x
stands_after x (Ran k (Some r)) = Between
stands_after x (Ran (Some k) None) = HalfDone
stands_after Between (Ran None None) = Undone
stands_after x (Ran None None) = x

-- where it stands after an event of any party
abbrev pub stands_then : {T : Type 0} → ℕ → Standing → Event T → Told T → Standing
stands_then p x e t = if party_of e == p then stands_after x t else x

-- where it stands after these events, of which this was told
abbrev pub stands_by : {T : Type 0} → ℕ → Standing → List (Event T) → List (Told T) → Standing
stands_by p x [] ts = x
stands_by p x (e ∷ es) [] = x
stands_by p x (e ∷ es) (t ∷ ts) = stands_by p (stands_then p x e t) es ts

-- where party p stands after these events of a run from the empty open queue
abbrev pub standing : {T : Type 0} → Kind → ℕ → ℕ → List (Event T) → Standing
standing k parties p past = stands_by p Between past (told_of k (opening_world k parties) past)

abbrev pub effect_told : {T : Type 0} → Told T → Option EffectKind
effect_told Skipped = None
effect_told (Ran k r) = k

abbrev pub reply_told : {T : Type 0} → Told T → Option (Reply T)
reply_told Skipped = None
reply_told (Ran k r) = r

-- in these events the party gets no reply, and no other party has an effect
abbrev pub IsLeftToIt : {T : Type 0} → ℕ → List (Event T) → List (Told T) → Type 0
IsLeftToIt p [] ts = Unit {0}
IsLeftToIt p (e ∷ es) [] = Unit {0}
IsLeftToIt p (e ∷ es) (t ∷ ts) = (party_of e ≡ p → reply_told t ≡ None) × (party_of e ≢ p → effect_told t ≡ None) × IsLeftToIt p es ts

-- a push has installed a chain's first block and not shown it to the poppers, U4b
abbrev pub IsToShow : Local ℕ → Type 0
IsToShow (Local.Chain (chain.Showing d tail block)) = Unit {0}
IsToShow _ = ⊥

-- on a chain, no other party's call is there
abbrev pub NobodyShows : {T : Type 0} → Kind → World (MemoryState T) (Running T) → ℕ → Type 0
NobodyShows {T} Kind.Unbounded w p = (q : ℕ) (r : Running T) → q ≢ p → call_at w q ≡ Some r → IsToShow r.local → ⊥
NobodyShows {T} _ w p = Unit {0}

-- how many steps a call takes at most while nobody hinders it: of a chain it may walk over a block
abbrev pub unhindered_steps : Kind → ℕ
unhindered_steps Kind.Single = 3
unhindered_steps (Kind.Bounded n) = 6
unhindered_steps Kind.Unbounded = BLOCK_SLOTS + 10

-- Of a run, and a stretch of it: where at its beginning a party is in a call and no other party is half done, or to show a
-- chain's first block, and in the stretch the party gets no reply and no other party has an effect, there the party takes fewer steps than this. So among this many steps of a call that
-- has not replied, another party has an effect, or was half done at the first, or to show the first block.
abbrev pub UnhinderedWithin : Type 0 → Kind → ℕ → Type 0
UnhinderedWithin T k most = (parties p : ℕ) (past stretch : List (Event T)) → NobodyShows k (world_after k (opening_world k parties) past) p
    → standing k parties p past ≢ Between → ((q : ℕ) → q ≢ p → standing k parties q past ≢ HalfDone)
    → IsLeftToIt p stretch (told_of k (world_after k (opening_world k parties) past) stretch) → count_by (is_step_of p) stretch < most

abbrev pub UnhinderedCallsReply : Type 0 → Type 0
UnhinderedCallsReply T = (k : Kind) → CanReplay k → is_too_large k ≡ false → UnhinderedWithin T k (unhindered_steps k)

-- what is told of an event by which no call comes to be in progress: it is skipped, or a call without steps replies where it begins
abbrev pub BeginsNone : {T : Type 0} → Told T → Type 0
BeginsNone Skipped = Unit {0}
BeginsNone (Ran None (Some r)) = Unit {0}
BeginsNone _ = ⊥

-- in these events the party gets no reply, and no other party comes to be in a call
abbrev pub IsAloneIn : {T : Type 0} → ℕ → List (Event T) → List (Told T) → Type 0
IsAloneIn p [] ts = Unit {0}
IsAloneIn p (e ∷ es) [] = Unit {0}
IsAloneIn p (e ∷ es) (t ∷ ts) = (party_of e ≡ p → reply_told t ≡ None) × (party_of e ≢ p → BeginsNone t) × IsAloneIn p es ts

-- a party that is in a call, while every other is between calls, and comes to be in none, takes fewer steps than this before it gets a reply
abbrev pub AloneWithin : Type 0 → Kind → ℕ → Type 0
AloneWithin T k most = (parties p : ℕ) (past stretch : List (Event T)) → standing k parties p past ≢ Between → ((q : ℕ) → q ≢ p → standing k parties q past ≡ Between)
    → IsAloneIn p stretch (told_of k (world_after k (opening_world k parties) past) stretch) → count_by (is_step_of p) stretch < most

abbrev pub RunsAloneReply : Type 0 → Type 0
RunsAloneReply T = (k : Kind) → CanReplay k → is_too_large k ≡ false → AloneWithin T k (unhindered_steps k)

-- no step of a half-done call is without an effect and without its reply
abbrev pub NeverWaits : Type 0 → Kind → Type 0
NeverWaits T k = (parties p : ℕ) (past : List (Event T)) (granted : Bool) → standing k parties p past ≡ HalfDone
    → told_of k (world_after k (opening_world k parties) past) (Step p granted ∷ []) ≡ Ran None None ∷ [] → ⊥

-- so it is on a queue with a capacity
abbrev pub HalfDoneNeverWaits : Type 0 → Type 0
HalfDoneNeverWaits T = (k : Kind) → CanReplay k → is_too_large k ≡ false → IsSome (capacity_of k) → NeverWaits T k

-- nobody has an effect, and nobody gets a reply
abbrev pub IsSilent : {T : Type 0} → List (Told T) → Type 0
IsSilent [] = Unit {0}
IsSilent (t ∷ ts) = (effect_told t ≡ None) × (reply_told t ≡ None) × IsSilent ts

-- in a silent stretch a party that is half done at its beginning takes no step
abbrev pub HalfDoneTakesNone : Type 0 → Kind → Type 0
HalfDoneTakesNone T k = (parties q : ℕ) (past stretch : List (Event T)) → IsSilent (told_of k (world_after k (opening_world k parties) past) stretch)
    → standing k parties q past ≡ HalfDone → count_by (is_step_of q) stretch ≡ 0

-- in a silent stretch at whose beginning nobody is half done, and no other party to show a chain's first block, each call takes fewer steps than this
abbrev pub SilentCallsTakeFew : Type 0 → Kind → ℕ → Type 0
SilentCallsTakeFew T k most = (parties p : ℕ) (past stretch : List (Event T)) → NobodyShows k (world_after k (opening_world k parties) past) p
    → IsSilent (told_of k (world_after k (opening_world k parties) past) stretch) → ((q : ℕ) → standing k parties q past ≢ HalfDone)
    → standing k parties p past ≢ Between → count_by (is_step_of p) stretch < most

-- so no stretch without an effect and without a reply is long, unless half-done calls stand still in it
pub record SilenceIsShort (T : Type 0) : Type 0 where
  pub few : (k : Kind) → CanReplay k → is_too_large k ≡ false → SilentCallsTakeFew T k (unhindered_steps k)
  pub none : (k : Kind) → CanReplay k → is_too_large k ≡ false → IsSome (capacity_of k) → HalfDoneTakesNone T k

-- party p gets no reply
abbrev pub IsNotAnswered : {T : Type 0} → ℕ → List (Event T) → List (Told T) → Type 0
IsNotAnswered p [] ts = Unit {0}
IsNotAnswered p (e ∷ es) [] = Unit {0}
IsNotAnswered p (e ∷ es) (t ∷ ts) = (party_of e ≡ p → reply_told t ≡ None) × IsNotAnswered p es ts

-- how many steps a call takes at most behind its append: of a chain it may lay the next block
abbrev pub steps_to_write : Kind → ℕ
steps_to_write Kind.Unbounded = 4
steps_to_write _ = 1

-- behind the step by which its call appends, and before its reply, a party takes fewer steps than this, whatever the others do
abbrev pub AppendsReplyWithin : Type 0 → Kind → ℕ → Type 0
AppendsReplyWithin T k most = (parties p : ℕ) (past stretch : List (Event T)) (granted : Bool)
    → told_of k (world_after k (opening_world k parties) past) (Step p granted ∷ []) ≡ Ran (Some EffectKind.Append) None ∷ []
    → IsNotAnswered p (Step p granted ∷ stretch) (told_of k (world_after k (opening_world k parties) past) (Step p granted ∷ stretch)) → count_by (is_step_of p) stretch < most

abbrev pub AppendsReply : Type 0 → Type 0
AppendsReply T = (k : Kind) → CanReplay k → is_too_large k ≡ false → AppendsReplyWithin T k (steps_to_write k)

-- whether a party's call has appended and not replied, after an event of its own of which this was told
abbrev pub writes_after : {T : Type 0} → Bool → Told T → Bool
writes_after b Skipped = b
writes_after b (Ran k (Some r)) = false
writes_after b (Ran (Some EffectKind.Append) None) = true
writes_after b (Ran k None) = b

-- after an event of any party
abbrev pub writes_then : {T : Type 0} → ℕ → Bool → Event T → Told T → Bool
writes_then p b e t = if party_of e == p then writes_after b t else b

-- after these events
abbrev pub writes_by : {T : Type 0} → ℕ → Bool → List (Event T) → List (Told T) → Bool
writes_by p b [] ts = b
writes_by p b (e ∷ es) [] = b
writes_by p b (e ∷ es) (t ∷ ts) = writes_by p (writes_then p b e t) es ts

abbrev pub is_writing : {T : Type 0} → Kind → ℕ → ℕ → List (Event T) → Bool
is_writing k parties p past = writes_by p false past (told_of k (opening_world k parties) past)

-- in these events the party gets no reply, and no other party appends
abbrev pub IsNotHeldUp : {T : Type 0} → ℕ → List (Event T) → List (Told T) → Type 0
IsNotHeldUp p [] ts = Unit {0}
IsNotHeldUp p (e ∷ es) [] = Unit {0}
IsNotHeldUp p (e ∷ es) (t ∷ ts) = (party_of e ≡ p → reply_told t ≡ None) × (party_of e ≢ p → effect_told t ≢ Some EffectKind.Append) × IsNotHeldUp p es ts

-- how many steps a call takes at most behind its take: of a chain it may walk over a block, with two steps at each slot
abbrev pub steps_to_read : Kind → ℕ
steps_to_read Kind.Unbounded = 2 * BLOCK_SLOTS + 3
steps_to_read _ = 1

-- behind the step by which its call takes, and before its reply, a party takes fewer steps than this, while no other party is between its append and its reply
abbrev pub TakesReplyWithin : Type 0 → Kind → ℕ → Type 0
TakesReplyWithin T k most = (parties p : ℕ) (past stretch : List (Event T)) (granted : Bool)
    → told_of k (world_after k (opening_world k parties) past) (Step p granted ∷ []) ≡ Ran (Some EffectKind.Take) None ∷ [] → ((q : ℕ) → q ≢ p → is_writing k parties q past ≡ false)
    → IsNotHeldUp p (Step p granted ∷ stretch) (told_of k (world_after k (opening_world k parties) past) (Step p granted ∷ stretch)) → count_by (is_step_of p) stretch < most

abbrev pub TakesReply : Type 0 → Type 0
TakesReply T = (k : Kind) → CanReplay k → is_too_large k ≡ false → TakesReplyWithin T k (steps_to_read k)
