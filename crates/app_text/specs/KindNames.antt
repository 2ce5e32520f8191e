-- The words that name a kind of queue, and the arguments that name a mode.
use Rattle.std.specs.Prelude.{◌≡◌, ℕ, ◌<◌, ◌≤◌, ◌*◌, ◌%◌, ◌==◌, if◌then◌else◌, List, [], ◌∷◌, ◌++◌, codes, Option}
use Rattle.std.specs.Fmt.{decimal}
use Rattle.queue_steps.specs.{Next.capacity_of as capacity_of_kind, declared.steps.types.Kind.Kind, declared.steps.types.Kind.Kind as queue}
use Rattle.app_text.specs.Reading.{IsWord}
use Rattle.app_text.specs.declared.{args.TheConstants.MOST_PARTIES, args.KindName.KindName, args.KindName.KindName as kind, args.Mode.Mode, args.Mode.Mode as mode, load.Load.Load, load.TheConstants.MOST_THREADS, load.TheConstants.MOST_ITEMS}

abbrev pub kind_text : KindName → List ℕ
kind_text kind.Single = codes "single"
kind_text (kind.Bounded count) = codes "bounded:" ++ decimal count
kind_text kind.Unbounded = codes "unbounded"

-- a capacity is a word above 0
abbrev pub IsCapacity : ℕ → Type 0
IsCapacity count = IsWord count × (0 < count)

abbrev pub IsKindName : KindName → Type 0
IsKindName (kind.Bounded count) = IsCapacity count
IsKindName _ = Unit {0}

-- 1 to 64 threads push, and so many pop
abbrev pub IsThreadCount : ℕ → Type 0
IsThreadCount count = (0 < count) × (count ≤ MOST_THREADS)

-- a thread pushes up to a million items
abbrev pub IsItemCount : ℕ → Type 0
IsItemCount count = count ≤ MOST_ITEMS

abbrev pub IsLoad : Load → Type 0
IsLoad l = IsKindName l.kind × IsThreadCount l.pushers × IsThreadCount l.poppers × IsItemCount l.items

-- the poppers share the items evenly
abbrev pub IsEvenLoad : Load → Type 0
IsEvenLoad l = IsLoad l × (l.pushers * l.items % l.poppers ≡ 0)

abbrev pub load_words : Load → List (List ℕ)
load_words l = kind_text l.kind ∷ decimal l.pushers ∷ decimal l.poppers ∷ decimal l.items ∷ []

abbrev pub mode_words : Mode → List (List ℕ)
mode_words (mode.Script k) = codes "script" ∷ kind_text k ∷ []
mode_words (mode.Replay k parties) = codes "replay" ∷ kind_text k ∷ decimal parties ∷ []
mode_words (mode.Threads l) = codes "threads" ∷ load_words l
mode_words mode.Handshake = codes "handshake" ∷ []
mode_words (mode.Channel l) = codes "channel" ∷ load_words l

-- a replay has 1 to 64 parties
abbrev pub IsPartyCount : ℕ → Type 0
IsPartyCount parties = (0 < parties) × (parties ≤ MOST_PARTIES)

abbrev pub IsMode : Mode → Type 0
IsMode (mode.Script k) = IsKindName k
IsMode (mode.Replay k parties) = IsKindName k × IsPartyCount parties
IsMode (mode.Threads l) = IsEvenLoad l
IsMode mode.Handshake = Unit {0}
IsMode (mode.Channel l) = IsLoad l

-- the kind of queue that the name asks for
abbrev pub kind_named : KindName → Kind
kind_named kind.Single = queue.Single
kind_named (kind.Bounded count) = queue.Bounded count
kind_named kind.Unbounded = queue.Unbounded

-- the same, as a queue that is made: with a capacity of 1 it is one slot
abbrev pub queue_named : KindName → Kind
queue_named (kind.Bounded count) = if count == 1 then queue.Single else queue.Bounded count
queue_named k = kind_named k

-- its capacity, if it has one
abbrev pub capacity_of : KindName → Option ℕ
capacity_of k = capacity_of_kind (kind_named k)
