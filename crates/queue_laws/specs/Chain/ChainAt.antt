-- Where a call on a chain stands between its steps, and what it knows there.
use Rattle.std.proofs.Common.{ℕ, ◌+◌, ◌*◌, ◌/◌, ◌%◌, ◌<◌, ◌≤◌, ◌≡◌, ◌⊎◌, Bool, true, false, if◌then◌else◌, Option, Some, None, IsSome, List, [], ◌∷◌}
use Rattle.queue_laws.specs.Common.Vocabulary.{Call, Effect, Word, Link, Op, Touch, Look, Local, ChainLocal, PushKind, LIMIT, BLOCK_SLOTS, MARK, TAIL_STEP, WRITE, READ, DESTROY}
use Rattle.queue_steps.specs.{State.State, Looks.call_of_look, Looks.IsCount, Words.IsWord, Words.position_of, ChainWords.offset_of, ChainWords.items_before, declared.steps.chain.ChainLocal.ChainLocal as chain}
use Rattle.queue_laws.specs.Common.{Moments.SeenIn, Moments.HeadWas, Pushes.pushes, Stand.Stand, Stand.stand, Stand.empty_handed, Stand.brings}
use Rattle.queue_laws.specs.Chain.ChainFacts.{place, head_of, open_tail_of, HeadIs, IsNamed, TailBlockIs, HeadBlockIs, HeadBlockRead, IsMore, HasSpare, SawEmpty, SawTail, Claimed, Got}
use Rattle.queue_laws.specs.Chain.ChainCells.{Wrote, Laying, Opening, Passing, Entering, Linking, Linked, Showing, Walker, Spare, Chain, Part, Write, Read, Tail, Head, Next, First, Passed, HoldsOnly, Nothing}

-- this part, and one of these two
abbrev pub Only : Part → Part → Type 0
Only p x = x ≡ p

abbrev pub Either : Part → Part → Part → Type 0
Either p q x = (x ≡ p) ⊎ (x ≡ q)

-- whether the item takes the last slot of its block
abbrev pub IsLast : ℕ → Type 0
IsLast n = n % BLOCK_SLOTS + 1 ≡ BLOCK_SLOTS

-- a push asks for a block: before the first item, where it saw no block, and for the last slot of the block that it saw
abbrev pub Asks : {A : Type 0} → Chain A → ℕ → Option ℕ → Type 0
Asks c q None = q ≡ 0
Asks c q (Some name) = IsLast q × TailBlockIs c q name

-- the block behind that of the item n is at least half there: it is linked, and has this name
abbrev pub IsBehind : {A : Type 0} → Chain A → ℕ → ℕ → Type 0
IsBehind c n name = (c.links (n / BLOCK_SLOTS) ≡ Linked) × IsNamed c (n / BLOCK_SLOTS + 1) name

-- a block more behind the item n's next one
abbrev pub IsFurther : {A : Type 0} → Chain A → ℕ → Bool → Type 0
IsFurther c n more = more ≡ true → n + 1 + BLOCK_SLOTS ≤ c.tail

-- a push of v that has appended it
abbrev pub has_appended : {A : Type 0} → ChainLocal ℕ → Touch → Op ℕ → PushKind → A → Stand A
has_appended l t o d v = stand (Local.Chain l) t o (Some v) (pushes d v) (Effect.Append v ∷ [])

-- a pop that has taken x, and carries so much
abbrev pub has_taken : {A : Type 0} → ChainLocal ℕ → Touch → Op ℕ → Option A → A → Stand A
has_taken l t o carried x = stand (Local.Chain l) t o carried Call.Pop (Effect.Take x ∷ [])

-- Where a call of the party who stands.
pub data At {A : Type 0} (c : Chain A) (who : ℕ) (ms : List (State A)) : Stand A → Type 0 where
  push_tail : (d : PushKind) (v : A) (spare : Option ℕ) → HoldsOnly c who Nothing → HasSpare c who spare
      → At c who ms (brings (Local.Chain (chain.PushTail d spare)) (Op.Load Word.Tail) d v)
  push_block : (d : PushKind) (v : A) (spare : Option ℕ) (q : ℕ) → HoldsOnly c who Nothing → HasSpare c who spare → SawTail c q ms
      → At c who ms (brings (Local.Chain (chain.PushBlock d (open_tail_of q) spare)) (Op.LoadLink Link.TailBlock) d v)
  asking : (d : PushKind) (v : A) (q : ℕ) (block : Option ℕ) → HoldsOnly c who Nothing → SawTail c q ms → Asks c q block
      → At c who ms (brings (Local.Chain (chain.Asking d (open_tail_of q) block)) Op.Ask d v)
  installing : (d : PushKind) (v : A) (f : ℕ) → HoldsOnly c who Nothing → SawTail c 0 ms → c.uses f ≡ Spare who
      → At c who ms (brings (Local.Chain (chain.Installing d (open_tail_of 0) f)) (Op.Install f) d v)
  showing : (d : PushKind) (v : A) (name : ℕ) → HoldsOnly c who (Only First) → SawTail c 0 ms → c.shown ≡ Showing who → IsNamed c 0 name
      → At c who ms (brings (Local.Chain (chain.Showing d (open_tail_of 0) name)) (Op.StoreLink Link.HeadBlock name) d v)
  claiming : (d : PushKind) (v : A) (q name : ℕ) (spare : Option ℕ) → HoldsOnly c who Nothing → HasSpare c who spare → SawTail c q ms → TailBlockIs c q name → (IsLast q → IsSome spare)
      → At c who ms (brings (Local.Chain (chain.Claiming d (open_tail_of q) name spare)) (Op.Exchange Word.Tail (open_tail_of q) (open_tail_of q + TAIL_STEP)) d v)
  laying : (d : PushKind) (v : A) (n name f : ℕ) → HoldsOnly c who (Either (Write n) Tail) → Claimed c who n v name → ((c.mover ≡ Laying who) × (c.tail ≡ n + 1)) → c.uses f ≡ Spare who
      → At c who ms (has_appended (chain.Laying d (open_tail_of n) name f) Touch.Nothing (Op.StoreLink Link.TailBlock f) d v)
  opening : (d : PushKind) (v : A) (n name f : ℕ) → HoldsOnly c who (λ x. (x ≡ Write n) ⊎ (x ≡ Tail) ⊎ (x ≡ Next (n / BLOCK_SLOTS))) → Claimed c who n v name → ((c.mover ≡ Opening who) × (c.tail ≡ n + 1)) → c.links (n / BLOCK_SLOTS) ≡ Linking who → IsNamed c (n / BLOCK_SLOTS + 1) f
      → At c who ms (has_appended (chain.Opening d (open_tail_of n) name f) Touch.Nothing (Op.Add Word.Tail TAIL_STEP) d v)
  chaining : (d : PushKind) (v : A) (n name f : ℕ) → HoldsOnly c who (Either (Write n) (Next (n / BLOCK_SLOTS))) → Claimed c who n v name → c.links (n / BLOCK_SLOTS) ≡ Linking who → IsNamed c (n / BLOCK_SLOTS + 1) f
      → At c who ms (has_appended (chain.Chaining d (open_tail_of n) name f) Touch.Nothing (Op.StoreLink (Link.Next name) f) d v)
  writing : (d : PushKind) (v : A) (n name : ℕ) (spare : Option ℕ) → HoldsOnly c who (Only (Write n)) → Claimed c who n v name → HasSpare c who spare
      → At c who ms (has_appended (chain.Writing d spare) (Touch.Put (offset_of (open_tail_of n))) (Op.Or (Word.State name (offset_of (open_tail_of n))) WRITE) d v)
  spending : (d : PushKind) (v : A) (spare : Option ℕ) → HoldsOnly c who Nothing → HasSpare c who spare → LIMIT ≤ c.tail
      → At c who ms (brings (Local.Chain (chain.ClosingAtLimit d spare)) (Op.Or Word.Tail MARK) d v)
  pop_head : HoldsOnly c who Nothing
      → At c who ms (empty_handed (Local.Chain chain.PopHead) (Op.Load Word.Head) Call.Pop)
  pop_block : (n : ℕ) (more : Bool) → HoldsOnly c who Nothing → HeadIs c n → IsMore c n more
      → At c who ms (empty_handed (Local.Chain (chain.PopBlock (head_of n more))) (Op.LoadLink Link.HeadBlock) Call.Pop)
  pop_tail : (n : ℕ) (block : Option ℕ) → HoldsOnly c who Nothing → HeadIs c n → HeadBlockRead c n block
      → At c who ms (empty_handed (Local.Chain (chain.PopTail (head_of n false) block)) (Op.Load Word.Tail) Call.Pop)
  taking : (n name next : ℕ) (more new : Bool) → HoldsOnly c who Nothing → HeadIs c n → HeadBlockIs c n name → n < c.tail → next ≡ place n * 2 + TAIL_STEP + (if new then 1 else 0) → IsMore c n new
      → At c who ms (empty_handed (Local.Chain (chain.Taking (head_of n more) name)) (Op.Exchange Word.Head (head_of n more) next) Call.Pop)
  following : (x : A) (n name : ℕ) (more : Bool) → HoldsOnly c who (Either (Read n) Head) → Got c who n x name → ((c.passer ≡ Passing who) × (c.head ≡ n + 1))
      → At c who ms (has_taken (chain.Following (head_of n more) name) Touch.Nothing (Op.LoadLink (Link.Next name)) None x)
  peeking : (x : A) (n name after : ℕ) (more : Bool) → HoldsOnly c who (Either (Read n) Head) → Got c who n x name → ((c.passer ≡ Passing who) × (c.head ≡ n + 1)) → IsBehind c n after
      → At c who ms (has_taken (chain.Peeking (head_of n more) name after) Touch.Nothing (Op.LoadLink (Link.Next after)) None x)
  passing : (x : A) (n name after : ℕ) (more further : Bool) → HoldsOnly c who (Either (Read n) Head) → Got c who n x name → ((c.passer ≡ Passing who) × (c.head ≡ n + 1)) → IsBehind c n after → IsFurther c n further
      → At c who ms (has_taken (chain.Passing (head_of n more) name further) Touch.Nothing (Op.StoreLink Link.HeadBlock after) None x)
  entering : (x : A) (n name : ℕ) (more further : Bool) → HoldsOnly c who (Either (Read n) Head) → Got c who n x name → ((c.passer ≡ Entering who) × (c.head ≡ n + 1)) → IsFurther c n further
      → At c who ms (has_taken (chain.Entering (head_of n more) name) Touch.Nothing (Op.Store Word.Head ((position_of (head_of n more) + 2) * 2 + (if further then 1 else 0))) None x)
  awaiting : (x : A) (n name : ℕ) (more : Bool) → HoldsOnly c who (Only (Read n)) → Got c who n x name
      → At c who ms (has_taken (chain.Awaiting (head_of n more) name) Touch.Nothing (Op.Load (Word.State name (offset_of (head_of n more)))) None x)
  reading : (x : A) (n name : ℕ) (more : Bool) → HoldsOnly c who (Only (Read n)) → Got c who n x name → c.writers n ≡ Wrote x → (IsLast n → ⊥)
      → At c who ms (has_taken (chain.Reading name (offset_of (head_of n more))) (Touch.Take (offset_of (head_of n more))) (Op.Or (Word.State name (offset_of (head_of n more))) READ) None x)
  beginning : (x : A) (n name : ℕ) (more : Bool) → HoldsOnly c who (Only (Read n)) → Got c who n x name → c.writers n ≡ Wrote x → IsLast n
      → At c who ms (has_taken (chain.Walking name 0) (Touch.Take (offset_of (head_of n more))) (Op.Load (Word.State name 0)) None x)
  walking : (x : A) (b name slot : ℕ) → HoldsOnly c who (Only (Passed b)) → c.walks b ≡ Walker who slot → IsNamed c b name
      → At c who ms (has_taken (chain.Walking name slot) Touch.Nothing (Op.Load (Word.State name slot)) (Some x) x)
  destroying : (x : A) (b name slot : ℕ) → HoldsOnly c who (Only (Passed b)) → c.walks b ≡ Walker who slot → IsNamed c b name
      → At c who ms (has_taken (chain.Destroying name slot) Touch.Nothing (Op.Or (Word.State name slot) DESTROY) (Some x) x)
  count_tail : (g : Look) → IsCount A g → HoldsOnly c who Nothing
      → At c who ms (empty_handed (Local.Chain (chain.CountTail g)) (Op.Load Word.Tail) (call_of_look g))
  count_head : (g : Look) (t : ℕ) → IsCount A g → HoldsOnly c who Nothing → IsWord t → items_before (position_of t) ≤ c.tail
      → At c who ms (empty_handed (Local.Chain (chain.CountHead g t)) (Op.Load Word.Head) (call_of_look g))
  count_again : (g : Look) (t h : ℕ) → IsCount A g → HoldsOnly c who Nothing → (IsWord t × IsWord h) → SeenIn ms (HeadWas None (items_before (position_of h)) (items_before (position_of t)) c.tail)
      → At c who ms (empty_handed (Local.Chain (chain.CountAgain g t h)) (Op.Load Word.Tail) (call_of_look g))
  empty_head : HoldsOnly c who Nothing
      → At c who ms (empty_handed (Local.Chain chain.EmptyHead) (Op.Load Word.Head) Call.IsEmpty)
  empty_tail : (h : ℕ) → HoldsOnly c who Nothing → IsWord h → SawEmpty (items_before (position_of h)) c ms
      → At c who ms (empty_handed (Local.Chain (chain.EmptyTail h)) (Op.Load Word.Tail) Call.IsEmpty)
  closing : HoldsOnly c who Nothing
      → At c who ms (empty_handed (Local.Chain chain.Closing) (Op.Or Word.Tail MARK) Call.Close)
  closed_tail : HoldsOnly c who Nothing
      → At c who ms (empty_handed (Local.Chain chain.ClosedTail) (Op.Load Word.Tail) Call.IsClosed)
