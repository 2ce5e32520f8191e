-- What the step of a call does to the blocks of a web, and what it tells its seat.
use Rattle.std.specs.Prelude.{◌≡◌, ◌≢◌, ℕ, ◌+◌, ◌-◌, ◌<◌, Bool, true, List, [], ◌∷◌, replicate, length, Option, Some, None}
use denote.RawPtr.{Ptr, null_ptr}
use Rattle.queue_laws.specs.Common.Vocabulary.{Kind, Word, Link, Op, Touch, Answer, Local, Next, BLOCK_SLOTS}
use Rattle.queue_steps.specs.{declared.steps.chain.ChainLocal.ChainLocal as chain, Next.CanNext, Next.next_of, State.State, ChainNext.chain_next}
use Rattle.queue_laws.specs.Common.{Stand.Stand, Operations.op_word, Operations.op_makes, Operations.answer_for}
use Rattle.queue_laws.specs.Chain.{ChainCells.Reading, ChainCells.Chain, ChainAt.At, ChainAnswers.Answers, ChainAnswers.last_of, ChainAnswers.shown_of, ChainAnswers.linked_of, ChainPasses.spare_in, ChainAfter.left_by, ChainAfter.chain_of, ChainAfter.after_of}
use Rattle.mem_blocks.specs.Web.{Block, Hand, Sitter, Act, block, Lives, word_of, with_word, with_next, if_unset, alive_at, vacant, AllVacant, Mays, blocks_after, sitter_after}
use Rattle.shared_parties.specs.{declared.known.CallState.CallState, declared.known.InCall.InCall, Calling.handed_by, CallsAt.Told}
use Rattle.shared_chain.specs.{Spots.spot, Names.state_block, ChainCalls.OutChain, ChainCalls.SlotsAs, ChainCalls.ChainLent, ChainCalls.chain_calls, Rule.lead_of, Rule.Codes}

-- what a block is that was granted
abbrev pub fresh_at : {T : Type 0} → Ptr → Block T
fresh_at p = alive_at p null_ptr (replicate BLOCK_SLOTS 0) (replicate BLOCK_SLOTS vacant)

-- what a seat carries by the spare of its call
abbrev pub carried_by : {T : Type 0} → Option ℕ → Option (Block T)
carried_by None = None
carried_by (Some f) = Some (fresh_at (spot f))

-- the block whose slot a call has, by where it stands
abbrev pub slot_block : Local ℕ → Op ℕ → ℕ
slot_block (Local.Chain (chain.Laying d t name f)) o = name
slot_block (Local.Chain (chain.Opening d t name f)) o = name
slot_block (Local.Chain (chain.Chaining d t name f)) o = name
slot_block (Local.Chain (chain.Writing d f)) (Op.Or (Word.State name i) x) = name
slot_block (Local.Chain (chain.Reading name i)) o = name
slot_block (Local.Chain (chain.Walking name i)) o = name
slot_block _ o = 0

-- the slot that a seat has in hand, by those that its call has
abbrev pub hand_by : {T : Type 0} → ℕ → List (ℕ × Option T) → Option (Hand T)
hand_by name [] = None
hand_by name (x ∷ xs) = Some (spot name, x.0, x.1)

-- the seat has in hand and carries what its call has
abbrev pub HoldsBy : {T : Type 0} → Local ℕ → Op ℕ → List (ℕ × Option T) → Sitter T (CallState T) → Type 0
HoldsBy l o xs m = (m.hand ≡ hand_by (slot_block l o) xs) × (m.spare ≡ carried_by (spare_in l))

-- after a step it does so for the next one; after a reply it has nothing in hand, and carries the block that the reply gives up, in which nothing lies
abbrev pub HoldsFor : {T : Type 0} → List (ℕ × Option T) → Next ℕ → Sitter T (CallState T) → Type 0
HoldsFor xs (Next.Step l t o) m = HoldsBy l o xs m
HoldsFor xs (Next.Reply x None) m = (m.hand ≡ None) × (m.spare ≡ None)
HoldsFor {T} xs (Next.Reply x (Some f)) m = (m.hand ≡ None) × ((y : Block T) × (m.spare ≡ Some y) × (y.at ≡ spot f) × (y.alive ≡ true) × (length y.homes ≡ BLOCK_SLOTS) × AllVacant y.homes)

module _ (tail_end head_end : Ptr) where
  abbrev pub word_place : Word ℕ → Ptr
  word_place Word.Tail = tail_end
  word_place Word.Head = head_end
  word_place (Word.State name i) = spot name
  word_place _ = null_ptr

  abbrev pub link_place : Link ℕ → Ptr
  link_place Link.TailBlock = tail_end
  link_place Link.HeadBlock = head_end
  link_place (Link.Next name) = spot name

  -- where the block lies that an operation is on
  abbrev pub op_place : Op ℕ → Ptr
  op_place (Op.LoadLink l) = link_place l
  op_place (Op.StoreLink l x) = link_place l
  op_place (Op.Install x) = tail_end
  op_place Op.Ask = null_ptr
  op_place o = word_place (op_word o)

-- the number of a word in its block
abbrev pub word_index : Word ℕ → ℕ
word_index (Word.State name i) = i
word_index _ = 0

-- what an operation makes of a link
abbrev pub link_makes : Op ℕ → Ptr → Ptr
link_makes (Op.StoreLink l x) q = spot x
link_makes (Op.Install x) q = if_unset (spot x) q
link_makes _ q = q

-- the blocks after the operation on the block k
abbrev pub blocks_made : {T : Type 0} → Op ℕ → ℕ → List (Block T) → List (Block T)
blocks_made (Op.LoadLink l) k bs = with_next bs k (block bs k).next
blocks_made (Op.StoreLink l x) k bs = with_next bs k (spot x)
blocks_made (Op.Install x) k bs = with_next bs k (if_unset (spot x) (block bs k).next)
blocks_made o k bs = with_word bs k (word_index (op_word o)) (op_makes o (word_of bs k (word_index (op_word o))))

-- the name that a link leads to, which is that of the block k
abbrev pub link_found : {T : Type 0} → Chain T → Link ℕ → ℕ → Option ℕ
link_found c Link.TailBlock k = last_of c.names c.blocks
link_found c Link.HeadBlock k = shown_of c.shown (c.names c.front)
link_found c (Link.Next name) k = linked_of (c.links (k - 2)) (c.names (k - 2 + 1))

-- what the operation on the block k answers
abbrev pub answered : {T : Type 0} → Chain T → List (Block T) → Op ℕ → ℕ → Answer ℕ
answered c bs (Op.LoadLink l) k = Answer.Linked (link_found c l k)
answered c bs (Op.StoreLink l x) k = Answer.Done
answered c bs (Op.Install x) k = Answer.Linked (last_of c.names c.blocks)
answered c bs o k = answer_for o (word_of bs k (word_index (op_word o)))

-- the link of the block k leads where the answer says
abbrev pub LeadsThere : {T : Type 0} → Chain T → List (Block T) → Op ℕ → ℕ → Type 0
LeadsThere c bs (Op.LoadLink l) k = (block bs k).next ≡ lead_of (link_found c l k)
LeadsThere c bs (Op.Install x) k = (block bs k).next ≡ lead_of (last_of c.names c.blocks)
LeadsThere c bs _ k = Unit {0}

-- the chain after the step that was answered so, and a block given up with it
abbrev pub chain_then : {T : Type 0} {c : Chain T} {who : ℕ} {ms : List (State T)} {k : Stand T} → At c who ms k → Answer ℕ → Chain T
chain_then {k = k} here a = left_by (after_of here a) (chain_next (chain_of k.local) a)

-- the readers of the party have their slot exactly where the call that goes on says so
abbrev pub SlotsFor : {T : Type 0} → OutChain T → ℕ → Next ℕ → Type 0
SlotsFor g who (Next.Step l t o) = SlotsAs g who l
SlotsFor g who (Next.Reply x spare) = Unit {0}

-- What the operation of a step finds in the blocks, and what it and the acts beside it make of them and of the seat: they stand for the chain after the step
pub record BlockStep {T : Type 0} (tail_end head_end : Ptr) (g : OutChain T) (who : ℕ) (bs : List (Block T)) (m : Sitter T (CallState T)) {ms : List (State T)} {k : Stand T} (here : At g.chain who ms k) : Type 0 where
  pub number : ℕ
  pub lives : Lives bs number (op_place tail_end head_end k.op)
  pub counts : number < 2 → word_index (op_word k.op) ≡ 0
  pub leads : LeadsThere g.chain bs k.op number
  pub found : Answers g.chain k.op (answered g.chain bs k.op number)
  pub out : ℕ → Bool
  pub acts : List (Act T)
  pub mays : Mays (blocks_made k.op number bs) m acts
  pub codes : Codes tail_end head_end (record { chain = chain_then here (answered g.chain bs k.op number); out = out }) (blocks_after (blocks_made k.op number bs) acts)
  pub others : (j : ℕ) → j ≢ who → (n : ℕ) → g.chain.readers n ≡ Reading j → out n ≡ g.out n
  pub slots : SlotsFor (record { chain = chain_then here (answered g.chain bs k.op number); out = out }) who (chain_next (chain_of k.local) (answered g.chain bs k.op number))
  pub lends : List (ℕ × Option T)
  pub lent : ChainLent (record { chain = chain_then here (answered g.chain bs k.op number); out = out }) who lends
  pub holds : HoldsFor lends (chain_next (chain_of k.local) (answered g.chain bs k.op number)) (sitter_after (blocks_made k.op number bs) m acts)

-- the words that a chain has
abbrev pub HasWord : Word ℕ → Type 0
HasWord Word.Head = Unit {0}
HasWord Word.Tail = Unit {0}
HasWord (Word.State name i) = i < BLOCK_SLOTS
HasWord _ = ⊥

-- the operations that a call at this local state does on a chain. Who asks for a block has no slot and no spare
abbrev pub MayDo : {T : Type 0} → Local ℕ → Op ℕ → List (ℕ × Option T) → Type 0
MayDo l (Op.Load w) xs = HasWord w
MayDo l (Op.Store w x) xs = HasWord w
MayDo l (Op.Add w x) xs = HasWord w
MayDo l (Op.Or w x) xs = HasWord w
MayDo l (Op.And w x) xs = ⊥
MayDo l (Op.Exchange w x y) xs = HasWord w
MayDo l Op.Ask xs = (xs ≡ []) × (spare_in l ≡ None)
MayDo l _ xs = Unit {0}

-- the slot that is touched is the one that the call has, of the block whose state the operation is on. A put finds it empty and writes what is carried, a take finds it full
abbrev pub MayTouch : {T : Type 0} → Local ℕ → Touch → Op ℕ → Option T → List (ℕ × Option T) → Type 0
MayTouch l Touch.Nothing o v xs = Unit {0}
MayTouch {T} l (Touch.Put i) o v xs = (state_block o ≡ Some (slot_block l o)) × (xs ≡ (i, None) ∷ []) × ((x : T) × (v ≡ Some x))
MayTouch {T} l (Touch.Take i) o v xs = (state_block o ≡ Some (slot_block l o)) × (v ≡ None) × ((x : T) × (xs ≡ (i, Some x) ∷ []))
MayTouch l (Touch.Swap i) o v xs = ⊥

-- the step may be done with these slots, and v carried
abbrev pub MayStep : {T : Type 0} → Local ℕ → Touch → Op ℕ → Option T → List (ℕ × Option T) → Type 0
MayStep l t o v xs = MayDo l o xs × MayTouch l t o v xs

-- the next step may be done
abbrev pub MayGoOn : {T : Type 0} → Option T → List (ℕ × Option T) → Next ℕ → Type 0
MayGoOn v xs (Next.Step l t o) = MayStep l t o v xs
MayGoOn v xs (Next.Reply x spare) = Unit {0}

-- what is so of the seat of the call c once its step was done, with v carried: it stands at what is to be done next, or has ended
abbrev pub After : {T : Type 0} → InCall T → Option T → Next ℕ → Sitter T (CallState T) → Type 0
After {T} c v n m = (xs : List (ℕ × Option T)) × Told chain_calls c v xs n m.view × HoldsFor xs n m × MayGoOn v xs n

-- what the step of the call c tells its seat, where it was answered so
abbrev pub Follows : {T : Type 0} → InCall T → Answer ℕ → Sitter T (CallState T) → Type 0
Follows c a m = CanNext Kind.Unbounded c.local a × After c (handed_by c.touch c.carried c.lends) (next_of Kind.Unbounded c.local a) m

-- what the load or the install of a link tells its seat, where the link led to q
abbrev pub FollowsLink : {T : Type 0} → InCall T → Ptr → Sitter T (CallState T) → Type 0
FollowsLink c q m = (x : Option ℕ) × (q ≡ lead_of x) × Follows c (Answer.Linked x) m

-- the step after which a block is the call's that lies at p: the block has a name now
abbrev pub FollowsGrant : {T : Type 0} → InCall T → Ptr → Sitter T (CallState T) → Type 0
FollowsGrant c p m = (f : ℕ) × (spot f ≡ p) × Follows c (Answer.Granted f) m
