-- The rule of a web of blocks that stands for a chain: block 0 is the end of the tail, block 1 that of the head, and block b + 2 is the chain's block b.
use Rattle.std.specs.Prelude.{◌≡◌, ◌≢◌, ◌⊎◌, ℕ, ◌+◌, ◌<◌, ◌≤◌, Bool, true, false, List, [], length, Option, Some, None, slice_index_or}
use mathlib.Core.Option.{some}
use lib.ListN.{get_elem?}
use denote.RawPtr.{Ptr, null_ptr, Testable}
use Rattle.queue_laws.specs.Common.Vocabulary.{Effect, BLOCK_SLOTS, WRITE, READ}
use Rattle.queue_laws.specs.Chain.ChainAnswers.{tail_word, head_word, last_of, shown_of, linked_of, IsState}
use Rattle.queue_steps.specs.Shares.{entire}
use Rattle.queue_laws.specs.Chain.ChainCells.{Writer, Free, Writing, Wrote, Reader, Unread, Reading, Done, Before, GivenUp, Use, Unused, Spare, Chained, item_at, LAST}
use Rattle.mem_blocks.specs.Web.{Block, State, Home, block, word_of, away, vacant, full}
use Rattle.mem_blocks.specs.declared.{sizes.TheConstants.END_WORDS, hub.TheConstants.PARTIES}
use Rattle.shared_parties.specs.{declared.known.CallState.CallState, Known.party, CallStates.idle, CallsAt.CallsAt}
use Rattle.shared_chain.specs.{declared.ends.ChainEnds.ChainEnds, Spots.spot, ChainCalls.OutChain, ChainCalls.chain_calls}

-- the slot of an item: with its writer, with its reader once that has it, or at home
abbrev pub home_of : {T : Type 0} → Writer T → Reader → Bool → Home T
home_of Free r b = vacant
home_of (Writing who v) r b = away
home_of (Wrote v) Unread b = full v
home_of (Wrote v) (Reading p) true = away
home_of (Wrote v) (Reading p) false = full v
home_of (Wrote v) Done b = vacant

-- the state word of a slot, where no walk waited for it
abbrev pub plain_state : {T : Type 0} → Writer T → Reader → ℕ
plain_state (Wrote v) Done = WRITE + READ
plain_state (Wrote v) _ = WRITE
plain_state _ _ = 0

-- where a link leads
abbrev pub lead_of : Option ℕ → Ptr
lead_of None = null_ptr
lead_of (Some f) = spot f

-- the web's block x is the chain's block b
pub record BlockIs {T : Type 0} (g : OutChain T) (b : ℕ) (x : Block T) : Type 0 where
  pub words : length x.words ≡ BLOCK_SLOTS
  pub homes : length x.homes ≡ BLOCK_SLOTS
  pub state : (i : ℕ) → i < BLOCK_SLOTS → (i ≡ LAST → g.chain.readers (item_at b i) ≢ Done) → IsState g.chain b i (slice_index_or x.words i 0)
  pub plain : g.chain.walks b ≡ Before → (i : ℕ) → i < BLOCK_SLOTS → slice_index_or x.words i 0 ≡ plain_state (g.chain.writers (item_at b i)) (g.chain.readers (item_at b i))
  pub slot : (i : ℕ) → i < BLOCK_SLOTS → get_elem? x.homes i ≡ some (home_of (g.chain.writers (item_at b i)) (g.chain.readers (item_at b i)) (g.out (item_at b i)))
  pub linked : x.next ≡ lead_of (linked_of (g.chain.links b) (g.chain.names (b + 1)))

-- the chain's block b is in the web until it is given up
abbrev pub IsThere : {T : Type 0} → OutChain T → ℕ → Block T → Type 0
IsThere g b x = (x.at ≡ spot (g.chain.names b)) × (((g.chain.walks b ≡ GivenUp) × (x.alive ≡ false)) ⊎ ((g.chain.walks b ≢ GivenUp) × (x.alive ≡ true) × BlockIs g b x))

-- a name that some block has
abbrev pub IsUsed : Use → Type 0
IsUsed (Spare who) = Unit {0}
IsUsed (Chained b) = Unit {0}
IsUsed _ = ⊥

-- the web's block x is an end of the chain, which lies there, has this word and leads to this block
pub record EndIs {T : Type 0} (p : Ptr) (w : ℕ) (lead : Option ℕ) (x : Block T) : Type 0 where
  pub lives : (x.alive ≡ true) × (x.at ≡ p)
  pub words : length x.words ≡ END_WORDS
  pub word : slice_index_or x.words 0 0 ≡ w
  pub next : x.next ≡ lead_of lead

-- the web's words, links and blocks are those of the chain, between these ends
pub record Codes {T : Type 0} (tail_end head_end : Ptr) (g : OutChain T) (bs : List (Block T)) : Type 0 where
  pub tail : EndIs tail_end (tail_word g.chain) (last_of g.chain.names g.chain.blocks) (block bs 0)
  pub head : EndIs head_end (head_word g.chain) (shown_of g.chain.shown (g.chain.names g.chain.front)) (block bs 1)
  pub size : length bs ≡ g.chain.blocks + 2
  pub there : (b : ℕ) → b < g.chain.blocks → IsThere g b (block bs (b + 2))
  pub tested : (f : ℕ) → IsUsed (g.chain.uses f) → Testable (spot f)
  pub fresh : (n : ℕ) × ((f : ℕ) → n ≤ f → g.chain.uses f ≡ Unused)

-- There are a chain, for which the blocks stand, and one history, and all calls stand at them
pub record Rule {T : Type 0} (tail_end head_end : Ptr) (s : State T (CallState T)) : Type 0 where
  pub cells : OutChain T
  pub history : List (Effect T)
  pub codes : Codes tail_end head_end cells s.blocks
  pub all : CallsAt chain_calls cells history (word_of s.blocks 0 PARTIES) s.views

abbrev pub chained : {T : Type 0} → ChainEnds T → State T (CallState T) → Type 0
chained k = Rule k.tail.ptr k.head.ptr

-- the first party, which has all of the share
abbrev pub first_seat : {T : Type 0} → CallState T
first_seat = idle (party None [] [] entire)
