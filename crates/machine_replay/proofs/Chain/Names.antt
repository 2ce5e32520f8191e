-- How the words, links and blocks of the machine stand for a chain.
use Rattle.std.proofs.Common.{ℕ, ◌<◌, ◌≤◌, ◌≡◌, ◌≢◌, ◌∙◌, ◌⊎◌, inl, inr, Option, Some, None, List, length, refl, sym, subst, get_or}
use Rattle.queue_laws.specs.Chain.{ChainCells.GivenUp, ChainCells.Use, ChainCells.Unused, ChainCells.Spare, ChainCells.Chained, ChainCells.Chain, ChainFacts.IsNamed, ChainTransitions.renamed}
use Rattle.queue_laws.proofs.Chain.{ChainEnds.Ends, ChainEnds.ends_of, ChainSlots.SameBlock}
use Rattle.machine_memory.specs.{Blocks.BlockState, Blocks.fresh_block, SharedMemory.MemoryState}
use Rattle.machine_replay.proofs.Chain.Codes.{BlockIs, block_same}

-- the block is there, and is the chain's block b
abbrev pub AliveIs : {A : Type 0} → Chain A → ℕ → Option (BlockState A) → Type 0
AliveIs c b None = ⊥
AliveIs c b (Some x) = BlockIs c b x.places x.next

-- the chain's block b, until it is given up
abbrev pub HeldIs : {A : Type 0} → Chain A → ℕ → Option (BlockState A) → Type 0
HeldIs c b y = ((c.walks b ≡ GivenUp) × (y ≡ None)) ⊎ ((c.walks b ≢ GivenUp) × AliveIs c b y)

-- what stands under a name that is for this
abbrev pub NameIs : {A : Type 0} → Chain A → ℕ → Use → Option (BlockState A) → Type 0
NameIs c f (Spare who) y = y ≡ Some fresh_block
NameIs c f (Chained b) y = IsNamed c b f × HeldIs c b y
NameIs c f x y = y ≡ None

-- the machine's words, and its links to the poppers' and the pushers' block
abbrev pub ends_in : {A : Type 0} → MemoryState A → Ends
ends_in s = record { head = s.head; tail = s.tail; front = s.head_block; last = s.tail_block }

-- the words, the links and the blocks are those of the chain. The names are given out in their order
pub record Codes {A : Type 0} (c : Chain A) (e : Ends) (blocks : List (Option (BlockState A))) : Type 0 where
  pub ends : e ≡ ends_of c
  pub unused : (f : ℕ) → length blocks ≤ f → c.uses f ≡ Unused
  pub name : (f : ℕ) → NameIs c f (c.uses f) (get_or blocks f None)

alive_kept : {A : Type 0} (c s : Chain A) (b : ℕ) (y : Option (BlockState A)) → SameBlock c s b → AliveIs c b y → AliveIs s b y
alive_kept c s b None keeps h = h
alive_kept c s b (Some x) keeps h = block_same c s b x.places x.next x.next h keeps.slot (h.linked ∙ sym keeps.link)

held_kept : {A : Type 0} (c s : Chain A) (b : ℕ) (y : Option (BlockState A)) → SameBlock c s b → HeldIs c b y → HeldIs s b y
held_kept c s b y keeps (inl h) = inl (keeps.walk ∙ h.0, h.1)
held_kept c s b y keeps (inr h) = inr ((λ e. h.0 (sym keeps.walk ∙ e)), alive_kept c s b y keeps h.1)

-- a name that is for the same
pub name_kept : {A : Type 0} (c s : Chain A) (f : ℕ) (u : Use) (y : Option (BlockState A)) → ((b : ℕ) → IsNamed c b f → (b < s.blocks) × SameBlock c s b) → NameIs c f u y → NameIs s f u y
name_kept c s f (Chained b) y keeps h = let k = keeps b h.0 in ((k.0, h.0.1 ∙ sym k.1.name), held_kept c s b y k.1 h.1)
name_kept c s f u y keeps h = h

-- where a name alone is for something else, each other name is for the same
pub name_renamed : {A : Type 0} (c : Chain A) (f : ℕ) (v : Use) (g : ℕ) (u : Use) (y : Option (BlockState A)) → NameIs c g u y → NameIs (renamed c f v) g u y
name_renamed c f v g u y h = name_kept c (renamed c f v) g u y (λ b named. (named.0, record { name = refl; link = refl; walk = refl; slot = λ j lt. record { wrote = refl; done = refl; waits = refl } })) h

-- the blocks of the machine, of which one changes
pub record Changed {A : Type 0} (blocks after : List (Option (BlockState A))) (f : ℕ) (y : Option (BlockState A)) : Type 0 where
  pub size : length after ≡ length blocks
  pub here : get_or after f None ≡ y
  pub others : (g : ℕ) → g ≢ f → get_or after g None ≡ get_or blocks g None

-- what stands under the name of the chain's block b
pub name_of : {A : Type 0} (c : Chain A) (b f : ℕ) (y : Option (BlockState A)) → c.uses f ≡ Chained b → NameIs c f (c.uses f) y → IsNamed c b f × HeldIs c b y
name_of c b f y is h = subst (λ u. NameIs c f u y) is h

-- a block that is not given up is there
pub alive_of : {A : Type 0} (c : Chain A) (b : ℕ) (y : Option (BlockState A)) → c.walks b ≢ GivenUp → HeldIs c b y → (x : BlockState A) × (y ≡ Some x) × BlockIs c b x.places x.next
alive_of c b y on (inl h) = absurd (on h.0)
alive_of c b None on (inr h) = absurd h.1
alive_of c b (Some x) on (inr h) = (x, refl, h.1)

-- two names of one use as a block of the chain are one
pub one_name : {A : Type 0} (c : Chain A) (b f g : ℕ) → IsNamed c b f → IsNamed c b g → g ≡ f
one_name c b f g x y = y.1 ∙ sym x.1
