-- What the steps of the calls make of the state word of a slot, and what of a chain it stands for.
use Rattle.std.proofs.Common.{ℕ, ◌/◌, ◌<◌, ◌≡◌, ◌≢◌, ◌==◌, not, ◌∙◌, inl, inr, true, false, refl, sym, ap, subst, arith, bit_and, bit_or}
use Rattle.std.proofs.lemmas.{Nat.and_or_self, Nat.and_or_apart, Bool.Decides.eqb_tells, Bool.eq-eqb}
use Rattle.queue_laws.specs.Common.Vocabulary.{Answer, BLOCK_SLOTS, WRITE, READ, DESTROY}
use Rattle.queue_laws.specs.Chain.{ChainFacts.IsNamed, ChainAnswers.is_wrote, ChainAnswers.is_done, ChainAnswers.waits_at, ChainAnswers.IsState, ChainAnswers.StateAnswers}
use Rattle.queue_laws.specs.Chain.ChainCells.{Writing, Reader, Done, Walk, Before, Waits, GivenUp, Chained, Chain, ItemOk, WalkOk, ChainOk, item_at, LAST}
use Rattle.queue_laws.proofs.Chain.ChainAnswers.{done_is}

-- an item of another block, and another item of the block
pub other_block : (b i j n : ℕ) → i ≢ b → j < BLOCK_SLOTS → n / BLOCK_SLOTS ≡ b → item_at i j ≢ n
other_block b i j n ne lt at e = ne (omega arith)

pub other_slot : (b i j n : ℕ) → j ≢ i → item_at b i ≡ n → item_at b j ≢ n
other_slot b i j n ne at e = ne (omega arith)

-- an item that is still to be written is not read
pub unread_item : {A : Type 0} (c : Chain A) (n who : ℕ) (v : A) → ChainOk c → c.writers n ≡ Writing who v → c.readers n ≢ Done
unread_item c n who v ok is e = let h : ItemOk c.head c.tail c.items n (Writing who v) Done = rw (is, e) at (ok.item n) in absurd h

-- no walk began over a block whose last item is not read
pub unwalked : {A : Type 0} (c : Chain A) (b : ℕ) → ChainOk c → c.readers (item_at b LAST) ≢ Done → c.walks b ≡ Before
unwalked {A} c b ok unread = go (c.walks b) refl (ok.walk b)
  where
    go : (w : Walk) → c.walks b ≡ w → WalkOk c.readers b w → c.walks b ≡ Before
    go Before e h = e
    go GivenUp e h = absurd (unread h.0)
    go w e h = absurd (unread h.1.0)

-- a name is that of one block
pub one_block : {A : Type 0} (c : Chain A) (b i f : ℕ) → ChainOk c → IsNamed c b f → IsNamed c i f → i ≡ b
one_block c b i f ok x y = let z : Chained i ≡ Chained b = sym (ap c.uses y.1 ∙ ok.name i y.0) ∙ (ap c.uses x.1 ∙ ok.name b x.0) in cc

-- the state word is what an operation on it answers
pub state_answers : {A : Type 0} (c : Chain A) (b f i x : ℕ) → ChainOk c → IsNamed c b f → IsState c b i x → StateAnswers c f i (Answer.Found x)
state_answers c b f i x ok named state j other = (x, refl, subst (λ k. IsState c k i x) (sym (one_block c b j f ok named other)) state)

-- a bit that is set, and one that is left
bit_set : (x m : ℕ) → m ≢ 0 → (bit_and (bit_or x m) m == 0) ≡ false
bit_set x m some = elim (eqb_tells (bit_and (bit_or x m) m) 0) [ inl t ↦ absurd (some (sym (and_or_self m x) ∙ t.1)) | inr t ↦ t.0 ]

bit_left : (x m n : ℕ) → bit_and m n ≡ 0 → (bit_and (bit_or x m) n == 0) ≡ (bit_and x n == 0)
bit_left x m n apart = ap (λ k. k == 0) (and_or_apart n x m apart)

pub done_alike : (r x : Reader) → is_done r ≡ is_done x → x ≢ Done → r ≢ Done
done_alike r x e ne d = ne (done_is x (sym e ∙ ap is_done d))

-- the state word x of the slot i of the block b, where the chain was c and is s
module _ {A : Type 0} (c s : Chain A) (b i x : ℕ) where
  -- the item is written as before, and read as before
  abbrev WroteAs : Type 0
  WroteAs = is_wrote (s.writers (item_at b i)) ≡ is_wrote (c.writers (item_at b i))

  abbrev DoneAs : Type 0
  DoneAs = is_done (s.readers (item_at b i)) ≡ is_done (c.readers (item_at b i))

  pub state_same : WroteAs → DoneAs → waits_at (s.walks b) i ≡ waits_at (c.walks b) i → IsState c b i x → IsState s b i x
  state_same wrote done waits h = record {
    written = h.written ∙ ap not (sym wrote);
    read = h.read ∙ ap not (sym done);
    destroyed = λ ne. h.destroyed (done_alike (c.readers (item_at b i)) (s.readers (item_at b i)) (sym done) ne) ∙ ap not (sym waits);
  }

  -- of an item that is read the word does not tell whether a walk waits
  pub state_done : WroteAs → c.readers (item_at b i) ≡ Done → s.readers (item_at b i) ≡ Done → IsState c b i x → IsState s b i x
  state_done wrote was read h = record {
    written = h.written ∙ ap not (sym wrote);
    read = h.read ∙ ap (λ r. not (is_done r)) (was ∙ sym read);
    destroyed = λ ne. absurd (ne read);
  }

  -- the write of the item
  pub state_written : is_wrote (s.writers (item_at b i)) ≡ true → DoneAs → waits_at (s.walks b) i ≡ waits_at (c.walks b) i → IsState c b i x → IsState s b i (bit_or x WRITE)
  state_written wrote done waits h = record {
    written = bit_set x WRITE (λ e. cc) ∙ sym (ap not wrote);
    read = bit_left x WRITE READ refl ∙ (h.read ∙ ap not (sym done));
    destroyed = λ ne. bit_left x WRITE DESTROY refl ∙ (h.destroyed (done_alike (c.readers (item_at b i)) (s.readers (item_at b i)) (sym done) ne) ∙ ap not (sym waits));
  }

  -- the read of the item
  pub state_read : WroteAs → s.readers (item_at b i) ≡ Done → IsState c b i x → IsState s b i (bit_or x READ)
  state_read wrote read h = record {
    written = bit_left x READ WRITE refl ∙ (h.written ∙ ap not (sym wrote));
    read = bit_set x READ (λ e. cc) ∙ sym (ap (λ r. not (is_done r)) read);
    destroyed = λ ne. absurd (ne read);
  }

  -- the walk waits for the reader of the item
  pub state_waits : WroteAs → DoneAs → s.walks b ≡ Waits i → IsState c b i x → IsState s b i (bit_or x DESTROY)
  state_waits wrote done walk h = record {
    written = bit_left x DESTROY WRITE refl ∙ (h.written ∙ ap not (sym wrote));
    read = bit_left x DESTROY READ refl ∙ (h.read ∙ ap not (sym done));
    destroyed = λ ne. bit_set x DESTROY (λ e. cc) ∙ sym (ap (λ w. not (waits_at w i)) walk ∙ ap not (eq-eqb i i refl));
  }

  -- the walk passes an item that is read
  pub state_passed : WroteAs → c.readers (item_at b i) ≡ Done → s.readers (item_at b i) ≡ Done → IsState c b i x → IsState s b i (bit_or x DESTROY)
  state_passed wrote was read h = record {
    written = bit_left x DESTROY WRITE refl ∙ (h.written ∙ ap not (sym wrote));
    read = bit_left x DESTROY READ refl ∙ (h.read ∙ ap (λ r. not (is_done r)) (was ∙ sym read));
    destroyed = λ ne. absurd (ne read);
  }
