-- What is owed of the shared memory at each step of a call on a chain.
use Rattle.std.proofs.Common.{ℕ, ◌≡◌, ◌∙◌, Bool, true, false, Option, Some, None, List, refl, ap, subst, sym}
use Rattle.queue_steps.specs.{State.State, ChainNext.chain_next}
use Rattle.machine_replay.specs.Vocabulary.{Call, Effect, Kind, Word, Link, Op, Touch, Local, ChainLocal, Running}
use Rattle.queue_laws.specs.{Common.Operations.op_makes, Common.Stand.Stand, Common.Stand.stand, Chain.ChainCells.Chain, Chain.ChainCells.ChainOk, Chain.ChainAt.At, Chain.ChainAnswers.Answers, Chain.ChainAfter.chain_of, Chain.ChainAfter.carried_of, Chain.ChainAfter.after_of, Chain.ChainAfter.left_by}
use Rattle.queue_laws.proofs.Chain.{ChainRight.Gives, ChainSlots.block_altered, ChainSlots.use_changed, ChainEnds.ends_of, ChainEnds.end_word, ChainEnds.put_word, ChainEnds.ends_made, ChainEnds.ends_answer}
use Rattle.machine_replay.proofs.{Engine.StandOf.running_of, Chain.Names.Codes, Chain.Names.ends_in, Chain.Gives.codes_left, Chain.CodesAt.codes_ends}
use Rattle.machine_memory.specs.SharedMemory.{MemoryState, CanTouch, CanOperate, slots_there, block_touched, word_at, put_word as with_word, put_at, touched, answered, operated}
use Rattle.machine_memory.specs.Blocks.{without}
use Rattle.machine_steps.specs.Steps.{spare_in, after_touch, after_operation, carried_then, answer_to, shared_then}

module _ {A : Type 0} where
  -- the machine's words and links outside its blocks are after an operation what the laws make of them
  ends_word : (s : MemoryState A) (w : Word ℕ) (f : ℕ → ℕ) → ends_in (with_word s w (f (word_at s w))) ≡ put_word (ends_in s) w (f (end_word (ends_in s) w))
  ends_word s Word.Head f = refl
  ends_word s Word.Tail f = refl
  ends_word s w f = refl

  ends_operated : (ok : Bool) (s : MemoryState A) (o : Op ℕ) → ends_in (operated ok s o) ≡ ends_made o (ends_in s)
  ends_operated ok s (Op.Load w) = go w
    where
      go : (w : Word ℕ) → ends_in s ≡ put_word (ends_in s) w (end_word (ends_in s) w)
      go Word.Head = refl
      go Word.Tail = refl
      go w = refl
  ends_operated ok s (Op.StoreLink Link.HeadBlock f) = refl
  ends_operated ok s (Op.StoreLink Link.TailBlock f) = refl
  ends_operated true s Op.Ask = refl
  ends_operated false s Op.Ask = refl
  ends_operated ok s (Op.Store w x) = ends_word s w (op_makes (Op.Store w x))
  ends_operated ok s (Op.Add w x) = ends_word s w (op_makes (Op.Add w x))
  ends_operated ok s (Op.Or w x) = ends_word s w (op_makes (Op.Or w x))
  ends_operated ok s (Op.And w x) = ends_word s w (op_makes (Op.And w x))
  ends_operated ok s (Op.Exchange w x y) = ends_word s w (op_makes (Op.Exchange w x y))
  ends_operated ok s o = refl

  -- and a touch leaves them
  ends_at : (s : MemoryState A) (b : Option ℕ) (i : ℕ) (v : Option A) → ends_in (put_at s b i v) ≡ ends_in s
  ends_at s None i v = refl
  ends_at s (Some b) i v = refl

  ends_touched : (t : Touch) (b : Option ℕ) (s : MemoryState A) (v : Option A) → ends_in (touched t b s v) ≡ ends_in s
  ends_touched Touch.Nothing b s v = refl
  ends_touched (Touch.Put i) b s v = ends_at s b i v
  ends_touched (Touch.Swap i) b s v = ends_at s b i v
  ends_touched (Touch.Take i) b s v = ends_at s b i v

  -- so a step makes of them what the laws do
  pub ends_after : (ok : Bool) (s : MemoryState A) (x : Running A) → ends_in (after_operation ok s x) ≡ ends_made x.op (ends_in s)
  ends_after ok s x = ends_operated ok (after_touch s x) x.op ∙ ap (ends_made x.op) (ends_touched x.touch (block_touched x.op) s x.carried)

-- the words, the links and the blocks of the machine are those of the chain
abbrev pub CodesShared : {A : Type 0} → MemoryState A → Chain A → Type 0
CodesShared s c = Codes c (ends_in s) s.blocks

-- the next step of the call can be taken, it is answered by what the chain says, and it leaves the machine standing for the chain after it
pub record Coded {A : Type 0} (c : Chain A) (who : ℕ) (ms : List (State A)) {k : Stand A} (granted : Bool) (s : MemoryState A) (at : At c who ms k) : Type 0 where
  pub touches : CanTouch k.touch (slots_there s (block_touched k.op))
  pub operates : CanOperate (after_touch s (running_of k)) k.op
  pub answers : Answers c k.op (answer_to granted s (running_of k))
  pub carried : carried_then s (running_of k) ≡ carried_of at
  pub codes : ChainOk (after_of at (answer_to granted s (running_of k))) → Gives (after_of at (answer_to granted s (running_of k))) who (chain_next (chain_of k.local) (answer_to granted s (running_of k)))
      → CodesShared (shared_then Kind.Unbounded granted s (running_of k)) (left_by (after_of at (answer_to granted s (running_of k))) (chain_next (chain_of k.local) (answer_to granted s (running_of k))))

-- a call on a chain that stands so
abbrev runs : {A : Type 0} → ChainLocal ℕ → Touch → Op ℕ → Option A → Running A
runs l t o v = record { local = Local.Chain l; touch = t; op = o; carried = v }

module _ {A : Type 0} {c : Chain A} {who : ℕ} {ms : List (State A)} {granted : Bool} {s : MemoryState A} {l : ChainLocal ℕ} {o : Op ℕ} {v : Option A} {call : Call A} {es : List (Effect A)} where
  -- the same of a step, by what it leaves of the blocks
  pub coded_with : {t : Touch} (at : At c who ms (stand (Local.Chain l) t o v call es)) → CanTouch t (slots_there s (block_touched o)) → CanOperate (after_touch s (runs l t o v)) o
      → Answers c o (answer_to granted s (runs l t o v)) → carried_then s (runs l t o v) ≡ carried_of at
      → (ChainOk (after_of at (answer_to granted s (runs l t o v))) → Gives (after_of at (answer_to granted s (runs l t o v))) who (chain_next l (answer_to granted s (runs l t o v)))
      → Codes (left_by (after_of at (answer_to granted s (runs l t o v))) (chain_next l (answer_to granted s (runs l t o v)))) (ends_made o (ends_in s))
      (without (spare_in (chain_next l (answer_to granted s (runs l t o v)))) (after_operation granted s (runs l t o v)).blocks)) → Coded c who ms granted s at
  coded_with {t} at touches operates answers carried codes = record {
    touches = touches;
    operates = operates;
    answers = answers;
    carried = carried;
    codes = λ fine gives.
        let a = answer_to granted s (runs l t o v) in
        subst (λ e. Codes (left_by (after_of at a) (chain_next l a)) e (without (spare_in (chain_next l a)) (after_operation granted s (runs l t o v)).blocks))
        (sym (ends_after granted s (runs l t o v))) (codes fine gives);
  }

  -- where the block that its reply gives up is still there
  pub coded_by : {t : Touch} (at : At c who ms (stand (Local.Chain l) t o v call es)) → CanTouch t (slots_there s (block_touched o)) → CanOperate (after_touch s (runs l t o v)) o
      → Answers c o (answer_to granted s (runs l t o v)) → carried_then s (runs l t o v) ≡ carried_of at
      → Codes (after_of at (answer_to granted s (runs l t o v))) (ends_made o (ends_in s)) (after_operation granted s (runs l t o v)).blocks → Coded c who ms granted s at
  coded_by {t} at touches operates answers carried codes = coded_with at touches operates answers carried (λ fine gives. codes_left who (chain_next l (answer_to granted s (runs l t o v))) fine gives codes)

  -- the same of a step that touches no slot and whose operation is on no block
  pub coded_ends : (at : At c who ms (stand (Local.Chain l) Touch.Nothing o v call es)) → CanOperate s o → Answers c o (ends_answer o (ends_of c)) → answered granted s o ≡ ends_answer o (ends_in s) → (operated granted s o).blocks ≡ s.blocks
      → v ≡ carried_of at → use_changed at (answered granted s o) ≡ None → block_altered at ≡ None → ChainOk c → CodesShared s c → Coded c who ms granted s at
  coded_ends at operates tells answers stay carried kept none right codes =
      coded_by at tt operates (subst (λ x. Answers c o x) (ap (ends_answer o) (sym codes.ends) ∙ sym answers) tells) carried
      (subst (λ bs. Codes (after_of at (answered granted s o)) (ends_made o (ends_in s)) bs) (sym stay) (codes_ends at (answered granted s o) right kept codes none))
