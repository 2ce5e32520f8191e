-- A chain: a step without effect leaves the words, and where poppers see a block they go on seeing one. And the rules by which the machine's calls on it are counted.
use Rattle.std.proofs.Common.{ℕ, if◌then◌else◌, ◌≡◌, ◌∙◌, Bool, true, false, Some, None, IsSome, List, [], ◌∷◌, bit_or, refl, sym, ap, subst}
use Rattle.queue_steps.specs.{State.State, Words.is_shut, Words.tail_of}
use Rattle.machine_replay.specs.Vocabulary.{Kind, Word, Link, Op, MARK, EffectKind, Running}
use Rattle.queue_laws.specs.{Common.Stand.Stand, Chain.ChainCells.Chain, Chain.ChainAnswers.tail_place, Chain.ChainAnswers.tail_word, Common.Operations.op_word, Common.Operations.op_makes}
use Rattle.queue_laws.proofs.{Common.Tails.mark_tail, Common.Tails.shut_tail, Chain.ChainEnds.Ends, Chain.ChainEnds.ends_made}
use Rattle.queue_laws.proofs.Chain.ChainEnds as made
use Rattle.machine_replay.proofs.{Engine.StandOf.running_of, Chain.Names.ends_in, Chain.Coded.ends_after}
use Rattle.queue_laws.specs.Chain.ChainAt.{At, push_tail, push_block, asking, installing, showing, claiming, spending, pop_head, pop_block, pop_tail, taking, count_tail, count_head, count_again, empty_head, empty_tail, closing, closed_tail}
use prog.Atomic.{either}
use Rattle.machine_memory.specs.SharedMemory.{MemoryState, put_word, granted_if}
use Rattle.machine_steps.specs.Steps.{step_of}

-- the words that a step leaves
abbrev SameWords : {A : Type 0} → MemoryState A → MemoryState A → Type 0
SameWords s t = (t.head ≡ s.head) × (t.tail ≡ s.tail)

granted_words : {A : Type 0} (ok : Bool) (s : MemoryState A) → SameWords s (granted_if ok s)
granted_words true s = (refl, refl)
granted_words false s = (refl, refl)

lost_tail : {A : Type 0} (b : Bool) (s : MemoryState A) (x : ℕ) (e : EffectKind) → (if b then Some e else None) ≡ None → SameWords s (put_word s Word.Tail (either b x s.tail))
lost_tail true s x e none = cc
lost_tail false s x e none = (refl, refl)

lost_head : {A : Type 0} (b : Bool) (s : MemoryState A) (x : ℕ) (e : EffectKind) → (if b then Some e else None) ≡ None → SameWords s (put_word s Word.Head (either b x s.head))
lost_head true s x e none = cc
lost_head false s x e none = (refl, refl)

marked_before : (w q : ℕ) (c : Bool) (e : EffectKind) → w ≡ tail_of q c → (if is_shut w then None else Some e) ≡ None → bit_or w MARK ≡ w
marked_before w q true e is none = ap (λ z. bit_or z MARK) is ∙ (mark_tail q true ∙ sym is)
marked_before w q false e is none = let opened : is_shut w ≡ false = ap is_shut is ∙ shut_tail q false in let no : Some e ≡ None = rw opened at none in cc

pub not_empty : {X : Type 0} (x : X) (xs : List X) → x ∷ xs ≡ [] → ⊥
not_empty x xs e = cc

-- a step without effect of a call that has had none leaves the words
pub words_stay : {A : Type 0} {c : Chain A} {who : ℕ} {ms : List (State A)} {k : Stand A} (ok : Bool) (s : MemoryState A) → At c who ms k → k.effects ≡ [] → s.tail ≡ tail_word c
    → (step_of Kind.Unbounded ok s (running_of k)).effect ≡ None → SameWords s (step_of Kind.Unbounded ok s (running_of k)).shared
words_stay ok s (push_tail d v spare none spare_is) e is quiet = (refl, refl)
words_stay ok s (push_block d v spare q none spare_is saw) e is quiet = (refl, refl)
words_stay ok s (asking d v q block none saw asked) e is quiet = granted_words ok s
words_stay ok s (installing d v f none saw fresh) e is quiet = (refl, refl)
words_stay ok s (showing d v name holds saw shown named) e is quiet = (refl, refl)
words_stay ok s (claiming d v q name spare none spare_is saw block enough) e is quiet = lost_tail _ s _ _ quiet
words_stay {c = c} ok s (spending d v spare none spare_is spent) e is quiet = (refl, marked_before s.tail (tail_place c.tail c.mover) c.closed _ is quiet)
words_stay ok s (pop_head none) e is quiet = (refl, refl)
words_stay ok s (pop_block n more none at room) e is quiet = (refl, refl)
words_stay ok s (pop_tail n block none at front) e is quiet = (refl, refl)
words_stay ok s (taking n name next more new none at front there word_is room) e is quiet = lost_head _ s _ _ quiet
words_stay ok s (count_tail l count none) e is quiet = (refl, refl)
words_stay ok s (count_head l w count none small low) e is quiet = (refl, refl)
words_stay ok s (count_again l w h count none small seen) e is quiet = (refl, refl)
words_stay ok s (empty_head none) e is quiet = (refl, refl)
words_stay ok s (empty_tail h none small saw) e is quiet = (refl, refl)
words_stay {c = c} ok s (closing none) e is quiet = (refl, marked_before s.tail (tail_place c.tail c.mover) c.closed _ is quiet)
words_stay ok s (closed_tail none) e is quiet = (refl, refl)
words_stay ok s _ e is quiet = absurd (not_empty _ _ e)

-- the poppers go on seeing a block
word_front : (e : Ends) (w : Word ℕ) (x : ℕ) → (made.put_word e w x).front ≡ e.front
word_front e Word.Head x = refl
word_front e Word.Tail x = refl
word_front e w x = refl

front_made : (o : Op ℕ) (e : Ends) → IsSome e.front → IsSome (ends_made o e).front
front_made (Op.LoadLink l) e h = h
front_made (Op.StoreLink Link.HeadBlock f) e h = refl
front_made (Op.StoreLink l f) e h = h
front_made (Op.Install f) e h = h
front_made Op.Ask e h = h
front_made o e h = subst (λ b. IsSome b) (sym (word_front e (op_word o) (op_makes o (made.end_word e (op_word o))))) h

module _ (A : Type 0) where
  pub ready_on : (ok : Bool) (s : MemoryState A) (r : Running A) → IsSome s.head_block → IsSome (step_of Kind.Unbounded ok s r).shared.head_block
  ready_on ok s r h = subst (λ e. IsSome e.front) (sym (ends_after ok s r)) (front_made r.op (ends_in s) h)
