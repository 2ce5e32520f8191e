-- What each step of a call makes of a chain's two words and of the links to its front and last block, wherever they are kept.
use Rattle.std.proofs.Common.{ℕ, ◌+◌, ◌-◌, ◌*◌, ◌%◌, ◌/◌, ◌<◌, ◌≡◌, ◌≢◌, ◌==◌, ◌^◌, ◌∙◌, ◌⊎◌, inl, inr, zero, suc, Bool, true, false, if◌then◌else◌, Option, Some, None, List, refl, sym, ap, subst, arith, mod-eq_of_lt}
use Rattle.std.proofs.lemmas.Bool.Decides.{eqb_tells}
use prog.Atomic.{either}
use Rattle.queue_steps.specs.{State.State, Words.tail_of, Words.position_of, ChainWords.offset_of}
use Rattle.queue_laws.specs.Common.Vocabulary.{Word, Link, Op, Answer, BLOCK_SLOTS, TAIL_STEP}
use Rattle.queue_laws.specs.{Common.Operations.op_word, Common.Operations.op_makes, Common.Operations.answer_for, Common.Operations.offered, Common.Puts.put, Common.Stand.Stand}
use Rattle.queue_laws.specs.Chain.ChainFacts.{place, head_of, open_tail_of, HeadIs, TailIs}
use Rattle.queue_laws.specs.Chain.ChainAnswers.{tail_place, head_place, tail_word, head_word, last_of, shown_of, is_done}
use Rattle.queue_laws.specs.Chain.ChainCells.{Rests, Laying, Opening, Passer, Stands, Passing, Entering, Shown, Seen, Chain, BlocksOk, FrontOk, ShownOk, ChainOk, item_at}
use Rattle.queue_laws.specs.Chain.ChainTransitions.{laid_out, walked, walk_after}
use Rattle.queue_laws.specs.Chain.ChainAfter.{if_installed, claimed_if, if_claimed, taken_if, if_taken, after_of}
use Rattle.queue_laws.specs.Chain.ChainAt.{At, asking, installing, showing, claiming, laying, opening, spending, taking, passing, entering, walking, closing}
use Rattle.queue_laws.proofs.{Common.Puts.put_other, Common.Puts.put_same, Common.Tails.mark_tail, Common.Tails.next_tail, Common.Tails.position_tail}
use Rattle.queue_laws.proofs.Chain.{ChainAnswers.tail_small, ChainAnswers.same_tail, ChainAnswers.same_head, ChainAnswers.head_offset, ChainReads.passer_sees, ChainTransitions.no_front}

-- what a chain has beside its blocks: its two words, the poppers' block and the pushers'
pub record Ends : Type 0 where
  pub head : ℕ
  pub tail : ℕ
  pub front : Option ℕ
  pub last : Option ℕ

abbrev pub ends_of : {A : Type 0} → Chain A → Ends
ends_of c = record { head = head_word c; tail = tail_word c; front = shown_of c.shown (c.names c.front); last = last_of c.names c.blocks }

abbrev pub end_word : Ends → Word ℕ → ℕ
end_word e Word.Head = e.head
end_word e Word.Tail = e.tail
end_word e _ = 0

abbrev pub put_word : Ends → Word ℕ → ℕ → Ends
put_word e Word.Head x = record e { head = x }
put_word e Word.Tail x = record e { tail = x }
put_word e _ x = e

abbrev pub put_link : Ends → Link ℕ → ℕ → Ends
put_link e Link.HeadBlock f = record e { front = Some f }
put_link e Link.TailBlock f = record e { last = Some f }
put_link e _ f = e

-- what an operation makes of them
abbrev pub ends_made : Op ℕ → Ends → Ends
ends_made (Op.LoadLink l) e = e
ends_made (Op.StoreLink l f) e = put_link e l f
ends_made (Op.Install f) e = record e { last = offered e.last f }
ends_made Op.Ask e = e
ends_made o e = put_word e (op_word o) (op_makes o (end_word e (op_word o)))

abbrev pub end_link : Ends → Link ℕ → Option ℕ
end_link e Link.HeadBlock = e.front
end_link e Link.TailBlock = e.last
end_link e _ = None

-- what it answers, where it is on one of them
abbrev pub ends_answer : Op ℕ → Ends → Answer ℕ
ends_answer (Op.LoadLink l) e = Answer.Linked (end_link e l)
ends_answer (Op.StoreLink l f) e = Answer.Done
ends_answer (Op.Install f) e = Answer.Linked e.last
ends_answer o e = answer_for o (end_word e (op_word o))

-- the tail's word behind the item q, within a block and at its end
tail_within : (q : ℕ) → q % BLOCK_SLOTS + 1 ≢ BLOCK_SLOTS → open_tail_of q + TAIL_STEP ≡ tail_of (tail_place (q + 1) Rests) false
tail_within q ne = omega arith

tail_over : (q who : ℕ) → q % BLOCK_SLOTS + 1 ≡ BLOCK_SLOTS → open_tail_of q + TAIL_STEP ≡ tail_of (tail_place (q + 1) (Laying who)) false
tail_over q who last = omega arith

-- the head's word behind the item n, within a block and at its end
head_within : (n : ℕ) (new : Bool) → n % BLOCK_SLOTS + 1 ≢ BLOCK_SLOTS → place n * 2 + TAIL_STEP + (if new then 1 else 0) ≡ tail_of (head_place (n + 1) Stands) new
head_within n true ne = omega arith
head_within n false ne = omega arith

head_over : (n who : ℕ) (new : Bool) → n % BLOCK_SLOTS + 1 ≡ BLOCK_SLOTS → place n * 2 + TAIL_STEP + (if new then 1 else 0) ≡ tail_of (head_place (n + 1) (Passing who)) new
head_over n who true last = omega arith
head_over n who false last = omega arith

-- the last of so many names
last_name : (names : ℕ → ℕ) (n b : ℕ) → n ≡ b + 1 → last_of names n ≡ Some (names b)
last_name names zero b e = absurd (omega arith)
last_name names (suc n) b e = ap (λ m. Some (names m)) (omega arith)

-- which block the poppers see is the same where another one gets a name
shown_same : (blocks head front : ℕ) (known : Bool) (passer : Passer) (names : ℕ → ℕ) (f : ℕ) (s : Shown) → ShownOk blocks head front known passer s → shown_of s (put names blocks f front) ≡ shown_of s (names front)
shown_same blocks head front known passer names f Seen h = ap (λ x. Some x) (put_other names blocks front f (λ e. omega arith))
shown_same blocks head front known passer names f s h = refl

module _ {A : Type 0} (c : Chain A) (who : ℕ) (ok : ChainOk c) where
  install_ends : (f b : ℕ) → c.blocks ≡ b → ends_of (if_installed c who f b) ≡ record (ends_of c) { last = offered (last_of c.names b) f }
  install_ends f zero none =
      let hidden = no_front c ok none in
      λ i. record {
        head = head_word c;
        tail = tail_word c;
        front = sym (ap (λ s. shown_of s (c.names c.front)) hidden.0) i;
        last = (last_name (put c.names c.blocks f) (c.blocks + 1) c.blocks refl ∙ ap (λ n. Some n) (put_same c.names c.blocks f)) i;
      }
  install_ends f (suc b) some = ap (λ l. record (ends_of c) { last = l }) (ap (λ n. last_of c.names n) some)

  claim_ends : (v : A) (q : ℕ) → TailIs c q → ends_of (if_claimed c who q v) ≡ record (ends_of c) { tail = either (tail_word c == open_tail_of q) (open_tail_of q + TAIL_STEP) (tail_word c) }
  claim_ends v q is = elim (eqb_tells (tail_word c) (open_tail_of q)) [
    | inl e ↦ subst (λ b. Claims b (offset_of (open_tail_of q) + 1 == BLOCK_SLOTS)) (sym e.0) (won (same_tail c q ok is e.1) (eqb_tells (offset_of (open_tail_of q) + 1) BLOCK_SLOTS))
    | inr e ↦ subst (λ b. Claims b (offset_of (open_tail_of q) + 1 == BLOCK_SLOTS)) (sym e.0) refl
  ]
    where
      Claims : Bool → Bool → Type 0
      Claims b last = ends_of (claimed_if c who v b last) ≡ record (ends_of c) { tail = either b (open_tail_of q + TAIL_STEP) (tail_word c) }

      won : (c.closed ≡ false) × (c.tail ≡ q) × (c.mover ≡ Rests)
          → (((offset_of (open_tail_of q) + 1 == BLOCK_SLOTS) ≡ true) × (offset_of (open_tail_of q) + 1 ≡ BLOCK_SLOTS)) ⊎ (((offset_of (open_tail_of q) + 1 == BLOCK_SLOTS) ≡ false) × (offset_of (open_tail_of q) + 1 ≢ BLOCK_SLOTS))
          → Claims true (offset_of (open_tail_of q) + 1 == BLOCK_SLOTS)
      won (unshut, at, rests) (inl t) = subst (λ b. Claims true b) (sym t.0)
          (ap (λ w. record (ends_of c) { tail = w }) (sym (tail_over q who (let last = t.1 in omega arith) ∙ (λ i. tail_of (tail_place (sym at i + 1) (Laying who)) (sym unshut i)))))
      won (unshut, at, rests) (inr t) = subst (λ b. Claims true b) (sym t.0)
          (ap (λ w. record (ends_of c) { tail = w }) (sym (tail_within q (λ z. t.1 (omega arith)) ∙ (λ i. tail_of (tail_place (sym at i + 1) Rests) (sym unshut i)))))

  lay_ends : (f : ℕ) → c.mover ≡ Laying who → ends_of (laid_out c who f) ≡ record (ends_of c) { last = Some f }
  lay_ends f lays = λ i. record {
    head = head_word c;
    tail = sym (ap (λ m. tail_of (tail_place c.tail m) c.closed) lays) i;
    front = shown_same c.blocks c.head c.front c.known c.passer c.names f c.shown ok.seen i;
    last = (last_name (put c.names c.blocks f) (c.blocks + 1) c.blocks refl ∙ ap (λ n. Some n) (put_same c.names c.blocks f)) i;
  }

  open_ends : c.mover ≡ Opening who → tail_of (place c.tail) c.closed ≡ (tail_word c + TAIL_STEP) % 2 ^ 64
  open_ends opens =
      let full : BlocksOk c.tail c.blocks (Opening who) = subst (λ m. BlocksOk c.tail c.blocks m) opens ok.laid in
      let some = full.0 in
      let at = full.1 in
      let next : place c.tail - 1 + 1 ≡ place c.tail = omega arith in
      let more : tail_word c + TAIL_STEP ≡ tail_of (place c.tail) c.closed =
      ap (λ m. tail_of (tail_place c.tail m) c.closed + TAIL_STEP) opens ∙ (next_tail (place c.tail - 1) c.closed ∙ ap (λ p. tail_of p c.closed) next) in
      let small = tail_small c ok in
      sym (mod-eq_of_lt (let lt : tail_word c + TAIL_STEP < 2 ^ 64 = omega arith in lt) ∙ more)

  take_ends : (n after : ℕ) (more new : Bool) → HeadIs c n → after ≡ place n * 2 + TAIL_STEP + (if new then 1 else 0)
      → ends_of (if_taken c who n more new) ≡ record (ends_of c) { head = either (head_word c == head_of n more) after (head_word c) }
  take_ends n after more new is word_is = elim (eqb_tells (head_word c) (head_of n more)) [
    | inl e ↦ subst (λ b. Takes b (offset_of (head_of n more) + 1 == BLOCK_SLOTS)) (sym e.0) (won (same_head c n more ok is e.1) (eqb_tells (offset_of (head_of n more) + 1) BLOCK_SLOTS))
    | inr e ↦ subst (λ b. Takes b (offset_of (head_of n more) + 1 == BLOCK_SLOTS)) (sym e.0) refl
  ]
    where
      Takes : Bool → Bool → Type 0
      Takes b last = ends_of (taken_if c who new b last) ≡ record (ends_of c) { head = either b after (head_word c) }

      won : (c.known ≡ more) × (c.head ≡ n) × (c.passer ≡ Stands)
          → (((offset_of (head_of n more) + 1 == BLOCK_SLOTS) ≡ true) × (offset_of (head_of n more) + 1 ≡ BLOCK_SLOTS)) ⊎ (((offset_of (head_of n more) + 1 == BLOCK_SLOTS) ≡ false) × (offset_of (head_of n more) + 1 ≢ BLOCK_SLOTS))
          → Takes true (offset_of (head_of n more) + 1 == BLOCK_SLOTS)
      won (knows, at, stands) (inl t) = subst (λ b. Takes true b) (sym t.0)
          (ap (λ w. record (ends_of c) { head = w }) (sym (word_is ∙ (head_over n who new (let last = t.1 in let off = head_offset n more in omega arith) ∙ ap (λ i. tail_of (head_place (i + 1) (Passing who)) new) (sym at)))))
      won (knows, at, stands) (inr t) = subst (λ b. Takes true b) (sym t.0)
          (ap (λ w. record (ends_of c) { head = w }) (sym (word_is ∙ (head_within n new (λ z. t.1 (let off = head_offset n more in omega arith)) ∙ ap (λ i. tail_of (head_place (i + 1) Stands) new) (sym at)))))

  pass_ends : (n name : ℕ) → (c.passer ≡ Passing who) × (c.head ≡ n + 1) → name ≡ c.names (n / BLOCK_SLOTS + 1)
      → record (ends_of c) { head = tail_of (place c.head - 1) c.known; front = shown_of c.shown (c.names (c.front + 1)) } ≡ record (ends_of c) { front = Some name }
  pass_ends n name (passes, at) named =
      let stood : FrontOk c.head c.front (Passing who) = subst (λ p. FrontOk c.head c.front p) passes ok.fronted in
      let next : n / BLOCK_SLOTS + 1 ≡ c.front + 1 = omega arith in
      let sees = passer_sees c ok (λ e. let z : Passing who ≡ Stands = sym passes ∙ e in cc) in
      λ i. record (ends_of c) {
        head = sym (ap (λ p. tail_of (head_place c.head p) c.known) passes) i;
        front = (ap (λ s. shown_of s (c.names (c.front + 1))) sees ∙ sym (ap (λ m. Some m) (named ∙ ap c.names next))) i;
      }

  enter_ends : (n : ℕ) (more further : Bool) → (c.passer ≡ Entering who) × (c.head ≡ n + 1) → tail_of (place c.head) further ≡ (position_of (head_of n more) + 2) * 2 + (if further then 1 else 0)
  enter_ends n more further (enters, at) =
      let stood : FrontOk c.head c.front (Entering who) = subst (λ p. FrontOk c.head c.front p) enters ok.fronted in
      let there : position_of (head_of n more) + 2 ≡ place c.head = let p : position_of (head_of n more) ≡ place n = position_tail (place n) more in omega arith in
      go further there
    where
      go : (b : Bool) → position_of (head_of n more) + 2 ≡ place c.head → tail_of (place c.head) b ≡ (position_of (head_of n more) + 2) * 2 + (if b then 1 else 0)
      go true there = omega arith
      go false there = omega arith

-- each step makes of the ends what its operation makes of them
pub step_ends : {A : Type 0} {c : Chain A} {who : ℕ} {ms : List (State A)} {k : Stand A} (at : At c who ms k) (a : Answer ℕ) → ChainOk c → ends_of (after_of at a) ≡ ends_made k.op (ends_of c)
step_ends (asking d x q block none saw asked) (Answer.Granted f) ok = refl
step_ends {c = c} {who = who} (installing d x f none saw fresh) a ok = install_ends c who ok f c.blocks refl
step_ends {c = c} (showing d x name first saw is named) a ok =
    let hidden = subst (λ s. ShownOk c.blocks c.head c.front c.known c.passer s) is ok.seen in
    ap (λ m. record (ends_of c) { front = Some m }) (ap c.names hidden.2 ∙ sym named.1)
step_ends {c = c} {who = who} (claiming d x q name spare none spare_is saw block enough) a ok = claim_ends c who ok x q saw.is
step_ends {c = c} {who = who} (laying d x n name f holds mine lays fresh) a ok = lay_ends c who ok f lays.0
step_ends {c = c} {who = who} (opening d x n name f holds mine opens links named) a ok = ap (λ w. record (ends_of c) { tail = w }) (open_ends c who ok opens.0)
step_ends {c = c} (spending d x spare none spare_is spent) a ok = ap (λ w. record (ends_of c) { tail = w }) (sym (mark_tail (tail_place c.tail c.mover) c.closed))
step_ends {c = c} {who = who} (taking n name after more new none is front there word_is room) a ok = take_ends c who ok n after more new is word_is
step_ends {c = c} {who = who} (passing x n name after more further holds got pass behind room) a ok = pass_ends c who ok n after pass behind.1.1
step_ends {c = c} {who = who} (entering x n name more further holds got enters room) a ok = ap (λ w. record (ends_of c) { head = w }) (enter_ends c who ok n more further enters)
step_ends {c = c} {who = who} (walking x b name slot holds is named) a ok = elim (is_done (c.readers (item_at b slot))) as (λ t. ends_of (if t then walked c b (walk_after who slot) else c) ≡ ends_of c) [ true ↦ refl | false ↦ refl ]
step_ends {c = c} (closing none) a ok = ap (λ w. record (ends_of c) { tail = w }) (sym (mark_tail (tail_place c.tail c.mover) c.closed))
step_ends at a ok = refl
