-- A chain: a pop that has taken waits for a push alone that has appended and not written yet.
use Rattle.std.proofs.Common.{ℕ, ◌+◌, ◌-◌, ◌*◌, ◌/◌, ◌%◌, ◌==◌, if◌then◌else◌, ◌<◌, ◌≤◌, ◌≡◌, ◌≢◌, ◌⊎◌, inl, inr, ◌∙◌, nat_lt, not, Bool, true, false, Ok, Option, Some, List, bit_and, refl, sym, ap, subst, arith}
use Rattle.std.proofs.lemmas.Bool.{cond_both, ltb-true, Decides.eqb_tells}
use Rattle.machine_replay.specs.Vocabulary.{Reply, Kind, Word, Op, Touch, Answer, Local, Next, BLOCK_SLOTS, WRITE, READ, DESTROY, Running}
use Rattle.queue_steps.specs.{State.State, Next.next_of, ChainWords.offset_of, ChainNext.followed, ChainNext.written_found, ChainNext.ends, ChainNext.walks, ChainNext.walks_on, ChainNext.chain_next, declared.steps.chain.ChainLocal.ChainLocal as chain}
use Rattle.queue_laws.specs.{Common.Stand.Stand, Chain.ChainAfter.chain_of, Chain.ChainAnswers.Answers, Chain.ChainAnswers.IsState, Chain.ChainAnswers.linked_of, Chain.ChainAnswers.is_wrote, Chain.ChainFacts.head_of}
use Rattle.queue_laws.specs.Chain.ChainCells as cells
use Rattle.queue_laws.specs.Chain.ChainCells.{Reader, Unread, Reading, Done, Shown, Seen, Chain, ChainOk, ItemOk, ShownOk, Part, Write, Read, Tail, Head, Passed, item_at, LAST, HoldsOnly}
use Rattle.queue_laws.specs.Chain.ChainAt.{Only, Either, At, showing, laying, opening, chaining, writing, following, peeking, passing, entering, awaiting, reading, beginning, walking, destroying}
use Rattle.queue_laws.proofs.Chain.{ChainEarly.early, ChainAnswers.head_offset, ChainRanks.rests_if, ChainRanks.unheld, ChainRanksPop.wrote_then, ChainRanksPop.linked_then, ChainRanksWalk.last_claimed, ChainReads.own_item, ChainStep.is_chain}
use Rattle.machine_replay.specs.{Book.Open, Progress.TakesReplyWithin}
use Rattle.machine_memory.specs.SharedMemory.{MemoryState}
use Rattle.machine_steps.specs.Steps.{answer_to, step_of, running_after, next_after, carried_then}
use Rattle.machine_replay.proofs.{Chain.Fits.ChainFits, Chain.Holding.ChainHolds, Chain.Laws.next_on, Chain.Stands.steps_stand, Chain.Kind.chain_rules, Progress.Appended.HasAppend, Progress.Taken.HasTake, Progress.Taken.takes_reply}

-- a part that a pop may hold
abbrev IsPops : Part → Type 0
IsPops (Read n) = Unit {0}
IsPops Head = Unit {0}
IsPops (Passed b) = Unit {0}
IsPops _ = ⊥

-- the party holds no part of a push
abbrev Clear : {A : Type 0} → Chain A → ℕ → Type 0
Clear c q = HoldsOnly c q IsPops

-- once the first block is shown, so does a call that has not appended
clear_of : {A : Type 0} {c : Chain A} {who : ℕ} {ms : List (State A)} {k : Stand A} → At c who ms k → c.shown ≡ Seen → (HasAppend k.effects → ⊥) → Clear c who
clear_of (showing d v name first saw is named) seen never = cc
clear_of (following item n name more holds got pass) seen never = λ x e. elim (holds x e) [ inl y ↦ subst IsPops (sym y) tt | inr y ↦ subst IsPops (sym y) tt ]
clear_of (peeking item n name after more holds got pass behind) seen never = λ x e. elim (holds x e) [ inl y ↦ subst IsPops (sym y) tt | inr y ↦ subst IsPops (sym y) tt ]
clear_of (passing item n name after more further holds got pass behind room) seen never = λ x e. elim (holds x e) [ inl y ↦ subst IsPops (sym y) tt | inr y ↦ subst IsPops (sym y) tt ]
clear_of (entering item n name more further holds got enters room) seen never = λ x e. elim (holds x e) [ inl y ↦ subst IsPops (sym y) tt | inr y ↦ subst IsPops (sym y) tt ]
clear_of (awaiting item n name more holds got) seen never = λ x e. subst IsPops (sym (holds x e)) tt
clear_of (reading item n name more holds got wrote inner) seen never = λ x e. subst IsPops (sym (holds x e)) tt
clear_of (beginning item n name more holds got wrote last) seen never = λ x e. subst IsPops (sym (holds x e)) tt
clear_of (walking item b name slot holds is named) seen never = λ x e. subst IsPops (sym (holds x e)) tt
clear_of (destroying item b name slot holds is named) seen never = λ x e. subst IsPops (sym (holds x e)) tt
clear_of (laying d v n name f holds mine lays fresh) seen never = absurd (never tt)
clear_of (opening d v n name f holds mine opens links named) seen never = absurd (never tt)
clear_of (chaining d v n name f holds mine links named) seen never = absurd (never tt)
clear_of (writing d v n name spare holds mine spare_is) seen never = absurd (never tt)
clear_of here seen never = λ x e. absurd ((early refl here).1 x e)

inner_low : (n i : ℕ) → i ≡ n % BLOCK_SLOTS → (n % BLOCK_SLOTS + 1 ≡ BLOCK_SLOTS → ⊥) → i < LAST
inner_low n i e ne = elim (eqb_tells (n % BLOCK_SLOTS + 1) BLOCK_SLOTS) [ inl t ↦ absurd (ne t.1) | inr t ↦ let z = t.1 in omega arith ]

-- how many steps a call has before it that has taken
to_reply : Local ℕ → ℕ
to_reply (Local.Chain (chain.Following head block)) = 2 * LAST + 5
to_reply (Local.Chain (chain.Peeking head block after)) = 2 * LAST + 4
to_reply (Local.Chain (chain.Passing head block more)) = 2 * LAST + 3
to_reply (Local.Chain (chain.Entering head block)) = 2 * LAST + 2
to_reply (Local.Chain (chain.Awaiting head block)) = 2 * LAST + 1
to_reply (Local.Chain (chain.Reading block slot)) = 2 * (LAST - slot)
to_reply (Local.Chain (chain.Walking block slot)) = 2 * (LAST - slot)
to_reply (Local.Chain (chain.Destroying block slot)) = 2 * (LAST - slot) - 1
to_reply _ = 1

abbrev Nears : Next ℕ → ℕ → Type 0
Nears (Next.Step l t o) m = to_reply l < m
Nears (Next.Reply x spare) m = Unit {0}

-- the walk goes on behind a slot
on_nears : (name slot m : ℕ) → slot < LAST → 2 * (LAST - slot) ≤ m + 1 → Nears (walks_on name slot) m
unfolding to_reply
on_nears name slot m low le =
    cond_both (nat_lt (slot + 2) BLOCK_SLOTS) (walks name (slot + 1) Touch.Nothing) (Next.Reply (Reply.Pop (Ok tt)) (Some name)) (λ x. Nears x m)
    (λ on. let lt = ltb-true (slot + 2) BLOCK_SLOTS on in omega arith) (λ over. tt)

maybe_on_nears : (on : Bool) (name slot m : ℕ) → slot < LAST → 2 * (LAST - slot) ≤ m + 1 → Nears (if on then walks_on name slot else ends (Reply.Pop (Ok tt))) m
maybe_on_nears true name slot m low le = on_nears name slot m low le
maybe_on_nears false name slot m low le = tt

walking_nears : (name slot st : ℕ) → slot < LAST → Nears (chain_next (chain.Walking name slot) (Answer.Found st)) (2 * (LAST - slot))
unfolding to_reply
walking_nears name slot st low =
    elim (bit_and st READ == 0) as (λ b. Nears (if not b then walks_on name slot else Next.Step (Local.Chain (chain.Destroying name slot)) Touch.Nothing (Op.Or (Word.State name slot) DESTROY)) (2 * (LAST - slot))) [
      | true ↦ omega arith
      | false ↦ on_nears name slot (2 * (LAST - slot)) low (omega arith)
    ]

awaiting_nears : (head name st : ℕ) → (bit_and st WRITE == 0) ≡ false → Nears (written_found head name st) (2 * LAST + 1)
unfolding to_reply
awaiting_nears head name st written = last (eqb_tells (offset_of head + 1) BLOCK_SLOTS)
  where
    last : (((offset_of head + 1 == BLOCK_SLOTS) ≡ true) × (offset_of head + 1 ≡ BLOCK_SLOTS)) ⊎ (((offset_of head + 1 == BLOCK_SLOTS) ≡ false) × (offset_of head + 1 ≢ BLOCK_SLOTS)) → Nears (written_found head name st) (2 * LAST + 1)
    last (inl e) = rw (written, e.0) (omega arith)
    last (inr e) = rw (written, e.0) (omega arith)

nears : {A : Type 0} {c : Chain A} {who : ℕ} {ms : List (State A)} {k : Stand A} → At c who ms k → HasTake k.effects → (a : Answer ℕ) → ChainOk c → Answers c k.op a → ((j : ℕ) → j ≢ who → Clear c j)
    → Nears (chain_next (chain_of k.local) a) (to_reply k.local)
unfolding to_reply
nears {c = c} {who = who} (following x n name more holds got pass) had a ok found clear =
    let rest = rests_if c.mover (unheld c who (Either (Read n) Head) IsPops Tail clear holds (λ z. elim z [ inl y ↦ absurd (cc) | inr y ↦ absurd (cc) ]) (λ z. z)) in
    let free = unheld c who (Either (Read n) Head) IsPops (cells.Next (n / BLOCK_SLOTS)) clear holds (λ z. elim z [ inl y ↦ absurd (cc) | inr y ↦ absurd (cc) ]) (λ z. z) in
    rw (found (n / BLOCK_SLOTS) got.named) (subst (λ l. Nears (followed (head_of n more) name (linked_of l (c.names (n / BLOCK_SLOTS + 1)))) (2 * LAST + 5)) (sym (linked_then c who n ok rest free pass)) (omega arith))
nears {c = c} {who = who} (peeking x n name after more holds got pass behind) had a ok found clear = rw (found (n / BLOCK_SLOTS + 1) behind.1) (omega arith)
nears {c = c} {who = who} (passing x n name after more further holds got pass behind room) had a ok found clear = rw found (omega arith)
nears {c = c} {who = who} (entering x n name more further holds got enters room) had a ok found clear = rw found (omega arith)
nears {c = c} {who = who} (awaiting x n name more holds got) had a ok found clear =
    let h = found (n / BLOCK_SLOTS) got.named in
    let state : IsState c (n / BLOCK_SLOTS) (n % BLOCK_SLOTS) h.0 = subst (λ i. IsState c (n / BLOCK_SLOTS) i h.0) (head_offset n more) h.2 in
    let wrote = wrote_then c who n ok (unheld c who (Only (Read n)) IsPops (Write n) clear holds (λ z. absurd (cc)) (λ z. z)) got.mine in
    rw (h.1) (awaiting_nears (head_of n more) name h.0 (state.written ∙ (ap (λ m. not (is_wrote (c.writers m))) (own_item n) ∙ ap not wrote)))
nears {c = c} {who = who} (reading x n name more holds got wrote inner) had a ok found clear =
    let h = found (n / BLOCK_SLOTS) got.named in
    let at : offset_of (head_of n more) ≡ n % BLOCK_SLOTS = head_offset n more in
    let low : offset_of (head_of n more) < LAST = inner_low n (offset_of (head_of n more)) at inner in
    rw (h.1) (maybe_on_nears (not (bit_and h.0 DESTROY == 0)) name (offset_of (head_of n more)) (2 * (LAST - offset_of (head_of n more))) low (omega arith))
nears {c = c} {who = who} (beginning x n name more holds got wrote last) had a ok found clear =
    let h = found (n / BLOCK_SLOTS) got.named in
    rw (h.1) (walking_nears name 0 h.0 (omega arith))
nears {c = c} {who = who} (walking x b name slot holds is named) had a ok found clear =
    let h = found b named in
    rw (h.1) (walking_nears name slot h.0 (last_claimed c who b slot ok is).0)
nears {c = c} {who = who} (destroying x b name slot holds is named) had a ok found clear =
    let h = found b named in
    rw (h.1) (maybe_on_nears (not (bit_and h.0 READ == 0)) name slot (2 * (LAST - slot) - 1) (last_claimed c who b slot ok is).0 (omega arith))
nears _ had a ok found clear = absurd had

in_bounds : {A : Type 0} {c : Chain A} {who : ℕ} {ms : List (State A)} {k : Stand A} → At c who ms k → HasTake k.effects → ChainOk c → (0 < to_reply k.local) × (to_reply k.local ≤ 2 * LAST + 5)
unfolding to_reply
in_bounds (following x n name more holds got pass) had ok = (omega arith, omega arith)
in_bounds (peeking x n name after more holds got pass behind) had ok = (omega arith, omega arith)
in_bounds (passing x n name after more further holds got pass behind room) had ok = (omega arith, omega arith)
in_bounds (entering x n name more further holds got enters room) had ok = (omega arith, omega arith)
in_bounds (awaiting x n name more holds got) had ok = (omega arith, omega arith)
in_bounds (reading x n name more holds got wrote inner) had ok = let low = inner_low n (offset_of (head_of n more)) (head_offset n more) inner in (omega arith, omega arith)
in_bounds (beginning x n name more holds got wrote last) had ok = (omega arith, omega arith)
in_bounds {c = c} {who = who} (walking x b name slot holds is named) had ok = let low = (last_claimed c who b slot ok is).0 in (omega arith, omega arith)
in_bounds {c = c} {who = who} (destroying x b name slot holds is named) had ok = let low = (last_claimed c who b slot ok is).0 in (omega arith, omega arith)
in_bounds _ had ok = absurd had

-- an item that is claimed has left the list, so the first block is shown
claimed_low : {A : Type 0} (head tail : ℕ) (items : List A) (n : ℕ) (w : cells.Writer A) (r : Reader) → r ≢ Unread → ItemOk head tail items n w r → n < head
claimed_low head tail items n w Unread ne ok = absurd (ne refl)
claimed_low head tail items n cells.Free (Reading q) ne ok = absurd ok
claimed_low head tail items n cells.Free Done ne ok = absurd ok
claimed_low head tail items n (cells.Writing p v) Done ne ok = absurd ok
claimed_low head tail items n w r ne ok = ok

seen_of : {A : Type 0} (c : Chain A) (n : ℕ) → ChainOk c → c.readers n ≢ Unread → c.shown ≡ Seen
seen_of {A} c n ok ne = go c.shown refl ok.seen
  where
    low : n < c.head
    low = claimed_low c.head c.tail c.items n (c.writers n) (c.readers n) ne (ok.item n)

    go : (s : Shown) → c.shown ≡ s → ShownOk c.blocks c.head c.front c.known c.passer s → c.shown ≡ Seen
    go Seen e h = e
    go s e h = absurd (let l = low in let z = h.1 in omega arith)

pub ready_of : {A : Type 0} {c : Chain A} {who : ℕ} {ms : List (State A)} {k : Stand A} → At c who ms k → HasTake k.effects → ChainOk c → c.shown ≡ Seen
ready_of {c = c} {who = who} (following x n name more holds got pass) had ok = seen_of c n ok (λ e. let y : Reading who ≡ Unread = sym got.mine ∙ e in cc)
ready_of {c = c} {who = who} (peeking x n name after more holds got pass behind) had ok = seen_of c n ok (λ e. let y : Reading who ≡ Unread = sym got.mine ∙ e in cc)
ready_of {c = c} {who = who} (passing x n name after more further holds got pass behind room) had ok = seen_of c n ok (λ e. let y : Reading who ≡ Unread = sym got.mine ∙ e in cc)
ready_of {c = c} {who = who} (entering x n name more further holds got enters room) had ok = seen_of c n ok (λ e. let y : Reading who ≡ Unread = sym got.mine ∙ e in cc)
ready_of {c = c} {who = who} (awaiting x n name more holds got) had ok = seen_of c n ok (λ e. let y : Reading who ≡ Unread = sym got.mine ∙ e in cc)
ready_of {c = c} {who = who} (reading x n name more holds got wrote inner) had ok = seen_of c n ok (λ e. let y : Reading who ≡ Unread = sym got.mine ∙ e in cc)
ready_of {c = c} {who = who} (beginning x n name more holds got wrote last) had ok = seen_of c n ok (λ e. let y : Reading who ≡ Unread = sym got.mine ∙ e in cc)
ready_of {c = c} {who = who} (walking x b name slot holds is named) had ok = seen_of c (item_at b LAST) ok (last_claimed c who b slot ok is).1
ready_of {c = c} {who = who} (destroying x b name slot holds is named) had ok = seen_of c (item_at b LAST) ok (last_claimed c who b slot ok is).1
ready_of _ had ok = absurd had

-- a call that goes on has fewer steps before it
goes_on : {A : Type 0} (n : Next ℕ) (v : Option A) (m : ℕ) (x : Running A) → running_after n v ≡ Some x → Nears n m → to_reply x.local < m
goes_on (Next.Step l t o) v m x e near = let same : record { local = l; touch = t; op = o; carried = v } ≡ x = cc in subst (λ y. to_reply y.local < m) same near
goes_on (Next.Reply y spare) v m x e near = cc

own_falls : {A : Type 0} (busy : ℕ) (ok : Bool) (s : MemoryState A) (Q : State A) (g : Chain A) (p : ℕ) (x x' : Running A) (o : Open A) → ChainHolds s Q g → ChainFits busy s Q g p x o → HasTake o.effects → ((j : ℕ) → j ≢ p → Clear g j)
    → (step_of Kind.Unbounded ok s x).call ≡ Some x' → to_reply x'.local < to_reply x.local
own_falls {A} busy ok s Q g p x x' o holds f had clear goes =
    let a = answer_to ok s x in
    let step = steps_stand A ok s Q g p o.moments x o.call o.effects holds f.here f.spares in
    let near = nears f.here had a holds.ok step.found clear in
    let went : next_after Kind.Unbounded ok s x ≡ next_on ok s x = ap (λ l. next_of Kind.Unbounded l a) (is_chain f.here) in
    goes_on (next_on ok s x) (carried_then s x) (to_reply x.local) x' (subst (λ n. running_after n (carried_then s x) ≡ Some x') went goes) near

pub chain_takes : (A : Type 0) → TakesReplyWithin A Kind.Unbounded (2 * BLOCK_SLOTS + 3)
chain_takes A = takes_reply A Kind.Unbounded (chain_rules A) (record {
  before = to_reply;
  most = 2 * LAST + 5;
  Clear = Clear;
  Ready = λ g. g.shown ≡ Seen;
  within = λ busy s Q g p r o holds f had. in_bounds f.here had holds.ok;
  ready = λ busy s Q g p r o holds f had. ready_of f.here had holds.ok;
  rests = λ g q h. λ x e. absurd (h.0 x e);
  clears = λ busy s Q g q r o seen f no. clear_of f.here seen no;
  falls = λ busy ok s Q g p r r' o holds f had clear goes. own_falls busy ok s Q g p r r' o holds f had clear goes;
})
