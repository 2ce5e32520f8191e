-- The walk over a passed block: a load of a slot's state, and the mark that leaves the walk to the slot's reader. The last step takes the block out.
use Rattle.queue_laws.proofs.{Chain.ChainWalk.behind_slot, Common.Puts.put_same, Chain.ChainAnswers.done_is, Chain.ChainHolds.after_walk_on, Chain.ChainStates.state_done, Chain.ChainStates.state_waits, Chain.ChainStates.state_passed}
use Rattle.queue_laws.specs.{Chain.ChainAt.has_taken, Common.Vocabulary.Answer, Chain.ChainAt.At, Common.Vocabulary.BLOCK_SLOTS, Chain.ChainCells.Chain, Common.Stand.Stand, Chain.ChainAfter.after_of}
use Rattle.std.proofs.Common.{ℕ, ◌+◌, ◌<◌, ◌≡◌, ◌≢◌, ◌==◌, ◌∙◌, not, Bool, true, false, if◌then◌else◌, Option, Ok, None, List, length, refl, sym, ap, subst, arith, bit_and, bit_or}
use mathlib.Core.Option.{some}
use lib.ListN.{get_elem?}
use denote.RawPtr.{Ptr}
use Rattle.queue_laws.specs.Common.{Puts.put, Vocabulary.Reply, Vocabulary.Word, Vocabulary.Op, Vocabulary.Touch, Vocabulary.READ, Vocabulary.DESTROY}
use Rattle.queue_laws.specs.Chain.{ChainTransitions.walked, ChainTransitions.walk_after, ChainFacts.IsNamed, ChainAt.Only, ChainAt.walking, ChainAt.destroying, ChainAnswers.IsState, ChainAnswers.is_done}
use Rattle.queue_steps.specs.{State.State, ChainNext.at, ChainNext.ends, ChainNext.walks_on, declared.steps.chain.ChainLocal.ChainLocal as chain}
use Rattle.queue_laws.specs.Chain.ChainCells.{Reader, Reading, Done, Walk, Before, Walker, Waits, GivenUp, ChainOk, WalkOk, IsWalked, Read, Passed, HoldsOnly, reader_of, item_at, LAST}
use Rattle.mem_blocks.specs.Web.{Block, Sitter, block, Lives, word_of, with_word, vacant}
use Rattle.shared_parties.specs.declared.known.CallState.{CallState}
use Rattle.shared_chain.specs.{Spots.spot, ChainCalls.OutChain, ChainCalls.ChainLent, Rule.BlockIs, Rule.Codes, Steps.BlockStep, Steps.hand_by}
use Rattle.shared_chain.proofs.Frames.Blocks.{named_alive, SlotIs}
use Rattle.shared_chain.proofs.Frames.Homes.{some_other, none_other, OneSlot, SlotTurns, turns_not, turns_word, codes_turned, codes_gone, all_vacant, slot_vacant, home_kept, word_set}
use Rattle.shared_chain.proofs.Frames.{States.load_step, States.or_step, States.walks_none, Leaves.Leaves, Leaves.acts_first, Leaves.idles, Leaves.no_lent}
use Rattle.mem_blocks.specs.Web.{AllVacant, lifts}
use Rattle.std.proofs.Common.{Some}

module _ {A : Type 0} (te he : Ptr) where
  -- the chain with these readers, where the walk over the block b is this
  abbrev walking_at : OutChain A → (ℕ → Reader) → (ℕ → Bool) → ℕ → Walk → OutChain A
  walking_at g rs out b w = let c : Chain A = g.chain in record { chain = record c { readers = rs; walks = put c.walks b w }; out = out }

  -- the walk over the block b goes on behind a slot that is read now, or ends with it, and the seat takes the block out
  pub walk_goes : (g : OutChain A) (who : ℕ) (bs cs : List (Block A)) (m : Sitter A (CallState A)) {ms : List (State A)} {k : Stand A} (here : At g.chain who ms k) (a : Answer ℕ) (b name slot : ℕ) (rs : ℕ → Reader) (out : ℕ → Bool)
      → after_of here a ≡ (walking_at g rs out b (walk_after who slot)).chain → ((w : Walk) → OneSlot g here a (walking_at g rs out b w) b slot) → ChainOk g.chain → Codes te he g bs → IsNamed g.chain b name
      → slot < LAST → IsWalked g.chain.readers b slot → g.chain.walks b ≢ GivenUp → (m.hand ≡ None) × (m.spare ≡ None) → ((j : ℕ) → j ≢ who → (n : ℕ) → g.chain.readers n ≡ Reading j → out n ≡ g.out n)
      → ((w : Walk) → HoldsOnly (walking_at g rs out b w).chain who (Only (Passed b))) → SlotTurns (b + 2) slot bs cs
      → ((w : Walk) → w ≢ Before → SlotIs (walking_at g rs out b w) b slot (word_of cs (b + 2) slot) (get_elem? (block cs (b + 2)).homes slot)) → get_elem? (block cs (b + 2)).homes slot ≡ some vacant
      → Leaves te he g who cs m (walking_at g rs out b (walk_after who slot)).chain (walks_on name slot)
  walk_goes g who bs cs m here a b name slot rs out leads one ok codes named low walked_to on free others holds t slot_is home =
      behind_slot (λ w x. after_of here a ≡ (after w).chain → Leaves te he g who cs m (after w).chain x) who name slot low
      (λ more is. idles out (further is) others (λ n e. absurd (let z : Read n ≡ Passed b = holds next (Read n) (ap reader_of e) in cc)) (walks_none te he (after next) who b (holds next)) free)
      (λ last is. acts_first (lifts (b + 2)) (t.here.alive ∙ there.0.0)
      (idles out (codes_gone te he g here a (after GivenUp).chain is out ok bs cs b slot (omega arith) (one GivenUp) codes named.0 t (put_same g.chain.walks b GivenUp)) others tt (walks_none te he (after GivenUp) who b (holds GivenUp))
      (free.0, (block cs (b + 2), refl, t.here.at ∙ there.0.1, t.here.alive ∙ there.0.0, t.here.homes ∙ there.1.homes, emptied last))))
      leads
    where
      after : Walk → OutChain A
      after w = walking_at g rs out b w

      next : Walk
      next = Walker who (slot + 1)

      there : Lives bs (b + 2) (spot name) × BlockIs g b (block bs (b + 2))
      there = named_alive codes named on

      walk : put g.chain.walks b next b ≡ Walker who (slot + 1)
      walk = put_same g.chain.walks b next

      further : after_of here a ≡ (after next).chain → Codes te he (after next) cs
      further is = codes_turned te he g here a (after next).chain is out ok bs cs b slot (omega arith) (one next) codes named.0 t on (λ e. let z : Walker who (slot + 1) ≡ GivenUp = sym walk ∙ e in cc)
          (λ e. absurd (let z : Walker who (slot + 1) ≡ Before = sym walk ∙ e in cc)) (slot_is next (λ e. let z : Walker who (slot + 1) ≡ Before = e in cc))

      emptied : slot + 1 ≡ LAST → AllVacant (block cs (b + 2)).homes
      emptied last = all_vacant g b slot (block bs (b + 2)) (block cs (b + 2)).homes ok there.1 walked_to last (t.here.homes ∙ there.1.homes) t.here.home home

  -- the slot that the party's walk is at, and its seat, which has no slot
  module _ (g : OutChain A) (who : ℕ) (bs : List (Block A)) (m : Sitter A (CallState A)) (b name slot : ℕ) (holds : HoldsOnly g.chain who (Only (Passed b))) (is : g.chain.walks b ≡ Walker who slot) (named : IsNamed g.chain b name)
      (ok : ChainOk g.chain) (codes : Codes te he g bs) (xs : List (ℕ × Option A)) (from : ℕ) (lent : ChainLent g who xs) (has : (m.hand ≡ hand_by from xs) × (m.spare ≡ None)) where
    at_walk : (slot < LAST) × IsWalked g.chain.readers b slot
    at_walk = subst (λ w. WalkOk g.chain.readers b w) is (ok.walk b)

    inner : slot < BLOCK_SLOTS
    inner = let low = at_walk.0 in omega arith

    on : g.chain.walks b ≢ GivenUp
    on e = let z : Walker who slot ≡ GivenUp = sym is ∙ e in cc

    there : Lives bs (b + 2) (spot name) × BlockIs g b (block bs (b + 2))
    there = named_alive codes named on

    state : IsState g.chain b slot (word_of bs (b + 2) slot)
    state = let low = at_walk.0 in there.1.state slot inner (λ last. absurd (omega arith))

    free : (m.hand ≡ None) × (m.spare ≡ None)
    free = (has.0 ∙ ap (λ ys. hand_by from ys) (no_lent g who xs (walks_none te he g who b holds) lent), has.1)

    -- the chain where the walk is this
    abbrev after : Walk → OutChain A
    after w = record { chain = walked g.chain b w; out = g.out }

    begun : {w : Walk} → w ≢ Before → put g.chain.walks b w b ≢ Before
    begun {w = w} ne e = ne (sym (put_same g.chain.walks b w) ∙ e)

    -- the state word of the slot is this then
    slot_then : (cs : List (Block A)) (w : Walk) → w ≢ Before → (block cs (b + 2)).homes ≡ (block bs (b + 2)).homes → IsState (walked g.chain b w) b slot (word_of cs (b + 2) slot)
        → SlotIs (after w) b slot (word_of cs (b + 2) slot) (get_elem? (block cs (b + 2)).homes slot)
    slot_then cs w ne homes made = record { state = λ last. made; plain = λ e. absurd (begun ne e); slot = ap (λ hs. get_elem? hs slot) homes ∙ there.1.slot slot inner }

    passes : {ms : List (State A)} {k : Stand A} (here : At g.chain who ms k) (a : Answer ℕ) → after_of here a ≡ walked g.chain b (walk_after who slot) → ((w : Walk) → OneSlot g here a (after w) b slot)
        → (cs : List (Block A)) → SlotTurns (b + 2) slot bs cs → ((w : Walk) → IsState (walked g.chain b w) b slot (word_of cs (b + 2) slot)) → (block cs (b + 2)).homes ≡ (block bs (b + 2)).homes → g.chain.readers (item_at b slot) ≡ Done
        → Leaves te he g who cs m (walked g.chain b (walk_after who slot)) (walks_on name slot)
    passes here a leads one cs t made same read =
        walk_goes g who bs cs m here a b name slot g.chain.readers g.out leads one ok codes named at_walk.0 at_walk.1 on free (λ j ne n e. refl) (λ w. after_walk_on g.chain who b w holds) t
        (λ w ne. slot_then cs w ne same (made w)) (ap (λ hs. get_elem? hs slot) same ∙ slot_vacant g b slot (block bs (b + 2)) ok there.1 inner read)

    pub step_walking : (ms : List (State A)) (x : A) → BlockStep te he g who bs m {ms = ms} (walking x b name slot holds is named)
    step_walking ms x = load_step te he g who bs m b name slot here ok codes named on state (left (is_done (g.chain.readers (item_at b slot))) refl)
      where
        here : At g.chain who ms (has_taken (chain.Walking name slot) Touch.Nothing (Op.Load (Word.State name slot)) (Some x) x)
        here = walking x b name slot holds is named

        -- the call goes on by whether the slot is read, and by whether its state says that it is not
        goes : Bool → Bool → Type 0
        goes t u = Leaves te he g who bs m (if t then walked g.chain b (walk_after who slot) else g.chain) (if not u then walks_on name slot else at (chain.Destroying name slot) Touch.Nothing (Op.Or (Word.State name slot) DESTROY))

        left : (t : Bool) → is_done (g.chain.readers (item_at b slot)) ≡ t → goes (is_done (g.chain.readers (item_at b slot))) (bit_and (word_of bs (b + 2) slot) READ == 0)
        left true e =
            let read = done_is (g.chain.readers (item_at b slot)) e in
            rw (e, state.read ∙ ap not e) (passes here (Answer.Found (word_of bs (b + 2) slot)) (ap (λ t. if t then walked g.chain b (walk_after who slot) else g.chain) e)
            (λ w. record { unused = refl; ends = refl; shape = (refl, refl); altered = λ j ne. some_other refl ne; moved = λ n ne. none_other refl; set = λ n ne. none_other refl; kept = λ n ne. refl })
            bs (turns_not (b + 2) slot bs) (λ w. state_done g.chain (walked g.chain b w) b slot (word_of bs (b + 2) slot) refl read read state) refl read)
        left false e = rw (e, state.read ∙ ap not e) (idles g.out codes (λ j ne n z. refl) (λ n z. absurd (let y : Read n ≡ Passed b = holds (Read n) (ap reader_of z) in cc)) (walks_none te he g who b holds) free)

    pub step_destroying : (ms : List (State A)) (x : A) → BlockStep te he g who bs m {ms = ms} (destroying x b name slot holds is named)
    step_destroying ms x = or_step te he g who bs m b name slot DESTROY here ok codes named on state (left (is_done (g.chain.readers (item_at b slot))) refl)
      where
        here : At g.chain who ms (has_taken (chain.Destroying name slot) Touch.Nothing (Op.Or (Word.State name slot) DESTROY) (Some x) x)
        here = destroying x b name slot holds is named

        word : ℕ
        word = word_of bs (b + 2) slot

        cs : List (Block A)
        cs = with_word bs (b + 2) slot (bit_or (word_of bs (b + 2) slot) DESTROY)

        long : b + 2 < length bs
        long = omega (arith, codes.size, named.0)

        set : word_of cs (b + 2) slot ≡ bit_or word DESTROY
        set = word_set bs (b + 2) slot (bit_or word DESTROY) long (omega (arith, there.1.words, inner))

        turns : SlotTurns (b + 2) slot bs cs
        turns = turns_word (b + 2) slot (bit_or word DESTROY) bs long

        homes : (block cs (b + 2)).homes ≡ (block bs (b + 2)).homes
        homes = home_kept bs (b + 2) slot (bit_or word DESTROY) long

        one : (w : Walk) → OneSlot g here (Answer.Found word) (after w) b slot
        one w = record { unused = refl; ends = refl; shape = (refl, refl); altered = λ j ne. some_other refl ne; moved = λ n ne. none_other refl; set = λ n ne. some_other refl ne; kept = λ n ne. refl }

        goes_on : Bool → Bool → Type 0
        goes_on t u = Leaves te he g who cs m (walked g.chain b (if t then walk_after who slot else Waits slot)) (if not u then walks_on name slot else ends (Reply.Pop (Ok tt)))

        left : (t : Bool) → is_done (g.chain.readers (item_at b slot)) ≡ t → goes_on (is_done (g.chain.readers (item_at b slot))) (bit_and (word_of bs (b + 2) slot) READ == 0)
        left true e =
            let read = done_is (g.chain.readers (item_at b slot)) e in
            rw (e, state.read ∙ ap not e) (passes here (Answer.Found word) (ap (λ t. walked g.chain b (if t then walk_after who slot else Waits slot)) e) one cs turns
            (λ w. subst (λ n. IsState (walked g.chain b w) b slot n) (sym set) (state_passed g.chain (walked g.chain b w) b slot word refl read read state)) homes read)
        left false e =
            let walk : put g.chain.walks b (Waits slot) b ≡ Waits slot = put_same g.chain.walks b (Waits slot) in
            let ne : Waits slot ≢ Before = λ z. cc in
            rw (e, state.read ∙ ap not e) (idles g.out
            (codes_turned te he g here (Answer.Found word) (walked g.chain b (Waits slot)) (ap (λ t. walked g.chain b (if t then walk_after who slot else Waits slot)) e) g.out ok bs cs b slot inner (one (Waits slot)) codes named.0 turns
            on (λ z. let y : Waits slot ≡ GivenUp = sym walk ∙ z in cc) (λ z. absurd (begun ne z))
            (slot_then cs (Waits slot) ne homes (subst (λ n. IsState (walked g.chain b (Waits slot)) b slot n) (sym set) (state_waits g.chain (walked g.chain b (Waits slot)) b slot word refl refl walk state))))
            (λ j ne n z. refl) tt (walks_none te he (after (Waits slot)) who b (after_walk_on g.chain who b (Waits slot) holds)) free)
