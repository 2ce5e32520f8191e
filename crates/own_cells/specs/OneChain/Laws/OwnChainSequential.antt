-- What a call on a chain of blocks has to end with, and that it does where it leaves what the table of one owner says.
use Rattle.std.specs.Prelude.{◌==◌, if◌then◌else◌}
use Rattle.std.proofs.Common.{◌≡◌, ◌⊎◌, ℕ, ◌+◌, ◌-◌, ◌/◌, ◌<◌, Bool, true, false, [], ◌∷◌, ◌++◌, length, Some, None, Ok, Err, refl, arith, ap, ◌∙◌, subst, inl, inr}
use Rattle.queue_steps.specs.declared.{sizes.TheConstants.LIMIT, sizes.TheConstants.BLOCK_SLOTS, model.Call.Call, model.Call.Call as call, model.Reply.Reply, model.Reply.Reply as reply, errors.PushError.PushError as push, errors.ForcePushError.ForcePushError as force}
use Rattle.queue_steps.specs.{declared.steps.ring.PushKind.PushKind, declared.steps.ring.PushKind.PushKind as push_kind, State.State, Words.is_shut, ChainNext.gives_up, Legal.IsSoundOwned, Replies.MayAsk, RingNext.closed_reply, RingNext.pushed_reply}
use Rattle.queue_steps.specs.Sequential.{Sequential, HoldsBlocks, blocks_of, sequential_reply, sequential_state, moved}
use Rattle.call_driver.specs.EndsIn.{EndsRight, Answered}
use Rattle.own_cells.specs.OneRing.Laws.Numbers.{is_equal, is_apart, equal_or_above}
use Rattle.own_cells.specs.OneChain.OwnChainCells.{OwnChain, kind_of_own_chain, own_chain_can_touch, own_chain_touches, own_chain_can_perform, own_chain_performs, own_chain_can_release, own_chain_releases}
use Rattle.own_cells.specs.OneChain.OwnChainOwned.{taken, accepted, own_chain_queue, own_chain_owned, IsBare, IsLaid, IsIdle}
use Rattle.own_cells.specs.OneChain.Laws.{OwnChainRuns.Ending, OwnChainKeeps.length-items_from, OwnChainLeaves.marked, OwnChainLeaves.idle-marked, OwnChainLeaves.queue-marked}

-- what a call has to end with
abbrev pub EndsAnswered : {T : Type 0} → Call T → OwnChain T → Ending T
EndsAnswered c r = Answered own_chain_can_release own_chain_releases IsIdle own_chain_owned c r

abbrev pub OwnChainAnswers : {T : Type 0} → OwnChain T → Call T → Type 0
OwnChainAnswers r c = EndsRight own_chain_can_touch own_chain_touches own_chain_can_perform own_chain_performs own_chain_can_release own_chain_releases IsIdle own_chain_owned (kind_of_own_chain r) c r

-- the list is as long as there are items between the front and the next one to come
pub length-items : {T : Type 0} (r : OwnChain T) → IsIdle r → length (own_chain_queue r).items ≡ accepted r - taken r
length-items {T} r i = go i.blocks
  where
    go : IsBare r.first r.pieces r.head_block r.tail_block (accepted r) ⊎ IsLaid r.first r.pieces r.head_block r.tail_block (taken r) (accepted r) → length (own_chain_queue r).items ≡ accepted r - taken r
    go (inl bare) = let unused = bare.unused in let empty : accepted r - taken r ≡ 0 = omega arith in rw empty refl
    go (inr l) = let order = i.order in length-items_from r.pieces (taken r / BLOCK_SLOTS) (taken r) (accepted r - taken r) (λ n from to. l.holds.written n from (omega arith))

-- once an item was accepted, the blocks are those from the front's to the one where the next item goes
pub blocks-are : {T : Type 0} (r : OwnChain T) → IsIdle r → 0 < accepted r → length r.pieces ≡ blocks_of (own_chain_queue r)
blocks-are {T} r i some = go i.blocks
  where
    go : IsBare r.first r.pieces r.head_block r.tail_block (accepted r) ⊎ IsLaid r.first r.pieces r.head_block r.tail_block (taken r) (accepted r) → length r.pieces ≡ blocks_of (own_chain_queue r)
    go (inl bare) = let unused = bare.unused in absurd (omega arith)
    go (inr l) =
        let order = i.order in
        let count = l.count in
        let long = length-items r i in
        let back : accepted r - length (own_chain_queue r).items ≡ taken r = omega arith in
        rw back (omega arith)

-- the blocks are as many as the abstract queue tells
pub holds-blocks : {T : Type 0} (r : OwnChain T) → IsIdle r → HoldsBlocks (own_chain_owned r)
holds-blocks {T} r i = go (equal_or_above 0 (accepted r) (omega arith)) i.blocks
  where
    go : (accepted r ≡ 0) ⊎ (0 < accepted r) → IsBare r.first r.pieces r.head_block r.tail_block (accepted r) ⊎ IsLaid r.first r.pieces r.head_block r.tail_block (taken r) (accepted r) → HoldsBlocks (own_chain_owned r)
    go (inr some) blocks = inl (blocks-are r i some)
    go (inl none) (inl bare) = inr (ap length bare.none, none)
    go (inl none) (inr l) =
        let order = i.order in
        let count = l.count in
        let long = length-items r i in
        let back : accepted r - length (own_chain_queue r).items ≡ taken r = omega arith in
        inl (rw back (omega arith))

pub own_chain_sound : {T : Type 0} (r : OwnChain T) → IsIdle r → IsSoundOwned (own_chain_owned r)
own_chain_sound r i = (record { none_coming = refl; within = tt; counted = inr i.below }, holds-blocks r i)

-- the call leaves what the table says, and no other block where nothing was accepted yet
pub sequential : {T : Type 0} (r done : OwnChain T) (c : Call T) (x : Reply T) → IsIdle done → x ≡ sequential_reply (own_chain_queue r) c → own_chain_queue done ≡ sequential_state (own_chain_queue r) c
    → (accepted done ≡ 0 → length done.pieces ≡ length r.pieces) → Sequential (own_chain_owned r) c x (own_chain_owned done)
sequential {T} r done c x i answers leaves same =
    let Moved : State T → Type 0 = λ q. own_chain_owned done ≡ moved (own_chain_owned r) q in
    inl (answers, subst Moved leaves (ap (λ n. record { queue = own_chain_queue done; blocks = n }) (go (accepted done == 0) refl)))
  where
    go : (b : Bool) → (accepted done == 0) ≡ b → ◌≡◌ {A = ℕ} (length done.pieces) (if b then length r.pieces else blocks_of (own_chain_queue done))
    go true e = same (is_equal (accepted done) 0 e)
    go false e = let some = is_apart (accepted done) 0 e in blocks-are done i (omega arith)

-- a call of each kind of push
abbrev pub push_call : {T : Type 0} → PushKind → T → Call T
push_call push_kind.Push v = call.Push v
push_call push_kind.Force v = call.ForcePush v

module _ {T : Type 0} (r : OwnChain T) (v : T) (i : IsIdle r) where
  pub right-closed : (p : PushKind) → is_shut r.tail ≡ true → EndsAnswered (push_call p v) r (closed_reply p) None (Some v) r
  right-closed push_kind.Push e = (i, (reply.Push (Err (push.Closed v)), refl, sequential r r (call.Push v) (reply.Push (Err (push.Closed v))) i (rw e refl) (rw e refl) (λ x. refl)))
  right-closed push_kind.Force e = (i, (reply.ForcePush (Err (force.Closed v)), refl, sequential r r (call.ForcePush v) (reply.ForcePush (Err (force.Closed v))) i (rw e refl) (rw e refl) (λ x. refl)))

  pub right-spent : (p : PushKind) → is_shut r.tail ≡ false → (accepted r == LIMIT) ≡ true → EndsAnswered (push_call p v) r (closed_reply p) None (Some v) (marked r)
  right-spent push_kind.Push e1 e2 =
      (idle-marked r i, (reply.Push (Err (push.Closed v)), refl, sequential r (marked r) (call.Push v) (reply.Push (Err (push.Closed v))) (idle-marked r i) (rw (sequential_reply, e1, sequential_reply, e2) refl) (queue-marked r ∙ rw (sequential_state, e1, sequential_state, e2) refl) (λ x. refl)))
  right-spent push_kind.Force e1 e2 = (
    idle-marked r i,
    (
      reply.ForcePush (Err (force.Closed v)),
      refl,
      sequential r (marked r) (call.ForcePush v) (reply.ForcePush (Err (force.Closed v)))
          (idle-marked r i) (rw (sequential_reply, e1, sequential_reply, e2) refl) (queue-marked r ∙ rw (sequential_state, e1, sequential_state, e2) refl) (λ x. refl),
    ),
  )

  pub right-pushed : (p : PushKind) (done : OwnChain T) → is_shut r.tail ≡ false → (accepted r == LIMIT) ≡ false → IsIdle done → accepted done ≡ accepted r + 1
      → own_chain_queue done ≡ record (own_chain_queue r) { items = (own_chain_queue r).items ++ v ∷ []; accepted = (own_chain_queue r).accepted + 1 } → EndsAnswered (push_call p v) r (pushed_reply p) None None done
  right-pushed push_kind.Push done e1 e2 idle more leaves =
      (idle, (reply.Push (Ok tt), refl, sequential r done (call.Push v) (reply.Push (Ok tt)) idle (rw (sequential_reply, e1, sequential_reply, e2) refl) (leaves ∙ rw (sequential_state, e1, sequential_state, e2) refl) (λ none. absurd (omega arith))))
  right-pushed push_kind.Force done e1 e2 idle more leaves = (
    idle,
    (
      reply.ForcePush (Ok None),
      refl,
      sequential r done (call.ForcePush v) (reply.ForcePush (Ok None)) idle
          (rw (sequential_reply, e1, sequential_reply, e2) refl) (leaves ∙ rw (sequential_state, e1, sequential_state, e2) refl) (λ none. absurd (omega arith)),
    ),
  )

  pub right-refused : (p : PushKind) → MayAsk (own_chain_queue r) → (accepted r ≡ 0 → length r.pieces ≡ 0) → EndsAnswered (push_call p v) r (gives_up p) None (Some v) r
  right-refused push_kind.Push may none = (i, (reply.Push (Err (push.NoMemory v)), refl, inr ((refl, may), none, refl)))
  right-refused push_kind.Force may none = (i, (reply.ForcePush (Err (force.NoMemory v)), refl, inr ((refl, may), none, refl)))
