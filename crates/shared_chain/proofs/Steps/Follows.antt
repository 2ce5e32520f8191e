-- The loads of the links between blocks: they change nothing, and tell where a link leads.
use Rattle.queue_laws.specs.{Chain.ChainCells.Chain, Common.Stand.stand, Chain.ChainFacts.IsNamed, Chain.ChainAt.At, Chain.ChainAnswers.linked_of, Chain.ChainAfter.chain_of, Chain.ChainAfter.after_of, Chain.ChainCells.GivenUp, Chain.ChainCells.item_at, Chain.ChainCells.ChainOk}
use Rattle.std.proofs.Common.{◌≤◌}
use Rattle.std.proofs.Common.{ℕ, ◌+◌, ◌-◌, ◌/◌, ◌≡◌, ◌≢◌, ◌∙◌, Option, List, refl, sym, ap, subst, arith}
use denote.RawPtr.{Ptr}
use Rattle.queue_laws.specs.Common.Vocabulary.{Call, Effect, Link, Op, Touch, Answer, Local, BLOCK_SLOTS}
use Rattle.queue_steps.specs.{State.State, ChainNext.chain_next}
use Rattle.queue_laws.proofs.Chain.{ChainSpan.not_done, ChainReads.not_given_up, ChainStates.one_block}
use Rattle.mem_blocks.specs.Web.{Block, Sitter}
use Rattle.shared_parties.specs.declared.known.CallState.{CallState}
use Rattle.shared_chain.specs.{ChainCalls.OutChain, Rule.lead_of, Rule.Codes, Steps.BlockStep, Steps.answered}
use Rattle.shared_chain.proofs.Frames.{Blocks.next_same, Blocks.named_alive, Leaves.Leaves, Leaves.op_step}

-- a block none of whose items was taken is not given up
pub untaken_stays : {A : Type 0} (c : Chain A) (b : ℕ) → ChainOk c → c.head ≤ item_at b 0 → c.walks b ≢ GivenUp
untaken_stays c b ok high =
    let own : item_at b 0 / BLOCK_SLOTS ≡ b = omega arith in
    subst (λ i. c.walks i ≢ GivenUp) own (not_given_up c (item_at b 0) ok (not_done c.head c.tail c.items (item_at b 0) (c.writers (item_at b 0)) (c.readers (item_at b 0)) (ok.item (item_at b 0)) high))

module _ {A : Type 0} (te he : Ptr) (g : OutChain A) (who : ℕ) (bs : List (Block A)) (m : Sitter A (CallState A)) (ms : List (State A)) where
  -- the load of the link of the block b, which is not given up
  pub step_link : (b name : ℕ) {l : Local ℕ} {t : Touch} {v : Option A} {k : Call A} {es : List (Effect A)} (here : At g.chain who ms (stand l t (Op.LoadLink (Link.Next name)) v k es)) → ChainOk g.chain → Codes te he g bs → IsNamed g.chain b name
      → g.chain.walks b ≢ GivenUp
      → Leaves te he g who bs m (after_of here (answered g.chain bs (Op.LoadLink (Link.Next name)) (b + 2))) (chain_next (chain_of l) (answered g.chain bs (Op.LoadLink (Link.Next name)) (b + 2))) → BlockStep te he g who bs m here
  step_link b name {l = l} here ok codes named on left =
      let a = answered g.chain bs (Op.LoadLink (Link.Next name)) (b + 2) in
      let there = named_alive codes named on in
      let at : b ≡ b + 2 - 2 = omega arith in
      op_step here (b + 2) there.0 (λ e. refl) (there.1.linked ∙ ap (λ i. lead_of (linked_of (g.chain.links i) (g.chain.names (i + 1)))) at)
      (λ i other. ap (λ j. Answer.Linked (linked_of (g.chain.links j) (g.chain.names (j + 1)))) (let same = one_block g.chain b i name ok named other in let z : b + 2 - 2 ≡ i = omega arith in z))
      (subst (λ (ys : List (Block A)). Leaves te he g who ys m (after_of here a) (chain_next (chain_of l) a)) (sym (next_same bs (b + 2))) left)
