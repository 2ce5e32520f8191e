-- A block that was just granted stands for a block of the chain that nobody has touched.
use Rattle.std.proofs.Common.{ℕ, ◌≡◌, ◌≢◌, ◌∙◌, sym, ap, subst}
use Rattle.std.proofs.lemmas.List.{get_or-replicate, length-replicate}
use Rattle.machine_replay.{specs.Vocabulary.BLOCK_SLOTS, proofs.Chain.Codes.BlockIs}
use Rattle.queue_laws.specs.Chain.{ChainCells.Before, ChainCells.GivenUp, ChainCells.Chain, ChainAnswers.IsState}
use Rattle.queue_laws.proofs.Chain.ChainSlots.{lies, IsFresh, fresh_state}
use Rattle.machine_memory.specs.Blocks.{blank, fresh_block}

pub fresh_is : {A : Type 0} (s : Chain A) (b f : ℕ) → IsFresh s b f → (s.walks b ≢ GivenUp) × BlockIs s b (fresh_block {T = A}).places (fresh_block {T = A}).next
fresh_is {A} s b f fresh = (
  λ e. let z : Before ≡ GivenUp = sym fresh.walk ∙ e in cc,
  record {
    wide = length-replicate BLOCK_SLOTS (blank {T = A});
    state = λ i lt unread. subst (λ p. IsState s b i p.state) (sym (get_or-replicate BLOCK_SLOTS i (blank {T = A}) (blank {T = A}) lt)) (fresh_state i fresh);
    slot = λ i lt. ap (λ p. p.item) (get_or-replicate BLOCK_SLOTS i (blank {T = A}) (blank {T = A}) lt) ∙ (λ j. lies {A = A} (sym (fresh.free i).0 j) (sym (fresh.free i).1 j));
    linked = sym fresh.link;
  },
)
