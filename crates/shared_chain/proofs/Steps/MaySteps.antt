-- The step of a call may be done wherever the call stands: its word is one of the chain's, and the slot that it touches is the one that it has.
use Rattle.std.proofs.Common.{ℕ, ◌<◌, ◌%◌, ◌≡◌, ◌∙◌, Bool, false, Option, Some, None, List, [], ◌∷◌, refl, sym, ap, subst, arith, lit<}
use Rattle.queue_laws.specs.{Common.Vocabulary.Call, Common.Vocabulary.Effect, Common.Vocabulary.Next, Common.Vocabulary.BLOCK_SLOTS, Common.Stand.Stand, Chain.ChainCells.Walker, Chain.ChainCells.WalkOk, Chain.ChainCells.ChainOk, Chain.ChainCells.writer_of}
use Rattle.queue_laws.specs.Chain.{ChainFacts.head_of, ChainFacts.open_tail_of, ChainAt.asking, ChainAt.writing, ChainAt.awaiting, ChainAt.reading, ChainAt.beginning, ChainAt.walking, ChainAt.destroying}
use Rattle.queue_steps.specs.{State.State, ChainWords.offset_of}
use Rattle.queue_laws.proofs.Chain.{ChainAnswers.head_offset, ChainRight.NextOkSpares}
use Rattle.shared_chain.specs.{ChainCalls.OutChain, ChainCalls.ChainLent, ChainCalls.ChainAt, Steps.SlotsFor, Steps.MayStep, Steps.MayGoOn}
use Rattle.shared_chain.proofs.{CallLaws.tail_offset, CallLaws.of_writer, CallLaws.of_reader, Frames.Leaves.nothing_lent}

low : (n : ℕ) → n % BLOCK_SLOTS < BLOCK_SLOTS
low n = omega arith

head_low : (n : ℕ) (more : Bool) → offset_of (head_of n more) < BLOCK_SLOTS
head_low n more = subst (λ i. i < BLOCK_SLOTS) (sym (head_offset n more)) (low n)

tail_low : (n : ℕ) → offset_of (open_tail_of n) < BLOCK_SLOTS
tail_low n = head_low n false

module _ {A : Type 0} where
  -- the slot that a walk is at
  walk_low : (g : OutChain A) (who b slot : ℕ) → ChainOk g.chain → g.chain.walks b ≡ Walker who slot → slot < BLOCK_SLOTS
  walk_low g who b slot ok e = let z = subst (WalkOk g.chain.readers b) e (ok.walk b) in let lt = z.0 in omega arith

  pub may_step : (g : OutChain A) (who : ℕ) {ms : List (State A)} {k : Stand A} (xs : List (ℕ × Option A))
      → ChainOk g.chain → ChainAt g who ms k → ChainLent g who xs → MayStep k.local k.touch k.op k.carried xs
  may_step g who xs ok (asking d v q block none saw asks, only, slots) lent = ((nothing_lent g who xs none lent, refl), tt)
  may_step g who xs ok (writing d v n name spare part claimed has, only, slots) lent =
      (tail_low n, (refl, of_writer g who n xs part (ap writer_of claimed.mine) lent ∙ ap (λ i. (i, None) ∷ []) (sym (tail_offset n)), (v, refl)))
  may_step g who xs ok (awaiting x n name more part got, only, slots) lent = (head_low n more, tt)
  may_step g who xs ok (reading x n name more part got wrote last, only, slots) lent =
      (head_low n more, (refl, refl, (x, of_reader g who n x xs part got.mine (slots n got.mine) wrote lent ∙ ap (λ i. (i, Some x) ∷ []) (sym (head_offset n more)))))
  may_step g who xs ok (beginning x n name more part got wrote last, only, slots) lent =
      (lit< tt, (refl, refl, (x, of_reader g who n x xs part got.mine (slots n got.mine) wrote lent ∙ ap (λ i. (i, Some x) ∷ []) (sym (head_offset n more)))))
  may_step g who xs ok (walking x b name slot part is named, only, slots) lent = (walk_low g who b slot ok is, tt)
  may_step g who xs ok (destroying x b name slot part is named, only, slots) lent = (walk_low g who b slot ok is, tt)
  may_step g who xs ok (x, only, slots) lent = (tt, tt)

  -- where the step of a call leads, the next one may be done
  pub may_go_on : (g : OutChain A) (who : ℕ) (ms : List (State A)) (n : Next ℕ) (v : Option A) (k : Call A) (es : List (Effect A)) (xs : List (ℕ × Option A)) → ChainOk g.chain → NextOkSpares g.chain who ms n v k es → SlotsFor g who n → ChainLent g who xs
      → MayGoOn v xs n
  may_go_on g who ms (Next.Step l t o) v k es xs ok ends slots lent = may_step g who xs ok (ends.0, ends.1, slots) lent
  may_go_on g who ms (Next.Reply x spare) v k es xs ok ends slots lent = tt
