-- The only party ends a shared chain: its ends may be taken out, the blocks before the front's are gone, and what is left is a chain with one owner in the state
-- after all that the party has seen.
use Rattle.std.proofs.Common.{◌≡◌, ◌∙◌, inl, inr, ℕ, zero, suc, ◌+◌, ◌<◌, ◌≤◌, Bool, true, false, if◌then◌else◌, List, [], ◌∷◌, length, take, drop, Option, None, refl, sym, ap, subst, arith}
use Rattle.std.proofs.lemmas.List.{drop-set-lt, length-set}
use denote.RawPtr.{Ptr}
use Rattle.queue_steps.specs.{Effect.after, Legal.IsShown, Parties.IsWhole, State.State as Queue}
use Rattle.queue_laws.specs.Chain.ChainCells.{Before, GivenUp, queue_of}
use Rattle.mem_blocks.specs.{Web.Block, Web.block, Web.gone, Web.AllGone, Web.without, Web.word_of, Web.LastBlocksBy, declared.block.BlockPtr.BlockPtr, declared.hub.TheConstants.TAIL, declared.hub.TheConstants.PARTIES, declared.hub.TheConstants.HEAD}
use Rattle.own_cells.specs.OneChain.{OwnChainOwned.own_chain_queue, OwnChainOwned.IsIdle, ChainMemory.own_chain_in, ChainMemory.AreHeld}
use Rattle.shared_parties.{specs.declared.known.CallState.CallState, specs.Known.view_of, specs.CallStates.IsSeatAlone, proofs.Endings.OnlyParty, proofs.Endings.calls_end}
use Rattle.shared_chain.specs.{ChainCalls.OutChain, ChainCalls.chain_calls, Ending.LeadsTo, Ending.IntoBlock, Ending.gone_first, Rule.IsThere, Rule.Codes, Rule.Rule}
use Rattle.shared_chain.proofs.Frames.{Blocks.gone_here, Blocks.gone_else, Blocks.alive_is, Resting.AtRest, Resting.at_rest}
use Rattle.shared_chain.proofs.Finishing.{Ended.all_held, Ended.left, Ended.within, Finish.finish_idle, Finish.finish_shown}

-- the blocks at the beginning that left the web did
pub gone_take : {A : Type 0} (xs : List (Block A)) → AllGone (take (gone_first xs) xs)
gone_take [] = tt
gone_take (x ∷ xs) = go x.alive refl (gone_take xs)
  where
    go : (alive : Bool) → x.alive ≡ alive → AllGone (take (gone_first xs) xs) → AllGone (take (if alive then 0 else gone_first xs + 1) (x ∷ xs))
    go true e behind = tt
    go false e behind = let more : gone_first xs + 1 ≡ suc (gone_first xs) = omega arith in subst (λ n. AllGone (take n (x ∷ xs))) (sym more) (e, behind)

-- they are n, where so many left and the next one, if there is one, is in the web
gone_count : {A : Type 0} (n : ℕ) (xs : List (Block A)) → n ≤ length xs → ((i : ℕ) → i < n → (block xs i).alive ≡ false) → (n < length xs → (block xs n).alive ≡ true) → gone_first xs ≡ n
gone_count zero [] within dead next = refl
gone_count zero (x ∷ xs) within dead next = ap (λ z. if z then 0 else gone_first xs + 1) (next (omega arith))
gone_count (suc n) [] within dead next = absurd (omega arith)
gone_count (suc n) (x ∷ xs) within dead next =
    let more : gone_first xs + 1 ≡ suc n = (let rest = gone_count n xs (omega arith) (λ i lt. dead (suc i) (omega arith)) (λ lt. next (omega arith)) in omega arith) in
    ap (λ z. if z then 0 else gone_first xs + 1) (dead 0 (omega arith)) ∙ more

module _ {A : Type 0} (bs : List (Block A)) (two : 1 < length bs) where
  -- the blocks without the two ends
  abbrev pub inner : List (Block A)
  inner = without (without bs 0) 1

  long_once : length (without bs 0) ≡ length bs
  long_once = length-set bs 0 (gone (block bs 0))

  pub long_inner : length inner ≡ length bs
  long_inner = length-set (without bs 0) 1 (gone (block (without bs 0) 1)) ∙ long_once

  pub inner_else : (b : ℕ) → block inner (b + 2) ≡ block bs (b + 2)
  inner_else b = gone_else (without bs 0) 1 (b + 2) (λ e. omega arith) ∙ gone_else bs 0 (b + 2) (λ e. omega arith)

  inner_dead : (i : ℕ) → i < 2 → (block inner i).alive ≡ false
  inner_dead zero lt = ap (λ (x : Block A). x.alive) (gone_else (without bs 0) 1 0 (λ e. omega arith) ∙ gone_here bs 0 (omega arith))
  inner_dead (suc zero) lt = ap (λ (x : Block A). x.alive) (gone_here (without bs 0) 1 (let l = long_once in omega arith))
  inner_dead (suc (suc i)) lt = absurd (omega arith)

  pub inner_count : (n : ℕ) → n + 2 ≤ length bs → ((b : ℕ) → b < n → (block bs (b + 2)).alive ≡ false) → (n + 2 < length bs → (block bs (n + 2)).alive ≡ true) → gone_first inner ≡ n + 2
  inner_count n within dead next = gone_count (n + 2) inner (let l = long_inner in omega arith) each (λ lt. ap (λ (x : Block A). x.alive) (inner_else n) ∙ next (let l = long_inner in omega arith))
    where
      each : (i : ℕ) → i < n + 2 → (block inner i).alive ≡ false
      each zero lt = inner_dead 0 (omega arith)
      each (suc zero) lt = inner_dead 1 (omega arith)
      each (suc (suc b)) lt =
          let at : b + 2 ≡ suc (suc b) = omega arith in
          subst (λ k. (block inner k).alive ≡ false) at (ap (λ (x : Block A). x.alive) (inner_else b) ∙ dead b (omega arith))

  pub inner_drop : (n : ℕ) → drop (n + 2) inner ≡ drop (n + 2) bs
  inner_drop n = drop-set-lt (n + 2) (without bs 0) 1 (gone (block (without bs 0) 1)) (omega arith) ∙ drop-set-lt (n + 2) bs 0 (gone (block bs 0)) (omega arith)

module _ {A : Type 0} (te he : Ptr) (id : ℕ) (d : CallState A) (bs : List (Block A)) (is : IsSeatAlone d) (last : LastBlocksBy (Rule te he) id d bs) where
  abbrev rule : Rule te he record { blocks = bs; views = last.0 }
  rule = last.1

  abbrev codes : Codes te he rule.cells bs
  codes = rule.codes

  ends : OnlyParty chain_calls rule.cells rule.history last.0 id d
  ends = calls_end chain_calls rule.cells rule.history (word_of bs 0 PARTIES) last.0 id d rule.all last.2 is

  rest : AtRest rule.cells.chain
  rest = at_rest rule.cells.chain rule.all.ok (λ who. (ends.nobody who).0)

  abbrev two : 1 < length bs
  two = let s = codes.size in omega arith

  abbrev g : OutChain A
  g = rule.cells

  -- how many blocks are forgotten
  abbrev pub before : ℕ
  before = gone_first (without (without bs 0) 1)

  before_is : before ≡ g.chain.front + 2
  before_is = inner_count bs two g.chain.front (let w = within te he g bs rule.all.ok codes rest in let s = codes.size in omega arith)
      (λ b lt. let there : IsThere g b (block bs (b + 2)) = codes.there b (let w = within te he g bs rule.all.ok codes rest in omega arith) in elim (there.1) [ inl dead ↦ dead.1 | inr on ↦ absurd (on.0 (rest.given b lt)) ])
      (λ lt. (alive_is te he g bs g.chain.front codes (let s = codes.size in omega arith) (λ e. let z : Before ≡ GivenUp = sym (rest.before g.chain.front (omega arith)) ∙ e in cc)).0.0)

  left_is : drop before (inner bs two) ≡ left te he rule.cells bs rule.all.ok codes rest
  left_is = ap (λ n. drop n (inner bs two)) before_is ∙ inner_drop bs two rule.cells.chain.front

  pub keeps_held : AreHeld (drop before (without (without bs 0) 1))
  keeps_held = subst (λ (xs : List (Block A)). AreHeld xs) (sym left_is) (all_held te he rule.cells bs rule.all.ok codes rest)

  pub all_whole : IsWhole (view_of d.known)
  all_whole = ends.whole

  module _ (front back : Option (BlockPtr A)) (to_front : LeadsTo front (block bs 1).next) (to_back : LeadsTo back (block bs 0).next) (in_front : IntoBlock front) (in_back : IntoBlock back) where
    pub keeps_idle : IsIdle (own_chain_in (word_of bs 1 HEAD) (word_of bs 0 TAIL) front back (drop before (without (without bs 0) 1)))
    keeps_idle = subst (λ (xs : List (Block A)). IsIdle (own_chain_in (word_of bs 1 HEAD) (word_of bs 0 TAIL) front back xs)) (sym left_is) (finish_idle te he rule.cells bs rule.all.ok codes rest front back to_front to_back in_front in_back)

    pub keeps_shown : IsShown (own_chain_queue (own_chain_in (word_of bs 1 HEAD) (word_of bs 0 TAIL) front back (drop before (without (without bs 0) 1)))) (after None d.known.seen)
    keeps_shown =
        let state : queue_of rule.cells.chain ≡ after None d.known.seen = rule.all.state ∙ ap (after None) (sym ends.seen) in
        subst (λ (z : List (Block A) × Queue A). IsShown (own_chain_queue (own_chain_in (word_of bs 1 HEAD) (word_of bs 0 TAIL) front back z.0)) z.1) (λ i. (sym left_is i, state i))
        (finish_shown te he rule.cells bs rule.all.ok codes rest front back to_front to_back in_front in_back)
