use Rattle.std.proofs.Common.{◌≡◌, ◌+◌, ◌-◌, ◌∙◌, ◌^◌, ◌≤◌, length, sym, subst, arith, rules}
use Rattle.own_cells.proofs.{OneChain.ChainBegins.count_none, OneChain.ChainBegins.count_some, OneChain.ChainBegins.count_short, chain.own_chain.OwnChain.of_chain.Goals.in-None, chain.own_chain.OwnChain.of_chain.Goals.in-Some}
use Rattle.own_cells.proofs.chain.own_chain.OwnChain.of_chain.Goals as goal

pub invariant_of-result : goal.invariant_of-result
invariant_of-result g c =
    let a = c.args in
    let held : c.match-back.held ≡ length a.chain.blocks = elim c.match-back.branch [
      | in-None w ↦ w.held-is ∙ sym (count_none a.head a.tail a.front a.back a.chain.blocks c.requires.idle w.in-None.is)
      | in-Some w ↦ w.held-is ∙ (λ i. w.block_of.ensures i - w.block_of-in-Some.ensures i + 1) ∙ sym (count_some a.head a.tail a.front a.back a.chain.blocks c.requires.idle w.in-Some.field-0 w.in-Some.is)
    ] in record {
      heap = c.requires.heap;
      laid = sym held;
      short = subst (λ n. n ≤ 2 ^ 63) (sym held) (count_short a.head a.tail a.front a.back a.chain.blocks c.requires.idle (omega arith));
      held = omega arith;
      blocks = λ k from below. c.requires.held k (omega arith);
      spare = tt;
    }

pub returns : goal.returns
returns g c = search rules
