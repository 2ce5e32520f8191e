-- What a call carries after its touch is what lay in the slot that it has.
use Rattle.std.proofs.Common.{ℕ, ◌≡◌, Option, List, refl, sym, ap}
use Rattle.queue_steps.specs.State.{State}
use Rattle.queue_laws.specs.{Common.Stand.Stand, Chain.ChainCells.writer_of, Chain.ChainAt.At, Chain.ChainAt.writing, Chain.ChainAt.reading, Chain.ChainAt.beginning, Chain.ChainAfter.carried_of}
use Rattle.shared_parties.specs.Calling.{lies_in, handed_by}
use Rattle.shared_chain.specs.ChainCalls.{OutChain, SlotsAs, ChainLent}
use Rattle.shared_chain.proofs.CallLaws.{of_writer, of_reader}

pub carried_is : {T : Type 0} (g : OutChain T) (j : ℕ) (xs : List (ℕ × Option T)) {ms : List (State T)} {k : Stand T} (here : At g.chain j ms k) → SlotsAs g j k.local → ChainLent g j xs → carried_of here ≡ handed_by k.touch k.carried xs
carried_is g j xs (writing d v n name spare holds mine b) slots lent = sym (ap lies_in (of_writer g j n xs holds (ap writer_of mine.mine) lent))
carried_is g j xs (reading x n name more holds got wrote inner) slots lent = sym (ap lies_in (of_reader g j n x xs holds got.mine (slots n got.mine) wrote lent))
carried_is g j xs (beginning x n name more holds got wrote last) slots lent = sym (ap lies_in (of_reader g j n x xs holds got.mine (slots n got.mine) wrote lent))
carried_is g j xs here slots lent = refl
