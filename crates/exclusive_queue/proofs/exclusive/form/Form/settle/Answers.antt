use Rattle.exclusive_queue.proofs.exclusive.form.Form.settle.Goals as goal

pub returns-in-Chain-clause-sequential : goal.returns-in-Chain-clause-sequential
returns-in-Chain-clause-sequential g c = rw c.in-Chain.is c.settle-in-Chain.ensures.sequential
