use Rattle.concurrent_queue.proofs.shared.ConcurrentQueueDebug.fmt.Goals as goal

pub returns : goal.returns
returns g c = (c.shown_len-len.result, c.shows_closed-is_closed.result, rw c.capacity.ensures at c.write_queue.ensures)
