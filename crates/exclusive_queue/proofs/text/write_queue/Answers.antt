use Rattle.std.{proofs.Common.Some, proofs.Common.subst, specs.Prelude.codes}
use Rattle.std.specs.Fmt.{DisplaysOnOk, decimal, ◌++?◌}
use Rattle.exclusive_queue.{specs.QueueText.flag_text, proofs.Texts.capacity_shown}
use Rattle.exclusive_queue.proofs.text.write_queue.Goals as goal

pub returns : goal.returns
returns g c = subst
    (λ cap. DisplaysOnOk g.W.Write.write_str_gives c.args.f.now c.write.result (Some c.args.name.now ++? Some (codes " { len: ") ++? Some (decimal c.args.len)
    ++? Some (codes ", capacity: ") ++? cap ++? Some (codes ", is_closed: ") ++? Some (flag_text c.args.is_closed) ++? Some (codes " }")) c.write.new.self)
    (capacity_shown c.args.capacity) c.write.ensures.writes
