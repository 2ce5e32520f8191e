use Rattle.app_command.proofs.{Reporting.within_limit, Reporting.reported, Taking.takes-on}
use Rattle.app_command.proofs.replay.report.Goals as goal

pub take_lines-requires : goal.take_lines-requires
take_lines-requires g c = (_, _, _, _, c.in_ok-run.ensures.opens)

pub end-requires : goal.end-requires
end-requires g c = takes-on _ c.in_ok-run.run' c.take_lines.new.run _ _ c.in_ok-take_lines.ensures (_, _, _, _, c.in_ok-run.ensures.opens)

pub returns : goal.returns
returns g c =
    let left = rw c.deref.ensures.value at c.in_ok-write_left.ensures in
    reported c.args.kind c.args.parties c.args.lines.now _ c.in_ok-run.run' c.take_lines.new.run c.in_ok-ended.ended _ _ _ _
    c.kind.ensures.kind c.kind.ensures.has (within_limit _ _ c.new.result c.in_ok-run.run' c.kind.ensures.has c.in_ok-run.was c.new.ensures.limited)
    c.in_ok-run.ensures.opens c.in_ok-take_lines.ensures (λ es ts on. c.in_ok-ended.ensures.leaves c.kind.result c.args.parties es ts on) c.new-text.ensures.bytes c.in_ok-write_peak.ensures left
