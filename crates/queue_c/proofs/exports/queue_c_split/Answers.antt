use Rattle.std.proofs.Common.{rules, refl}
use Rattle.queue_c.proofs.Splitting.{done, refused}
use Rattle.queue_c.proofs.exports.queue_c_split.Goals as goal

pub returns-in-Err : goal.returns-in-Err
returns-in-Err c = refused c.args.party.now.end c.args.out.now.end c.is_vacant.new.self.end c.put.new.self.end c.refusal_number.result c.in-Some.end c.halve-end.result.0 c.in-Err.refusal (search rules) (search rules) (search rules) (search rules) (search rules) (search rules)

pub returns-in-Ok : goal.returns-in-Ok
returns-in-Ok c = done c.args.party.now.end c.args.out.now.end c.put-in-Ok.new.self.end c.put.new.self.end 0 c.in-Some.end c.halve-end.result.0 c.in-Ok.other (search rules) (search rules) (search rules) (search rules) (search rules) refl
