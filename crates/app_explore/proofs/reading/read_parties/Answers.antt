use Rattle.std.proofs.Common.{◌≡◌, ◌++◌, [], ◌∷◌, length, ◌∙◌, arith}
use Rattle.std.proofs.lemmas.Grind.{common_steps}
use Rattle.app_explore.proofs.Programs.{read_more, wrong_line, missing_line}
use Rattle.app_explore.proofs.reading.read_parties.Goals as goal

pub returns-in-Err : goal.returns-in-Err
returns-in-Err g c =
    let count : c.len.result ≡ length c.loop-line.parties.items = c.len.ensures ∙ c.loop-line.invariant.count in
    let none = rw (c.in-Err.is, count) at c.in_ok-calls.ensures in
    wrong_line c.args.text.now c.loop-line.rest.now c.in-Some.line.now c.in-Some.after.now c.args.before c.loop-line.parties.items _ c.requires.calls c.requires.single c.loop-line.invariant.so_far c.in-Some.ensures.0 none.0
    (omega (arith, c.count_lines-taken.ensures, c.len-in-Err.ensures, c.loop-line.invariant.count))

pub loop-line-preserved : goal.loop-line-preserved
loop-line-preserved g c =
    let count : c.len.result ≡ length c.loop-line.parties.items = c.len.ensures ∙ c.loop-line.invariant.count in
    let items : c.push.new.self.items ≡ c.loop-line.parties.items ++ c.in-Ok.calls ∷ [] = c.in_ok-push.ensures.items in
    let read = rw (c.in-Ok.is, count) at c.in_ok-calls.ensures in
    record {
      so_far = rw items (read_more c.args.text.now c.loop-line.rest.now c.in-Some.line.now c.in-Some.after.now c.loop-line.parties.items c.in-Ok.calls c.loop-line.invariant.so_far c.in-Some.ensures.0 read);
      count = grind (arith, common_steps);
    }

pub returns-then-is_empty : goal.returns-then-is_empty
returns-then-is_empty g c =
    let end = rw c.in_default.is at c.next_line.ensures in
    let none : length c.loop-line.parties.items ≡ 0 = grind (arith, common_steps) in
    missing_line c.args.text.now c.loop-line.rest.now c.args.before c.loop-line.parties.items _ c.requires.calls c.loop-line.invariant.so_far end none (omega (arith, c.count_lines-taken.ensures))
