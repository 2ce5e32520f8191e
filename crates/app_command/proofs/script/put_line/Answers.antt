use Rattle.std.proofs.Common.{rules, [], ◌∷◌}
use Rattle.app_text.{specs.Replies.number_text, proofs.Writing.puts-three, proofs.Writing.first-of-three, proofs.Writing.second-of-three}
use Rattle.app_command.proofs.script.put_line.Goals as goal

pub returns-in_err-put : goal.returns-in_err-put
returns-in_err-put g c =
    search (rules, first-of-three c.args.pieces.now c.args.words.now (number_text c.args.number) (10 ∷ []) (g.O.Write.contents c.args.output.now) (g.O.Write.contents c.put.new.output) (rw (← c.as_bytes.ensures.value) c.in_err-put.ensures.1))

pub returns-in_err-put_some : goal.returns-in_err-put_some
returns-in_err-put_some g c =
    search (
      rules,
      second-of-three c.args.pieces.now c.args.words.now (number_text c.args.number) (10 ∷ []) c.put.new.self (g.O.Write.contents c.args.output.now) (g.O.Write.contents c.put.new.output) (g.O.Write.contents c.put_some.new.output)
          (rw (← c.as_bytes.ensures.value) c.in_ok-put.ensures) c.in_err-put_some.ensures.1,
    )

pub returns : goal.returns
returns g c =
    puts-three _ c.args.words.now _ _ c.put.new.self _ _ _ (g.O.Write.contents c.put.new.output) _ _ c.put-2.result (rw (← c.as_bytes.ensures.value) c.in_ok-put.ensures) c.in_ok-put_some.ensures c.put-2.ensures
