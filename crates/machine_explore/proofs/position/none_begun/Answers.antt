use Rattle.std.proofs.Common.{◌≡◌, ◌+◌, ◌∙◌, ◌++◌, ◌∷◌, [], ap, arith}
use Rattle.std.{proofs.lemmas.List.replicate_more, specs.Prelude.replicate}
use Rattle.machine_explore.specs.Positions.{no_progress}
use Rattle.machine_explore.proofs.position.none_begun.Goals as goal

pub push_reserved-requires : goal.push_reserved-requires
push_reserved-requires g c = let inside = c.loop-test.true in let i = c.loop.invariant.len in let n = c.loop.invariant.room in omega (arith, inside, i, n)

pub loop-init : goal.loop-init
loop-init g c = record { items = c.in_ok-parties.ensures.items; len = c.in_ok-parties.ensures.len; room = c.in_ok-parties.ensures.exact }

pub loop-preserved : goal.loop-preserved
loop-preserved g c =
    let grown = c.push_reserved.ensures in
    record {
      items = grown.items ∙ ap (λ l. l ++ c.new.result ∷ []) c.loop.invariant.items ∙ ap (λ x. replicate c.loop.counter no_progress ++ x ∷ []) c.new.ensures ∙ replicate_more c.loop.counter no_progress;
      len = grown.len ∙ ap (λ n. n + 1) c.loop.invariant.len;
      room = grown.capacity ∙ c.loop.invariant.room;
    }

pub returns : goal.returns
returns g c =
    let all : c.loop.counter ≡ c.args.count = let end = c.loop.auto.counter-end in let over = c.loop-test.false in omega (arith, end, over) in
    c.loop.invariant.items ∙ ap (λ n. replicate n no_progress) all
