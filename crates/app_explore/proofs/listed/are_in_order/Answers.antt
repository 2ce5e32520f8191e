use Rattle.std.proofs.Common.{◌∙◌, ap, arith, is_ge, nat_cmp, sym}
use Rattle.std.{specs.Cmp.Lexicographic.slice_cmp, proofs.lemmas.List.length-map}
use Rattle.app_explore.{specs.Listed.bytes_of, proofs.InOrder.in_order_more}
use Rattle.app_explore.proofs.listed.are_in_order.Goals as goal

pub loop-index-preserved : goal.loop-index-preserved
loop-index-preserved g c =
    let i = c.loop-index.index in
    let first = c.as_str.ensures.value ∙ ap bytes_of (sym c.index-all-index.is) in
    let second = c.as_str-in-loop-index.ensures.value ∙ ap bytes_of (sym c.index-all-index-in-loop-index.is) in
    let told = c.ge.ensures ∙ ap (λ l. is_ge (slice_cmp nat_cmp l c.as_str-in-loop-index.result.now)) first ∙ ap (λ l. is_ge (slice_cmp nat_cmp (bytes_of c.index-all-index.result) l)) second in
    in_order_more bytes_of c.args.all.now i c.index-all-index.result c.index-all-index-in-loop-index.result c.ge.result (omega (arith, c.loop-index.auto.index)) c.loop-index-test.true c.index-all-index.is c.index-all-index-in-loop-index.is told c.if-ge.false c.loop-index.invariant

pub returns : goal.returns
returns g c e k d h = let over = c.loop-index-test.false in let size = length-map c.args.all.now bytes_of in c.loop-index.invariant k d (omega (arith, h, over, size))
