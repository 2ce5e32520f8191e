use Rattle.std.proofs.Common.{arith}
use Rattle.app_text.{specs.KindNames.IsItemCount, proofs.ReadLoad.other_number, proofs.ReadLoad.item_word}
use Rattle.app_text.proofs.load.parse_item_count.Goals as goal

pub returns-then-count-gt-MOST_ITEMS : goal.returns-then-count-gt-MOST_ITEMS
returns-then-count-gt-MOST_ITEMS c =
    let read = rw c.as_bytes.ensures.value at c.in_ok-count.ensures in
    other_number IsItemCount c.in_ok-count.count c.args.text.now item_word read.0 read.1 (λ is. omega (arith, is, c.if-count-gt-MOST_ITEMS.true))
