use Rattle.std.proofs.Common.{◌≡◌, ◌++◌, take, string_bytes}
use Rattle.app_text.specs.Items.{items_text}
use Rattle.app_text.proofs.items.write_items.Given as goal

-- the items so far are written
abbrev pub invariant-loop-item : goal.invariant-loop-item
invariant-loop-item g l = string_bytes l.text ≡ string_bytes l.fn.text ++ items_text (take l.item-index l.items)
