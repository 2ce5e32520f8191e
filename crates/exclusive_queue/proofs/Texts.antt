-- What a format writes of a capacity.
use Rattle.std.proofs.Common.{◌≡◌, ℕ, refl, Option, Some, None}
use Rattle.std.specs.Fmt.{decimal, debug_option}
use Rattle.exclusive_queue.specs.QueueText.{capacity_text}

pub capacity_shown : (cap : Option ℕ) → debug_option (λ n. Some (decimal n)) cap ≡ Some (capacity_text cap)
capacity_shown None = refl
capacity_shown (Some cap) = refl
