-- A queue with a capacity has no block.
use Rattle.std.proofs.Common.{◌≡◌, ℕ, Some, [], length, ap, arith}
use Rattle.queue_steps.specs.Sequential.{blocks_of, spanned}
use Rattle.machine_replay.{specs.Vocabulary.Running, specs.Book.Book, proofs.Engine.KindLaws.IsCounted}
use Rattle.machine_memory.specs.{SharedMemory.MemoryState, Present.present}
use Rattle.machine_steps.specs.World.{World}

pub counted-none : {T : Type 0} (w : World (MemoryState T) (Running T)) (b : Book T) (n : ℕ) → w.shared.blocks ≡ [] → b.queue.cap ≡ Some n → IsCounted w b
counted-none w b n none capped =
    let zero : present w.shared.blocks ≡ 0 = ap present none in
    let spans : blocks_of b.queue ≡ 0 = ap (λ c. spanned c b.queue.accepted (length b.queue.items)) capped in
    record {
      within = omega arith;
      spans = λ some. omega arith;
      none = λ m e. zero;
      held_is = λ some. absurd (omega arith);
    }
