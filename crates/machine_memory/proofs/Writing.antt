-- A word that is written as it was leaves all as it was.
use Rattle.std.proofs.Common.{◌≡◌, ◌∙◌, ℕ, Option, Some, None, refl, ap, get_or, set}
use Rattle.std.proofs.lemmas.List.{set-get_or}
use Rattle.queue_steps.specs.declared.steps.types.Word.{Word, Word as word}
use Rattle.machine_memory.specs.{Blocks.BlockState, Blocks.blank, Blocks.block_of, Blocks.places_in, Blocks.with_place, SharedMemory.MemoryState, SharedMemory.word_at, SharedMemory.put_word}

place_same : {T : Type 0} (i : ℕ) (o : Option (BlockState T)) → with_place i (get_or (places_in o) i blank) o ≡ o
place_same i None = refl
place_same i (Some k) = ap (λ ps. Some (record k { places = ps })) (set-get_or k.places i blank)

pub put_same : {T : Type 0} (s : MemoryState T) (w : Word ℕ) → put_word s w (word_at s w) ≡ s
put_same s (word.Stamp i) = ap (λ l. record s { stamps = l }) (set-get_or s.stamps i 0)
put_same s (word.State b i) = ap (λ l. record s { blocks = l }) (ap (set s.blocks b) (place_same i (block_of s.blocks b)) ∙ set-get_or s.blocks b None)
put_same s w = refl
