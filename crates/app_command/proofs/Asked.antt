-- Arguments that ask for no mode, and how a mode that they ask for ends.
use Rattle.std.proofs.Common.{◌≢◌, ℕ, List, Option, Some, None, refl}
use Rattle.std.specs.Io.KnownBytes.{Keeps}
use Rattle.app_text.specs.{KindNames.mode_words, KindNames.IsMode, declared.args.Mode.Mode}
use Rattle.app_command.specs.Ends.{AskForMode}

-- they name no mode
pub no_mode : (words : List (List ℕ)) → ((f : Mode) → IsMode f → mode_words f ≢ words) → AskForMode words → ⊥
no_mode words h asked = h asked.0 asked.1.0 asked.1.1

pub Keeps-same : (known : Option (List ℕ)) → Keeps known known
Keeps-same None = tt
Keeps-same (Some xs) = refl
