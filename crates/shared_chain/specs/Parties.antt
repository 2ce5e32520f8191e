-- What a step on the count of parties tells a seat of a web.
use Rattle.std.specs.Prelude.{◌≡◌}
use Rattle.mem_blocks.specs.Web.{Sitter}
use Rattle.shared_parties.specs.declared.known.CallState.{CallState}

-- a step tells this of what the seat knows, and leaves what it has in hand and carries
abbrev pub OfView : {T : Type 0} → (CallState T → CallState T → Type 0) → Sitter T (CallState T) → Sitter T (CallState T) → Type 0
OfView R m n = R m.view n.view × (n.hand ≡ m.hand) × (n.spare ≡ m.spare)
