-- What contracts say of a seat.
use Rattle.std.specs.Prelude.{◌≡◌}
use Rattle.mem_blocks.specs.declared.web.{Seat.Seat, Web.Web}

-- The seat is of the web.
abbrev pub Sits : {S V K P A : Type 0} → Seat S V A → Web S V K P A → Type 0
Sits r w = (r.web ≡ w.id) × (r.heap ≡ w.heap)

-- The seat is the one that it was, but for what it knows and holds.
abbrev pub Same : {S V A : Type 0} → Seat S V A → Seat S V A → Type 0
Same new old = (new.web ≡ old.web) × (new.heap ≡ old.heap) × (new.id ≡ old.id)
