-- A party's call that has left its fast steps.
use Rattle.std.specs.Prelude.{◌≡◌, ℕ, Option, None}
use Rattle.atomic_table.specs.{declared.shared.Seat.Seat, Seated.TableId}
use Rattle.mem_blocks.specs.{Web.sitter, declared.block.BlockPtr.BlockPtr as Link, declared.web.Rested.Rested}
use Rattle.call_driver.specs.declared.site.Site.{Ghosts}
use Rattle.shared_parties.specs.declared.known.CallState.{CallState}
use Rattle.shared_tables.specs.TableRule.{TableOf}
use Rattle.shared_calls.specs.{Leaving.IsLeft, declared.chain.Asking.Asking, declared.left.Left.Left, declared.allocated_chain.AllocatedChain.AllocatedChain}
use Rattle.concurrent_queue.specs.{declared.party.SeatPlace.SeatPlace as place, declared.shared.Form.Form as form, Begun.Begun, Calling.IsHeldAt, Calling.IsHeldIn, Shared.party_view_of}

-- the call of v, which the seat `first` began at this table
module _ {O M T K : Type 0} (m : Ghosts O M T ℕ (Seat (Option T) (CallState T)) K) where
  abbrev pub LeavesHere : (ℕ → TableOf T) → TableId → M → Left T ℕ → Seat (Option T) (CallState T) → Begun T → Type 0
  LeavesHere L t site l s v = (first : Seat (Option T) (CallState T)) × IsHeldAt L t first × (party_view_of (place.Table first) ≡ v.party) × IsLeft m site first v.call l s

-- the call of v, which this party began in this web
module _ {O T A Q K : Type 0} (m : Ghosts O (AllocatedChain T A) T (Link T) (Asking T A Q) K) where
  abbrev pub LeavesInside : AllocatedChain T A → Left T (Link T) → Asking T A Q → Begun T → Type 0
  LeavesInside queue l s v =
      (r : Rested (CallState T)) × (first : Asking T A Q) × IsHeldIn (form.Chain queue) (place.Web r) × (first.seat.sitter ≡ sitter r.view None None) × (party_view_of (place.Web r) ≡ v.party)
      × IsLeft m queue first v.call l s
