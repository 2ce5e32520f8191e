-- The end of a queue in a table: where one party that is at nothing has all of the share, every place of the history is its own, no call is on its way, and
-- nobody has a slot.
use Rattle.std.proofs.Common.{◌≡◌, ◌≢◌, ℕ, false, map, ap, sym, ◌∙◌, arith}
use mathlib.Core.{Option.some, Option.some-injective, Logic.dite}
use native.Mathlib.Decide.{ℕ_discrete}
use lib.ListN.{get_elem?}
use Rattle.atomic_table.proofs.Lists.{at_map}
use Rattle.queue_steps.specs.Parties.{IsWhole}
use Rattle.shared_parties.specs.{declared.known.CallState.CallState, Known.view_of, CallStates.is_busy, CallStates.known_by, CallStates.IsSeatAlone, Calling.cap_of}
use Rattle.shared_tables.{specs.Seats.Table, specs.Seats.count_of, specs.TableRule.TableOf, specs.TableRule.Rule, proofs.TableParties.table_keeps_parties}
use Rattle.shared_parties.proofs.{Sharings.false_if, Alone.Alone, Alone.alone}

-- what is so of a table by its rule, where the seat id has all of the share
pub record OnlyParty {T : Type 0} (K : TableOf T) (s : Table T) (id : ℕ) (d : CallState T) (rule : Rule K s) : Type 0 where
  pub whole : IsWhole (view_of d.known)
  pub seen : d.known.seen ≡ rule.history
  -- the other seats count for nobody
  pub others : (j : ℕ) (e : CallState T) → j ≢ id → get_elem? s.views j ≡ some e → e.known.parties ≡ 0
  pub quiet : (j : ℕ) (e : CallState T) → get_elem? s.views j ≡ some e → is_busy e.work ≡ false
  pub nobody : (who : ℕ) → K.calls.Idle rule.cells who

pub table_ends : {T : Type 0} (K : TableOf T) (s : Table T) (id : ℕ) (d : CallState T) (rule : Rule K s) → get_elem? s.views id ≡ some d → IsSeatAlone d → OnlyParty K s id d rule
table_ends {T} K s id d rule at is = record {
  whole = only.whole;
  seen = only.seen;
  others = others;
  quiet = quiet;
  nobody = λ who. rule.all.free who (λ e there. quiet who e there);
}
  where
    only : Alone rule.history (map known_by s.views) id d.known
    only = alone (cap_of K.calls) d.known.cap rule.history d.known.seen (count_of s) (map known_by s.views) id d.known d.known.mine d.known.share rule.all.kept (at_map known_by s.views id d at) (ap (λ (z : CallState T). z.known) is.0) is.1

    others : (j : ℕ) (e : CallState T) → j ≢ id → get_elem? s.views j ≡ some e → e.known.parties ≡ 0
    others j e ne there = only.others j e.known ne (at_map known_by s.views j e there)

    -- a seat in a call counts for a party
    quiet : (j : ℕ) (e : CallState T) → get_elem? s.views j ≡ some e → is_busy e.work ≡ false
    quiet j e there = dite (ℕ_discrete j id)
        (λ same. ap (λ (z : CallState T). is_busy z.work) (some-injective e d (sym there ∙ (ap (get_elem? s.views) same ∙ at)) ∙ is.0))
        (λ ne. false_if (is_busy e.work) (λ busy. let none = others j e ne there in let some_part = (table_keeps_parties T K s rule).0.active j e there busy in absurd (omega arith)))
