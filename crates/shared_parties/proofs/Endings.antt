-- The end of a shared queue, whatever it is made of: where one party that is at nothing has all of the share, every place of the history is its own, no call is on
-- its way, and nobody has a part in the cells.
use Rattle.std.proofs.Common.{◌≡◌, ◌≢◌, ◌<◌, ℕ, Bool, true, false, List, map, ap, sym, ◌∙◌, refl, arith}
use mathlib.Core.{Option.some, Option.some-injective, Logic.dite}
use native.Mathlib.Decide.{ℕ_discrete}
use lib.ListN.{get_elem?}
use Rattle.atomic_table.proofs.Lists.{at_map}
use Rattle.queue_laws.specs.Common.Vocabulary.{Effect}
use Rattle.queue_steps.specs.Parties.{IsWhole}
use Rattle.shared_parties.specs.{declared.known.CallState.CallState, declared.known.Work.Work, Known.view_of, CallStates.is_busy, CallStates.known_by, CallStates.IsSeatAlone, Calling.CallsOf, Calling.cap_of, Calling.Standing, CallsAt.CallsAt}
use Rattle.shared_parties.proofs.Alone.{Alone, alone}

pub not_busy : (b : Bool) → (b ≡ true → ⊥) → b ≡ false
not_busy false never = refl
not_busy true never = absurd (never refl)

-- what is so of all calls, where the seat id has all of the share
pub record OnlyParty {T : Type 0} (K : CallsOf T) (g : K.Cells) (h : List (Effect T)) (views : List (CallState T)) (id : ℕ) (d : CallState T) : Type 0 where
  pub whole : IsWhole (view_of d.known)
  pub seen : d.known.seen ≡ h
  -- the other seats count for nobody
  pub others : (j : ℕ) (e : CallState T) → j ≢ id → get_elem? views j ≡ some e → e.known.parties ≡ 0
  pub quiet : (j : ℕ) (e : CallState T) → get_elem? views j ≡ some e → is_busy e.work ≡ false
  pub nobody : (who : ℕ) → K.Idle g who

pub calls_end : {T : Type 0} (K : CallsOf T) (g : K.Cells) (h : List (Effect T)) (n : ℕ) (views : List (CallState T)) (id : ℕ) (d : CallState T) → CallsAt K g h n views → get_elem? views id ≡ some d → IsSeatAlone d → OnlyParty K g h views id d
calls_end {T} K g h n views id d all at is = record {
  whole = only.whole;
  seen = only.seen;
  others = others;
  quiet = quiet;
  nobody = λ who. all.free who (λ e there. quiet who e there);
}
  where
    only : Alone h (map known_by views) id d.known
    only = alone (cap_of K) d.known.cap h d.known.seen n (map known_by views) id d.known d.known.mine d.known.share all.kept (at_map known_by views id d at) (ap (λ (z : CallState T). z.known) is.0) is.1

    others : (j : ℕ) (e : CallState T) → j ≢ id → get_elem? views j ≡ some e → e.known.parties ≡ 0
    others j e ne there = only.others j e.known ne (at_map known_by views j e there)

    -- a seat in a call counts for a party
    counts : (j : ℕ) (e : CallState T) (w : Work T) → get_elem? views j ≡ some e → e.work ≡ w → is_busy w ≡ true → 0 < e.known.parties
    counts j e Work.Nothing there has busy = absurd (let z : false ≡ true = busy in cc)
    counts j e (Work.Calls c) there has busy = let s : Standing K g h j e.known c = all.calls j e c there has in let one = ap (λ z. z.parties) s.knows in omega arith

    quiet : (j : ℕ) (e : CallState T) → get_elem? views j ≡ some e → is_busy e.work ≡ false
    quiet j e there = dite (ℕ_discrete j id)
        (λ same. ap (λ (z : CallState T). is_busy z.work) (some-injective e d (sym there ∙ (ap (get_elem? views) same ∙ at)) ∙ is.0))
        (λ ne. not_busy (is_busy e.work) (λ busy. let none = others j e ne there in let some_part = counts j e e.work there refl busy in absurd (omega arith)))
