-- Where all calls stand, the seats share what they know; and where only seats that are at nothing change, all calls stand as before.
use Rattle.std.proofs.Common.{◌≡◌, ◌<◌, ℕ, true, false, Bool, List, ap, refl, sym, ◌∙◌, arith}
use mathlib.Core.Option.{some}
use lib.ListN.{get_elem?}
use Rattle.queue_laws.specs.Common.Vocabulary.{Effect}
use Rattle.shared_parties.specs.{declared.known.CallState.CallState, declared.known.Known.Known, declared.known.Work.Work, CallStates.is_busy, CallStates.Sharing, Parting.Regroups, Calling.CallsOf, Calling.cap_of, CallsAt.CallsAt}

pub false_if : (b : Bool) → (b ≡ true → ⊥) → b ≡ false
false_if false never = refl
false_if true never = absurd (never refl)

module _ {T : Type 0} (K : CallsOf T) (g : K.Cells) (h : List (Effect T)) (n : ℕ) (vs : List (CallState T)) (all : CallsAt K g h n vs) where
  pub active : (j : ℕ) (d : CallState T) → get_elem? vs j ≡ some d → is_busy d.work ≡ true → 0 < d.known.parties
  active j d there busy = by d.work refl busy
    where
      by : (w : Work T) → d.work ≡ w → is_busy w ≡ true → 0 < d.known.parties
      by Work.Nothing is busy = absurd (let f : false ≡ true = busy in cc)
      by (Work.Calls c) is busy = let st = all.calls j d c there is in let one : d.known.parties ≡ 1 = ap (λ (k : Known T). k.parties) st.knows in omega arith

  abbrev pub sharing : Sharing n vs
  sharing = record { cap = cap_of K; history = h; kept = all.kept; active = active }

  pub regrouped : (m : ℕ) (ws : List (CallState T)) → Regroups sharing m ws → CallsAt K g h m ws
  regrouped m ws (same, kept) = record {
    ok = all.ok;
    state = all.state;
    calls = λ j d c there is. all.calls j d c (same.was j d (ap is_busy is) there) is;
    free = λ j none. all.free j (λ d there. false_if (is_busy d.work) (λ busy. let f : true ≡ false = sym busy ∙ none d (same.stays j d busy there) in cc));
    kept = kept;
  }
