-- A party of a shared chain that wakes for a call, and rests after it.
use Rattle.std.proofs.Common.{◌≡◌, true, None, Option, refl, sym, ap, subst, ◌∙◌}
use Rattle.mem_blocks.specs.{Laid.WebId, Web.Sitter, Web.sitter, declared.web.Rested.Rested}
use Rattle.queue_laws.specs.Common.Vocabulary.{Call, Reply}
use Rattle.queue_steps.specs.{Effect.IsHistory, Parties.SharedCall}
use Rattle.shared_parties.specs.{declared.known.CallState.CallState, Known.view_of, CallStates.IsResting, CallStates.HasAll}
use Rattle.shared_chain.specs.Turning.{IsFree}
use Rattle.shared_calls.specs.InWeb.{RestsAt, EndedAt}

module _ {T : Type 0} where
  -- the seat of a party that woke has nothing in hand
  pub wakes_free : (w : WebId) (r : Rested (CallState T)) (m : Sitter T (CallState T)) → RestsAt w r → m ≡ sitter r.view None None → IsFree m
  wakes_free w r m (asleep, same, party, unbounded) is = subst IsFree (sym is) (refl, refl, party.0, unbounded, subst (λ (z : Option _). IsHistory z r.view.known.seen) unbounded party.1.legal, party.1.whole)

  -- a call that ended leaves a party that rests
  pub rests_ended : (r q : Rested (CallState T)) (m n : Sitter T (CallState T)) (c : Call T) (y : Reply T) → m ≡ sitter r.view None None → IsFree n → SharedCall None (view_of m.view.known) (view_of n.view.known) c y
      → q.asleep ≡ true → q.web ≡ r.web → q.view ≡ n.view → EndedAt r c y q
  rests_ended r q m n c y woke free call asleep same view = (
    asleep,
    same,
    subst IsResting (sym view) free.2,
    ap (λ (d : CallState T). d.known.cap) view ∙ free.3,
    subst HasAll (sym view) free.5,
    subst (λ (z : CallState T × CallState T). SharedCall None (view_of z.0.known) (view_of z.1.known) c y) (λ i. (ap (λ (s : Sitter T (CallState T)). s.view) woke i, sym view i)) call,
  )
