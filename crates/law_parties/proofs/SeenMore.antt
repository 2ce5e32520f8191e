-- A party that has seen more and then makes a call has made it after what it had seen before.
use Rattle.std.proofs.Common.{◌≤◌, ℕ, List, [], ◌∷◌, ◌++◌, length, Option, ap, sym, subst, ◌∙◌, arith}
use mathlib.Core.List.{IsPrefix}
use Rattle.queue_steps.specs.{State.State, declared.model.Call.Call, declared.model.Effect.Effect, declared.model.Reply.Reply, Replies.Allows, Parties.View, Parties.SharedCall, Parties.StandAt, Parties.Between, Parties.Displaces, SequentialCalls.SequentialCall, Shares.IsEntire}
use Rattle.shared_parties.proofs.Histories.{prefix_trans, prefix_length}
use Rattle.concurrent_queue.specs.{SawMore.SawMore, Shared.QueueId, Shared.PartyView, Shared.Calls}

module _ {T : Type 0} where
  -- what stands at these places, none before n, has none before m, which is no later
  stand_earlier : (t : List (Effect T)) (m n : ℕ) (ps : List ℕ) (es : List (Effect T)) → m ≤ n → StandAt t n ps es → StandAt t m ps es
  stand_earlier t m n [] [] le stand = stand
  stand_earlier t m n (p ∷ ps) (e ∷ es) le (from, there, rest) = (omega (arith, le, from), there, rest)
  stand_earlier t m n [] (e ∷ es) le stand = absurd stand
  stand_earlier t m n (p ∷ ps) [] le stand = absurd stand

  between_earlier : (cap : Option ℕ) (r s t : List (Effect T)) (fact : State T → Type 0) → IsPrefix r s → Between cap s t fact → Between cap r t fact
  between_earlier cap r s t fact begins (h, from, to, is) = (h, prefix_trans r s h begins from, to, is)

  displaces_earlier : (cap : Option ℕ) (r s t : List (Effect T)) (ps : List ℕ) → IsPrefix r s → Displaces cap s t ps → Displaces cap r t ps
  displaces_earlier cap r s t [] begins d = tt
  displaces_earlier cap r s t (p ∷ []) begins d = tt
  displaces_earlier cap r s t (p ∷ q ∷ ps) begins ((h, from, to, before, shut), quiet) = ((h, prefix_trans r s h begins from, to, before, shut), quiet)

  pub saw_more_calls : (v w u : PartyView T) (c : Call T) (r : Reply T) → SawMore v w → Calls w c r u → Calls v c r u
  saw_more_calls v w u c r (queue, begins, mine, share, alone) (same, calls, one) =
      let call : SharedCall v.queue.cap w.view u.view c r = subst (λ (q : QueueId). SharedCall q.cap w.view u.view c r) queue calls in (
        same ∙ queue,
        record {
          begins = prefix_trans v.view.seen w.view.seen u.view.seen begins call.begins;
          legal = call.legal;
          effects = call.effects;
          places = call.places;
          tells = call.tells;
          stand = stand_earlier u.view.seen (length v.view.seen) (length w.view.seen) call.places call.effects (prefix_length v.view.seen w.view.seen begins) call.stand;
          mine = call.mine ∙ ap (λ (ps : List ℕ). ps ++ call.places) mine;
          share = call.share ∙ share;
          right = λ none. between_earlier v.queue.cap v.view.seen w.view.seen u.view.seen (Allows c r) begins (call.right none);
          displaces = displaces_earlier v.queue.cap v.view.seen w.view.seen u.view.seen call.places begins call.displaces;
        },
        λ entire. subst (λ (z : QueueId × View T). SequentialCall z.0.cap z.1 u.view c r) (λ i. (queue i, alone entire i)) (one (subst IsEntire (sym share) entire)),
      )
