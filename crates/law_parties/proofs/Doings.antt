-- What calls, partings and joinings add to what a party has done.
use Rattle.std.proofs.Common.{◌≡◌, ℕ, zero, suc, ◌+◌, ◌<◌, Bool, true, cond, Option, List, [], ◌∷◌, ◌++◌, length, refl, ap, sym, subst, ◌∙◌, arith}
use Rattle.std.proofs.{Common.add-zero, lemmas.List.Elements.All-head, lemmas.List.Elements.All-tail, lemmas.List.Sums.sum_by-append, lemmas.List.Sums.sum_by-cons}
use Rattle.std.specs.List.{All, count_by}
use mathlib.Core.List.{IsPrefix}
use lib.ListN.{get_elem?}
use Rattle.queue_steps.specs.{declared.model.Call.Call, declared.model.Reply.Reply, declared.model.Effect.Effect, State.State, State.start, Effect.Runs, Effect.IsHistory, Effect.made, Effect.after_from, Effect.after, Parties.View, Parties.IsView, Parties.StandAt, Parties.Join}
use Rattle.queue_steps.proofs.Keeping.{stays_closed}
use Rattle.concurrent_queue.specs.Shared.{PartyView, Calls}
use Rattle.law_parties.specs.Doings.{passes, done_by, Acts}

pub single : {X : Type 0} (test : X → Bool) (e : X) → count_by test (e ∷ []) ≡ cond (test e) 1 0
single test e = let one = sum_by-cons (λ f. cond (test f) 1 0) e [] in omega (arith, one)

module _ {T : Type 0} where
  -- what stands in a history stands in a longer one
  at_longer : (s d : List (Effect T)) (p : ℕ) → p < length s → get_elem? (s ++ d) p ≡ get_elem? s p
  at_longer [] d p lt = absurd (omega arith)
  at_longer (x ∷ s) d zero lt = refl
  at_longer (x ∷ s) d (suc p) lt = at_longer s d p (omega (arith, lt))

  at_prefix : (s t : List (Effect T)) (p : ℕ) → IsPrefix s t → p < length s → get_elem? t p ≡ get_elem? s p
  at_prefix s t p (d, is) lt = ap (λ (l : List (Effect T)). get_elem? l p) (sym is) ∙ at_longer s d p lt

  -- at how many of these places an effect stands that passes the test
  abbrev standing : (Effect T → Bool) → List (Effect T) → List ℕ → ℕ
  standing test t ps = count_by (λ p. passes test (get_elem? t p)) ps

  standing_longer : (test : Effect T → Bool) (s t : List (Effect T)) (ps : List ℕ) → IsPrefix s t → All (λ p. p < length s) ps → standing test t ps ≡ standing test s ps
  standing_longer test s t [] begins inside = refl
  standing_longer test s t (p ∷ ps) begins inside =
      let here : passes test (get_elem? t p) ≡ passes test (get_elem? s p) = ap (passes test) (at_prefix s t p begins (All-head (λ q. q < length s) p ps inside)) in
      let there : standing test t ps ≡ standing test s ps = standing_longer test s t ps begins (All-tail (λ q. q < length s) p ps inside) in
      sum_by-cons (λ q. cond (passes test (get_elem? t q)) 1 0) p ps ∙ ((λ i. cond (here i) 1 0 + there i) ∙ sym (sum_by-cons (λ q. cond (passes test (get_elem? s q)) 1 0) p ps))

  standing_append : (test : Effect T → Bool) (t : List (Effect T)) (ps qs : List ℕ) → standing test t (ps ++ qs) ≡ standing test t ps + standing test t qs
  standing_append test t ps qs = sum_by-append (λ q. cond (passes test (get_elem? t q)) 1 0) ps qs

  standing_effects : (test : Effect T → Bool) (t : List (Effect T)) (n : ℕ) (ps : List ℕ) (es : List (Effect T)) → StandAt t n ps es → standing test t ps ≡ count_by test es
  standing_effects test t n [] [] s = refl
  standing_effects test t n (p ∷ ps) (e ∷ es) s =
      let here : passes test (get_elem? t p) ≡ test e = ap (passes test) s.1 in
      let there : standing test t ps ≡ count_by test es = standing_effects test t (p + 1) ps es s.2 in
      sum_by-cons (λ q. cond (passes test (get_elem? t q)) 1 0) p ps ∙ ((λ i. cond (here i) 1 0 + there i) ∙ sym (sum_by-cons (λ e. cond (test e) 1 0) e es))
  standing_effects test t n [] (e ∷ es) s = absurd s
  standing_effects test t n (p ∷ ps) [] s = absurd s

  -- where nothing is done, what was done stays
  pub unchanged : (cap : Option ℕ) (v w : View T) → IsView cap v → IsPrefix v.seen w.seen → w.mine ≡ v.mine → (test : Effect T → Bool) → done_by test w ≡ done_by test v
  unchanged cap v w is begins mine test = ap (standing test w.seen) mine ∙ standing_longer test v.seen w.seen v.mine begins is.inside

  -- a call adds its effects
  pub acts : (v w : PartyView T) (c : Call T) (r : Reply T) (es : List (Effect T)) → IsView v.queue.cap v.view → (call : Calls v c r w) → call.1.effects ≡ es → Acts v w es
  acts v w c r es is call are = record {
    queue = call.0;
    share = call.1.share;
    did = λ test.
        ap (standing test w.view.seen) call.1.mine ∙ (standing_append test w.view.seen v.view.mine call.1.places
        ∙ (λ i. standing_longer test v.view.seen w.view.seen v.view.mine call.1.begins is.inside i
        + (standing_effects test w.view.seen (length v.view.seen) call.1.places call.1.effects call.1.stand ∙ ap (count_by test) are) i));
  }

  pub acts_none : (v : PartyView T) → Acts v v []
  acts_none v = record { queue = refl; share = refl; did = λ test. sym (add-zero (done_by test v.view)) }

  pub acts_on : (u v w : PartyView T) (es fs : List (Effect T)) → Acts u v es → Acts v w fs → Acts u w (es ++ fs)
  acts_on u v w es fs a b = record {
    queue = b.queue ∙ a.queue;
    share = b.share ∙ a.share;
    did = λ test.
        let one = a.did test in let more = b.did test in let all = sum_by-append (λ e. cond (test e) 1 0) es fs in omega (arith, one, more, all);
  }

  -- two parties that become one have done what both have
  pub did_both : (cap : Option ℕ) (a b w : View T) → IsView cap a → IsView cap b → Join cap a b w → (test : Effect T → Bool) → done_by test w ≡ done_by test a + done_by test b
  did_both cap a b w is_a is_b joined test =
      ap (standing test w.seen) joined.mine ∙ (standing_append test w.seen a.mine b.mine
      ∙ (λ i. standing_longer test a.seen w.seen a.mine joined.begins.0 is_a.inside i + standing_longer test b.seen w.seen b.mine joined.begins.1 is_b.inside i))

  -- a queue that was seen closed stays so
  closed_on : (Q : State T) (s d : List (Effect T)) → Runs Q (s ++ d) → (after_from Q s).closed ≡ true → (after_from Q (s ++ d)).closed ≡ true
  closed_on Q [] d runs closed = stays_closed Q d runs closed
  closed_on Q (e ∷ s) d runs closed = closed_on (made e Q) s d runs.1 closed

  pub still_closed : (cap : Option ℕ) (s t : List (Effect T)) → IsPrefix s t → IsHistory cap t → (after cap s).closed ≡ true → (after cap t).closed ≡ true
  still_closed cap s t (d, is) legal closed =
      subst (λ (h : List (Effect T)). (after cap h).closed ≡ true) is (closed_on (start cap 0) s d (subst (IsHistory cap) (sym is) legal) closed)
