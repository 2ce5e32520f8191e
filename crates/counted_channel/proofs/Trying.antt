-- A try that was refused, and then a call that conforms, are one call that conforms: the failed try adds no place, and what its party has seen only grows.
use Rattle.std.proofs.Common.{◌≡◌, ◌⊎◌, ℕ, ◌+◌, ◌≤◌, Option, None, Err, List, [], ◌∷◌, ◌++◌, length, refl, ap, sym, ◌∙◌, subst, append_assoc, append-nil, arith, length-append}
use mathlib.Core.List.{IsPrefix}
use Rattle.queue_steps.specs.declared.{model.Call.Call, model.Call.Call as call, model.Reply.Reply, model.Reply.Reply as reply, model.Effect.Effect, errors.PopError.PopError as pop, errors.PushError.PushError as push}
use Rattle.queue_steps.specs.{Effect.after, Legal.IsShown, SequentialCalls.SequentialCall, Shares.Share, Shares.IsEntire, Replies.LacksMemory, Replies.Tells, Sequential.sequential_reply, Sequential.sequential_state, Parties.View, Parties.StandAt, Parties.Displaces, Parties.SharedCall}
use Rattle.concurrent_queue.specs.Shared.{QueueId, PartyView, Calls}

module _ {T : Type 0} where
  prefix_same : (s : List (Effect T)) → IsPrefix s s
  prefix_same s = ([], append-nil s)

  pub prefix_on : (h s t : List (Effect T)) → IsPrefix h s → IsPrefix s t → IsPrefix h t
  prefix_on h s t (d, is) (e, on) = (d ++ e, sym (append_assoc h d e) ∙ (ap (λ (l : List (Effect T)). l ++ e) is ∙ on))

  prefix_length : (s t : List (Effect T)) → IsPrefix s t → length s ≤ length t
  prefix_length s t (d, is) = let e : length s + length d ≡ length t = sym (length-append s d) ∙ ap length is in omega (arith, e)

  -- places that stand behind so many stand behind fewer
  stand_on : (t : List (Effect T)) (n m : ℕ) (ps : List ℕ) (es : List (Effect T)) → n ≤ m → StandAt t m ps es → StandAt t n ps es
  stand_on t n m [] [] le s = s
  stand_on t n m (p ∷ ps) (e ∷ es) le s = let far : m ≤ p = s.0 in (omega (arith, le, far), s.1, s.2)
  stand_on t n m [] (e ∷ es) le s = absurd s
  stand_on t n m (p ∷ ps) [] le s = absurd s

  -- no effect stands at no place
  nowhere : (t : List (Effect T)) (n : ℕ) (ps : List ℕ) (es : List (Effect T)) → es ≡ [] → StandAt t n ps es → ps ≡ []
  nowhere t n [] es none s = refl
  nowhere t n (p ∷ ps) es none s = absurd (subst (StandAt t n (p ∷ ps)) none s)

  displaces_on : (cap : Option ℕ) (u v t : List (Effect T)) (ps : List ℕ) → IsPrefix u v → Displaces cap v t ps → Displaces cap u t ps
  displaces_on cap u v t [] on d = d
  displaces_on cap u v t (p ∷ []) on d = d
  displaces_on cap u v t (p ∷ q ∷ ps) on d = let h = d.0.0 in ((h, prefix_on u v h on d.0.1, d.0.2, d.0.3, d.0.4), d.1)

  -- from v to w a party has tried a call: it has no new place, and if it has all of the share, it has seen nothing new
  pub record Tried (v w : View T) : Type 0 where
    pub begins : IsPrefix v.seen w.seen
    pub mine : w.mine ≡ v.mine
    pub share : w.share ≡ v.share
    pub same : IsEntire v.share → w.seen ≡ v.seen

  pub untried : (v : View T) → Tried v v
  untried v = record { begins = prefix_same v.seen; mine = refl; share = refl; same = λ all. refl }

  -- the call stands for no effect
  abbrev pub IsRefused : Call T → Reply T → Type 0
  IsRefused c r = (es : List (Effect T)) → Tells c r es → es ≡ []

  pub tries : (cap : Option ℕ) (u v w : View T) (c : Call T) (r : Reply T) → IsRefused c r → Tried u v → SharedCall cap v w c r → (IsEntire v.share → SequentialCall cap v w c r) → Tried u w
  tries cap u v w c r none tried call sequential = record {
    begins = prefix_on u.seen v.seen w.seen tried.begins call.begins;
    mine = call.mine ∙ (ap (λ (ps : List ℕ). v.mine ++ ps) (nowhere w.seen (length v.seen) call.places call.effects (none call.effects call.tells) call.stand) ∙ (append-nil v.mine ∙ tried.mine));
    share = call.share ∙ tried.share;
    same = λ all.
        let one = sequential (subst (λ (s : Share). IsEntire s) (sym tried.share) all) in
        one.seen ∙ (ap (λ (es : List (Effect T)). v.seen ++ es) (none one.effects one.tells) ∙ (append-nil v.seen ∙ tried.same all));
  }

  pub conforms : (cap : Option ℕ) (u v w : View T) (c : Call T) (r : Reply T) → Tried u v → SharedCall cap v w c r → SharedCall cap u w c r
  conforms cap u v w c r tried call = record {
    begins = prefix_on u.seen v.seen w.seen tried.begins call.begins;
    legal = call.legal;
    effects = call.effects;
    places = call.places;
    tells = call.tells;
    stand = stand_on w.seen (length u.seen) (length v.seen) call.places call.effects (prefix_length u.seen v.seen tried.begins) call.stand;
    mine = call.mine ∙ ap (λ (ps : List ℕ). ps ++ call.places) tried.mine;
    share = call.share ∙ tried.share;
    right = λ none. let at = call.right none in (at.0, prefix_on u.seen v.seen at.0 tried.begins at.1, at.2, at.3);
    displaces = displaces_on cap u.seen v.seen w.seen call.places tried.begins call.displaces;
  }

  pub conforms_alone : (cap : Option ℕ) (u v w : View T) (c : Call T) (r : Reply T) → v.seen ≡ u.seen → SequentialCall cap v w c r → SequentialCall cap u w c r
  conforms_alone cap u v w c r same call = record {
    effects = call.effects;
    tells = call.tells;
    seen = call.seen ∙ ap (λ (s : List (Effect T)). s ++ call.effects) same;
    table =
        subst
        (λ (s : List (Effect T)).
        ((r ≡ sequential_reply (after cap s) c) × IsShown (sequential_state (after cap s) c) (after cap w.seen)) ⊎ ((cap ≡ None) × LacksMemory (after cap s) c r × (call.effects ≡ []))) same
        call.table;
  }

  -- of a party, whose queue stays the same
  pub tried_more : (u v w : PartyView T) (c : Call T) (r : Reply T) → IsRefused c r → v.queue ≡ u.queue → Tried u.view v.view → Calls v c r w → (w.queue ≡ u.queue) × Tried u.view w.view
  tried_more u v w c r none same tried called = (called.0 ∙ same, tries v.queue.cap u.view v.view w.view c r none tried called.1 called.2)

  pub conforms_then : (u v w : PartyView T) (c : Call T) (r : Reply T) → v.queue ≡ u.queue → Tried u.view v.view → Calls v c r w → Calls u c r w
  conforms_then u v w c r same tried called = (
    called.0 ∙ same,
    subst (λ (q : QueueId). SharedCall q.cap u.view w.view c r) same (conforms v.queue.cap u.view v.view w.view c r tried called.1),
    λ all. subst (λ (q : QueueId). SequentialCall q.cap u.view w.view c r) same
        (conforms_alone v.queue.cap u.view v.view w.view c r (tried.same all) (called.2 (subst (λ (s : Share). IsEntire s) (sym tried.share) all))),
  )

  -- refusals
  pub full_is_refused : (v w : T) → IsRefused (call.Push v) (reply.Push (Err (push.Full w)))
  full_is_refused v w es tells = tells.1

  pub empty_is_refused : IsRefused call.Pop (reply.Pop (Err pop.Empty))
  empty_is_refused es tells = tells

  -- what comes after a refusal is the call
  pub after_full : (u v w : PartyView T) (x y : T) (r : Reply T) → Calls u (call.Push x) (reply.Push (Err (push.Full y))) v → Calls v (call.Push y) r w → Calls u (call.Push x) r w
  after_full u v w x y r refused called =
      let tried = tried_more u u v _ _ (full_is_refused x y) refl (untried u.view) refused in
      let same : y ≡ x = refused.1.tells.0 in
      conforms_then u v w _ _ tried.0 tried.1 (rw same at called)

  pub after_empty : (u v w : PartyView T) (r : Reply T) → Calls u call.Pop (reply.Pop (Err pop.Empty)) v → Calls v call.Pop r w → Calls u call.Pop r w
  after_empty u v w r refused called =
      let tried = tried_more u u v _ _ empty_is_refused refl (untried u.view) refused in
      conforms_then u v w _ _ tried.0 tried.1 called
