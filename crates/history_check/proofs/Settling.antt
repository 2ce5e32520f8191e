-- A reply that is right now, of a call that can have no effect any more, may be seen at once: it is in no one's way.
use Rattle.std.proofs.Common.{◌≡◌, ◌≢◌, ◌∙◌, ◌≤◌, inl, inr, ℕ, Bool, true, not, Option, Some, None, List, [], ◌∷◌, refl, ap, sym, subst, length, arith}
use Rattle.std.proofs.lemmas.{Bool.cases_eq, List.set_comm}
use Rattle.queue_steps.specs.{Replies.Tells, Effect.Fits, declared.model.Call.Call, declared.model.Reply.Reply, declared.model.Effect.Effect, declared.model.Effect.Effect as effect}
use Rattle.history_check.specs.declared.recorded.{Event.Event, Event.TheVariants.Begin, Event.TheVariants.End, Move.Move, Way.Way, Way.TheVariants.Waiting, Way.TheVariants.Halfway, Way.TheVariants.Answered}
use Rattle.history_check.specs.Legal.{Stage, IsAt, moved, MayRecord, recorded, Makes, Goes}
use Rattle.history_check.specs.Levels.{next_reply, IsExpected, HasNoEffect, OnlySees, IsAsGood}
use Rattle.history_check.proofs.{Moves.set_other, Moves.step_of, Moves.is_there, Moves.elsewhere, Moves.beside, Orders.made_first, Orders.along, Orders.next_other, Orders.gets_expected}

-- the effects of the same call and reply
retold : (c d : Call ℕ) (r x : Reply ℕ) (es : List (Effect ℕ)) → d ≡ c → r ≡ x → Tells d x es → Tells c r es
retold c d r x es call its tells = subst (λ (y : Reply ℕ). Tells c y es) (sym its) (subst (λ (k : Call ℕ). Tells k x es) call tells)

module _ (p : ℕ) (r : Reply ℕ) where
  -- the stage where the party has its reply
  abbrev answered_at : Stage → Stage
  answered_at s = moved s s.queue p (Some (Answered r))

  -- whoever goes on where the party's call only sees its reply, goes on from where it has it
  abbrev Settles : Stage → List Event → List Move → Type 0
  Settles s es ms = (c : Call ℕ) (b : Bool) → IsAt s p (Waiting c b) → HasNoEffect c r s.queue → next_reply p es ≡ Some r → (ns : List Move) × Goes (answered_at s) es ns × (length ns ≤ length ms)

  by_event : (s : Stage) (e : Event) (es : List Event) (ms : List Move) → MayRecord s e → Settles (recorded s e) es ms → Settles s (e ∷ es) (Move.Event ∷ ms)
  by_event s (Begin q d) es ms may later c b at only next =
      let ne : q ≢ p = λ same. cc (same, at, may) in
      let w : Option Way = Some (Waiting d (not s.queue.closed)) in
      let h = later c b (set_other s.calls q p w (λ same. ne (sym same)) ∙ at) only next in
      let there = subst (λ (l : List (Option Way)). Goes (record s { calls = l }) es h.0) (set_comm s.calls q p w (Some (Answered r)) ne) h.1 in
      (Move.Event ∷ h.0, (recorded (answered_at s) (Begin q d), es, (set_other s.calls p q (Some (Answered r)) ne ∙ may, refl, refl), there), let le = h.2 in omega (arith, le))
  by_event s (End q y) es ms may later c b at only next =
      let ne : q ≢ p = λ same. cc (same, at, may) in
      let h = later c b (set_other s.calls q p None (λ same. ne (sym same)) ∙ at) only (sym (next_other p q y es (λ same. ne (sym same))) ∙ next) in
      let there = subst (λ (l : List (Option Way)). Goes (record s { calls = l }) es h.0) (set_comm s.calls q p None (Some (Answered r)) ne) h.1 in
      (Move.Event ∷ h.0, (recorded (answered_at s) (End q y), es, (set_other s.calls p q (Some (Answered r)) ne ∙ may, refl, refl), there), let le = h.2 in omega (arith, le))

  -- another party's move is made too
  by_another : (s t : Stage) (m : Move) (es : List Event) (ms : List Move) (makes : Makes s m t) → p ≢ (step_of s t m makes).party → Settles t es ms → Settles s es (m ∷ ms)
  by_another s t m es ms makes ne later c b at only next =
      let step = step_of s t m makes in
      let shut : s.queue.closed ≡ true → t.queue.closed ≡ true = λ is. ap (λ (u : Stage). u.queue.closed) step.is ∙ step.closed is in
      let still : HasNoEffect c r t.queue = (λ e tells. let x = only.0 e tells in (x.0, shut x.1), only.1) in
      let h = later c b (elsewhere step p ne ∙ at) still next in
      (m ∷ h.0, made_first (answered_at s) (answered_at t) m es h.0 (beside step p (Some (Answered r)) ne) h.1, let le = h.2 in omega (arith, le))

  by_move : (s t : Stage) (m : Move) (es : List Event) (ms : List Move) → Makes s m t → Goes t es ms → ((u : Stage) → Goes u es ms → Settles u es ms) → Settles s es (m ∷ ms)
  unfolding step_of
  by_move s t Move.Event es ms makes g later = absurd makes
  by_move s t (Move.See q x) es ms makes g later = elim (cases_eq p q) [
    | inl same ↦ λ c b at only next.
        let there : IsAt t p (Answered x) = rw same (is_there (step_of s t (Move.See q x) makes)) in
        let its : r ≡ x = subst (λ (o : Option (Reply ℕ)). IsExpected o x) next (gets_expected p x ms es t g (Answered x, there, refl)) in
        let here : t ≡ answered_at s = rw (same, its) makes.4 in
        (ms, subst (λ (u : Stage). Goes u es ms) here g, omega arith)
    | inr ne ↦ by_another s t (Move.See q x) es ms makes ne (later t g)
  ]
  by_move s t (Move.Act q x) es ms makes g later = elim (cases_eq p q) [
    | inl same ↦ λ c b at only next.
        let there : IsAt t p (Answered x) = rw same (is_there (step_of s t (Move.Act q x) makes)) in
        let its : r ≡ x = subst (λ (o : Option (Reply ℕ)). IsExpected o x) next (gets_expected p x ms es t g (Answered x, there, refl)) in
        let call : makes.0 ≡ c = let here = makes.3 in cc (same, at, here) in
        let shut = only.0 makes.2 (retold c makes.0 r x (makes.2 ∷ []) call its makes.4) in
        let fits : Fits effect.SelfClose s.queue = subst (λ (e : Effect ℕ). Fits e s.queue) shut.0 makes.5 in
        absurd (let was_open = fits.0 in let is_closed = shut.1 in cc)
    | inr ne ↦ by_another s t (Move.Act q x) es ms makes ne (later t g)
  ]
  by_move s t (Move.Part q x) es ms makes g later = elim (cases_eq p q) [
    | inl same ↦ λ c b at only next.
        let there : IsAt t p (Halfway x) = rw same (is_there (step_of s t (Move.Part q x) makes)) in
        let its : r ≡ x = subst (λ (o : Option (Reply ℕ)). IsExpected o x) next (gets_expected p x ms es t g (Halfway x, there, refl)) in
        let call : makes.0 ≡ c = let here = makes.3 in cc (same, at, here) in
        absurd (only.1 makes.1 makes.2 (retold c makes.0 r x (effect.Front makes.1 makes.2 ∷ effect.Arrive ∷ []) call its makes.4))
    | inr ne ↦ by_another s t (Move.Part q x) es ms makes ne (later t g)
  ]
  by_move s t (Move.Arrive q) es ms makes g later = elim (cases_eq p q) [
    | inl same ↦ λ c b at only next. absurd (let here = makes.1 in cc (same, at, here))
    | inr ne ↦ by_another s t (Move.Arrive q) es ms makes ne (later t g)
  ]
  by_move s t (Move.Displace q x) es ms makes g later = elim (cases_eq p q) [
    | inl same ↦ λ c b at only next.
        let there : IsAt t p (Answered x) = rw same (is_there (step_of s t (Move.Displace q x) makes)) in
        let its : r ≡ x = subst (λ (o : Option (Reply ℕ)). IsExpected o x) next (gets_expected p x ms es t g (Answered x, there, refl)) in
        let call : makes.0 ≡ c = let here = makes.4 in cc (same, at, here) in
        absurd (only.1 makes.2 makes.3 (retold c makes.0 r x (effect.Front makes.2 makes.3 ∷ effect.Arrive ∷ []) call its makes.5))
    | inr ne ↦ by_another s t (Move.Displace q x) es ms makes ne (later t g)
  ]

  settles : (ms : List Move) (es : List Event) (s : Stage) → Goes s es ms → Settles s es ms
  settles = along Settles (λ s c b at only next. absurd (cc)) (λ s e es ms may g. by_event s e es ms may) by_move

pub seen_at_once : (s t : Stage) (p : ℕ) (r : Reply ℕ) (es : List Event) → Makes s (Move.See p r) t → OnlySees s p r → next_reply p es ≡ Some r → IsAsGood es s t
seen_at_once s t p r es (c, b, at, allows, is) only next ms g = rw is (settles p r ms es s g c b at (only c b at) next)
