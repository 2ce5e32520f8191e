-- Calls that party 0 makes alone, one after another, lead to one world, however many of the events are skipped.
use Rattle.std.proofs.Common.{◌≡◌, ◌≢◌, ◌∙◌, ◌++◌, ◌∷◌, [], ℕ, Bool, true, ◌⊎◌, List, Option, Some, None, refl, subst, sym, ap, inl, inr}
use Rattle.std.specs.List.{All}
use Rattle.std.proofs.lemmas.List.{append_cancel_left, Elements.All-head, Elements.All-tail}
use Rattle.queue_steps.specs.declared.model.{Call.Call, Reply.Reply}
use Rattle.machine_replay.specs.{Conforms.party_of, Played.told_by, Played.world_by}
use Rattle.machine_steps.specs.World.{Begun, StepOutcome, World, call_at, world_event}
use Rattle.machine_memory.specs.declared.types.{EffectKind.EffectKind, Event.Event, Event.TheVariants.Begin, Event.TheVariants.Step, Told.Told, Told.TheVariants.Skipped, Told.TheVariants.Ran}
use Rattle.machine_explore.specs.{Explored.IsPreparing, Explored.begun_by, Moves.call_in}
use Rattle.machine_explore.proofs.{Reaching.begun-own, Reaching.begun-skipped, Walks.CanTake, Walks.WentOn, Walks.went_on}

-- an event of party 0
party_zero : {T : Type 0} (e : Event T) (t : Told T) (es : List (Event T)) (ts : List (Told T)) → party_of e ≡ 0 → begun_by 0 (e ∷ es) (t ∷ ts) ≡ call_in e t ++ begun_by 0 es ts
party_zero e t es ts zero_is =
    let P : ℕ → Type 0 = λ z. begun_by z (e ∷ es) (t ∷ ts) ≡ call_in e t ++ begun_by z es ts in
    subst P zero_is (begun-own e t es ts)

-- a party between calls goes on by a beginning alone
begins-something : {R T : Type 0} (o : Option R) (e : Event T) (t : Told T) (rest : List (Call T)) → o ≡ None → CanTake o e → ((c : Call T) → (p : ℕ) → e ≡ Begin p c → call_in e t ≡ c ∷ []) → call_in e t ++ rest ≡ [] → ⊥
begins-something None (Begin p c) t rest none can is empty = let e : c ∷ rest ≡ [] = ap (λ l. l ++ rest) (sym (is c p refl)) ∙ empty in cc
begins-something None (Step p granted) t rest none can is empty = can
begins-something (Some r) e t rest none can is empty = cc

begun_there : {T : Type 0} (e : Event T) (t : Told T) (c : Call T) (p : ℕ) → e ≡ Begin p c → t ≢ Skipped → call_in e t ≡ c ∷ []
begun_there e Skipped c p is ran = absurd (ran refl)
begun_there e (Ran k r) c p is ran = ap (λ x. call_in x (Ran k r)) is

ran-told : {T : Type 0} (t : Told T) (k : Option EffectKind) (r : Option (Reply T)) → t ≡ Ran k r → t ≢ Skipped
ran-told t k r e s = let both : Ran k r ≡ Skipped = sym e ∙ s in cc

-- two events of party 0 that go on from the same world are the same
same_event : {R T : Type 0} (o : Option R) (e f : Event T) (t u : Told T) (before r1 r2 : List (Call T)) → IsPreparing e → IsPreparing f → CanTake o e → CanTake o f → t ≢ Skipped → u ≢ Skipped
    → call_in e t ++ r1 ≡ before → call_in f u ++ r2 ≡ before → e ≡ f
same_event (Some r) (Step p g) (Step q h) t u before r1 r2 a b can1 can2 ran1 ran2 x y = rw (a.0, a.1, b.0, b.1) refl
same_event None (Begin p c) (Begin q d) t u before r1 r2 a b can1 can2 ran1 ran2 x y =
    let first = ap (λ l. l ++ r1) (sym (begun_there (Begin p c) t c p refl ran1)) ∙ x in
    let second = ap (λ l. l ++ r2) (sym (begun_there (Begin q d) u d q refl ran2)) ∙ y in
    let both : c ∷ r1 ≡ d ∷ r2 = first ∙ sym second in
    let same : c ≡ d = cc in
    rw (a.0, b.0, same) refl
same_event (Some r) (Begin p c) f t u before r1 r2 a b can1 can2 ran1 ran2 x y = absurd can1
same_event (Some r) (Step p g) (Begin q d) t u before r1 r2 a b can1 can2 ran1 ran2 x y = absurd can2
same_event None (Step p g) f t u before r1 r2 a b can1 can2 ran1 ran2 x y = absurd can1
same_event None (Begin p c) (Step q h) t u before r1 r2 a b can1 can2 ran1 ran2 x y = absurd can2

module _ {S R T : Type 0} (step : Bool → S → R → StepOutcome S R T) (start : Call T → Begun R T) where
  -- from w on party 0, alone, makes these calls, and is between calls then
  pub record PreparesBy (w : World S R) (before : List (Call T)) (events : List (Event T)) : Type 0 where
    pub alone : All IsPreparing events
    pub begins : begun_by 0 events (told_by step start w events) ≡ before
    pub rests : call_at (world_by step start w events) 0 ≡ None

  -- past an event that was skipped
  prepares-skipped : (w : World S R) (before : List (Call T)) (e : Event T) (es : List (Event T)) → world_event step start w true e ≡ (w, Skipped) → PreparesBy w before (e ∷ es) → PreparesBy w before es
  prepares-skipped w before e es skips all = record {
    alone = All-tail IsPreparing e es all.alone;
    begins = sym (begun-skipped e es (told_by step start w es) 0) ∙ ap (λ m. begun_by 0 (e ∷ es) (m.1 ∷ told_by step start m.0 es)) (sym skips) ∙ all.begins;
    rests = ap (λ m. call_at (world_by step start m.0 es) 0) (sym skips) ∙ all.rests;
  }

  world-skipped : (w : World S R) (e : Event T) (es : List (Event T)) → world_event step start w true e ≡ (w, Skipped) → world_by step start w (e ∷ es) ≡ world_by step start w es
  world-skipped w e es skips = ap (λ m. world_by step start m.0 es) skips

  -- past an event that went on
  prepares-on : (w : World S R) (before rest : List (Call T)) (e : Event T) (es : List (Event T)) → PreparesBy w before (e ∷ es) → call_in e (world_event step start w true e).1 ++ rest ≡ before
      → PreparesBy (world_event step start w true e).0 rest es
  prepares-on w before rest e es all left = record {
    alone = All-tail IsPreparing e es all.alone;
    begins = append_cancel_left (call_in e (world_event step start w true e).1) _ rest
        (sym (party_zero e (world_event step start w true e).1 es (told_by step start (world_event step start w true e).0 es) (All-head IsPreparing e es all.alone).0) ∙ all.begins ∙ sym left);
    rests = all.rests;
  }

  first_left : (w : World S R) (before : List (Call T)) (e : Event T) (es : List (Event T)) → PreparesBy w before (e ∷ es)
      → call_in e (world_event step start w true e).1 ++ begun_by 0 es (told_by step start (world_event step start w true e).0 es) ≡ before
  first_left w before e es all = sym (party_zero e (world_event step start w true e).1 es (told_by step start (world_event step start w true e).0 es) (All-head IsPreparing e es all.alone).0) ∙ all.begins

  takes_zero : (w : World S R) (e : Event T) → party_of e ≡ 0 → WentOn w e (world_event step start w true e) → CanTake (call_at w 0) e
  takes_zero w e zero_is went = let P : ℕ → Type 0 = λ z. CanTake (call_at w z) e in subst P zero_is went.takes

  -- nothing more happens to a party that has made its calls
  quiet : (es : List (Event T)) (w : World S R) → call_at w 0 ≡ None → PreparesBy w [] es → world_by step start w es ≡ w
  quiet [] w none all = refl
  quiet (e ∷ es) w none all = by_event (λ (x : PreparesBy w [] es). quiet es w none x) (went_on step start w e)
    where
      by_event : (PreparesBy w [] es → world_by step start w es ≡ w) → (world_event step start w true e ≡ (w, Skipped)) ⊎ WentOn w e (world_event step start w true e) → world_by step start w (e ∷ es) ≡ w
      by_event again (inl skips) = world-skipped w e es skips ∙ again (prepares-skipped w [] e es skips all)
      by_event again (inr went) =
          let ran = ran-told (world_event step start w true e).1 went.effect went.reply went.told in
          absurd (begins-something (call_at w 0) e (world_event step start w true e).1 (begun_by 0 es (told_by step start (world_event step start w true e).0 es)) none
          (takes_zero w e (All-head IsPreparing e es all.alone).0 went) (λ c p is. begun_there e (world_event step start w true e).1 c p is ran) (first_left w [] e es all))

  -- where another run begins with the same event
  record Behind (w : World S R) (e : Event T) (before rest : List (Call T)) (ys : List (Event T)) : Type 0 where
    later : List (Event T)
    prepares : PreparesBy (world_event step start w true e).0 rest later
    same : world_by step start w ys ≡ world_by step start (world_event step start w true e).0 later

  behind : (ys : List (Event T)) (w : World S R) (before rest : List (Call T)) (e : Event T) → IsPreparing e → WentOn w e (world_event step start w true e)
      → call_in e (world_event step start w true e).1 ++ rest ≡ before → PreparesBy w before ys → Behind w e before rest ys
  behind [] w before rest e alone went left all =
      let ran = ran-told (world_event step start w true e).1 went.effect went.reply went.told in
      absurd (begins-something (call_at w 0) e (world_event step start w true e).1 rest all.rests (takes_zero w e alone.0 went)
      (λ c p is. begun_there e (world_event step start w true e).1 c p is ran) (left ∙ sym all.begins))
  behind (f ∷ fs) w before rest e alone went left all = by_event (λ (x : PreparesBy w before fs). behind fs w before rest e alone went left x) (went_on step start w f)
    where
      by_event : (PreparesBy w before fs → Behind w e before rest fs) → (world_event step start w true f ≡ (w, Skipped)) ⊎ WentOn w f (world_event step start w true f) → Behind w e before rest (f ∷ fs)
      by_event again (inl skips) =
          let r = again (prepares-skipped w before f fs skips all) in
          record { later = r.later; prepares = r.prepares; same = world-skipped w f fs skips ∙ r.same }
      by_event again (inr goes) =
          let t = (world_event step start w true e).1 in
          let u = (world_event step start w true f).1 in
          let same : f ≡ e = same_event (call_at w 0) f e u t before (begun_by 0 fs (told_by step start (world_event step start w true f).0 fs)) rest (All-head IsPreparing f fs all.alone) alone
          (takes_zero w f (All-head IsPreparing f fs all.alone).0 goes) (takes_zero w e alone.0 went)
          (ran-told u goes.effect goes.reply goes.told) (ran-told t went.effect went.reply went.told) (first_left w before f fs all) left in
          let P : Event T → Type 0 = λ x. PreparesBy w before (x ∷ fs) in
          record { later = fs; prepares = prepares-on w before rest e fs (subst P same all) left; same = ap (λ x. world_by step start (world_event step start w true x).0 fs) same }

  -- two such runs lead to one world
  pub prepared_once : (xs ys : List (Event T)) (w : World S R) (before : List (Call T)) → PreparesBy w before xs → PreparesBy w before ys → world_by step start w xs ≡ world_by step start w ys
  prepared_once [] ys w before one two = sym (quiet ys w one.rests (subst (λ l. PreparesBy w l ys) (sym one.begins) two))
  prepared_once (e ∷ es) ys w before one two =
      by_event (λ (v : World S R) (left : List (Call T)) (zs : List (Event T)) (x : PreparesBy v left es) (y : PreparesBy v left zs). prepared_once es zs v left x y) (went_on step start w e)
    where
      by_event : ((v : World S R) (left : List (Call T)) (zs : List (Event T)) → PreparesBy v left es → PreparesBy v left zs → world_by step start v es ≡ world_by step start v zs)
          → (world_event step start w true e ≡ (w, Skipped)) ⊎ WentOn w e (world_event step start w true e) → world_by step start w (e ∷ es) ≡ world_by step start w ys
      by_event again (inl skips) = world-skipped w e es skips ∙ again w before ys (prepares-skipped w before e es skips one) two
      by_event again (inr went) =
          let rest = begun_by 0 es (told_by step start (world_event step start w true e).0 es) in
          let left = first_left w before e es one in
          let r = behind ys w before rest e (All-head IsPreparing e es one.alone) went left two in
          again (world_event step start w true e).0 rest r.later (prepares-on w before rest e es one left) r.prepares ∙ sym r.same
