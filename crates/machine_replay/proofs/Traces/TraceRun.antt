-- Every run leaves a trace, and so a conforming replay has a history.
use Rattle.std.proofs.Common.{zero, suc, length, ◌≡◌, ◌≢◌, ◌⊎◌, ◌∙◌, ℕ, ◌+◌, ◌<◌, nat_lt, Bool, false, if◌then◌else◌, Option, Some, None, is_some, is_none, List, [], ◌∷◌, ◌++◌, refl, sym, ap, subst, arith, inl, inr, append-nil, append_assoc, slice_get, Contains}
use Rattle.std.{specs.List.AllByRecursion, proofs.lemmas.List.Elements.All-contains, proofs.lemmas.List.Elements.All-from_recursion}
use Rattle.queue_laws.proofs.Common.Tests.{is_none_true}
use Rattle.queue_steps.specs.Replies.{IsRightAt}
use Rattle.machine_replay.specs.Vocabulary.{Call, Reply, Effect, Event, Told, EffectKind, Begin, Step, Skipped, Ran}
use Rattle.machine_replay.specs.Book.{Book, Open, IsBegun, Steps, GoesOn, Happens, Run, has_steps, begun, joined, watched, after_own, put, at_open, opening}
use Rattle.machine_replay.specs.{Conforms.entries_from, Conforms.reply_entry, Conforms.skipped_entry, InCall.IsInCall, Meaning.Entry, Meaning.state_after, Meaning.own_effects, Meaning.RepliesAtOnce, Meaning.ConformingHasHistory}
use Rattle.machine_replay.proofs.{Engine.Calls.with_reply, Traces.Displacing.pending, Engine.Moments.begun_none, Engine.Entries.each-all, Engine.Entries.each-more, Engine.Entries.event-last, Engine.Entries.state-last, Engine.Entries.own-none, Progress.Alone.and-right, Replays.Rising.replies-rise}
use Rattle.machine_replay.proofs.{Replays.Rising.skipped-late, Replays.Rising.skipped-rise, Replays.SkipsAll.in-call-at-end, Traces.Trace.Since, Traces.Trace.Trace, Traces.Trace.ReplyOwes, Traces.Trace.FitsIf, Traces.Trace.trace-more, Traces.Trace.added, Traces.Trace.leads-added}
use Rattle.machine_replay.proofs.Traces.TraceSteps.{put-cases, at_open-cases, since-other, since-joined, since-watched, moves-does, Does, since-own, answer-own, entry-owes, others-wait}

-- the trace after one event more
record Next {T : Type 0} (cap : Option ℕ) (S : List ℕ) (past : List (Event T)) (told : List (Told T)) (n : ℕ) (x : Event T) (t : Told T) (c : Book T) : Type 0 where
  H : List (Entry T)
  R : List (ℕ × ℕ × Reply T)
  trace : Trace cap S (past ++ x ∷ []) (told ++ t ∷ []) (n + 1) H R c

-- how the run goes on from the book b to c, by one event
module _ {T : Type 0} (cap : Option ℕ) (S : List ℕ) (past : List (Event T)) (told : List (Told T)) (n : ℕ) (H : List (Entry T)) (R : List (ℕ × ℕ × Reply T)) (b c : Book T) where
  skipped-next : (x : Event T) → Trace cap S past told n H R b → c ≡ b → Next cap S past told n x Skipped c
  skipped-next x tr same = record {
    H = H;
    R = R;
    trace = trace-more cap S past told n H R b c x Skipped None None tr refl refl tt (ap (λ z. z.queue) same) tt tt
        (λ p o open_. since-other cap S past (x ∷ []) H R n p p None None o tr.early tr.early_replies (inl refl) (inl refl) (λ f is waits. waits) (tr.open_calls p o (sym (ap (λ z. z.open_call p) same) ∙ open_)));
  }

  began-next : (p : ℕ) (k : Call T) → Trace cap S past told n H R b
      → (Contains S n → ⊥) → c ≡ record { queue = b.queue; busy = b.busy + 1; open_call = put (λ j. at_open joined (b.open_call j)) p (Some (begun k)) } → Next cap S past told n (Begin p k) (Ran None None) c
  began-next p k tr ran same = record {
    H = H;
    R = R;
    trace = trace-more cap S past told n H R b c (Begin p k) (Ran None None) None None tr refl refl tt (ap (λ z. z.queue) same) tt tt
        (λ j o open_. opens j o (put-cases (λ j. at_open joined (b.open_call j)) p j (Some (begun k)) o (sym (ap (λ z. z.open_call j) same) ∙ open_)));
  }
    where
      fresh : Since cap S (past ++ Begin p k ∷ []) H R p (n + 1) (begun k)
      fresh = record {
        in_call = record { first = n; call = k; begins = (event-last past n (Begin p k) tr.len, ran); before = omega arith; unanswered = each-all _ _ R (λ y lt e. inl lt) tr.early_replies };
        same_call = refl;
        own = own-none p n (n + 1) H tr.early;
        moments = tt;
        opened = λ e. cc;
        begun = begun_none k;
        displaces = λ old v e. cc;
      }

      opens : (j : ℕ) (o : Open T) → ((j ≡ p) × (Some (begun k) ≡ Some o)) ⊎ ((j ≢ p) × (at_open joined (b.open_call j) ≡ Some o)) → Since cap S (past ++ Begin p k ∷ []) H R j (n + 1) o
      opens j o (inl m) =
          let is : begun k ≡ o = let e = m.1 in cc in
          subst (λ q. Since cap S (past ++ Begin p k ∷ []) H R q (n + 1) o) (sym m.0) (subst (λ z. Since cap S (past ++ Begin p k ∷ []) H R p (n + 1) z) is fresh)
      opens j o (inr m) =
          let old = at_open-cases joined (b.open_call j) o m.1 in
          subst (λ z. Since cap S (past ++ Begin p k ∷ []) H R j (n + 1) z) old.2
          (since-joined cap S (past ++ Begin p k ∷ []) H R j (n + 1) old.0 (since-other cap S past (Begin p k ∷ []) H R n p j None None old.0 tr.early tr.early_replies (inl refl) (inl refl) (λ f is waits. waits) (tr.open_calls j old.0 old.1)))

  at-once-next : (p : ℕ) (k : Call T) (x : Reply T) → Trace cap S past told n H R b
      → (Contains S n → ⊥) → b.open_call p ≡ None → has_steps cap k ≡ false → IsRightAt b.queue k x → c ≡ b → Next cap S past told n (Begin p k) (Ran None (Some x)) c
  at-once-next p k x tr ran free no_steps right same = record {
    H = H;
    R = R ++ (n, p, x) ∷ [];
    trace = trace-more cap S past told n H R b c (Begin p k) (Ran None (Some x)) None (Some x) tr refl refl tt (ap (λ z. z.queue) same) tt (inr answer)
        (λ j o open_. let was = sym (ap (λ z. z.open_call j) same) ∙ open_ in
        since-other cap S past (Begin p k ∷ []) H R n p j None (Some x) o tr.early tr.early_replies (inl refl) (inr (λ e. let f : b.open_call j ≡ None = ap b.open_call e ∙ free in let g = was in cc)) (λ f is waits. waits) (tr.open_calls j o was));
  }
    where
      answer : RepliesAtOnce cap (past ++ Begin p k ∷ []) S H n p x
      answer = record {
        call = k;
        begins = (event-last past n (Begin p k) tr.len, ran);
        no_steps = no_steps;
        right = rw (state-last cap n n H tr.early (omega arith) ∙ tr.leads) right;
      }

  step-next : (p : ℕ) (granted : Bool) (k : Option EffectKind) (r : Option (Reply T)) → Trace cap S past told n H R b
      → (Contains S n → ⊥) → Steps b p k r c → Next cap S past told n (Step p granted) (Ran k r) c
  step-next p granted k r tr ran s = record {
    H = added n p does.e H;
    R = with_reply n p r R;
    trace = trace-more cap S past told n H R b c (Step p granted) (Ran k r) does.e r tr (does.entry n p r) (replied r) does.fits does.leads
        (entry-owes T cap S past H R n p granted tr.len ran tr.early tr.early_replies s.o since does.e r b.busy c.queue s.effects is does.effects s.goes does.may)
        (reply-owes r refl s.goes)
        (λ j o open_. opens j o (put-cases (λ j. at_open (watched c.queue) (b.open_call j)) p j (if is_some r then None else Some mine) o (sym (ap (λ z. z j) s.calls) ∙ open_)));
  }
    where
      does : Does b.queue s.o k c.queue s.effects
      does = moves-does b.queue s.o k c.queue s.effects s.moves

      since : Since cap S past H R p n s.o
      since = tr.open_calls p s.o s.in_call

      mine : Open T
      mine = after_own b.busy s.o c.queue s.effects

      early-now : (e : Option (Effect T)) → AllByRecursion (λ x. x.event < n + 1) (added n p e H)
      early-now None = each-all _ _ H (λ x lt. omega arith) tr.early
      early-now (Some e) = each-more _ H _ (each-all _ _ H (λ x lt. omega arith) tr.early) (omega arith)

      is : c.queue ≡ state_after cap (added n p does.e H) n
      is = does.leads ∙ sym (leads-added cap n p does.e H b.queue tr.leads) ∙ sym (state-last cap (n + 1) n (added n p does.e H) (early-now does.e) (omega arith))

      waits : (j : ℕ) → j ≢ p → (f : Entry T) → f.party ≡ j → pending None H ≡ Some f → pending None (added n p does.e H) ≡ Some f
      waits = others-wait T cap S past H R n p granted tr.len ran tr.early tr.early_replies s.o since does.e r b.busy c.queue s.effects is does.effects s.goes (subst (FitsIf does.e) (sym tr.leads) does.fits)

      replied : (y : Option (Reply T)) → reply_entry n p (Ran k y) ≡ with_reply n p y []
      replied None = refl
      replied (Some y) = refl

      reply-owes : (y : Option (Reply T)) → r ≡ y → GoesOn mine y → ReplyOwes cap S (past ++ Step p granted ∷ []) (added n p does.e H) (with_reply n p r R) n p r
      reply-owes None e goes = rw e tt
      reply-owes (Some y) e goes = answer-own T cap S past H R n p granted tr.len ran tr.early tr.early_replies s.o since does.e r b.busy c.queue s.effects is does.effects s.goes y goes e

      own-open : (y : Option (Reply T)) → r ≡ y → GoesOn mine y → (o : Open T) → (if is_some y then None else Some mine) ≡ Some o → Since cap S (past ++ Step p granted ∷ []) (added n p does.e H) (with_reply n p r R) p (n + 1) o
      own-open None e goes o some =
          let same : mine ≡ o = cc in
          subst (λ z. Since cap S (past ++ Step p granted ∷ []) (added n p does.e H) (with_reply n p r R) p (n + 1) z) same
          (since-own T cap S past H R n p granted tr.len ran tr.early tr.early_replies s.o since does.e r b.busy c.queue s.effects is does.effects s.goes e)
      own-open (Some y) e goes o some = cc

      opens : (j : ℕ) (o : Open T) → ((j ≡ p) × ((if is_some r then None else Some mine) ≡ Some o)) ⊎ ((j ≢ p) × (at_open (watched c.queue) (b.open_call j) ≡ Some o))
          → Since cap S (past ++ Step p granted ∷ []) (added n p does.e H) (with_reply n p r R) j (n + 1) o
      opens j o (inl m) = subst (λ q. Since cap S (past ++ Step p granted ∷ []) (added n p does.e H) (with_reply n p r R) q (n + 1) o) (sym m.0) (own-open r refl s.goes o m.1)
      opens j o (inr m) =
          let old = at_open-cases (watched c.queue) (b.open_call j) o m.1 in
          subst (λ z. Since cap S (past ++ Step p granted ∷ []) (added n p does.e H) (with_reply n p r R) j (n + 1) z) old.2
          (since-watched cap S (past ++ Step p granted ∷ []) (added n p does.e H) (with_reply n p r R) j n c.queue old.0 is
          (since-other cap S past (Step p granted ∷ []) H R n p j does.e r old.0 tr.early tr.early_replies (inr m.0) (inr m.0) (waits j m.0) (tr.open_calls j old.0 old.1)))

-- where the event n ran, it is none of these
abbrev RanIf : {T : Type 0} → List ℕ → ℕ → Told T → Type 0
RanIf S n Skipped = Unit {0}
RanIf S n (Ran k r) = Contains S n → ⊥

happens-next : {T : Type 0} (cap : Option ℕ) (S : List ℕ) (parties : ℕ) (past : List (Event T)) (told : List (Told T)) (n : ℕ) (H : List (Entry T)) (R : List (ℕ × ℕ × Reply T)) (b c : Book T) (x : Event T) (t : Told T)
    → Trace cap S past told n H R b → RanIf S n t → Happens cap parties b x t c → Next cap S past told n x t c
happens-next cap S parties past told n H R b c x Skipped tr ran h = skipped-next cap S past told n H R b c x tr h.1
happens-next cap S parties past told n H R b c (Begin p k) (Ran None None) tr ran h = began-next cap S past told n H R b c p k tr ran h.2
happens-next cap S parties past told n H R b c (Begin p k) (Ran None (Some y)) tr ran h =
    at-once-next cap S past told n H R b c p k y tr ran (is_none_true (b.open_call p) (and-right (nat_lt p parties) (is_none (b.open_call p)) h.0)) h.1 h.2 h.3
happens-next cap S parties past told n H R b c (Begin p k) (Ran (Some e) r) tr ran h = absurd h
happens-next cap S parties past told n H R b c (Step p granted) (Ran k r) tr ran h = step-next cap S past told n H R b c p granted k r tr ran h.1

-- the trace of a whole run
record Whole {T : Type 0} (cap : Option ℕ) (S : List ℕ) (events : List (Event T)) (told : List (Told T)) (c : Book T) : Type 0 where
  n : ℕ
  H : List (Entry T)
  R : List (ℕ × ℕ × Reply T)
  trace : Trace cap S events told n H R c

event-mid : {X : Type 0} (xs ys : List X) (y : X) (n : ℕ) → n ≡ length xs → slice_get (xs ++ y ∷ ys) n ≡ Some y
event-mid [] ys y zero e = refl
event-mid (x ∷ xs) ys y (suc n) e = event-mid xs ys y n (omega arith)
event-mid xs ys y n e = absurd (omega arith)

-- no event that ran is one of these
abbrev AllRan : {T : Type 0} → List ℕ → List (Told T) → Type 0
AllRan {T} S told = (m : ℕ) (k : Option EffectKind) (r : Option (Reply T)) → slice_get told m ≡ Some (Ran k r) → Contains S m → ⊥

ran-if : {T : Type 0} (S : List ℕ) (told : List (Told T)) (n : ℕ) (t : Told T) → AllRan S told → slice_get told n ≡ Some t → RanIf S n t
ran-if S told n Skipped all e = tt
ran-if S told n (Ran k r) all e = all n k r e

run-trace : {T : Type 0} (cap : Option ℕ) (S : List ℕ) (parties : ℕ) (past es : List (Event T)) (told ts : List (Told T)) (n : ℕ) (H : List (Entry T)) (R : List (ℕ × ℕ × Reply T)) (b c : Book T)
    → Trace cap S past told n H R b → AllRan S (told ++ ts) → Run cap parties b es ts c → Whole cap S (past ++ es) (told ++ ts) c
run-trace cap S parties past [] told [] n H R b c tr all run = rw (append-nil past, append-nil told, run) (record { n = n; H = H; R = R; trace = tr })
run-trace cap S parties past (x ∷ es) told (t ∷ ts) n H R b c tr all run =
    let here = ran-if S (told ++ t ∷ ts) n t all (event-mid told ts t n (tr.len ∙ tr.same)) in
    let after = happens-next cap S parties past told n H R b run.0 x t tr here run.1 in
    let rest = run-trace cap S parties (past ++ x ∷ []) es (told ++ t ∷ []) ts (n + 1) after.H after.R run.0 c after.trace (rw (append_assoc told (t ∷ []) ts) all) run.2 in
    rw (append_assoc past (x ∷ []) es, append_assoc told (t ∷ []) ts) at rest
run-trace cap S parties past es told ts n H R b c tr all run = absurd run

-- an event that ran is none of the skipped
skipped-ran : {T : Type 0} (n : ℕ) (es : List (Event T)) (ts : List (Told T)) (m : ℕ) (k : Option EffectKind) (r : Option (Reply T)) → slice_get ts m ≡ Some (Ran k r) → AllByRecursion (λ i. i ≢ n + m) (entries_from skipped_entry n es ts)
skipped-ran n (x ∷ es) (Skipped ∷ ts) zero k r e = cc
skipped-ran n (x ∷ es) (Ran k' r' ∷ ts) zero k r e = each-all _ _ (entries_from skipped_entry (n + 1) es ts) (λ i le same. absurd (omega arith)) (skipped-late (n + 1) es ts)
skipped-ran n (x ∷ es) (Skipped ∷ ts) (suc m) k r e = ((λ same. absurd (omega arith)), each-all _ _ (entries_from skipped_entry (n + 1) es ts) (λ i ne same. ne (omega arith)) (skipped-ran (n + 1) es ts m k r e))
skipped-ran n (x ∷ es) (Ran k' r' ∷ ts) (suc m) k r e = each-all _ _ (entries_from skipped_entry (n + 1) es ts) (λ i ne same. ne (omega arith)) (skipped-ran (n + 1) es ts m k r e)
skipped-ran n es ts m k r e = tt

-- the effects of a call that has not ended, which is the only one of its party
unended-since : {T : Type 0} (cap : Option ℕ) (S : List ℕ) (events : List (Event T)) (H : List (Entry T)) (R : List (ℕ × ℕ × Reply T)) (p n : ℕ) (o : Open T) (s : Since cap S events H R p n o) (k : IsInCall events S R p n)
    → ((d : IsInCall events S R p n) → k.first ≡ d.first) → ((d : IsInCall events S R p n) → k.call ≡ d.call) → IsBegun k.call (own_effects p k.first n H)
unended-since cap S events H R p n o s k one one_call = rw (one s.in_call, one_call s.in_call, s.own, s.same_call) s.begun

pub has_history : {T A : Type 0} → ConformingHasHistory T A
has_history {T} cap parties events r c =
    let begins : Trace {T = T} cap r.skipped.items [] [] 0 [] [] (opening cap) = record {
      len = refl;
      same = refl;
      early = tt;
      in_order = λ i j d lt within. absurd (omega arith);
      legal = tt;
      leads = refl;
      kinds = refl;
      replies = refl;
      own = tt;
      arrivals = tt;
      answers = tt;
      early_replies = tt;
      open_calls = λ p o e. cc;
    } in
    let ran : AllRan r.skipped.items c.told = λ m k x e. rw c.skipped (λ is.
    All-contains (λ i. i ≢ m) (entries_from skipped_entry 0 events c.told) m (All-from_recursion (λ i. i ≢ m) (entries_from skipped_entry 0 events c.told)
    (each-all _ _ (entries_from skipped_entry 0 events c.told) (λ i ne same. ne (omega arith)) (skipped-ran 0 events c.told m k x e))) is refl) in
    let whole = run-trace cap r.skipped.items parties [] events [] c.told 0 [] [] (opening cap) c.last begins ran c.run in
    let tr : Trace cap r.skipped.items events c.told (length events) whole.H r.replies.items c.last = rw (← whole.trace.len, c.replies ∙ sym whole.trace.replies) whole.trace in
    record {
      history = whole.H;
      in_order = tr.in_order;
      legal = tr.legal;
      kinds = c.effects ∙ sym tr.kinds;
      left = c.left ∙ ap (λ q. q.items) (sym tr.leads);
      own = tr.own;
      arrivals = tr.arrivals;
      answers = tr.answers;
      unended = λ p k.
          let at = in-call-at-end cap parties events r c p k in
          unended-since cap r.skipped.items events whole.H r.replies.items p (length events) at.opened (tr.open_calls p at.opened at.is_open) k at.one at.one_call;
      replies_in_order = rw c.replies (replies-rise events c.told);
      skipped_in_order = rw c.skipped (skipped-rise events c.told);
    }
