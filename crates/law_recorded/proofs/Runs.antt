-- Each event of a run is played before what is played after it. So a whole run is, from the empty open queue on.
use Rattle.std.proofs.Common.{◌≡◌, ◌∙◌, inl, inr, ℕ, ◌+◌, ◌<◌, ◌||◌, nat_lt, not, Bool, true, false, Option, Some, None, is_some, is_none, List, [], ◌∷◌, refl, sym, ap, subst, if◌then◌else◌}
use Rattle.std.proofs.lemmas.Bool.{ltb-true}
use Rattle.std.specs.Prelude.{replicate}
use Rattle.queue_steps.specs.State.{State, start}
use Rattle.queue_steps.proofs.Keeping.{stays_closed}
use Rattle.queue_laws.proofs.Common.Tests.{and_true, is_none_true}
use Rattle.machine_replay.specs.Vocabulary.{Call, Reply, Effect, EffectKind, Event, Told, Begin, Step, Skipped, Ran}
use Rattle.machine_replay.specs.Book.{Book, Open, IsBegun, Moves, GoesOn, Steps, Run, opening, begun, joined, watched, after_own, put}
use Rattle.machine_replay.proofs.Engine.Moments.{begun_none}
use Rattle.machine_replay.proofs.Traces.TraceSteps.{put-cases, at_open-cases}
use Rattle.history_check.specs.Legal.{Goes}
use Rattle.law_recorded.specs.Recorded.{recorded, RunsAreLegal}
use Rattle.law_recorded.proofs.Places.{all_same, list_of}
use Rattle.law_recorded.proofs.Plays.{stage, SoFar, Play}
use Rattle.law_recorded.proofs.Effects.{far_of}
use Rattle.law_recorded.proofs.Events.{joined_calls, watched_calls, with_flag, flag_here, flag_other, none_far, ends, before_begin, before_both, before_end, before_moves}

-- an open call has a beginning of the effects of one of its replies, and it saw the queue open only if that was so when it began, as the flag says
record Sound (b : Book ℕ) (flag : Bool) (o : Open ℕ) : Type 0 where
  has_begun : IsBegun o.call o.effects
  shut : flag ≡ false → (b.queue.closed ≡ true) × (o.was_open ≡ false)

abbrev AllSound : Book ℕ → (ℕ → Bool) → Type 0
AllSound b flags = (p : ℕ) (o : Open ℕ) → b.open_call p ≡ Some o → Sound b (flags p) o

is_open : (flag was : Bool) (closed : Bool) → (flag ≡ false → (closed ≡ true) × (was ≡ false)) → was ≡ true → flag ≡ true
is_open true was closed shut open_ = refl
is_open false was closed shut open_ = let no = (shut refl).1 in cc

shut_by : (closed : Bool) → not closed ≡ false → closed ≡ true
shut_by true e = refl
shut_by false e = cc

-- after a beginning
sound_begun : (b : Book ℕ) (flags : ℕ → Bool) (p : ℕ) (k : Call ℕ) (busy : ℕ) → AllSound b flags
    → AllSound (record { queue = b.queue; busy = busy; open_call = put (joined_calls b.open_call) p (Some (begun k)) }) (with_flag flags p (not b.queue.closed))
sound_begun b flags p k busy sound q o is = elim (put-cases (joined_calls b.open_call) p q (Some (begun k)) o is) [
  | inl (same, it) ↦
      let that : begun k ≡ o = cc in
      let flag : with_flag flags p (not b.queue.closed) q ≡ not b.queue.closed = subst (λ j. with_flag flags p (not b.queue.closed) j ≡ not b.queue.closed) (sym same) (flag_here flags p (not b.queue.closed)) in
      record {
        has_begun = subst (λ x. IsBegun x.call x.effects) that (begun_none k);
        shut = λ e. (shut_by b.queue.closed (sym flag ∙ e), subst (λ x. x.was_open ≡ false) that refl);
      }
  | inr (ne, it) ↦
      let was = at_open-cases joined (b.open_call q) o it in
      let s = sound q was.0 was.1 in
      record {
        has_begun = subst (λ x. IsBegun x.call x.effects) was.2 s.has_begun;
        shut = λ e. let both = s.shut (sym (flag_other flags p q (not b.queue.closed) ne) ∙ e) in (both.0, subst (λ x. x.was_open ≡ false) was.2 both.1);
      }
]

-- after a step
closes : (Q R : State ℕ) (o : Open ℕ) (k : Option EffectKind) (es : List (Effect ℕ)) → Moves Q o k R es → Q.closed ≡ true → R.closed ≡ true
closes Q R o None es (same, none) closed = ap (λ q. q.closed) same ∙ closed
closes Q R o (Some k) es (e, is, may, fits, leads, more) closed = ap (λ q. q.closed) leads ∙ stays_closed Q (e ∷ []) (fits, tt) closed

neither : (was closed : Bool) → was ≡ false → closed ≡ true → (was || not closed) ≡ false
neither false true a b = refl
neither true closed a b = cc
neither false false a b = cc

own_sound : (c : Book ℕ) (flag : Bool) (o' : Open ℕ) (r : Option (Reply ℕ)) (o : Open ℕ) → GoesOn o' r → (flag ≡ false → (c.queue.closed ≡ true) × (o'.was_open ≡ false)) → (if is_some r then None else Some o') ≡ Some o → Sound c flag o
own_sound c flag o' None o goes shut is = let that : o' ≡ o = cc in subst (Sound c flag) that (record { has_begun = goes.is_begun; shut = shut })
own_sound c flag o' (Some r) o goes shut is = absurd (cc)

sound_step : (b c : Book ℕ) (flags : ℕ → Bool) (p : ℕ) (k : Option EffectKind) (r : Option (Reply ℕ)) → Steps b p k r c → AllSound b flags → AllSound c flags
sound_step b c flags p k r s sound q o is =
    let mine : Open ℕ = after_own b.busy s.o c.queue s.effects in
    let mine_was = sound p s.o s.in_call in
    let then_ = closes b.queue c.queue s.o k s.effects s.moves in
    elim (put-cases (watched_calls c.queue b.open_call) p q (if is_some r then None else Some mine) o (sym (ap (λ f. f q) s.calls) ∙ is)) [
      | inl (same, it) ↦ subst (λ j. Sound c (flags j) o) (sym same)
          (own_sound c (flags p) mine r o s.goes (λ e. let both = mine_was.shut e in (then_ both.0, neither s.o.was_open c.queue.closed both.1 (then_ both.0))) it)
      | inr (ne, it) ↦
          let was = at_open-cases (watched c.queue) (b.open_call q) o it in
          let before = sound q was.0 was.1 in
          record {
            has_begun = subst (λ x. IsBegun x.call x.effects) was.2 before.has_begun;
            shut = λ e. let both = before.shut e in (then_ both.0, subst (λ x. x.was_open ≡ false) was.2 both.1);
          }
    ]

-- what is played from the book on
abbrev PlayFrom : ℕ → Book ℕ → (ℕ → Bool) → List (Event ℕ) → List (Told ℕ) → Type 0
PlayFrom parties b flags es ts = Play parties b.queue (SoFar flags b.open_call) (recorded es ts)

-- at the end of a run each call in progress is somewhere
at_end : (parties : ℕ) (b : Book ℕ) (flags : ℕ → Bool) → AllSound b flags → Play parties b.queue (SoFar flags b.open_call) []
at_end parties b flags sound =
    let ways = list_of (SoFar flags b.open_call) parties (λ p. far_of (flags p) (b.open_call p) (λ o is. let s = sound p o is in s.has_begun)) in
    record { ways = ways.list; many = ways.many; may = ways.each; moves = []; goes = refl }

before_step : (parties : ℕ) (b c : Book ℕ) (flags : ℕ → Bool) (p : ℕ) (k : Option EffectKind) (r : Option (Reply ℕ)) (es : List (Event ℕ)) (ts : List (Told ℕ)) → p < parties → Steps b p k r c → AllSound b flags
    → PlayFrom parties c flags es ts → Play parties b.queue (SoFar flags b.open_call) (ends p r (recorded es ts))
before_step parties b c flags p k r es ts lt s sound play =
    let mine : Open ℕ = after_own b.busy s.o c.queue s.effects in
    let was = sound p s.o s.in_call in
    let all = subst (λ f. Play parties c.queue (SoFar flags f) (recorded es ts)) s.calls play in
    let ended = before_end b.queue c.queue b.open_call flags p lt s.o s.in_call mine r s.goes all in
    before_moves b.queue c.queue b.open_call flags p lt s.o s.in_call b.busy k s.effects (is_open (flags p) s.o.was_open b.queue.closed was.shut) s.moves ended

plays : (cap : Option ℕ) (parties : ℕ) (es : List (Event ℕ)) (ts : List (Told ℕ)) (b last : Book ℕ) (flags : ℕ → Bool) → AllSound b flags → Run cap parties b es ts last → PlayFrom parties b flags es ts
plays cap parties [] [] b last flags sound run = at_end parties b flags sound
plays cap parties [] (t ∷ ts) b last flags sound run = absurd run
plays cap parties (e ∷ es) [] b last flags sound run = absurd run
plays cap parties (Begin p k ∷ es) (Skipped ∷ ts) b last flags sound (mid, (fit, same), run) = plays cap parties es ts b last flags sound (subst (λ m. Run cap parties m es ts last) same run)
plays cap parties (Step p granted ∷ es) (Skipped ∷ ts) b last flags sound (mid, (fit, same), run) = plays cap parties es ts b last flags sound (subst (λ m. Run cap parties m es ts last) same run)
plays cap parties (Begin p k ∷ es) (Ran None None ∷ ts) b last flags sound (mid, (fit, steps, same), run) =
    let tests = and_true (nat_lt p parties) (is_none (b.open_call p)) fit in
    let next : Book ℕ = record { queue = b.queue; busy = b.busy + 1; open_call = put (joined_calls b.open_call) p (Some (begun k)) } in
    before_begin b.queue b.open_call flags p k (ltb-true p parties tests.0) (is_none_true (b.open_call p) tests.1)
    (plays cap parties es ts next last (with_flag flags p (not b.queue.closed)) (sound_begun b flags p k (b.busy + 1) sound) (subst (λ m. Run cap parties m es ts last) same run))
plays cap parties (Begin p k ∷ es) (Ran None (Some r) ∷ ts) b last flags sound (mid, (fit, steps, right, same), run) =
    let tests = and_true (nat_lt p parties) (is_none (b.open_call p)) fit in
    before_both b.queue b.open_call flags p k (ltb-true p parties tests.0) (is_none_true (b.open_call p) tests.1) r right
    (plays cap parties es ts b last flags sound (subst (λ m. Run cap parties m es ts last) same run))
plays cap parties (Begin p k ∷ es) (Ran (Some x) r ∷ ts) b last flags sound (mid, never, run) = absurd never
plays cap parties (Step p granted ∷ es) (Ran k None ∷ ts) b last flags sound (mid, (fit, step), run) =
    let tests = and_true (nat_lt p parties) (is_some (b.open_call p)) fit in
    before_step parties b mid flags p k None es ts (ltb-true p parties tests.0) step sound (plays cap parties es ts mid last flags (sound_step b mid flags p k None step sound) run)
plays cap parties (Step p granted ∷ es) (Ran k (Some r) ∷ ts) b last flags sound (mid, (fit, step), run) =
    let tests = and_true (nat_lt p parties) (is_some (b.open_call p)) fit in
    before_step parties b mid flags p k (Some r) es ts (ltb-true p parties tests.0) step sound (plays cap parties es ts mid last flags (sound_step b mid flags p k (Some r) step sound) run)

pub runs_are_legal : RunsAreLegal
runs_are_legal cap parties events told last run =
    let play = plays cap parties events told (opening cap) last (λ p. true) (λ p o is. absurd (cc)) run in
    let ways : play.ways ≡ replicate parties None = all_same play.ways None (λ p w at. none_far true w (play.may p w at)) ∙ ap (λ n. replicate n None) play.many in
    (play.moves, subst (λ l. Goes (stage (start cap 0) l) (recorded events told) play.moves) ways play.goes)
