-- What is printed of a run of the machine is a report of it.
use Rattle.std.proofs.Common.{◌≡◌, ℕ, ◌≤◌, List, [], ◌++◌, Option, Bool, true, false, nat_lt, Result, Ok, IsErr, refl, ap, subst, ◌∙◌, arith}
use Rattle.std.{specs.Option.IfSome, proofs.lemmas.Bool.ltb-false}
use Rattle.queue_steps.specs.declared.{sizes.TheConstants.MAX_CAPACITY, steps.types.Kind.Kind, steps.types.Kind.Kind as kind}
use Rattle.machine_replay.specs.{Book.Run, Book.opening, Peaks.peak_of, Replays.is_too_large, Played.IsMade, Played.as_told, Conforms.IsPeak, Conforms.capacity_of as capacity_of_kind, MachineRuns.EndsAs, MachineRuns.IsMachineRun}
use Rattle.machine_replay.specs.declared.machine_run.{MachineRun.MachineRun, RunEnd.RunEnd}
use Rattle.machine_memory.specs.declared.types.{Event.Event, Told.Told}
use Rattle.app_text.specs.{KindNames.capacity_of, KindNames.queue_named, declared.actions.ReplayLine.ReplayLine, declared.args.KindName.KindName}
use Rattle.app_command.specs.{Reports.IsReport, Reports.peak_text, Left.left_text, Takes.Takes, Turns.turns_from, Turns.events_of, Turns.turns_text}

-- a machine that ran has no more slots than a queue may have
pub within_limit : {T E : Type 0} (k : Kind) (name : KindName) (r : Result T E) (x : T) → capacity_of_kind k ≡ capacity_of name → r ≡ Ok x → (is_too_large k ≡ true → IsErr r) → IfSome (capacity_of name) (λ size. size ≤ MAX_CAPACITY)
within_limit {T} {E} k name r x has is limited = subst {A = Option ℕ} (λ c. IfSome c (λ size. size ≤ MAX_CAPACITY)) has (small k refl)
  where
    below : (n : ℕ) (t : Bool) → k ≡ kind.Bounded n → nat_lt MAX_CAPACITY n ≡ t → n ≤ MAX_CAPACITY
    below n true e test = let failed : IsErr {T = T} {E = E} (Ok x) = subst {A = Result T E} IsErr is (limited (ap is_too_large e ∙ test)) in cc
    below n false e test = let low : n ≤ MAX_CAPACITY = ltb-false _ _ test in low

    small : (j : Kind) → k ≡ j → IfSome (capacity_of_kind j) (λ size. size ≤ MAX_CAPACITY)
    small kind.Single e = omega arith
    small (kind.Bounded n) e = below n (nat_lt MAX_CAPACITY n) e refl
    small kind.Unbounded e = tt

-- what is told of the turns of a run, its peak, and the items that are left
pub reported : {A B : Type 0} (name : KindName) (parties : ℕ) (lines : List ReplayLine) (k : Kind) (c d : MachineRun ℕ A) (r : RunEnd ℕ B) (start middle peaked text : List ℕ)
    → k ≡ queue_named name → capacity_of_kind k ≡ capacity_of name → IfSome (capacity_of name) (λ size. size ≤ MAX_CAPACITY) → IsMachineRun k parties [] [] c → Takes (turns_from 1 lines) c start d middle
    → ((es : List (Event ℕ)) (ts : List (Told ℕ)) → IsMachineRun k parties es ts d → EndsAs k parties es ts r)
    → start ≡ [] → peaked ≡ middle ++ peak_text name r.peak → text ≡ peaked ++ left_text r.left.items → IsReport name parties lines text
reported {A} {B} name parties lines k c d r start middle peaked text named has within opens takes ends empty peak left =
    let taken = takes k parties [] [] opens in
    let end = ends (events_of lines) taken.more taken.on in
    let printed : middle ≡ turns_text (turns_from 1 lines) taken.more = rw (taken.written, empty) refl in
    record {
      within = within;
      told = taken.more;
      made = subst {A = Kind} (λ x. IsMade x parties (events_of lines) taken.more) named end.made;
      last = end.last;
      run = subst {A = Option ℕ} (λ o. Run o parties (opening o) (events_of lines) taken.more end.last) has end.run;
      peak = r.peak;
      is_peak = subst {A = Option ℕ} (λ o. IsPeak o parties (events_of lines) taken.more r.peak) has end.peak;
      peak_is = subst {A = Kind} (λ x. r.peak ≡ peak_of x parties (as_told (events_of lines) taken.more)) named end.peak_is;
      written = rw (left, peak, printed, end.left) refl;
    }
