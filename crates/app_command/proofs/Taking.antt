-- Turns of a run are taken one after another.
use Rattle.std.proofs.Common.{◌≡◌, ◌∙◌, ℕ, zero, suc, ◌+◌, ◌<◌, ◌≤◌, List, [], ◌∷◌, ◌++◌, length, map, drop, drop-cons, add-one, get_or, replicate, append_assoc, append-nil, length-append, true, refl, sym, ap, subst, arith}
use Rattle.std.proofs.lemmas.List.{drop_all}
use Rattle.machine_replay.specs.{MachineRuns.Continues, MachineRuns.IsSomeMachineRun, MachineRuns.KeepsRun, declared.machine_run.MachineRun.MachineRun}
use Rattle.machine_memory.specs.declared.types.{Event.Event, Event.TheVariants.Step, Told.Told, Told.TheVariants.Skipped}
use Rattle.app_text.specs.declared.actions.{Action.TheVariants.Run, ReplayLine.ReplayLine}
use Rattle.app_command.specs.{Takes.Takes, Turns.skip_text, Turns.turn_count, Turns.turn_event, Turns.turn_text, Turns.turns_from, Turns.turns_text, declared.turns.Turn.Turn}

turns_text-append : (xs ys : List Turn) (ms ns : List (Told ℕ)) → length ms ≡ length xs → turns_text (xs ++ ys) (ms ++ ns) ≡ turns_text xs ms ++ turns_text ys ns
turns_text-append [] ys [] ns same = refl
turns_text-append [] ys (m ∷ ms) ns same = absurd (omega arith)
turns_text-append (x ∷ xs) ys [] ns same = absurd (omega arith)
turns_text-append (x ∷ xs) ys (m ∷ ms) ns same = rw (turns_text-append xs ys ms ns (omega arith)) (sym (append_assoc (turn_text x m) (turns_text xs ms) (turns_text ys ns)))

events-append : (xs ys : List Turn) → map turn_event (xs ++ ys) ≡ map turn_event xs ++ map turn_event ys
events-append [] ys = refl
events-append (x ∷ xs) ys = ap (λ es. turn_event x ∷ es) (events-append xs ys)

pub takes-none : {A : Type 0} (c : MachineRun ℕ A) (old : List ℕ) → Takes [] c old c old
takes-none c old k parties events told on = record {
  more = [];
  each = refl;
  on = rw (append-nil events, append-nil told) on;
  written = sym (append-nil old);
}

pub takes-more : {A : Type 0} (xs ys : List Turn) (c d e : MachineRun ℕ A) (old mid new : List ℕ) → Takes xs c old d mid → Takes ys d mid e new → Takes (xs ++ ys) c old e new
takes-more xs ys c d e old mid new first then k parties events told on =
    let a = first k parties events told on in
    let b = then k parties (events ++ map turn_event xs) (told ++ a.more) a.on in
    record {
      more = a.more ++ b.more;
      each = let p = length-append a.more b.more in let q = length-append xs ys in let r = a.each in let s = b.each in omega arith;
      on = rw (events-append xs ys, ← append_assoc events (map turn_event xs) (map turn_event ys), ← append_assoc told a.more b.more) b.on;
      written = b.written ∙ ap (λ t. t ++ turns_text ys b.more) a.written ∙ append_assoc old (turns_text xs a.more) (turns_text ys b.more) ∙ ap (λ t. old ++ t) (sym (turns_text-append xs ys a.more b.more a.each));
    }

-- one turn
pub takes-one : {A : Type 0} (t : Turn) (x : Told ℕ) (c d e : MachineRun ℕ A) (old new : List ℕ) → KeepsRun c d → Continues d (turn_event t) x e → new ≡ old ++ turn_text t x → Takes (t ∷ []) c old e new
takes-one t x c d e old new same goes_on written k parties events told on = record {
  more = x ∷ [];
  each = refl;
  on = goes_on k parties events told (same k parties events told on);
  written = written ∙ ap (λ l. old ++ l) (sym (append-nil (turn_text t x)));
}

-- where a step of the party would be skipped, so would its turn of `run`
pub skips-run : {A : Type 0} (t : Turn) (c : MachineRun ℕ A) → t.said.action ≡ Run → Continues c (Step t.said.party true) Skipped c → Continues c (turn_event t) Skipped c
skips-run {A} t c run skips =
    let same : Step t.said.party true ≡ turn_event t = rw run refl in
    subst {A = Event ℕ} (λ e. Continues c e Skipped c) same skips

-- a turn of `run` that would be skipped is taken without a word
takes-skipped : {A : Type 0} (t : Turn) (c : MachineRun ℕ A) (old : List ℕ) → t.said.action ≡ Run → Continues c (turn_event t) Skipped c → Takes (t ∷ []) c old c old
takes-skipped t c old run skips =
    let none : skip_text t t.said.action ≡ [] = rw run refl in
    takes-one t Skipped c c c old old (λ k parties events told on. on) skips (sym (ap (λ l. old ++ l) none ∙ append-nil old))

-- and so are all that are left
pub takes-rest : {A : Type 0} (n : ℕ) (t : Turn) (c : MachineRun ℕ A) (old : List ℕ) → t.said.action ≡ Run → Continues c (turn_event t) Skipped c → Takes (replicate n t) c old c old
takes-rest zero t c old run skips = takes-none c old
takes-rest (suc n) t c old run skips = takes-more (t ∷ []) (replicate n t) c c c old old old (takes-skipped t c old run skips) (takes-rest n t c old run skips)

replicate-add : {X : Type 0} (m n : ℕ) (x : X) → replicate m x ++ replicate n x ≡ replicate (m + n) x
replicate-add zero n x = ap (λ i. replicate i x) (nothing n)
  where
    nothing : (i : ℕ) → i ≡ 0 + i
    nothing i = omega arith
replicate-add (suc m) n x = ap (λ l. x ∷ l) (replicate-add m n x) ∙ ap (λ i. replicate i x) (one_more m n)
  where
    one_more : (i j : ℕ) → suc (i + j) ≡ suc i + j
    one_more i j = omega arith

-- some equal turns, and more of them
pub takes-again : {A : Type 0} (m n all : ℕ) (t : Turn) (c d e : MachineRun ℕ A) (old mid new : List ℕ) → m + n ≡ all → Takes (replicate m t) c old d mid → Takes (replicate n t) d mid e new → Takes (replicate all t) c old e new
takes-again {A} m n all t c d e old mid new is first then =
    subst {A = List Turn} (λ ts. Takes ts c old e new) (replicate-add m n t ∙ ap (λ i. replicate i t) is) (takes-more (replicate m t) (replicate n t) c d e old mid new first then)

-- the run is still one
pub takes-on : {A : Type 0} (xs : List Turn) (c d : MachineRun ℕ A) (old new : List ℕ) → Takes xs c old d new → IsSomeMachineRun c → IsSomeMachineRun d
takes-on xs c d old new takes on =
    let t = takes on.0 on.1 on.2 on.3 on.4 in (on.0, on.1, on.2 ++ map turn_event xs, on.3 ++ t.more, t.on)

-- the turns of the first lines were taken, and with those of the lines behind they are all
pub record TakesTo {A : Type 0} (n : ℕ) (lines : List ReplayLine) (c : MachineRun ℕ A) (old : List ℕ) (d : MachineRun ℕ A) (new : List ℕ) : Type 0 where
  pub turns : List Turn
  pub takes : Takes turns c old d new
  pub all : turns ++ turns_from (n + 1) (drop n lines) ≡ turns_from 1 lines

pub to-first : {A : Type 0} (lines : List ReplayLine) (c : MachineRun ℕ A) (old : List ℕ) → TakesTo 0 lines c old c old
to-first lines c old = record { turns = []; takes = takes-none c old; all = refl }

pub to-next : {A : Type 0} (n : ℕ) (lines : List ReplayLine) (c d e : MachineRun ℕ A) (old mid new : List ℕ) (l : ReplayLine) → n < length lines → TakesTo n lines c old d mid
    → Takes (replicate (turn_count (get_or lines n l).action) (record { line = n + 1; said = get_or lines n l })) d mid e new → TakesTo (n + 1) lines c old e new
to-next n lines c d e old mid new l within to here =
    let turns = replicate (turn_count (get_or lines n l).action) (record { line = n + 1; said = get_or lines n l }) in
    let next : drop n lines ≡ get_or lines n l ∷ drop (n + 1) lines = rw add-one (drop-cons lines n l within) in
    record {
      turns = to.turns ++ turns;
      takes = takes-more to.turns turns c d e old mid new to.takes here;
      all = append_assoc to.turns turns (turns_from (n + 1 + 1) (drop (n + 1) lines)) ∙ ap (λ ls. to.turns ++ turns_from (n + 1) ls) (sym next) ∙ to.all;
    }

pub to-end : {A : Type 0} (n : ℕ) (lines : List ReplayLine) (c d : MachineRun ℕ A) (old new : List ℕ) → length lines ≤ n → TakesTo n lines c old d new → Takes (turns_from 1 lines) c old d new
to-end n lines c d old new past to =
    let none : drop n lines ≡ [] = drop_all n lines past in
    subst {A = List Turn} (λ ts. Takes ts c old d new) (sym (append-nil to.turns) ∙ ap (λ ls. to.turns ++ turns_from (n + 1) ls) (sym none) ∙ to.all) to.takes
