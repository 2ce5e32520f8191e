-- A whole run with one party, as a run of the one-owner table.
use Rattle.std.proofs.Common.{ℕ, ◌+◌, ◌<◌, ◌≡◌, ◌&&◌, ◌∙◌, nat_lt, Bool, true, false, Option, Some, None, is_some, is_none, List, [], ◌∷◌, ◌++◌, length, map, refl, sym, ap, subst, arith, inr}
use Rattle.std.{specs.Option.option_to_list, proofs.lemmas.Bool.ltb-true}
use Rattle.queue_laws.proofs.{Common.Tests.is_none_true, Common.Alone.alone_first, Moment.Table.Agrees}
use Rattle.queue_steps.specs.{State.start, Legal.IsShown, Sequential.Owned, Sequential.SequentialRun, Sequential.fresh}
use Rattle.machine_replay.specs.Vocabulary.{Call, Reply, Event, Told, Replay, Begin, Step, Skipped, Ran}
use Rattle.machine_replay.specs.{Book.Book, Book.Open, Book.Run, Book.begun, Book.after_own, Book.opening, Conforms.Conforms, Conforms.entries_from, Conforms.reply_entry, OneOwner.begun_calls, OneOwner.reply_in, OneOwner.IsSequentialRun}
use Rattle.machine_replay.proofs.Replays.{OneOwner.Ready, OneOwner.Midway, OneOwner.midway-more, OneOwner.midway-ends, OneOwner.at_once, Peaking.Run-length}

abbrev pending : {T : Type 0} → Option (Open T) → List (Call T) → List (Call T)
pending None ks = ks
pending (Some o) ks = o.call ∷ ks

-- the replies that are told, in their order
abbrev replies_in : {T : Type 0} → List (Told T) → List (Reply T)
replies_in [] = []
replies_in (Ran k (Some r) ∷ ts) = r ∷ replies_in ts
replies_in (_ ∷ ts) = replies_in ts

-- the rest of the run, from where the one owner's queue is S
record Rest {T : Type 0} (S : Owned T) (y : Option (Open T)) (es : List (Event T)) (ts : List (Told T)) (c : Book T) : Type 0 where
  calls : List (Call T)
  unended : Option (Call T)
  begun_are : pending y (begun_calls es ts) ≡ calls ++ option_to_list unended
  last : Owned T
  run : SequentialRun S calls (replies_in ts) last
  shown : unended ≡ None → IsShown last.queue c.queue

first_party : (p : ℕ) (a : Bool) → (nat_lt p 1 && a) ≡ true → (p ≡ 0) × (a ≡ true)
first_party p true e = let lt : p < 1 = ltb-true p 1 (elim (nat_lt p 1) as (λ b. (b && true) ≡ true → b ≡ true) [ true ↦ λ _. refl | false ↦ λ x. x ] e) in (omega arith, refl)
first_party p false e = absurd (elim (nat_lt p 1) as (λ b. (b && false) ≡ true → ⊥) [ true ↦ λ x. cc | false ↦ λ x. cc ] e)

sequential_from : {T : Type 0} (cap : Option ℕ) (b : Book T) (es : List (Event T)) (ts : List (Told T)) (c : Book T) (y : Option (Open T)) (S : Owned T)
    → Run cap 1 b es ts c → b.open_call 0 ≡ y → Ready S b.queue y → Rest S y es ts c
sequential_from cap b [] [] c None S run is ready =
    record { calls = []; unended = None; begun_are = refl; last = S; run = refl; shown = λ e. subst (λ q. IsShown S.queue q) (sym (ap (λ x. x.queue) run)) ready.shown }
sequential_from cap b [] [] c (Some o) S run is ready =
    record { calls = []; unended = Some o.call; begun_are = refl; last = S; run = refl; shown = λ e. cc }
sequential_from cap b (Begin p k ∷ es) (Ran None None ∷ ts) c None S run is ready =
    let f = first_party p (is_none (b.open_call p)) run.1.0 in
    let here : Midway S b.queue (begun k) = record { from = b.queue; agrees = ready; alone = alone_first b.queue } in
    let rest = sequential_from cap run.0 es ts c (Some (begun k)) S run.2
    (ap (λ x. x.open_call 0) run.1.2 ∙ rw f.0 refl)
    (subst (λ x. Ready S x (Some (begun k))) (sym (ap (λ x. x.queue) run.1.2)) here) in
    record { calls = rest.calls; unended = rest.unended; begun_are = rest.begun_are; last = rest.last; run = rest.run; shown = rest.shown }
sequential_from cap b (Begin p k ∷ es) (Ran None (Some r) ∷ ts) c None S run is ready =
    let done = at_once cap S b.queue k r ready run.1.1 run.1.2 in
    let rest = sequential_from cap run.0 es ts c None done.0 run.2 (ap (λ x. x.open_call 0) run.1.3 ∙ is) (subst (λ x. Ready done.0 x None) (sym (ap (λ x. x.queue) run.1.3)) done.2) in
    record { calls = k ∷ rest.calls; unended = rest.unended; begun_are = ap (λ l. k ∷ l) rest.begun_are; last = rest.last; run = (done.0, (done.1, rest.run)); shown = rest.shown }
sequential_from cap b (Begin p k ∷ es) (Ran None None ∷ ts) c (Some o) S run is ready =
    absurd (let f = first_party p (is_none (b.open_call p)) run.1.0 in let n = is_none_true (b.open_call p) f.1 in let m : b.open_call 0 ≡ None = ap b.open_call (sym f.0) ∙ n in cc)
sequential_from cap b (Begin p k ∷ es) (Ran None (Some r) ∷ ts) c (Some o) S run is ready =
    absurd (let f = first_party p (is_none (b.open_call p)) run.1.0 in let n = is_none_true (b.open_call p) f.1 in let m : b.open_call 0 ≡ None = ap b.open_call (sym f.0) ∙ n in cc)
sequential_from cap b (Begin p k ∷ es) (Ran (Some x) r ∷ ts) c y S run is ready = absurd run.1
sequential_from cap b (Step p g ∷ es) (Ran k r ∷ ts) c None S run is ready =
    absurd (let f = first_party p (is_some (b.open_call p)) run.1.0 in
    let m : b.open_call p ≡ None = ap b.open_call f.0 ∙ is in
    let s : is_some (b.open_call p) ≡ false = ap is_some m in
    cc)
sequential_from cap b (Step p g ∷ es) (Ran k None ∷ ts) c (Some o) S run is ready =
    let f = first_party p (is_some (b.open_call p)) run.1.0 in
    let s = run.1.1 in
    let same : o ≡ s.o = let e : Some o ≡ Some s.o = sym is ∙ ap b.open_call (sym f.0) ∙ s.in_call in cc in
    let there : Midway S b.queue s.o = subst (λ x. Midway S b.queue x) same ready in
    let after = midway-more S b.queue run.0.queue s.o k s.effects b.busy there s.moves in
    let mine = after_own b.busy s.o run.0.queue s.effects in
    let rest = sequential_from cap run.0 es ts c (Some mine) S run.2 (ap (λ x. x 0) s.calls ∙ rw f.0 refl) after in
    record { calls = rest.calls; unended = rest.unended; begun_are = ap (λ x. x.call ∷ begun_calls es ts) same ∙ rest.begun_are; last = rest.last; run = rest.run; shown = rest.shown }
sequential_from cap b (Step p g ∷ es) (Ran k (Some r) ∷ ts) c (Some o) S run is ready =
    let f = first_party p (is_some (b.open_call p)) run.1.0 in
    let s = run.1.1 in
    let same : o ≡ s.o = let e : Some o ≡ Some s.o = sym is ∙ ap b.open_call (sym f.0) ∙ s.in_call in cc in
    let there : Midway S b.queue s.o = subst (λ x. Midway S b.queue x) same ready in
    let after = midway-more S b.queue run.0.queue s.o k s.effects b.busy there s.moves in
    let mine = after_own b.busy s.o run.0.queue s.effects in
    let done = midway-ends S run.0.queue mine r after s.goes in
    let rest = sequential_from cap run.0 es ts c None done.0 run.2 (ap (λ x. x 0) s.calls ∙ rw f.0 refl) done.2 in
    record { calls = s.o.call ∷ rest.calls; unended = rest.unended; begun_are = ap (λ x. x.call ∷ begun_calls es ts) same ∙ ap (λ l. s.o.call ∷ l) rest.begun_are; last = rest.last; run = (done.0, (done.1, rest.run)); shown = rest.shown }
sequential_from cap b (e ∷ es) (Skipped ∷ ts) c y S run is ready =
    let rest = sequential_from cap run.0 es ts c y S run.2 (ap (λ x. x.open_call 0) run.1.1 ∙ is) (subst (λ x. Ready S x y) (sym (ap (λ x. x.queue) run.1.1)) ready) in
    record { calls = rest.calls; unended = rest.unended; begun_are = rest.begun_are; last = rest.last; run = rest.run; shown = rest.shown }
sequential_from cap b es ts c y S run is ready = absurd run

-- the replies of the list
replies-told : {T : Type 0} (n : ℕ) (es : List (Event T)) (ts : List (Told T)) → length es ≡ length ts → map reply_in (entries_from reply_entry n es ts) ≡ replies_in ts
replies-told n [] [] same = refl
replies-told n (e ∷ es) (Ran k (Some r) ∷ ts) same = ap (λ l. r ∷ l) (replies-told (n + 1) es ts (omega arith))
replies-told n (e ∷ es) (t ∷ ts) same = replies-told (n + 1) es ts (omega arith)
replies-told n es ts same = cc

-- what conforms with one party is a run of one owner
pub one_owner : {T A : Type 0} (cap : Option ℕ) (events : List (Event T)) (r : Replay T A) → Conforms cap 1 events r → IsSequentialRun cap events r
one_owner {T} cap events r c =
    let begins : Agrees (fresh {T = T} cap) (start cap 0) = record { shown = record { items = refl; cap = refl; closed = refl; coming = refl; accepted = inr refl }; idle = refl; blocks = λ e. refl } in
    let rest = sequential_from cap (opening cap) events c.told c.last None (fresh cap) c.run refl begins in
    let same : map reply_in r.replies.items ≡ replies_in c.told = ap (λ l. map reply_in l) c.replies ∙ replies-told 0 events c.told (Run-length cap 1 (opening cap) events c.told c.last c.run) in
    record { conforms = c; calls = rest.calls; pending = rest.unended; begun = rest.begun_are; last = rest.last; run = rw same rest.run; shown = rest.shown }
