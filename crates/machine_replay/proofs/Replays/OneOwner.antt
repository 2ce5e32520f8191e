-- With one party, the replies are those of a queue that has one owner.
use Rattle.std.proofs.Common.{ℕ, ◌<◌, ◌≡◌, ◌∙◌, inl, false, Option, Some, None, List, [], ◌∷◌, length, refl, sym, subst, arith, get_or, zero, suc}
use Rattle.std.specs.List.{Any}
use Rattle.queue_steps.{specs.State.State, specs.Replies.IsRightAt, specs.Sequential.Owned, proofs.LookLaws.look_right_tells}
use Rattle.machine_replay.specs.{Vocabulary.Call, Vocabulary.Reply, Vocabulary.Effect, Vocabulary.EffectKind, Book.Open, Book.Allows, Book.MayEnd, Book.Moves, Book.MayMake, Book.kind_of, Book.has_steps, Book.after_own}
use Rattle.queue_laws.specs.Common.Effects.{MayFront}
use Rattle.queue_laws.proofs.{Common.Alone.Only, Common.Alone.Alone, Common.Alone.alone_more, Moment.Table.Agrees, Moment.Table.Done, Moment.Table.finish}

only_at : {T : Type 0} (Q : State T) (ms : List (State T)) (k : ℕ) (x : State T) → Only Q ms → k < length ms → get_or ms k x ≡ x → x ≡ Q
only_at Q [] k x only lt e = absurd (omega arith)
only_at Q (m ∷ ms) zero x only lt e = sym e ∙ only.0
only_at Q (m ∷ ms) (suc k) x only lt e = only_at Q ms k x only.1 (omega arith) e

only_one : {T : Type 0} (Q : State T) (ms : List (State T)) (P : State T → Type 0) → Only Q ms → Any P ms → P Q
only_one Q ms P only at = subst P (only_at Q ms at.0 at.1 only at.2 at.3) at.4

-- where the one call in progress stands: it began at a state that agrees, and all that happened since is its own
pub record Midway {T : Type 0} (S : Owned T) (Q : State T) (o : Open T) : Type 0 where
  pub from : State T
  pub agrees : Agrees S from
  pub alone : Alone from Q o.moments o.was_open o.effects

abbrev pub Ready : {T : Type 0} → Owned T → State T → Option (Open T) → Type 0
Ready S Q None = Agrees S Q
Ready S Q (Some o) = Midway S Q o

may_front : {T : Type 0} (e : Effect T) (o : Open T) → MayMake (kind_of e) o → MayFront (Some e) o.was_open
may_front (Effect.Front old v) o may = may
may_front e o may = tt

-- after its own step
pub midway-more : {T : Type 0} (S : Owned T) (Q R : State T) (o : Open T) (k : Option EffectKind) (es : List (Effect T)) (busy : ℕ) → Midway S Q o → Moves Q o k R es → Midway S R (after_own busy o R es)
midway-more S Q R o None es busy h m =
    record { from = h.from; agrees = h.agrees; alone = rw m.1 (alone_more h.from Q R o.moments o.was_open o.effects None h.alone m.0 tt) }
midway-more S Q R o (Some k) es busy h m =
    let e = m.0 in
    let may : MayMake (kind_of e) o = rw m.1 m.2 in
    record { from = h.from; agrees = h.agrees; alone = rw m.5 (alone_more h.from Q R o.moments o.was_open o.effects (Some e) h.alone (m.3, m.4) (may_front e o may)) }

pub midway-ends : {T : Type 0} (S : Owned T) (Q : State T) (o : Open T) (r : Reply T) → Midway S Q o → MayEnd o r → Done S Q o.call r
midway-ends S Q o r h ends =
    let alone = h.alone in
    finish S h.from Q o.call r o.effects h.agrees ends.0 alone.runs alone.leads (λ none. only_one h.from o.moments (Allows o.call r) (alone.only none) (ends.1 none)) alone.first

-- a call that replies where it begins
pub at_once : {T : Type 0} (cap : Option ℕ) (S : Owned T) (Q : State T) (c : Call T) (r : Reply T) → Agrees S Q → has_steps cap c ≡ false → IsRightAt Q c r → Done S Q c r
at_once cap S Q (Call.Push v) r h e right = cc
at_once cap S Q (Call.ForcePush v) r h e right = cc
at_once cap S Q Call.Pop r h e right = cc
at_once cap S Q Call.Close r h e right = cc
at_once cap S Q look r h e right = finish S Q Q look r [] h (look_right_tells Q look r tt right) tt refl (λ n. inl right) tt
