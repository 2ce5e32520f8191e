-- The queue of one owner beside the abstract queue: a call whose effects stand together is a line of the table of one owner.
use Rattle.std.proofs.Common.{ℕ, ◌+◌, ◌≤◌, ◌≡◌, ◌∙◌, inl, inr, Bool, true, false, if◌then◌else◌, None, Err, List, [], refl, sym, subst, arith}
use Rattle.queue_steps.specs.{State.State, State.is_slot_cap, State.is_full, Effect.Runs, Effect.after_from, Legal.IsShown, Replies.MayAsk, Replies.LacksMemory, Replies.Allows, Replies.Tells}
use Rattle.queue_steps.specs.Sequential.{Owned, Sequential, moved, sequential_reply, sequential_state, counted, is_spent}
use Rattle.queue_laws.specs.Common.{Vocabulary.Call, Vocabulary.Reply, Vocabulary.Effect, Vocabulary.PushError, Vocabulary.ForcePushError, Effects.FrontOpen}
use Rattle.queue_steps.proofs.{Keeping.coming-sequential, Rows.Same, Rows.with_count, Rows.Does, Rows.does_row}

-- the one owner's queue agrees with the abstract one, and holds no block before it accepts
pub record Agrees {T : Type 0} (S : Owned T) (Q : State T) : Type 0 where
  pub shown : IsShown S.queue Q
  pub idle : Q.coming ≡ None
  pub blocks : S.queue.accepted ≡ 0 → S.blocks ≡ 0

counts-if : {T : Type 0} (b : Bool) (X Y : Reply T × State T) (n : ℕ) → n ≤ X.1.accepted → n ≤ Y.1.accepted → n ≤ (if b then X else Y).1.accepted
counts-if true X Y n x y = x
counts-if false X Y n x y = y

counts-counted : {T : Type 0} (Q : State T) → Q.accepted ≤ counted Q
counts-counted Q = elim (is_slot_cap Q.cap) as (λ b. Q.accepted ≤ (if b then Q.accepted else Q.accepted + 1)) [ true ↦ omega arith | false ↦ omega arith ]

-- no call of the table counts down
counts-up : {T : Type 0} (Q : State T) (c : Call T) → Q.accepted ≤ (sequential_state Q c).accepted
counts-up Q (Call.Push v) = counts-if Q.closed _ _ Q.accepted (omega arith) (counts-if (is_spent Q) _ _ Q.accepted (omega arith) (counts-if (is_full Q) _ _ Q.accepted (omega arith) (counts-counted Q)))
counts-up Q (Call.ForcePush v) = counts-if Q.closed _ _ Q.accepted (omega arith) (counts-if (is_spent Q) _ _ Q.accepted (omega arith) (counts-if (is_full Q) _ _ Q.accepted (counts-counted Q) (counts-counted Q)))
counts-up Q c = omega arith

-- the call of the table, and what agrees after it
abbrev pub Done : {T : Type 0} → Owned T → State T → Call T → Reply T → Type 0
Done {T} S Q c r = (R : Owned T) × Sequential S c r R × Agrees R Q

same_state : {T : Type 0} (S : Owned T) (Q : State T) → IsShown S.queue Q → S.queue ≡ with_count Q S.queue.accepted
same_state S Q h = rw (← h.items, ← h.cap, ← h.closed, ← h.coming) refl

same_count : {T : Type 0} (S : Owned T) (Q : State T) → IsShown S.queue Q → Same Q S.queue.accepted
same_count S Q h = elim h.accepted [ inl e ↦ inl (rw h.cap at e) | inr e ↦ inr e ]

in_table : {T : Type 0} (S : Owned T) (Q Q' : State T) (c : Call T) (r : Reply T) (es : List (Effect T)) (h : Agrees S Q) → Does Q S.queue.accepted (same_count S Q h.shown) c r es → after_from Q es ≡ Q' → Done S Q' c r
in_table S Q Q' c r es h d e =
    let same = same_state S Q h.shown in (
      moved S (sequential_state S.queue c),
      inl (subst (λ q. r ≡ sequential_reply q c) (sym same) d.0, refl),
      record {
        shown = subst (λ q. IsShown (sequential_state S.queue c) q) e (subst (λ q. IsShown (sequential_state q c) (after_from Q es)) (sym same) d.1);
        idle = subst (λ q. q.coming ≡ None) e (sym d.1.coming ∙ (coming-sequential (with_count Q S.queue.accepted) c ∙ h.idle));
        blocks = λ zero.
            let before : S.blocks ≡ 0 = h.blocks (omega (arith, counts-up S.queue c, zero)) in
            rw zero before;
      },
    )

-- want of memory
may_ask : {T : Type 0} (S : Owned T) (Q : State T) → Agrees S Q → MayAsk Q → MayAsk S.queue
may_ask S Q h m =
    let cap : S.queue.cap ≡ None = h.shown.cap ∙ m.0 in
    let count : S.queue.accepted ≡ Q.accepted = elim h.shown.accepted [ inl e ↦ let f : is_slot_cap S.queue.cap ≡ false = rw cap refl in cc | inr e ↦ e ] in
    (cap, h.shown.closed ∙ m.1, elim m.2 [ inl e ↦ inl (count ∙ e) | inr e ↦ inr (rw count e) ])

refused : {T : Type 0} (S : Owned T) (Q : State T) (c : Call T) (r : Reply T) → Agrees S Q → LacksMemory Q c r → LacksMemory S.queue c r
refused S Q (Call.Push v) (Reply.Push (Err (PushError.NoMemory w))) h l = (l.0, may_ask S Q h l.1)
refused S Q (Call.ForcePush v) (Reply.ForcePush (Err (ForcePushError.NoMemory w))) h l = (l.0, may_ask S Q h l.1)
refused S Q _ _ h l = absurd l

-- a call from a state that agrees, whose effects lead to the state Q'
pub finish : {T : Type 0} (S : Owned T) (Q Q' : State T) (c : Call T) (r : Reply T) (es : List (Effect T)) → Agrees S Q → Tells c r es → Runs Q es → after_from Q es ≡ Q' → (es ≡ [] → Allows c r Q) → FrontOpen Q es → Done S Q' c r
finish S Q Q' c r es h tells runs e allows opened =
    elim (does_row Q S.queue.accepted (same_count S Q h.shown) c r es tells runs allows (λ old v is. subst (FrontOpen Q) is opened)) [
      | inl d ↦ in_table S Q Q' c r es h d e
      | inr l ↦ let same : Q ≡ Q' = subst (λ es. after_from Q es ≡ Q') l.1 e in (S, inr (refused S Q c r h l.0, h.blocks, refl), subst (λ q. Agrees S q) same h)
    ]
