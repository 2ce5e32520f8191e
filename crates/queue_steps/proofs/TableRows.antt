-- Each line of the one-owner table stands in a history.
use Rattle.std.specs.Prelude.{◌≡◌, ◌⊎◌, ℕ, ◌+◌, ◌<◌, ◌≤◌, Bool, true, false, not, ◌&&◌, ◌==◌, List, [], ◌∷◌, ◌++◌, length, Option, Some, None, Ok, Err, if◌then◌else◌}
use Rattle.std.proofs.Common.{refl, sym, inl, inr, ap, ◌∙◌, arith}
use Rattle.queue_steps.specs.declared.{sizes.TheConstants.LIMIT, model.Effect.Effect as effect, errors.PushError.PushError as push, errors.ForcePushError.ForcePushError as force, model.Call.Call, model.Call.Call as call, model.Reply.Reply, model.Reply.Reply as reply}
use Rattle.queue_steps.specs.{State.State, State.is_slot_cap, State.fills, State.is_full, Effect.rest, Looks.look_reply, Replies.Allows, Replies.LacksMemory, Replies.Tells, Legal.IsSound, Legal.IsWithin, Legal.Stands, Legal.SequentialStands}
use Rattle.queue_steps.specs.Sequential.{owner_table, is_spent, shut, appended, displaced, front, pop_result}
use Rattle.queue_steps.proofs.TableCases.{table_cases}

abbrev RowStands : {T : Type 0} → State T → Call T → Reply T × State T → Type 0
RowStands Q c l = Stands Q c l.0 l.1

-- a call without effects, after which the state is the same
quiet : {T : Type 0} (Q : State T) (c : Call T) (r : Reply T) → Tells c r [] → Allows c r Q → Stands Q c r Q
quiet Q c r tells right =
    record { effects = []; tells = tells; runs = tt; shows = record { items = refl; cap = refl; closed = refl; coming = refl; accepted = inr refl }; right = λ _. right }

-- a queue that is not spent may accept one item more
below : (single : Bool) (n : ℕ) → (not single && (n == LIMIT)) ≡ false → (single ≡ true) ⊎ (n ≤ LIMIT) → (single ≡ true) ⊎ (n < LIMIT)
below true n e s = inl refl
below false n e (inl h) = inl h
below false n e (inr h) = inr (grind arith)

spent : (single : Bool) (n : ℕ) → (not single && (n == LIMIT)) ≡ true → (single ≡ false) × (n ≡ LIMIT)
spent true n e = cc
spent false n e = (refl, grind arith)

counts : (single : Bool) (n : ℕ) → (single ≡ true) ⊎ ((if single then n else n + 1) ≡ n + 1)
counts true n = inl refl
counts false n = inr refl

-- a capacity of one slot is one
one : (c : Option ℕ) → is_slot_cap c ≡ true → c ≡ Some 1
one None e = cc
one (Some c) e = let h : c ≡ 1 = grind arith in rw h refl

-- a list as long as a capacity has a front
has_front : {T : Type 0} (c : Option ℕ) (xs : List T) → IsWithin c (length xs) → fills c (length xs) ≡ true → (x : T) × ((others : List T) × (xs ≡ x ∷ others))
has_front None xs w e = cc
has_front (Some c) [] w e = grind (arith, w.0)
has_front (Some c) (x ∷ xs) w e = (x, (xs, refl))

-- a spent queue closes itself
closes : {T : Type 0} (Q : State T) (c : Call T) (r : Reply T) → Tells c r (effect.SelfClose ∷ []) → Q.closed ≡ false → is_spent Q ≡ true → Stands Q c r (shut Q)
closes Q c r tells e1 e2 =
    let h = spent (is_slot_cap Q.cap) Q.accepted e2 in
    record {
      effects = effect.SelfClose ∷ [];
      tells = tells;
      runs = ((e1, h.0, h.1), tt);
      shows = record { items = refl; cap = refl; closed = refl; coming = refl; accepted = inr refl };
      right = λ e. cc;
    }

-- an item is appended
appends : {T : Type 0} (Q : State T) (c : Call T) (r : Reply T) (v : T) → IsSound Q → Tells c r (effect.Append v ∷ []) → Q.closed ≡ false → is_spent Q ≡ false → is_full Q ≡ false
    → Stands Q c r (appended Q v)
appends Q c r v s tells e1 e2 e3 =
    record {
      effects = effect.Append v ∷ [];
      tells = tells;
      runs = ((e1, s.none_coming, e3, below (is_slot_cap Q.cap) Q.accepted e2 s.counted), tt);
      shows = record { items = refl; cap = refl; closed = refl; coming = refl; accepted = counts (is_slot_cap Q.cap) Q.accepted };
      right = λ e. cc;
    }

push-line : {T : Type 0} (Q : State T) (v : T) → IsSound Q → RowStands Q (call.Push v) (owner_table Q (call.Push v))
push-line Q v s =
    table_cases (RowStands Q (call.Push v)) Q _ _ _ _ (λ e1. quiet Q (call.Push v) (reply.Push (Err (push.Closed v))) (refl, inr refl) (inl (refl, e1)))
    (λ e1 e2. closes Q (call.Push v) (reply.Push (Err (push.Closed v))) (refl, inl refl) e1 e2)
    (λ e1 e2 e3. quiet Q (call.Push v) (reply.Push (Err (push.Full v))) (refl, refl) (inl (refl, e1, e3, below (is_slot_cap Q.cap) Q.accepted e2 s.counted)))
    (λ e1 e2 e3. appends Q (call.Push v) (reply.Push (Ok tt)) v s refl e1 e2 e3)

-- the list of a full queue of one slot has one item
alone : {T : Type 0} (c : Option ℕ) (x : T) (xs : List T) → is_slot_cap c ≡ true → fills c (length (x ∷ xs)) ≡ true → xs ≡ []
alone None x xs one full = cc
alone (Some c) x [] one full = refl
alone (Some c) x (y ∷ ys) one full = grind arith

-- the front of a full queue gives way
displaces : {T : Type 0} (Q : State T) (v : T) → IsSound Q → Q.closed ≡ false → is_spent Q ≡ false → is_full Q ≡ true
    → RowStands Q (call.ForcePush v) (reply.ForcePush (Ok (front Q.items)), displaced Q v)
displaces {T} Q v s e1 e2 e3 = go Q.items (is_slot_cap Q.cap) refl refl
  where
    go : (xs : List T) (single : Bool) → Q.items ≡ xs → is_slot_cap Q.cap ≡ single → RowStands Q (call.ForcePush v) (reply.ForcePush (Ok (front xs)), displaced Q v)
    go [] single e4 e5 =
        let h = has_front Q.cap Q.items s.within e3 in
        let none : h.0 ∷ h.1.0 ≡ [] = sym h.1.1 ∙ e4 in
        absurd (cc)
    go (x ∷ xs) true e4 e5 =
        let full : fills Q.cap (length (x ∷ xs)) ≡ true = ap (λ ys. fills Q.cap (length ys)) (sym e4) ∙ e3 in
        let last : xs ≡ [] = alone Q.cap x xs e5 full in
        let only : Q.items ≡ x ∷ [] = e4 ∙ ap (λ ys. x ∷ ys) last in
        record {
          effects = effect.Replace x v ∷ [];
          tells = inl refl;
          runs = ((one Q.cap e5, e1, only), tt);
          shows = record { items = ap (λ ys. rest ys ++ v ∷ []) only; cap = refl; closed = refl; coming = refl; accepted = inl e5 };
          right = λ e. cc;
        }
    go (x ∷ xs) false e4 e5 =
        record {
          effects = effect.Front x v ∷ effect.Arrive ∷ [];
          tells = inr refl;
          runs = ((e5, e3, s.none_coming, below (is_slot_cap Q.cap) Q.accepted e2 s.counted, (xs, e4)), ((v, refl), tt));
          shows = record { items = refl; cap = refl; closed = refl; coming = s.none_coming; accepted = counts (is_slot_cap Q.cap) Q.accepted };
          right = λ e. cc;
        }

force-line : {T : Type 0} (Q : State T) (v : T) → IsSound Q → RowStands Q (call.ForcePush v) (owner_table Q (call.ForcePush v))
force-line Q v s =
    table_cases (RowStands Q (call.ForcePush v)) Q _ _ _ _ (λ e1. quiet Q (call.ForcePush v) (reply.ForcePush (Err (force.Closed v))) (refl, inr refl) (inl (refl, e1)))
    (λ e1 e2. closes Q (call.ForcePush v) (reply.ForcePush (Err (force.Closed v))) (refl, inl refl) e1 e2) (displaces Q v s)
    (λ e1 e2 e3. appends Q (call.ForcePush v) (reply.ForcePush (Ok None)) v s refl e1 e2 e3)

pop-line : {T : Type 0} (Q : State T) → IsSound Q → RowStands Q call.Pop (owner_table Q call.Pop)
pop-line {T} Q s = go Q.closed Q.items refl refl
  where
    go : (b : Bool) (xs : List T) → Q.closed ≡ b → Q.items ≡ xs → Stands Q call.Pop (reply.Pop (pop_result b xs)) (record Q { items = rest xs })
    go false [] e1 e2 =
        record { effects = []; tells = refl; runs = tt; shows = record { items = sym e2; cap = refl; closed = refl; coming = refl; accepted = inr refl }; right = λ e. inl (e2, s.none_coming, e1) }
    go true [] e1 e2 =
        record { effects = []; tells = refl; runs = tt; shows = record { items = sym e2; cap = refl; closed = refl; coming = refl; accepted = inr refl }; right = λ e. inl (e2, s.none_coming, e1) }
    go b (x ∷ xs) e1 e2 =
        record {
          effects = effect.Take x ∷ [];
          tells = refl;
          runs = ((xs, e2), tt);
          shows = record { items = ap rest (sym e2); cap = refl; closed = refl; coming = refl; accepted = inr refl };
          right = λ e. cc;
        }

close-line : {T : Type 0} (Q : State T) → RowStands Q call.Close (owner_table Q call.Close)
close-line {T} Q = go Q.closed refl
  where
    go : (b : Bool) → Q.closed ≡ b → Stands Q call.Close (reply.Close (not b)) (shut Q)
    go true e = record { effects = []; tells = refl; runs = tt; shows = record { items = refl; cap = refl; closed = sym e; coming = refl; accepted = inr refl }; right = λ _. inl e }
    go false e =
        record { effects = effect.Close ∷ []; tells = refl; runs = (e, tt); shows = record { items = refl; cap = refl; closed = refl; coming = refl; accepted = inr refl }; right = λ e. cc }

line : {T : Type 0} (Q : State T) (c : Call T) → IsSound Q → RowStands Q c (owner_table Q c)
line Q (call.Push v) s = push-line Q v s
line Q (call.ForcePush v) s = force-line Q v s
line Q call.Pop s = pop-line Q s
line Q call.Close s = close-line Q
line Q look s = quiet Q look (look_reply Q look) refl (inl refl)

lacks : {T : Type 0} (Q : State T) (c : Call T) (r : Reply T) → LacksMemory Q c r → Stands Q c r Q
lacks Q (call.Push v) (reply.Push (Err (push.NoMemory w))) h = quiet Q (call.Push v) (reply.Push (Err (push.NoMemory w))) (h.0, refl) (inr h)
lacks Q (call.ForcePush v) (reply.ForcePush (Err (force.NoMemory w))) h = quiet Q (call.ForcePush v) (reply.ForcePush (Err (force.NoMemory w))) (h.0, refl) (inr h)
lacks Q _ _ h = absurd h

pub sequential_stands : {T : Type 0} → SequentialStands T
sequential_stands P R c r s (inl h) = rw (h.0, h.1) (line P.queue c s)
sequential_stands P R c r s (inr h) = rw h.2 (lacks P.queue c r h.0)
