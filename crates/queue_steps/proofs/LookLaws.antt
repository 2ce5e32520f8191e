-- Which replies a call that changes nothing may have: it has no effect, and answers what the state shows.
use Rattle.std.proofs.Common.{◌≡◌, ◌==◌, ℕ, List, [], ◌∷◌, length, Option, Some, None, refl, sym, ap, ◌∙◌, subst, arith, Bool, true, false}
use Rattle.std.proofs.lemmas.Bool.{ne_eqb}
use Rattle.queue_steps.specs.{State.State, Kinds.call_value, Kinds.filled, Sequential.sequential_reply, Sequential.sequential_state, Replies.is_empty, Replies.IsRightAt, Replies.Tells}
use Rattle.queue_steps.specs.Looks.{IsLook, IsGlance, IsCount, is_wait_free, look_reply, call_of_look, reply_of_look}
use Rattle.queue_steps.specs.declared.{model.Call.Call, model.Call.Call as call, model.Reply.Reply, model.Reply.Reply as reply, model.Effect.Effect, steps.looks.Look.Look, steps.looks.Look.Look as look}

module _ {T : Type 0} where
  -- its reply stands for no effect
  pub look_tells : (c : Call T) (r : Reply T) (es : List (Effect T)) → IsLook c → Tells c r es → es ≡ []
  look_tells (call.Push v) r es is tells = absurd is
  look_tells (call.ForcePush v) r es is tells = absurd is
  look_tells call.Pop r es is tells = absurd is
  look_tells call.Close r es is tells = absurd is
  look_tells look (reply.Push x) es is tells = absurd tells
  look_tells look r es is tells = first_of (assumption, search)

  -- a reply that is right is what the state shows
  pub look_right : (Q : State T) (c : Call T) (r : Reply T) → IsLook c → IsRightAt Q c r → r ≡ look_reply Q c
  look_right Q (call.Push v) r is right = absurd is
  look_right Q (call.ForcePush v) r is right = absurd is
  look_right Q call.Pop r is right = absurd is
  look_right Q call.Close r is right = absurd is
  look_right Q look (reply.Push x) is right = absurd right
  look_right Q look r is right = first_of (cc, search)

  -- and what the state shows is right, and stands for no effect
  pub look_shows : (Q : State T) (c : Call T) → IsLook c → IsRightAt Q c (look_reply Q c) × Tells c (look_reply Q c) []
  look_shows Q (call.Push v) is = absurd is
  look_shows Q (call.ForcePush v) is = absurd is
  look_shows Q call.Pop is = absurd is
  look_shows Q call.Close is = absurd is
  look_shows Q look is = (refl, refl)

  pub look_right_tells : (Q : State T) (c : Call T) (r : Reply T) → IsLook c → IsRightAt Q c r → Tells c r []
  look_right_tells Q c r is right = subst (λ x. Tells c x []) (sym (look_right Q c r is right)) (look_shows Q c is).1

  same_empty : (xs ys : List T) → length xs ≡ length ys → is_empty xs ≡ is_empty ys
  same_empty [] [] is = refl
  same_empty [] (y ∷ ys) is = absurd (omega arith)
  same_empty (x ∷ xs) [] is = absurd (omega arith)
  same_empty (x ∷ xs) (y ∷ ys) is = refl

  -- two states show the same to a look if they agree in the capacity and the flag, and for one that looks at the list in how many items they have
  look_same : (Q S : State T) (c : Call T) → IsLook c → Q.cap ≡ S.cap → Q.closed ≡ S.closed → (IsGlance c → length Q.items ≡ length S.items) → look_reply {R = T} Q c ≡ look_reply S c
  look_same Q S (call.Push v) is cap closed many = absurd is
  look_same Q S (call.ForcePush v) is cap closed many = absurd is
  look_same Q S call.Pop is cap closed many = absurd is
  look_same Q S call.Close is cap closed many = absurd is
  look_same Q S call.IsClosed is cap closed many = ap reply.IsClosed closed
  look_same Q S call.Capacity is cap closed many = ap reply.Capacity cap
  look_same Q S call.IsEmpty is cap closed many = ap reply.IsEmpty (same_empty Q.items S.items (many tt))
  look_same Q S look is cap closed many = let same = many tt in cc

  -- so a reply that is right at the one is right at the other
  pub look_there : (Q S : State T) (c : Call T) (r : Reply T) → IsLook c → Q.cap ≡ S.cap → Q.closed ≡ S.closed → (IsGlance c → length Q.items ≡ length S.items) → IsRightAt Q c r → IsRightAt S c r
  look_there Q S c r is cap closed many right = subst (λ x. IsRightAt S c x) (sym (look_right Q c r is right ∙ look_same Q S c is cap closed many)) (look_shows S c is).0

-- a look has no value, and what it answers has none and stands for no effect
module _ (T : Type 0) where
  pub look_value : (l : Look) → call_value (call_of_look {T = T} l) ≡ None
  look_value look.Len = refl
  look_value l = refl

  pub reply_filled : (cap : Option ℕ) (n : ℕ) (closed : Bool) (l : Look) → filled (reply_of_look cap n closed l) None ≡ Some (reply_of_look {R = T} cap n closed l)
  reply_filled cap n closed look.Len = refl
  reply_filled cap n closed l = refl

  pub reply_tells : (cap : Option ℕ) (n : ℕ) (closed : Bool) (l : Look) → Tells (call_of_look {T = T} l) (reply_of_look cap n closed l) []
  reply_tells cap n closed look.Len = refl
  reply_tells cap n closed l = refl

  -- a look that counts is not wait-free
  pub count_waits : (l : Look) → IsCount T l → is_wait_free (call_of_look {T = T} l) ≡ true → ⊥
  count_waits l count wait_free = absurd (let f : true ≡ false = sym wait_free ∙ count in cc)

module _ {T : Type 0} where
  empty_counted : (xs : List T) → (length xs == 0) ≡ is_empty xs
  empty_counted [] = refl
  empty_counted (x ∷ xs) = ne_eqb (length (x ∷ xs)) 0 (λ e. absurd (omega arith))

  -- and is right at a state of this capacity with so many items; a look that counts answers nothing of the flag
  pub reply_right : (Q : State T) (cap : Option ℕ) (n : ℕ) (closed : Bool) (l : Look) → Q.cap ≡ cap → length Q.items ≡ n → (is_wait_free (call_of_look {T = T} l) ≡ true → Q.closed ≡ closed)
      → IsRightAt Q (call_of_look l) (reply_of_look cap n closed l)
  reply_right Q cap n closed look.IsClosed is_cap many shut = sym (shut refl)
  reply_right Q cap n closed look.IsEmpty is_cap many shut = ap (λ m. m == 0) (sym many) ∙ empty_counted Q.items
  reply_right Q cap n closed l is_cap many shut = cc

  -- it is what the table of one owner says, which leaves the state
  pub reply_table : (Q : State T) (cap : Option ℕ) (n : ℕ) (closed : Bool) (l : Look) → Q.cap ≡ cap → length Q.items ≡ n → Q.closed ≡ closed
      → (reply_of_look cap n closed l ≡ sequential_reply Q (call_of_look l)) × (Q ≡ sequential_state Q (call_of_look l))
  reply_table Q cap n closed look.Len is_cap many shut = (look_right Q call.Len (reply_of_look cap n closed look.Len) tt (reply_right Q cap n closed look.Len is_cap many (λ e. shut)), refl)
  reply_table Q cap n closed l is_cap many shut = (look_right Q (call_of_look l) (reply_of_look cap n closed l) tt (reply_right Q cap n closed l is_cap many (λ e. shut)), refl)
