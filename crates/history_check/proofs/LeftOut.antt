-- Where values are left out of a legal history, the rest is legal: the same moves are made, but for those that only concern what is left out.
use Rattle.std.proofs.Common.{append_assoc, ◌≡◌, ◌≢◌, ◌∙◌, ◌⊎◌, inl, inr, ℕ, suc, zero, Bool, true, false, not, Option, Some, None, List, [], ◌∷◌, ◌++◌, ◌+◌, ◌<◌, refl, ap, sym, subst, length, arith}
use Rattle.std.proofs.lemmas.{Bool.cases_eq, Bool.eq-eqb, Option.get_or_from_slice_get}
use Rattle.std.specs.Prelude.{slice_get, slice_set, get_or, replicate, if◌then◌else◌}
use Rattle.queue_steps.specs.{State.State, Effect.made, Replies.Allows, Replies.Tells, declared.sizes.TheConstants.LIMIT}
use Rattle.queue_steps.specs.declared.{model.Call.Call, model.Reply.Reply, model.Effect.Effect}
use Rattle.history_check.specs.declared.recorded.{Event.Event, Event.TheVariants.Begin, Event.TheVariants.End, Move.Move, Rules.Rules, Way.Way, Way.TheVariants.Waiting, Way.TheVariants.Answered}
use Rattle.history_check.specs.Levels.{next_reply, Expects, IsExpected}
use Rattle.history_check.specs.Legal.{Stage, IsAt, moved, opening, MayRecord, recorded, Makes, Goes, IsLegal}
use Rattle.history_check.specs.LeftOut.{is_left_out, remaining, IsPlain, ArePlain, without_capacity, ValuesMayBeLeftOut}
use Rattle.history_check.proofs.Moves.{set_here, set_other}
use Rattle.history_check.proofs.Orders.{made_first, along, next_other, gets_expected}
use Rattle.history_check.proofs.Thin.{Thin, Comes, comes, sees, accepted_made, displaced_nothing}

-- how many calls wait
abbrev weight : Option Way → ℕ
weight (Some (Waiting c b)) = 1
weight o = 0

abbrev waiting : List (Option Way) → ℕ
waiting [] = 0
waiting (o ∷ os) = weight o + waiting os

waiting_set : (xs : List (Option Way)) (p : ℕ) (x y : Option Way) → slice_get xs p ≡ Some x → waiting (slice_set xs p y) + weight x ≡ waiting xs + weight y
waiting_set [] p x y at = absurd (cc)
waiting_set (z ∷ xs) zero x y at = let same : z ≡ x = cc in rw same (omega arith)
waiting_set (z ∷ xs) (suc k) x y at = let h = waiting_set xs k x y at in omega arith

waiting_none : (n : ℕ) → waiting (replicate n None) ≡ 0
waiting_none zero = refl
waiting_none (suc n) = let h = waiting_none n in omega arith

-- the call that a party is in, in the history and in what remains; whether it is left out; the reply of its next end
abbrev Pair : (ℕ → Bool) → Bool → Option ℕ → Bool → Option (Reply ℕ) → Option Way → Option Way → Type 0
Pair keeps looks cap true n (Some (Waiting c a)) o = (o ≡ None) × (is_left_out keeps looks c n ≡ true) × IsPlain cap c
Pair keeps looks cap true n w o = o ≡ None
Pair keeps looks cap false n None o = o ≡ None
Pair keeps looks cap false n (Some (Waiting c a)) o = (o ≡ Some (Waiting c a)) × (is_left_out keeps looks c n ≡ false) × IsPlain cap c
Pair keeps looks cap false n (Some w) o = (o ≡ Some w) ⊎ ((n ≡ None) × ((v : Way) × (o ≡ Some v)))

pair_none : (keeps : ℕ → Bool) (looks : Bool) (cap : Option ℕ) (b : Bool) (n : Option (Reply ℕ)) (o : Option Way) → Pair keeps looks cap b n None o → o ≡ None
pair_none keeps looks cap true n o is = is
pair_none keeps looks cap false n o is = is

-- a call that waits is plain
plain_at : (keeps : ℕ → Bool) (looks : Bool) (cap : Option ℕ) (b : Bool) (n : Option (Reply ℕ)) (c : Call ℕ) (a : Bool) (o : Option Way) → Pair keeps looks cap b n (Some (Waiting c a)) o → IsPlain cap c
plain_at keeps looks cap true n c a o pair = pair.2
plain_at keeps looks cap false n c a o pair = pair.2

abbrev Party : (ℕ → Bool) → Bool → Option ℕ → List Bool → List Event → ℕ → Option Way → List (Option Way) → Type 0
Party keeps looks cap outs es p w ys = (b : Bool) × (o : Option Way) × (slice_get outs p ≡ Some b) × (slice_get ys p ≡ Some o) × Pair keeps looks cap b (next_reply p es) w o

abbrev Parties : (ℕ → Bool) → Bool → Option ℕ → List Bool → List Event → List (Option Way) → List (Option Way) → Type 0
Parties keeps looks cap outs es xs ys = (p : ℕ) (w : Option Way) → slice_get xs p ≡ Some w → Party keeps looks cap outs es p w ys

abbrev Elsewhere : {X : Type 0} → ℕ → List X → List X → Type 0
Elsewhere p xs ys = (q : ℕ) → q ≢ p → slice_get ys q ≡ slice_get xs q

-- one party gets on, and the others are where they were
changed : (keeps : ℕ → Bool) (looks : Bool) (cap : Option ℕ) (p : ℕ) (w : Option Way) (es fs : List Event) (outs bs : List Bool) (xs xs' ys ys' : List (Option Way))
    → slice_get xs' p ≡ Some w → Party keeps looks cap bs fs p w ys' → Elsewhere p xs xs' → Elsewhere p outs bs → Elsewhere p ys ys' → ((q : ℕ) → q ≢ p → next_reply q es ≡ next_reply q fs)
    → Parties keeps looks cap outs es xs ys → Parties keeps looks cap bs fs xs' ys'
changed keeps looks cap p w es fs outs bs xs xs' ys ys' here is at_xs at_outs at_ys same all q v there = elim (cases_eq q p) [
  | inl eq ↦
      let one : v ≡ w = cc (eq, here, there) in
      rw (eq, one) is
  | inr ne ↦
      let h = all q v (sym (at_xs q ne) ∙ there) in
      (h.0, h.1, at_outs q ne ∙ h.2, at_ys q ne ∙ h.3, subst (λ (n : Option (Reply ℕ)). Pair keeps looks cap h.0 n v h.1) (same q ne) h.4)
]

-- a stage, and the one of what remains
record Alike (keeps : ℕ → Bool) (looks : Bool) (cap : Option ℕ) (outs : List Bool) (es : List Event) (s t : Stage) : Type 0 where
  thin : Thin keeps cap s.queue t.queue
  below : s.queue.accepted + waiting s.calls + length es < LIMIT
  parties : Parties keeps looks cap outs es s.calls t.calls

abbrev Remains : (ℕ → Bool) → Bool → Option ℕ → Stage → List Event → List Move → Type 0
Remains keeps looks cap s es ms = (outs : List Bool) (t : Stage) → ArePlain cap es → Alike keeps looks cap outs es s t → (ns : List Move) × Goes t (remaining keeps looks outs es) ns

next_same : (p : ℕ) (r : Reply ℕ) (es : List Event) → next_reply p (End p r ∷ es) ≡ Some r
next_same p r es = ap (λ (b : Bool). if b then Some r else next_reply p es) (eq-eqb p p refl)

module _ (keeps : ℕ → Bool) (looks : Bool) (cap : Option ℕ) where
  begins : (s : Stage) (p : ℕ) (c : Call ℕ) (es : List Event) (ms : List Move) → MayRecord s (Begin p c) → Remains keeps looks cap (recorded s (Begin p c)) es ms → Remains keeps looks cap s (Begin p c ∷ es) (Move.Event ∷ ms)
  begins s p c es ms at on outs t plain a = go (is_left_out keeps looks c (next_reply p es)) refl
    where
      w : Option Way
      w = Some (Waiting c (not s.queue.closed))

      was : Party keeps looks cap outs (Begin p c ∷ es) p None t.calls
      was = a.parties p None at

      none : was.1 ≡ None
      none = pair_none keeps looks cap was.0 (next_reply p (Begin p c ∷ es)) was.1 was.4

      free : slice_get t.calls p ≡ Some None
      free = was.3 ∙ ap Some none

      fewer : s.queue.accepted + waiting (slice_set s.calls p w) + length es < LIMIT
      fewer = let b = a.below in let k = waiting_set s.calls p None w at in omega arith

      go : (out : Bool) → is_left_out keeps looks c (next_reply p es) ≡ out
          → (ns : List Move) × Goes t (if out then remaining keeps looks (slice_set outs p out) es else Begin p c ∷ remaining keeps looks (slice_set outs p out) es) ns
      go true is = on (slice_set outs p true) t plain.1 (record {
        thin = a.thin;
        below = fewer;
        parties = changed keeps looks cap p w (Begin p c ∷ es) es outs (slice_set outs p true) s.calls (slice_set s.calls p w) t.calls t.calls (set_here s.calls p None w at) (true, None, set_here outs p was.0 true was.2, free, (refl, is, plain.0)) (λ q ne. set_other s.calls p q w ne) (λ q ne. set_other outs p q true ne) (λ q ne. refl) (λ q ne. refl) a.parties;
      })
      go false is =
          let o : Option Way = Some (Waiting c (not t.queue.closed)) in
          let same : o ≡ w = ap (λ (b : Bool). Some (Waiting c (not b))) a.thin.closed in
          let r = on (slice_set outs p false) (recorded t (Begin p c)) plain.1 (record {
            thin = a.thin;
            below = fewer;
            parties = changed keeps looks cap p w (Begin p c ∷ es) es outs (slice_set outs p false) s.calls (slice_set s.calls p w) t.calls (slice_set t.calls p o) (set_here s.calls p None w at) (false, o, set_here outs p was.0 false was.2, set_here t.calls p None o free, (same, is, plain.0)) (λ q ne. set_other s.calls p q w ne) (λ q ne. set_other outs p q false ne) (λ q ne. set_other t.calls p q o ne) (λ q ne. refl) a.parties;
          }) in
          (Move.Event ∷ r.0, (recorded t (Begin p c), remaining keeps looks (slice_set outs p false) es, (free, refl, refl), r.1))

  ends : (s : Stage) (p : ℕ) (r : Reply ℕ) (es : List Event) (ms : List Move) → MayRecord s (End p r) → Remains keeps looks cap (recorded s (End p r)) es ms → Remains keeps looks cap s (End p r ∷ es) (Move.Event ∷ ms)
  ends s p r es ms at on outs t plain a = subst (λ (b : Bool). (ns : List Move) × Goes t (if b then remaining keeps looks outs es else End p r ∷ remaining keeps looks outs es) ns) (sym marked) (go was.0 was.2 was.4)
    where
      was : Party keeps looks cap outs (End p r ∷ es) p (Some (Answered r)) t.calls
      was = a.parties p (Some (Answered r)) at

      marked : get_or outs p false ≡ was.0
      marked = get_or_from_slice_get outs p was.0 false was.2

      fewer : s.queue.accepted + waiting (slice_set s.calls p None) + length es < LIMIT
      fewer = let b = a.below in let k = waiting_set s.calls p (Some (Answered r)) None at in omega arith

      go : (b : Bool) → slice_get outs p ≡ Some b → Pair keeps looks cap b (next_reply p (End p r ∷ es)) (Some (Answered r)) was.1 → (ns : List Move) × Goes t (if b then remaining keeps looks outs es else End p r ∷ remaining keeps looks outs es) ns
      go true out none = on outs t plain (record {
        thin = a.thin;
        below = fewer;
        parties = changed keeps looks cap p None (End p r ∷ es) es outs outs s.calls (slice_set s.calls p None) t.calls t.calls (set_here s.calls p (Some (Answered r)) None at) (true, None, out, was.3 ∙ ap Some none, refl) (λ q ne. set_other s.calls p q None ne) (λ q ne. refl) (λ q ne. refl) (λ q ne. next_other q p r es ne) a.parties;
      })
      go false out is =
          let answered : was.1 ≡ Some (Answered r) = elim is [ inl e ↦ e | inr x ↦ absurd (let some = next_same p r es in cc (some, x.0)) ] in
          let l = on outs (recorded t (End p r)) plain (record {
            thin = a.thin;
            below = fewer;
            parties = changed keeps looks cap p None (End p r ∷ es) es outs outs s.calls (slice_set s.calls p None) t.calls (slice_set t.calls p None) (set_here s.calls p (Some (Answered r)) None at) (false, None, out, set_here t.calls p was.1 None was.3, refl) (λ q ne. set_other s.calls p q None ne) (λ q ne. refl) (λ q ne. set_other t.calls p q None ne) (λ q ne. next_other q p r es ne) a.parties;
          }) in
          (Move.Event ∷ l.0, (recorded t (End p r), remaining keeps looks outs es, (was.3 ∙ ap Some answered, refl, refl), l.1))

  event : (s : Stage) (e : Event) (es : List Event) (ms : List Move) → MayRecord s e → Goes (recorded s e) es ms → Remains keeps looks cap (recorded s e) es ms → Remains keeps looks cap s (e ∷ es) (Move.Event ∷ ms)
  event s (Begin p c) es ms may g on = begins s p c es ms may on
  event s (End p r) es ms may g on = ends s p r es ms may on

-- the call of a party that waits is answered, and the queue is then Q
module _ (keeps : ℕ → Bool) (looks : Bool) (cap : Option ℕ) (s : Stage) (p : ℕ) (c : Call ℕ) (a : Bool) (r : Reply ℕ) (es : List Event) (ms : List Move) (Q : State ℕ) (outs : List Bool) (t : Stage) (at : IsAt s p (Waiting c a)) (all_plain : ArePlain cap es) (alike : Alike keeps looks cap outs es s t) (below : Q.accepted + waiting (slice_set s.calls p (Some (Answered r))) + length es < LIMIT) (later : Remains keeps looks cap (moved s Q p (Some (Answered r))) es ms) (gets : IsExpected (next_reply p es) r) where
  abbrev Goal : Type 0
  Goal = (ns : List Move) × Goes t (remaining keeps looks outs es) ns

  -- nothing happens in what remains
  stays : (b : Bool) (o : Option Way) → slice_get outs p ≡ Some b → slice_get t.calls p ≡ Some o → Pair keeps looks cap b (next_reply p es) (Some (Answered r)) o → Thin keeps cap Q t.queue → Goal
  stays b o out there pair thin = later outs t all_plain (record {
    thin = thin;
    below = below;
    parties = changed keeps looks cap p (Some (Answered r)) es es outs outs s.calls (slice_set s.calls p (Some (Answered r))) t.calls t.calls (set_here s.calls p (Some (Waiting c a)) (Some (Answered r)) at) (b, o, out, there, pair) (λ q ne. set_other s.calls p q (Some (Answered r)) ne) (λ q ne. refl) (λ q ne. refl) (λ q ne. refl) alike.parties;
  })

  -- the same happens there
  follows : (m : Move) (R : State ℕ) (o : Option Way) → slice_get outs p ≡ Some false → slice_get t.calls p ≡ Some o → Makes t m (moved t R p (Some (Answered r))) → Thin keeps cap Q R → Goal
  follows m R o out there makes thin =
      let l = later outs (moved t R p (Some (Answered r))) all_plain (record {
        thin = thin;
        below = below;
        parties = changed keeps looks cap p (Some (Answered r)) es es outs outs s.calls (slice_set s.calls p (Some (Answered r))) t.calls (slice_set t.calls p (Some (Answered r))) (set_here s.calls p (Some (Waiting c a)) (Some (Answered r)) at) (false, Some (Answered r), out, set_here t.calls p o (Some (Answered r)) there, inl refl) (λ q ne. set_other s.calls p q (Some (Answered r)) ne) (λ q ne. refl) (λ q ne. set_other t.calls p q (Some (Answered r)) ne) (λ q ne. refl) alike.parties;
      }) in
      (m ∷ l.0, made_first t (moved t R p (Some (Answered r))) m (remaining keeps looks outs es) l.0 makes l.1)

  seen : (b : Bool) (o : Option Way) → slice_get outs p ≡ Some b → slice_get t.calls p ≡ Some o → Pair keeps looks cap b (next_reply p es) (Some (Waiting c a)) o → Thin keeps cap Q t.queue → Allows c r Q → Goal
  seen true o out there (none, left, plain) thin allows = stays true o out there none thin
  seen false o out there (same, kept, plain) thin allows = elim (sees keeps looks cap c r (next_reply p es) Q t.queue gets allows kept thin) [
    | inl right ↦ follows (Move.See p r) t.queue o out there (c, a, there ∙ ap Some same, right, refl) thin
    | inr none ↦ stays false o out there (inr (none, (Waiting c a, same))) thin
  ]

  acted : (e : Effect ℕ) (b : Bool) (o : Option Way) → slice_get outs p ≡ Some b → slice_get t.calls p ≡ Some o → Pair keeps looks cap b (next_reply p es) (Some (Waiting c a)) o → Q ≡ made e s.queue → Tells c r (e ∷ []) → Comes keeps looks cap e (next_reply p es) (is_left_out keeps looks c (next_reply p es)) s.queue t.queue → Goal
  acted e true o out there (none, left, plain) is tells comes = stays true o out there none (rw is (subst (λ (x : Bool). Comes keeps looks cap e (next_reply p es) x s.queue t.queue) left comes))
  acted e false o out there (same, kept, plain) is tells comes = elim (subst (λ (x : Bool). Comes keeps looks cap e (next_reply p es) x s.queue t.queue) kept comes) [
    | inl (fits, thin) ↦ follows (Move.Act p r) (made e t.queue) o out there (c, a, e, there ∙ ap Some same, tells, fits, refl) (rw is thin)
    | inr (none, thin) ↦ stays false o out there (inr (none, (Waiting c a, same))) (rw is thin)
  ]

made_too : (keeps : ℕ → Bool) (looks : Bool) (cap : Option ℕ) (s u : Stage) (m : Move) (es : List Event) (ms : List Move) → Makes s m u → Goes u es ms → ((v : Stage) → Goes v es ms → Remains keeps looks cap v es ms) → Remains keeps looks cap s es (m ∷ ms)
made_too keeps looks cap s u Move.Event es ms makes g on outs t plain a = absurd makes
made_too keeps looks cap s u (Move.See p r) es ms (c, b, at, allows, is) g on outs t plain a =
    let w : Option Way = Some (Answered r) in
    let g' : Goes (moved s s.queue p w) es ms = subst (λ (v : Stage). Goes v es ms) is g in
    let gets = gets_expected p r ms es (moved s s.queue p w) g' (Answered r, set_here s.calls p (Some (Waiting c b)) w at, refl) in
    let h = a.parties p (Some (Waiting c b)) at in
    let k = waiting_set s.calls p (Some (Waiting c b)) w at in
    let l = a.below in
    let below : s.queue.accepted + waiting (slice_set s.calls p w) + length es < LIMIT = omega arith in
    seen keeps looks cap s p c b r es ms s.queue outs t at plain a below (on (moved s s.queue p w) g') gets h.0 h.1 h.2 h.3 h.4 a.thin allows
made_too keeps looks cap s u (Move.Act p r) es ms (c, b, e, at, tells, fits, is) g on outs t plain a =
    let w : Option Way = Some (Answered r) in
    let Q : State ℕ = made e s.queue in
    let g' : Goes (moved s Q p w) es ms = subst (λ (v : Stage). Goes v es ms) is g in
    let gets = gets_expected p r ms es (moved s Q p w) g' (Answered r, set_here s.calls p (Some (Waiting c b)) w at, refl) in
    let h = a.parties p (Some (Waiting c b)) at in
    let k = waiting_set s.calls p (Some (Waiting c b)) w at in
    let l = a.below in
    let more = accepted_made e s.queue in
    let below : Q.accepted + waiting (slice_set s.calls p w) + length es < LIMIT = omega arith in
    let few : s.queue.accepted < LIMIT = omega arith in
    acted keeps looks cap s p c b r es ms Q outs t at plain a below (on (moved s Q p w) g') gets e h.0 h.1 h.2 h.3 h.4 refl tells (comes keeps looks cap c r e (next_reply p es) s.queue t.queue gets tells few fits (plain_at keeps looks cap h.0 (next_reply p es) c b h.1 h.4) a.thin)
made_too keeps looks cap s u (Move.Part p r) es ms (c, x, y, at, tells, fits, steps, is) g on outs t plain a = absurd (let h = a.parties p (Some (Waiting c true)) at in displaced_nothing cap c r x y s.queue (plain_at keeps looks cap h.0 (next_reply p es) c true h.1 h.4) tells a.thin.its_cap fits.1)
made_too keeps looks cap s u (Move.Arrive p) es ms (r, at, fits, steps, is) g on outs t plain a = absurd (let none = a.thin.coming in let some = fits.1 in cc)
made_too keeps looks cap s u (Move.Displace p r) es ms (c, b, x, y, at, tells, fits, shut, once, is) g on outs t plain a = absurd (let h = a.parties p (Some (Waiting c b)) at in displaced_nothing cap c r x y s.queue (plain_at keeps looks cap h.0 (next_reply p es) c b h.1 h.4) tells a.thin.its_cap fits.1)

replicated : {X Y : Type 0} (n p : ℕ) (x w : X) (y : Y) → slice_get (replicate n x) p ≡ Some w → (w ≡ x) × (slice_get (replicate n y) p ≡ Some y)
replicated zero p x w y at = absurd (cc)
replicated (suc n) zero x w y at = (cc, refl)
replicated (suc n) (suc p) x w y at = replicated n p x w y at

pub values_may_be_left_out : ValuesMayBeLeftOut
values_may_be_left_out keeps looks rules parties es short plain (ms, g) =
    along (Remains keeps looks rules.cap) (λ s outs t plain a. ([], refl)) (event keeps looks rules.cap) (made_too keeps looks rules.cap) ms es (opening rules parties) g (replicate parties false) (opening (without_capacity rules) parties) plain (record {
      thin = record { items = refl; closed = refl; its_cap = refl; cap_too = refl; coming = refl; coming_too = refl; few = omega arith };
      below = let none = waiting_none parties in rw none (omega (arith, short));
      parties = λ p w at. let h = replicated parties p None w false at in (false, None, h.1, (replicated parties p None w None at).1, rw h.0 refl);
    })

choose : {X : Type 0} (b : Bool) (x y : X) → (if b then x else y) ≡ (if not b then y else x)
choose true x y = refl
choose false x y = refl

-- whether a call that begins remains, by the reply that is noted of its party
pub begin_remains : (keeps : ℕ → Bool) (looks : Bool) (replies : List (Option (Reply ℕ))) (outs news : List Bool) (p : ℕ) (c : Call ℕ) (noted : Option (Reply ℕ)) (out : Bool) (es : List Event)
    → slice_get replies p ≡ Some noted → out ≡ is_left_out keeps looks c noted → news ≡ slice_set outs p out → Expects replies (Begin p c ∷ es)
    → remaining keeps looks outs (Begin p c ∷ es) ≡ (if not out then Begin p c ∷ remaining keeps looks news es else remaining keeps looks news es)
begin_remains keeps looks replies outs news p c noted out es at is marked expects =
    let next : noted ≡ next_reply p es = expects p noted at in
    let same : is_left_out keeps looks c (next_reply p es) ≡ out = ap (λ (o : Option (Reply ℕ)). is_left_out keeps looks c o) (sym next) ∙ sym is in
    rw (same, marked) (choose out (remaining keeps looks (slice_set outs p out) es) (Begin p c ∷ remaining keeps looks (slice_set outs p out) es))

-- what remains so far, with one event more
pub one_more : (some news : List Event) (e : Event) (before after whole : List Event) (stays : Bool) → some ++ before ≡ whole → before ≡ (if stays then e ∷ after else after) → news ≡ (if stays then some ++ e ∷ [] else some) → news ++ after ≡ whole
one_more some news e before after whole true so_far is put = rw put (append_assoc some (e ∷ []) after ∙ ap (λ (l : List Event). some ++ l) (sym is) ∙ so_far)
one_more some news e before after whole false so_far is put = rw put (ap (λ (l : List Event). some ++ l) (sym is) ∙ so_far)

-- without a capacity all events are plain
pub all_plain : (cap : Option ℕ) (es : List Event) → cap ≡ None → ArePlain cap es
all_plain cap es is = rw is (free es)
  where
    free : (es : List Event) → ArePlain None es
    free [] = tt
    free (Begin p c ∷ es) = (tt, free es)
    free (End p r ∷ es) = free es

-- where what remains is not legal, the whole is not
pub whole_refuted : (keeps : ℕ → Bool) (looks : Bool) (rules : Rules) (parties : ℕ) (es rest : List Event) → length es < LIMIT → ArePlain rules.cap es → rest ≡ remaining keeps looks (replicate parties false) es
    → (IsLegal (without_capacity rules) parties rest → ⊥) → IsLegal rules parties es → ⊥
whole_refuted keeps looks rules parties es rest short plain is never legal = never (rw is (values_may_be_left_out keeps looks rules parties es short plain legal))
