-- Where the runs of a program start each party is between calls. So what happened since tells who is half done.
use Rattle.std.proofs.Common.{◌≡◌, ◌≢◌, ◌∙◌, ℕ, false, Option, Some, None, List, [], ◌∷◌, ◌++◌, length, refl, sym, ap, inl, inr}
use Rattle.std.specs.List.{All}
use Rattle.std.proofs.lemmas.{Bool.ltb-false, Bool.Decides.eqb_tells, List.Elements.All-head, List.Elements.All-tail}
use Rattle.queue_steps.specs.declared.{model.Call.Call, sizes.TheConstants.MAX_CAPACITY, steps.types.Kind.Kind, steps.types.Kind.Kind as kind}
use Rattle.machine_memory.specs.declared.types.{Event.Event, Told.Told}
use Rattle.machine_steps.specs.{Left.opening_world, Steps.start_of, Steps.step_of, World.call_at}
use Rattle.machine_replay.specs.{Book.Open, Conforms.party_of, Played.told_of, Played.world_after, Progress.Standing as CallStanding, Progress.Between, Progress.Undone, Progress.HalfDone, Progress.standing, Progress.stands_by, Progress.stands_then, Replays.CanReplay, Replays.is_too_large}
use Rattle.machine_replay.proofs.{Chain.Kind.chain_rules, Ring.Kind.ring_rules, Slot.Left.slot_rules, Engine.KindLaws.Rules, Progress.Standings.Agrees, Progress.Stretch.call-there, Progress.Stretch.first, Progress.Stretch.reach}
use Rattle.machine_explore.{specs.Explored.IsPreparing, specs.Positions.Standing, specs.Starts.IsStart, proofs.Showing.told_by-length, proofs.Starting.told_by-append}

-- an event of another party
pub other_stands : (p : ℕ) (x : CallStanding) (e : Event ℕ) (t : Told ℕ) → party_of e ≢ p → stands_then p x e t ≡ x
other_stands p x e t ne = elim (eqb_tells (party_of e) p) [ inl b ↦ absurd (ne b.1) | inr b ↦ rw b.0 refl ]

none-open : (x : CallStanding) (y : Option (Open ℕ)) → Agrees x y → ((o : Open ℕ) → y ≡ Some o → ⊥) → x ≡ Between
none-open Between y a none = refl
none-open Undone y a none = absurd (none a.0 a.1)
none-open HalfDone y a none = absurd (none a.0 a.1)

rests : (k : Kind) (rules : Rules ℕ k) (parties q : ℕ) (past : List (Event ℕ)) → call_at (world_after k (opening_world k parties) past) q ≡ None → standing k parties q past ≡ Between
rests k rules parties q past none =
    let w = world_after k (opening_world k parties) past in
    let h = reach ℕ k rules parties (opening_world k parties) (λ j. Between) past (first ℕ k rules parties) in
    none-open (standing k parties q past) (h.b.open_call q) (h.agrees q)
    (λ o is. let f = call-there ℕ k rules parties h.b.busy w.shared h.b.queue h.sim.g q (call_at w q) (h.b.open_call q) o (h.sim.each q) is in let some = f.1 in cc)

rules_of : (k : Kind) → CanReplay k → is_too_large k ≡ false → Rules ℕ k
rules_of kind.Single can small = slot_rules ℕ
rules_of (kind.Bounded n) can small = ring_rules n (can, ltb-false MAX_CAPACITY n small)
rules_of kind.Unbounded can small = chain_rules ℕ

-- events of party 0 leave the others between calls
others-between : (q : ℕ) (es : List (Event ℕ)) (ts : List (Told ℕ)) (x : CallStanding) → q ≢ 0 → All IsPreparing es → stands_by q x es ts ≡ x
others-between q [] ts x ne alone = refl
others-between q (e ∷ es) [] x ne alone = refl
others-between q (e ∷ es) (t ∷ ts) x ne alone =
    let zero_is = (All-head IsPreparing e es alone).0 in
    ap (λ y. stands_by q y es ts) (other_stands q x e t (λ at. ne (sym at ∙ zero_is))) ∙ others-between q es ts x ne (All-tail IsPreparing e es alone)

stands_by-append : (q : ℕ) (es fs : List (Event ℕ)) (ts us : List (Told ℕ)) (x : CallStanding) → length ts ≡ length es → stands_by q x (es ++ fs) (ts ++ us) ≡ stands_by q (stands_by q x es ts) fs us
stands_by-append q [] fs [] us x same = refl
stands_by-append q (e ∷ es) fs (t ∷ ts) us x same = stands_by-append q es fs ts us (stands_then q x e t) (cc)
stands_by-append q [] fs (t ∷ ts) us x same = cc
stands_by-append q (e ∷ es) fs [] us x same = cc

first-between : (k : Kind) (before : List (Call ℕ)) (parties q : ℕ) (s : Standing) → CanReplay k → (start : IsStart k before parties s) → standing k parties q start.prepared.0 ≡ Between
first-between k before parties q s can start =
    let past = start.prepared.0 in
    elim (eqb_tells q 0) [
      | inl zero ↦
          let none : call_at (world_after k (opening_world k parties) past) q ≡ None = rw zero.1 start.prepared.1.rests in
          rests k (rules_of k can start.small) parties q past none
      | inr other ↦ others-between q past (told_of k (opening_world k parties) past) Between other.1 start.prepared.1.alone
    ]

-- where a party stands is known by the events since then
pub standing_since : (k : Kind) (before : List (Call ℕ)) (parties q : ℕ) (s : Standing) (rest : List (Event ℕ)) → CanReplay k → (start : IsStart k before parties s)
    → standing k parties q (start.prepared.0 ++ rest) ≡ stands_by q Between rest (told_of k s.world rest)
standing_since k before parties q s rest can start =
    let past = start.prepared.0 in
    let w = opening_world k parties in
    ap (λ ts. stands_by q Between (past ++ rest) ts) (told_by-append (step_of k) (start_of k) past rest w)
    ∙ stands_by-append q past rest (told_of k w past) (told_of k (world_after k w past) rest) Between (told_by-length (step_of k) (start_of k) past w)
    ∙ ap (λ x. stands_by q x rest (told_of k (world_after k w past) rest)) (first-between k before parties q s can start)
    ∙ ap (λ v. stands_by q Between rest (told_of k v rest)) (sym start.prepared.2)
