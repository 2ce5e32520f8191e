-- What an event does to a party's open call: each case once, for all that is kept of it along a run.
use Rattle.std.proofs.Common.{◌≡◌, ◌≢◌, ◌∙◌, ℕ, nat_lt, Option, Some, None, is_none, refl, sym, ap, subst, inl, inr}
use Rattle.std.proofs.lemmas.Bool.Decides.{eqb_tells}
use Rattle.queue_laws.proofs.Common.Tests.{is_none_true}
use Rattle.queue_steps.specs.State.{State}
use Rattle.machine_replay.specs.Vocabulary.{Call, Reply, Event, Told, EffectKind, Begin, Step, Skipped, Ran}
use Rattle.machine_replay.specs.{Book.Book, Book.Open, Book.Happens, Book.Steps, Book.Moves, Book.at_open, Book.put, Book.joined, Book.watched, Book.begun, Book.after_own, Conforms.party_of}
use Rattle.machine_replay.proofs.Progress.Alone.{and-right, put-same, put-other}

-- the open call of the party q, if it has one, before and after the event e, of which this is told
pub data PartyGoes {T : Type 0} (q : ℕ) (e : Event T) : Told T → Option (Open T) → Option (Open T) → Type 0 where
  skips : (y : Option (Open T)) → PartyGoes q e Skipped y y
  -- another party's event leaves the call's effects
  beside : (t : Told T) (f : Open T → Open T) (y : Option (Open T)) → party_of e ≢ q → ((o : Open T) → (f o).effects ≡ o.effects) → PartyGoes q e t y (at_open f y)
  -- the party's own: its call begins, replies where it begins, goes on, or ends
  begins : (k : Call T) → party_of e ≡ q → PartyGoes q e (Ran None None) None (Some (begun k))
  replies : (r : Reply T) → party_of e ≡ q → PartyGoes q e (Ran None (Some r)) None None
  goes_on : (o mine : Open T) (k : Option EffectKind) (Q R : State T) → party_of e ≡ q → Moves Q o k R mine.effects → PartyGoes q e (Ran k None) (Some o) (Some mine)
  ends : (o : Open T) (k : Option EffectKind) (r : Reply T) → party_of e ≡ q → PartyGoes q e (Ran k (Some r)) (Some o) None

became : {T : Type 0} {q : ℕ} {e : Event T} {t : Told T} {y z u v : Option (Open T)} → y ≡ u → z ≡ v → PartyGoes q e t u v → PartyGoes q e t y z
became {q = q} {e = e} {t = t} {z = z} {u = u} before after g = subst (λ x. PartyGoes q e t x z) (sym before) (subst (λ x. PartyGoes q e t u x) (sym after) g)

as_it_is : {T : Type 0} (y : Option (Open T)) → y ≡ at_open (λ o. o) y
as_it_is None = refl
as_it_is (Some o) = refl

pub party_goes : {T : Type 0} (cap : Option ℕ) (parties : ℕ) (b c : Book T) (e : Event T) (t : Told T) (q : ℕ) → Happens cap parties b e t c → PartyGoes q e t (b.open_call q) (c.open_call q)
party_goes cap parties b c e Skipped q h = became refl (ap (λ z. z.open_call q) h.1) (skips (b.open_call q))
party_goes {T} cap parties b c (Begin p k) (Ran None None) q h =
    let calls : ℕ → Option (Open T) = λ j. at_open joined (b.open_call j) in
    elim (eqb_tells p q) [
      | inl same ↦
          let free : b.open_call q ≡ None = ap b.open_call (sym same.1) ∙ is_none_true (b.open_call p) (and-right (nat_lt p parties) (is_none (b.open_call p)) h.0) in
          became free (ap (λ z. z.open_call q) h.2 ∙ ap (put calls p (Some (begun k))) (sym same.1) ∙ put-same calls p (Some (begun k))) (begins k same.1)
      | inr ne ↦ became refl (ap (λ z. z.open_call q) h.2 ∙ put-other calls p q (Some (begun k)) (λ s. ne.1 (sym s))) (beside (Ran None None) joined (b.open_call q) ne.1 (λ o. refl))
    ]
party_goes cap parties b c (Begin p k) (Ran None (Some r)) q h = elim (eqb_tells p q) [
  | inl same ↦
      let free : b.open_call q ≡ None = ap b.open_call (sym same.1) ∙ is_none_true (b.open_call p) (and-right (nat_lt p parties) (is_none (b.open_call p)) h.0) in
      became free (ap (λ z. z.open_call q) h.3 ∙ free) (replies r same.1)
  | inr ne ↦ became refl (ap (λ z. z.open_call q) h.3 ∙ as_it_is (b.open_call q)) (beside (Ran None (Some r)) (λ o. o) (b.open_call q) ne.1 (λ o. refl))
]
party_goes cap parties b c (Begin p k) (Ran (Some x) r) q h = absurd h
party_goes {T} cap parties b c (Step p granted) (Ran k r) q h = elim (eqb_tells p q) [
  | inl same ↦ own r h.1 same.1
  | inr ne ↦ became refl (ap (λ z. z q) h.1.calls ∙ put-other calls p q _ (λ z. ne.1 (sym z))) (beside (Ran k r) (watched c.queue) (b.open_call q) ne.1 (λ o. refl))
]
  where
    calls : ℕ → Option (Open T)
    calls j = at_open (watched c.queue) (b.open_call j)

    now : (y : Option (Open T)) → c.open_call ≡ put (λ j. at_open (watched c.queue) (b.open_call j)) p y → p ≡ q → c.open_call q ≡ y
    now y is same = ap (λ z. z q) is ∙ ap (put calls p y) (sym same) ∙ put-same calls p y

    own : (r : Option (Reply T)) → Steps b p k r c → p ≡ q → PartyGoes q (Step p granted) (Ran k r) (b.open_call q) (c.open_call q)
    own None s same =
        let mine = after_own b.busy s.o c.queue s.effects in
        became (ap b.open_call (sym same) ∙ s.in_call) (now (Some mine) s.calls same) (goes_on s.o mine k b.queue c.queue same s.moves)
    own (Some y) s same = became (ap b.open_call (sym same) ∙ s.in_call) (now None s.calls same) (ends s.o k y same)
