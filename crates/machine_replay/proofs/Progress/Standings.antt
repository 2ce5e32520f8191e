-- Where a party stands, as the book of a run has it.
use Rattle.std.proofs.Common.{◌≡◌, ◌≢◌, ◌∙◌, ℕ, ◌==◌, true, false, if◌then◌else◌, Option, Some, None, List, [], ◌∷◌, ◌++◌, refl, sym, ap, inl, inr}
use Rattle.std.proofs.lemmas.Bool.Decides.{eqb_tells}
use Rattle.queue_steps.specs.State.{State}
use Rattle.machine_replay.specs.Vocabulary.{Effect, Event, Told, EffectKind, Skipped, Ran}
use Rattle.machine_replay.specs.Book.{Book, Open, Happens, Moves, at_open, begun}
use Rattle.machine_replay.specs.{Conforms.party_of, Progress.Standing, Progress.Between, Progress.Undone, Progress.HalfDone, Progress.stands_after, Progress.stands_then, Progress.effect_told, Progress.reply_told}
use Rattle.machine_replay.proofs.Progress.PartyGoes.{PartyGoes, skips, beside, begins, replies, goes_on, ends, party_goes}

-- the party's open call is as it stands
abbrev pub Agrees : {T : Type 0} → Standing → Option (Open T) → Type 0
Agrees Between y = y ≡ None
Agrees {T} Undone y = (o : Open T) × (y ≡ Some o) × (o.effects ≡ [])
Agrees {T} HalfDone y = (o : Open T) × (y ≡ Some o) × (o.effects ≢ [])

agrees-none : {T : Type 0} (x : Standing) (y : Option (Open T)) → Agrees x y → y ≡ None → x ≡ Between
agrees-none Between y a e = refl
agrees-none x y a e = let is = a.1 in cc

-- another party's event leaves the call's effects
agrees-on : {T : Type 0} (f : Open T → Open T) → ((o : Open T) → (f o).effects ≡ o.effects) → (x : Standing) (y : Option (Open T)) → Agrees x y → Agrees x (at_open f y)
agrees-on f same Between y a = rw a refl
agrees-on f same Undone y a = (f a.0, ap (at_open f) a.1, same a.0 ∙ a.2)
agrees-on f same HalfDone y a = (f a.0, ap (at_open f) a.1, λ e. a.2 (sym (same a.0) ∙ e))

some-effect : {T : Type 0} (es : List (Effect T)) (e : Effect T) (mine : List (Effect T)) → mine ≡ es ++ e ∷ [] → mine ≢ []
some-effect [] e mine is none = cc
some-effect (x ∷ es) e mine is none = cc

-- the call after its own step
stepped : {T : Type 0} (x : Standing) (y : Option (Open T)) (o mine : Open T) (Q R : State T) (k : Option EffectKind) → Agrees x y → y ≡ Some o → Moves Q o k R mine.effects → Agrees (stands_after {T = T} x (Ran k None)) (Some mine)
stepped {T} x y o mine Q R (Some k) a is m = half x
  where
    half : (x : Standing) → Agrees (stands_after {T = T} x (Ran (Some k) None)) (Some mine)
    half Between = (mine, refl, some-effect o.effects m.0 mine.effects m.5)
    half x = (mine, refl, some-effect o.effects m.0 mine.effects m.5)
stepped Between y o mine Q R None a is m = cc
stepped Undone y o mine Q R None a is m = let same : a.0 ≡ o = (let i = a.1 in let e : Some a.0 ≡ Some o = sym i ∙ is in cc) in (mine, refl, m.1 ∙ (ap (λ z. z.effects) (sym same) ∙ a.2))
stepped HalfDone y o mine Q R None a is m = let same : a.0 ≡ o = (let i = a.1 in let e : Some a.0 ≡ Some o = sym i ∙ is in cc) in (mine, refl, λ none. a.2 (ap (λ z. z.effects) same ∙ (sym m.1 ∙ none)))

own : {T : Type 0} (q : ℕ) (x : Standing) (e : Event T) (t : Told T) (y : Option (Open T)) → party_of e ≡ q → Agrees (stands_after x t) y → Agrees (stands_then q x e t) y
own q x e t y same a = elim (eqb_tells (party_of e) q) [ inl b ↦ rw b.0 a | inr b ↦ absurd (b.1 same) ]

others : {T : Type 0} (q : ℕ) (x : Standing) (e : Event T) (t : Told T) (y : Option (Open T)) → party_of e ≢ q → Agrees x y → Agrees (stands_then q x e t) y
others q x e t y ne a = elim (eqb_tells (party_of e) q) [ inl b ↦ absurd (ne b.1) | inr b ↦ rw b.0 a ]

skipped : {T : Type 0} (q : ℕ) (x : Standing) (e : Event T) → stands_then {T = T} q x e Skipped ≡ x
skipped q x e = elim (party_of e == q) as (λ b. (if b then x else x) ≡ x) [ true ↦ refl | false ↦ refl ]

-- each party's call is as it stands after an event, if it was so before
pub agrees-next : {T : Type 0} (cap : Option ℕ) (parties : ℕ) (b c : Book T) (e : Event T) (t : Told T) (q : ℕ) (x : Standing)
    → Happens cap parties b e t c → Agrees x (b.open_call q) → Agrees (stands_then q x e t) (c.open_call q)
agrees-next {T} cap parties b c e t q x h = go (party_goes cap parties b c e t q h)
  where
    go : {t : Told T} {y z : Option (Open T)} → PartyGoes q e t y z → Agrees x y → Agrees (stands_then q x e t) z
    go (skips y) a = rw (skipped q x e) a
    go (beside t f y ne same) a = others q x e t (at_open f y) ne (agrees-on f same x y a)
    go (begins k own_event) a = own q x e (Ran None None) (Some (begun k)) own_event (rw (agrees-none x None a refl) (begun k, refl, refl))
    go (replies r own_event) a = own q x e (Ran None (Some r)) None own_event refl
    go (goes_on o mine k Q R own_event m) a = own q x e (Ran k None) (Some mine) own_event (stepped x (Some o) o mine Q R k a refl m)
    go (ends o k r own_event) a = own q x e (Ran k (Some r)) None own_event refl

-- a party that is in a call, and gets no reply, is in it still
pub in_call-next : {T : Type 0} (p : ℕ) (x : Standing) (e : Event T) (t : Told T) → x ≢ Between → (party_of e ≡ p → reply_told t ≡ None) → stands_then p x e t ≢ Between
in_call-next {T} p x e t is none = elim (eqb_tells (party_of e) p) [ inl b ↦ rw b.0 (go x t is (none b.1)) | inr b ↦ rw b.0 is ]
  where
    go : (x : Standing) (t : Told T) → x ≢ Between → reply_told t ≡ None → stands_after x t ≢ Between
    go Between t is none = absurd (is refl)
    go Undone (Ran (Some k) None) is none = λ e. cc
    go HalfDone (Ran (Some k) None) is none = λ e. cc
    go Undone (Ran k (Some r)) is none = absurd (cc)
    go HalfDone (Ran k (Some r)) is none = absurd (cc)
    go x t is none = is

-- a party that is not half done, and has no effect, is not half done still
pub not_half-next : {T : Type 0} (q : ℕ) (x : Standing) (e : Event T) (t : Told T) → x ≢ HalfDone → (party_of e ≡ q → effect_told t ≡ None) → stands_then q x e t ≢ HalfDone
not_half-next {T} q x e t is none = elim (eqb_tells (party_of e) q) [ inl b ↦ rw b.0 (go x t is (none b.1)) | inr b ↦ rw b.0 is ]
  where
    go : (x : Standing) (t : Told T) → x ≢ HalfDone → effect_told t ≡ None → stands_after x t ≢ HalfDone
    go HalfDone t is none = absurd (is refl)
    go Between (Ran None None) is none = λ e. cc
    go Between (Ran k (Some r)) is none = λ e. cc
    go Undone (Ran k (Some r)) is none = λ e. cc
    go Between (Ran (Some k) None) is none = absurd (cc)
    go Undone (Ran (Some k) None) is none = absurd (cc)
    go x t is none = is
