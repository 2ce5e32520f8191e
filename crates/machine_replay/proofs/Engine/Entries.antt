-- Entries of effects, and what a later entry leaves as it was.
use Rattle.std.proofs.Common.{◌≡◌, ◌≢◌, ◌∙◌, ℕ, zero, suc, ◌+◌, ◌<◌, ◌≤◌, ◌==◌, ◌&&◌, nat_lt, Bool, true, false, if◌then◌else◌, Option, Some, List, [], ◌∷◌, ◌++◌, length, refl, sym, ap, arith, inl, inr, append-nil, length-append, slice_get}
use Rattle.std.specs.List.{AllByRecursion}
use Rattle.std.proofs.lemmas.Bool.{lt-ltb, eq-eqb, Decides.eqb_tells}
use Rattle.queue_steps.specs.{State.start, Effect.after_from}
use Rattle.machine_replay.specs.{Vocabulary.Effect, Meaning.Entry, Meaning.chosen, Meaning.effects_in, Meaning.state_after, Meaning.own_effects}

pub each-more : {X : Type 0} (P : X → Type 0) (xs : List X) (x : X) → AllByRecursion P xs → P x → AllByRecursion P (xs ++ x ∷ [])
each-more P [] x all here = (here, tt)
each-more P (y ∷ xs) x all here = (all.0, each-more P xs x all.1 here)

pub each-all : {X : Type 0} (P Q : X → Type 0) (xs : List X) → ((x : X) → P x → Q x) → AllByRecursion P xs → AllByRecursion Q xs
each-all P Q [] f all = tt
each-all P Q (x ∷ xs) f all = (f x all.0, each-all P Q xs f all.1)

pub each-both : {X : Type 0} (P Q R : X → Type 0) (xs : List X) → ((x : X) → P x → Q x → R x) → AllByRecursion P xs → AllByRecursion Q xs → AllByRecursion R xs
each-both P Q R [] f all more = tt
each-both P Q R (x ∷ xs) f all more = (f x all.0 more.0, each-both P Q R xs f all.1 more.1)

pub length-one : {X : Type 0} (xs : List X) (x : X) → length (xs ++ x ∷ []) ≡ length xs + 1
length-one xs x = length-append xs (x ∷ [])

pub event-more : {X : Type 0} (xs ys : List X) (n : ℕ) (x : X) → slice_get xs n ≡ Some x → slice_get (xs ++ ys) n ≡ Some x
event-more [] ys n x e = cc
event-more (y ∷ xs) ys zero x e = e
event-more (y ∷ xs) ys (suc n) x e = event-more xs ys n x e

pub event-last : {X : Type 0} (xs : List X) (n : ℕ) (x : X) → n ≡ length xs → slice_get (xs ++ x ∷ []) n ≡ Some x
event-last [] zero x e = refl
event-last (y ∷ xs) (suc n) x e = event-last xs n x (omega arith)
event-last xs n x e = absurd (omega arith)

-- the new entries are those of the event n
pub data Extends {T : Type 0} : ℕ → List (Entry T) → List (Entry T) → Type 0 where
  quiet : (n : ℕ) (H : List (Entry T)) → Extends n H H
  loud : (n p : ℕ) (e : Effect T) (H : List (Entry T)) → Extends n H (H ++ record { event = n; party = p; effect = e } ∷ [])

chosen-step : {X : Type 0} (b : Bool) (l m k : List X) (y : X) → l ≡ m ++ k → (if b then y ∷ l else l) ≡ (if b then y ∷ m else m) ++ k
chosen-step true l m k y e = ap (λ z. y ∷ z) e
chosen-step false l m k y e = e

pub chosen-append : {T : Type 0} (f : Entry T → Bool) (H : List (Entry T)) (x : Entry T) → chosen f (H ++ x ∷ []) ≡ chosen f H ++ (if f x then x.effect ∷ [] else [])
chosen-append f [] x = refl
chosen-append f (y ∷ H) x = chosen-step (f y) (chosen f (H ++ x ∷ [])) (chosen f H) (if f x then x.effect ∷ [] else []) y.effect (chosen-append f H x)

-- what passes no entry of the event n passes no new one
chosen-late : {T : Type 0} (f : Entry T → Bool) (n : ℕ) (H H' : List (Entry T)) → Extends n H H' → ((x : Entry T) → x.event ≡ n → f x ≡ false) → chosen f H' ≡ chosen f H
chosen-late f n H _ (quiet _ _) none = refl
chosen-late f n H _ (loud _ p e _) none =
    chosen-append f H (record { event = n; party = p; effect = e }) ∙ rw (none (record { event = n; party = p; effect = e }) refl) (append-nil (chosen f H))

-- two tests that agree on all entries choose the same
chosen-same : {T : Type 0} (f g : Entry T → Bool) (H : List (Entry T)) → AllByRecursion (λ x. f x ≡ g x) H → chosen f H ≡ chosen g H
chosen-same f g [] all = refl
chosen-same f g (x ∷ H) all = rw (all.0, chosen-same f g H all.1) refl

chosen-all : {T : Type 0} (f : Entry T → Bool) (H : List (Entry T)) → AllByRecursion (λ x. f x ≡ true) H → chosen f H ≡ effects_in H
chosen-all f [] all = refl
chosen-all f (x ∷ H) all = rw (all.0, chosen-all f H all.1) refl

chosen-none : {T : Type 0} (f : Entry T → Bool) (H : List (Entry T)) → AllByRecursion (λ x. f x ≡ false) H → chosen f H ≡ []
chosen-none f [] all = refl
chosen-none f (x ∷ H) all = rw (all.0, chosen-none f H all.1) refl

not_lt : (a b : ℕ) → b ≤ a → nat_lt a b ≡ false
not_lt a b le = grind arith

is_lt : (a b : ℕ) → a < b → nat_lt a b ≡ true
is_lt a b lt = lt-ltb a b lt

and_false : (a : Bool) → (a && false) ≡ false
and_false true = refl
and_false false = refl

-- the state after an earlier event
pub state-late : {T : Type 0} (cap : Option ℕ) (n m : ℕ) (H H' : List (Entry T)) → Extends n H H' → m < n → state_after cap H' m ≡ state_after cap H m
state-late cap n m H H' ext lt = ap (λ l. after_from (start cap 0) l) (chosen-late (λ x. nat_lt x.event (m + 1)) n H H' ext (λ x e. rw e (not_lt n (m + 1) (omega arith))))

-- the effects of a party up to an earlier event
pub own-late : {T : Type 0} (p first last n : ℕ) (H H' : List (Entry T)) → Extends n H H' → last < n → own_effects p first last H' ≡ own_effects p first last H
own-late p first last n H H' ext lt =
    chosen-late (λ x. (x.party == p) && (nat_lt first x.event && nat_lt x.event (last + 1))) n H H' ext
    (λ x e. rw (e, not_lt n (last + 1) (omega arith), and_false (nat_lt first n), and_false (x.party == p)) refl)

-- where all entries are earlier, all of them count
pub state-last : {T : Type 0} (cap : Option ℕ) (n m : ℕ) (H : List (Entry T)) → AllByRecursion (λ x. x.event < n) H → n ≤ m + 1 → state_after cap H m ≡ after_from (start cap 0) (effects_in H)
state-last cap n m H early le = ap (λ l. after_from (start cap 0) l) (chosen-all (λ x. nat_lt x.event (m + 1)) H (each-all _ _ H (λ x lt. is_lt x.event (m + 1) (omega arith)) early))

pub own-last : {T : Type 0} (p first n last last' : ℕ) (H : List (Entry T)) → AllByRecursion (λ x. x.event < n) H → n ≤ last + 1 → n ≤ last' + 1 → own_effects p first last H ≡ own_effects p first last' H
own-last p first n last last' H early le le' =
    chosen-same (λ x. (x.party == p) && (nat_lt first x.event && nat_lt x.event (last + 1))) (λ x. (x.party == p) && (nat_lt first x.event && nat_lt x.event (last' + 1))) H
    (each-all _ _ H (λ x lt. rw (is_lt x.event (last + 1) (omega arith), is_lt x.event (last' + 1) (omega arith)) refl) early)

pub own-none : {T : Type 0} (p first last : ℕ) (H : List (Entry T)) → AllByRecursion (λ x. x.event < first) H → own_effects p first last H ≡ []
own-none p first last H early =
    chosen-none (λ x. (x.party == p) && (nat_lt first x.event && nat_lt x.event (last + 1))) H
    (each-all _ _ H (λ x lt. rw (not_lt first x.event (omega arith), and_false (x.party == p)) refl) early)

-- a new entry of this party, and of another
pub own-mine : {T : Type 0} (p first last n : ℕ) (e : Effect T) (H : List (Entry T)) → first < n → n ≤ last → own_effects p first last (H ++ record { event = n; party = p; effect = e } ∷ []) ≡ own_effects p first last H ++ e ∷ []
own-mine p first last n e H after upto =
    chosen-append (λ x. (x.party == p) && (nat_lt first x.event && nat_lt x.event (last + 1))) H (record { event = n; party = p; effect = e })
    ∙ rw (eq-eqb p p refl, is_lt first n after, is_lt n (last + 1) (omega arith)) refl

pub own-others : {T : Type 0} (p q first last n : ℕ) (e : Effect T) (H : List (Entry T)) → q ≢ p → own_effects q first last (H ++ record { event = n; party = p; effect = e } ∷ []) ≡ own_effects q first last H
own-others p q first last n e H ne =
    let other : (p == q) ≡ false = elim (eqb_tells p q) [ inl t ↦ absurd (ne (sym t.1)) | inr f ↦ f.0 ] in
    chosen-append (λ x. (x.party == q) && (nat_lt first x.event && nat_lt x.event (last + 1))) H (record { event = n; party = p; effect = e })
    ∙ rw other (append-nil (own_effects q first last H))

pub effects-append : {T : Type 0} (H : List (Entry T)) (x : Entry T) → effects_in (H ++ x ∷ []) ≡ effects_in H ++ x.effect ∷ []
effects-append [] x = refl
effects-append (y ∷ H) x = ap (λ l. y.effect ∷ l) (effects-append H x)
