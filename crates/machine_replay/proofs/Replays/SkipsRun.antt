-- A whole run skips exactly the events that do not fit.
use Rattle.std.proofs.Common.{◌≡◌, ◌≢◌, ◌∙◌, ℕ, ◌+◌, ◌<◌, ◌&&◌, nat_lt, Bool, true, false, Option, Some, None, is_some, is_none, List, [], ◌∷◌, ◌++◌, length, refl, sym, ap, subst, arith, inl, inr, append-nil, slice_get, Contains}
use Rattle.std.specs.List.{AllByRecursion}
use Rattle.std.proofs.lemmas.{List.Elements.Contains-push, Option.slice_get_within, Bool.ltb-true, Bool.lt-ltb, Bool.Decides.eqb_tells}
use Rattle.queue_laws.proofs.Common.Tests.{is_none_true}
use Rattle.machine_replay.specs.Vocabulary.{Call, Reply, Event, Told, EffectKind, Begin, Step, Skipped, Ran}
use Rattle.machine_replay.specs.{Book.Book, Book.Open, Book.fits, Book.joined, Book.watched, Book.at_open, Conforms.party_of, Conforms.entries_from, Conforms.reply_entry, Conforms.skipped_entry, InCall.IsInCall, Skips.ShouldRun, Skips.IsExact}
use Rattle.machine_replay.proofs.{Engine.Calls.with_reply, Engine.Calls.early-with_reply, Engine.Entries.each-more, Engine.Entries.each-all, Engine.Entries.event-last, Engine.Entries.length-one, Progress.Alone.and-left, Progress.Alone.and-right, Engine.SoFar.entries-more}
use Rattle.machine_replay.proofs.Replays.Skips.{noted, event-less, not-in-later, earlier-now, earlier-before, exact-now, goes-on, there-before, was-there, is-over, last-or-earlier}

-- what is known of the skipped events so far
pub record Fair {T : Type 0} (parties : ℕ) (past : List (Event T)) (told : List (Told T)) (n : ℕ) (S : List ℕ) (R : List (ℕ × ℕ × Reply T)) (b : Book T) : Type 0 where
  pub len : n ≡ length past
  pub same : length past ≡ length told
  pub skipped : S ≡ entries_from skipped_entry 0 past told
  pub replies : R ≡ entries_from reply_entry 0 past told
  pub early : AllByRecursion (λ y. y.0 < n) R
  pub early_skipped : AllByRecursion (λ m. m < n) S
  pub inside : (q : ℕ) (o : Open T) → b.open_call q ≡ Some o → IsInCall past S R q n
  pub outside : (q : ℕ) → b.open_call q ≡ None → IsInCall past S R q n → ⊥
  pub exact : (m : ℕ) (y : Event T) → slice_get past m ≡ Some y → IsExact parties past S R m y

abbrev pub is_skipped : {T : Type 0} → Told T → Bool
is_skipped Skipped = true
is_skipped (Ran k r) = false

abbrev pub reply_told : {T : Type 0} → Told T → Option (Reply T)
reply_told Skipped = None
reply_told (Ran k r) = r

noted-append : {T : Type 0} (n p : ℕ) (t : Told T) (S : List ℕ) → noted n (is_skipped t) S ≡ S ++ skipped_entry n p t
noted-append n p Skipped S = refl
noted-append n p (Ran k r) S = sym (append-nil S)

answered-append : {T : Type 0} (n p : ℕ) (t : Told T) (R : List (ℕ × ℕ × Reply T)) → with_reply n p (reply_told t) R ≡ R ++ reply_entry n p t
answered-append n p (Ran k (Some r)) R = refl
answered-append n p t R = sym (append-nil R)

early-noted : (n : ℕ) (b : Bool) (S : List ℕ) → AllByRecursion (λ m. m < n) S → AllByRecursion (λ m. m < n + 1) (noted n b S)
early-noted n true S all = each-more _ S n (each-all _ _ S (λ m lt. omega arith) all) (omega arith)
early-noted n false S all = each-all _ _ S (λ m lt. omega arith) all

some-same : {X : Type 0} (x y : X) → Some x ≡ Some y → x ≡ y
some-same x y e = cc

-- after one event more, by what is so of it and of the calls after it
fair-more : {T : Type 0} (parties : ℕ) (past : List (Event T)) (told : List (Told T)) (n : ℕ) (S : List ℕ) (R : List (ℕ × ℕ × Reply T)) (b c : Book T) (x : Event T) (t : Told T) → Fair parties past told n S R b
    → IsExact parties (past ++ x ∷ []) (noted n (is_skipped t) S) (with_reply n (party_of x) (reply_told t) R) n x
    → ((q : ℕ) (o : Open T) → c.open_call q ≡ Some o → IsInCall (past ++ x ∷ []) (noted n (is_skipped t) S) (with_reply n (party_of x) (reply_told t) R) q (n + 1))
    → ((q : ℕ) → c.open_call q ≡ None → IsInCall (past ++ x ∷ []) (noted n (is_skipped t) S) (with_reply n (party_of x) (reply_told t) R) q (n + 1) → ⊥)
    → Fair parties (past ++ x ∷ []) (told ++ t ∷ []) (n + 1) (noted n (is_skipped t) S) (with_reply n (party_of x) (reply_told t) R) c
fair-more {T} parties past told n S R b c x t f here inside outside = record {
  len = omega (arith, f.len, length-one past x);
  same = omega (arith, f.same, length-one past x, length-one told t);
  skipped = noted-append n (party_of x) t S ∙ ap (λ l. l ++ skipped_entry n (party_of x) t) f.skipped ∙ sym (entries-more skipped_entry 0 n past told x t f.same (omega (arith, f.len)));
  replies = answered-append n (party_of x) t R ∙ ap (λ l. l ++ reply_entry n (party_of x) t) f.replies ∙ sym (entries-more reply_entry 0 n past told x t f.same (omega (arith, f.len)));
  early = early-with_reply n (party_of x) (reply_told t) R f.early;
  early_skipped = early-noted n (is_skipped t) S f.early_skipped;
  inside = inside;
  outside = outside;
  exact = λ m y e.
      let within = slice_get_within (past ++ x ∷ []) m y e in
      elim (last-or-earlier m n (omega (arith, within, length-one past x, f.len))) [
        | inl at ↦
            let is : x ≡ y = let last = event-last past n x f.len in let e' : slice_get (past ++ x ∷ []) n ≡ Some y = subst (λ k. slice_get (past ++ x ∷ []) k ≡ Some y) at e in some-same x y (sym last ∙ e') in
            subst (λ k. IsExact parties (past ++ x ∷ []) (noted n (is_skipped t) S) (with_reply n (party_of x) (reply_told t) R) k y) (sym at) (subst (λ z. IsExact parties (past ++ x ∷ []) (noted n (is_skipped t) S) (with_reply n (party_of x) (reply_told t) R) n z) is here)
        | inr lt ↦ exact-now T past x S R n (party_of x) (is_skipped t) (reply_told t) f.len f.early m y parties lt (f.exact m y (event-less past (x ∷ []) m y (omega (arith, f.len)) e))
      ];
}

false-of : (b : Bool) → (true && b) ≡ false → b ≡ false
false-of true e = e
false-of false e = e

-- a party that does not fit is no party, or is not as the event needs it
not-both : (p parties : ℕ) (b : Bool) → (nat_lt p parties && b) ≡ false → p < parties → b ≡ false
not-both p parties b e lt = let is : nat_lt p parties ≡ true = lt-ltb p parties lt in let f : (true && b) ≡ false = rw is at e in false-of b f

is_none-false : {X : Type 0} (o : Option X) → is_none o ≡ false → (x : X) × (o ≡ Some x)
is_none-false None e = cc
is_none-false (Some x) e = (x, refl)

is_some-false : {X : Type 0} (o : Option X) → is_some o ≡ false → o ≡ None
is_some-false None e = refl
is_some-false (Some x) e = cc

begin-not-step : {T : Type 0} (p q : ℕ) (c : Call T) (g : Bool) → Some (Step p g) ≡ Some (Begin q c) → ⊥
begin-not-step p q c g e = cc

begin-party : {T : Type 0} (p q : ℕ) (c d : Call T) → Some (Begin p c) ≡ Some (Begin q d) → q ≡ p
begin-party p q c d e = cc

-- a party after a call that stays or goes is where it was
open-none : {T : Type 0} (f : Open T → Open T) (y : Option (Open T)) → at_open f y ≡ None → y ≡ None
open-none f None e = refl
open-none f (Some o) e = cc

open-some : {T : Type 0} (f : Open T → Open T) (y : Option (Open T)) (o : Open T) → at_open f y ≡ Some o → (x : Open T) × (y ≡ Some x)
open-some f None o e = cc
open-some f (Some x) o e = (x, refl)

module _ (T : Type 0) (parties : ℕ) (past : List (Event T)) (told : List (Told T)) (n : ℕ) (S : List ℕ) (R : List (ℕ × ℕ × Reply T)) (b : Book T) (f : Fair parties past told n S R b) where
  abbrev pub next : Event T → Told T → Book T → Type 0
  next x t c = Fair parties (past ++ x ∷ []) (told ++ t ∷ []) (n + 1) (noted n (is_skipped t) S) (with_reply n (party_of x) (reply_told t) R) c

  -- an event that is skipped
  pub fair-skipped : (x : Event T) (c : Book T) → fits parties b x ≡ false → c ≡ b → next x Skipped c
  fair-skipped x c bad same = fair-more parties past told n S R b c x Skipped f (inr (not_right x bad, Contains-push S n))
      (λ q o e. goes-on T past x S R n (party_of x) true None f.len f.early q (inl refl) (f.inside q o (sym (ap (λ z. z.open_call q) same) ∙ e)))
      (λ q e in_call. elim (was-there T past x S R n (party_of x) true None f.len f.early q in_call) [
        | inl at ↦ absurd (in_call.begins.1 (subst (Contains (S ++ n ∷ [])) (sym at) (Contains-push S n)))
        | inr lt ↦ f.outside q (sym (ap (λ z. z.open_call q) same) ∙ e) (there-before T past x S R n (party_of x) true None f.len f.early q in_call lt)
      ])
    where
      not_right : (x : Event T) → fits parties b x ≡ false → ShouldRun parties (past ++ x ∷ []) (S ++ n ∷ []) R n x → ⊥
      not_right (Begin p k) bad should =
          let some = is_none-false (b.open_call p) (not-both p parties (is_none (b.open_call p)) bad should.0) in
          should.1 (earlier-now T past (Begin p k) S R n p true None f.len f.early p n (omega arith) (f.inside p some.0 some.1))
      not_right (Step p g) bad should =
          let none = is_some-false (b.open_call p) (not-both p parties (is_some (b.open_call p)) bad should.0) in
          f.outside p none (earlier-before T past (Step p g) S R n p true None f.len f.early p n (omega arith) should.1)

  -- a call that begins, with steps
  pub fair-begun : (p : ℕ) (k : Call T) (c : Book T) → fits parties b (Begin p k) ≡ true → ((j : ℕ) → j ≢ p → c.open_call j ≡ at_open joined (b.open_call j)) → (o : Open T) → c.open_call p ≡ Some o → next (Begin p k) (Ran None None) c
  fair-begun p k c good others o mine = fair-more parties past told n S R b c (Begin p k) (Ran None None) f
      (inl (
        (
          ltb-true p parties (and-left (nat_lt p parties) (is_none (b.open_call p)) good),
          λ in_call. f.outside p (is_none_true (b.open_call p) (and-right (nat_lt p parties) (is_none (b.open_call p)) good))
              (earlier-before T past (Begin p k) S R n p false None f.len f.early p n (omega arith) in_call),
        ),
        not-in-later n S f.early_skipped,
      ))
      (λ q x e. elim (eqb_tells q p) [
        | inl t ↦ subst (λ z. IsInCall (past ++ Begin p k ∷ []) S R z (n + 1)) (sym t.1) fresh
        | inr t ↦ let old = open-some joined (b.open_call q) x (sym (others q t.1) ∙ e) in goes-on T past (Begin p k) S R n p false None f.len f.early q (inl refl) (f.inside q old.0 old.1)
      ])
      (λ q e in_call. elim (eqb_tells q p) [
        | inl t ↦ let there : c.open_call p ≡ None = ap c.open_call (sym t.1) ∙ e in let h = mine in cc
        | inr t ↦ elim (was-there T past (Begin p k) S R n p false None f.len f.early q in_call) [
          | inl at ↦ absurd (t.1 (begin-party p q k in_call.call (sym (event-last past n (Begin p k) f.len) ∙ subst (λ m. slice_get (past ++ Begin p k ∷ []) m ≡ Some (Begin q in_call.call)) at in_call.begins.0)))
          | inr lt ↦ f.outside q (open-none joined (b.open_call q) (sym (others q t.1) ∙ e)) (there-before T past (Begin p k) S R n p false None f.len f.early q in_call lt)
        ]
      ])
    where
      fresh : IsInCall (past ++ Begin p k ∷ []) S R p (n + 1)
      fresh = record { first = n; call = k; begins = (event-last past n (Begin p k) f.len, not-in-later n S f.early_skipped); before = omega arith; unanswered = each-all _ _ R (λ y lt e. inl lt) f.early }

  -- a call that replies where it begins
  pub fair-at-once : (p : ℕ) (k : Call T) (r : Reply T) (c : Book T) → fits parties b (Begin p k) ≡ true → c ≡ b → next (Begin p k) (Ran None (Some r)) c
  fair-at-once p k r c good same =
      let free = is_none_true (b.open_call p) (and-right (nat_lt p parties) (is_none (b.open_call p)) good) in
      fair-more parties past told n S R b c (Begin p k) (Ran None (Some r)) f
      (inl ((ltb-true p parties (and-left (nat_lt p parties) (is_none (b.open_call p)) good), λ in_call. f.outside p free (earlier-before T past (Begin p k) S R n p false (Some r) f.len f.early p n (omega arith) in_call)), not-in-later n S f.early_skipped))
      (λ q x e.
      let was : b.open_call q ≡ Some x = sym (ap (λ z. z.open_call q) same) ∙ e in
      goes-on T past (Begin p k) S R n p false (Some r) f.len f.early q (inr (λ s. let g : b.open_call q ≡ None = ap b.open_call s ∙ free in cc)) (f.inside q x was))
      (λ q e in_call. elim (was-there T past (Begin p k) S R n p false (Some r) f.len f.early q in_call) [
        | inl at ↦
            let is = begin-party p q k in_call.call (sym (event-last past n (Begin p k) f.len) ∙ subst (λ m. slice_get (past ++ Begin p k ∷ []) m ≡ Some (Begin q in_call.call)) at in_call.begins.0) in
            is-over T past (Begin p k) S R n p false (Some r) f.len f.early r refl (subst (λ z. IsInCall (past ++ Begin p k ∷ []) S (R ++ (n, p, r) ∷ []) z (n + 1)) is in_call)
        | inr lt ↦ f.outside q (sym (ap (λ z. z.open_call q) same) ∙ e) (there-before T past (Begin p k) S R n p false (Some r) f.len f.early q in_call lt)
      ])

  -- a step
  pub fair-step : (p : ℕ) (g : Bool) (k : Option EffectKind) (r : Option (Reply T)) (c : Book T) → fits parties b (Step p g) ≡ true → (o : Open T) → b.open_call p ≡ Some o
      → ((j : ℕ) → j ≢ p → c.open_call j ≡ at_open (watched c.queue) (b.open_call j)) → ((x : Open T) → c.open_call p ≡ Some x → r ≡ None) → (c.open_call p ≡ None → (z : Reply T) × (r ≡ Some z)) → next (Step p g) (Ran k r) c
  fair-step p g k r c good o here others stays over = fair-more parties past told n S R b c (Step p g) (Ran k r) f
      (inl ((ltb-true p parties (and-left (nat_lt p parties) (is_some (b.open_call p)) good), earlier-now T past (Step p g) S R n p false r f.len f.early p n (omega arith) (f.inside p o here)), not-in-later n S f.early_skipped))
      (λ q x e. elim (eqb_tells q p) [
        | inl t ↦ subst (λ z. IsInCall (past ++ Step p g ∷ []) S (with_reply n p r R) z (n + 1)) (sym t.1) (goes-on T past (Step p g) S R n p false r f.len f.early p (inl (stays x (ap c.open_call (sym t.1) ∙ e))) (f.inside p o here))
        | inr t ↦ let old = open-some (watched c.queue) (b.open_call q) x (sym (others q t.1) ∙ e) in goes-on T past (Step p g) S R n p false r f.len f.early q (inr t.1) (f.inside q old.0 old.1)
      ])
      (λ q e in_call. elim (eqb_tells q p) [
        | inl t ↦ let z = over (ap c.open_call (sym t.1) ∙ e) in is-over T past (Step p g) S R n p false r f.len f.early z.0 z.1 (subst (λ y. IsInCall (past ++ Step p g ∷ []) S (with_reply n p r R) y (n + 1)) t.1 in_call)
        | inr t ↦ elim (was-there T past (Step p g) S R n p false r f.len f.early q in_call) [
          | inl at ↦ absurd (begin-not-step p q in_call.call g (sym (event-last past n (Step p g) f.len) ∙ subst (λ m. slice_get (past ++ Step p g ∷ []) m ≡ Some (Begin q in_call.call)) at in_call.begins.0))
          | inr lt ↦ f.outside q (open-none (watched c.queue) (b.open_call q) (sym (others q t.1) ∙ e)) (there-before T past (Step p g) S R n p false r f.len f.early q in_call lt)
        ]
      ])
