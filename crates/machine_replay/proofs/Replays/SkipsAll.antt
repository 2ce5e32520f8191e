-- Exactly the events that do not fit are skipped, in every conforming replay.
use Rattle.std.proofs.Common.{◌≡◌, ◌⊎◌, ◌∙◌, ℕ, ◌+◌, ◌<◌, if◌then◌else◌, Option, Some, None, is_some, List, [], ◌∷◌, ◌++◌, refl, sym, ap, arith, inl, inr, length, append-nil, append_assoc, slice_get}
use Rattle.machine_replay.specs.Vocabulary.{Call, Reply, Event, Told, Replay, Begin, Step, Skipped, Ran}
use Rattle.machine_replay.specs.Book.{Book, Open, Happens, Run, begun, joined, watched, at_open, after_own, opening}
use Rattle.machine_replay.specs.{Conforms.Conforms, Conforms.party_of, Conforms.entries_from, Conforms.reply_entry, Conforms.skipped_entry, InCall.IsInCall, Skips.IsExact, Skips.SkippedIsExact}
use Rattle.machine_replay.proofs.{Progress.Alone.put-same, Progress.Alone.put-other, Engine.Calls.with_reply, Engine.Entries.each-all, Replays.Skips.noted}
use Rattle.machine_replay.proofs.Replays.SkipsRun.{Fair, is_skipped, reply_told, fair-skipped, fair-begun, fair-at-once, fair-step}

-- where a party stands after its own step: in its call, or between calls where it replied
stays-if : {T : Type 0} (r : Option (Reply T)) (o x : Open T) → (if is_some r then None else Some o) ≡ Some x → r ≡ None
stays-if None o x e = refl
stays-if (Some z) o x e = cc

over-if : {T : Type 0} (r : Option (Reply T)) (o : Open T) → (if is_some r then None else Some o) ≡ None → (z : Reply T) × (r ≡ Some z)
over-if None o e = cc
over-if (Some z) o e = (z, refl)

pub fair-next : {T : Type 0} (cap : Option ℕ) (parties : ℕ) (past : List (Event T)) (told : List (Told T)) (n : ℕ) (S : List ℕ) (R : List (ℕ × ℕ × Reply T)) (b c : Book T) (x : Event T) (t : Told T) → Fair parties past told n S R b → Happens cap parties b x t c
    → Fair parties (past ++ x ∷ []) (told ++ t ∷ []) (n + 1) (noted n (is_skipped t) S) (with_reply n (party_of x) (reply_told t) R) c
fair-next {T} cap parties past told n S R b c x Skipped f h = fair-skipped T parties past told n S R b f x c h.0 h.1
fair-next {T} cap parties past told n S R b c (Begin p k) (Ran None None) f h =
    fair-begun T parties past told n S R b f p k c h.0
    (λ j ne. ap (λ z. z.open_call j) h.2 ∙ put-other (λ i. at_open joined (b.open_call i)) p j (Some (begun k)) ne)
    (begun k) (ap (λ z. z.open_call p) h.2 ∙ put-same (λ i. at_open joined (b.open_call i)) p (Some (begun k)))
fair-next {T} cap parties past told n S R b c (Begin p k) (Ran None (Some r)) f h = fair-at-once T parties past told n S R b f p k r c h.0 h.3
fair-next {T} cap parties past told n S R b c (Begin p k) (Ran (Some e) r) f h = absurd h
fair-next {T} cap parties past told n S R b c (Step p g) (Ran k r) f h =
    let s = h.1 in
    let mine = after_own b.busy s.o c.queue s.effects in
    let after = if is_some r then None else Some mine in
    let here : c.open_call p ≡ after = ap (λ z. z p) s.calls ∙ put-same (λ i. at_open (watched c.queue) (b.open_call i)) p after in
    fair-step T parties past told n S R b f p g k r c h.0 s.o s.in_call
    (λ j ne. ap (λ z. z j) s.calls ∙ put-other (λ i. at_open (watched c.queue) (b.open_call i)) p j after ne)
    (λ x e. stays-if r mine x (sym here ∙ e))
    (λ e. over-if r mine (sym here ∙ e))

record Whole {T : Type 0} (parties : ℕ) (events : List (Event T)) (told : List (Told T)) (c : Book T) : Type 0 where
  n : ℕ
  S : List ℕ
  R : List (ℕ × ℕ × Reply T)
  fair : Fair parties events told n S R c

run-fair : {T : Type 0} (cap : Option ℕ) (parties : ℕ) (past es : List (Event T)) (told ts : List (Told T)) (n : ℕ) (S : List ℕ) (R : List (ℕ × ℕ × Reply T)) (b c : Book T) → Fair parties past told n S R b → Run cap parties b es ts c → Whole parties (past ++ es) (told ++ ts) c
run-fair cap parties past [] told [] n S R b c f run = rw (append-nil past, append-nil told, run) (record { n = n; S = S; R = R; fair = f })
run-fair cap parties past (x ∷ es) told (t ∷ ts) n S R b c f run =
    let rest = run-fair cap parties (past ++ x ∷ []) es (told ++ t ∷ []) ts (n + 1) (noted n (is_skipped t) S) (with_reply n (party_of x) (reply_told t) R) run.0 c (fair-next cap parties past told n S R b run.0 x t f run.1) run.2 in
    rw (append_assoc past (x ∷ []) es, append_assoc told (t ∷ []) ts) at rest
run-fair cap parties past es told ts n S R b c f run = absurd run

pub fair-first : (T : Type 0) (cap : Option ℕ) (parties : ℕ) → Fair {T = T} parties [] [] 0 [] [] (opening cap)
fair-first T cap parties = record {
  len = refl;
  same = refl;
  skipped = refl;
  replies = refl;
  early = tt;
  early_skipped = tt;
  inside = λ q o e. cc;
  outside = λ q e in_call. let before = in_call.before in absurd (omega arith);
  exact = λ m y e. cc;
}

-- at the end of a run
pub run-whole : {T : Type 0} (cap : Option ℕ) (parties : ℕ) (events : List (Event T)) (told : List (Told T)) (last : Book T) → Run cap parties (opening cap) events told last
    → Fair parties events told (length events) (entries_from skipped_entry 0 events told) (entries_from reply_entry 0 events told) last
run-whole {T} cap parties events told last run =
    let whole = run-fair cap parties [] events [] told 0 [] [] (opening cap) last (fair-first T cap parties) run in
    rw (← whole.fair.len, ← whole.fair.skipped, ← whole.fair.replies) whole.fair

-- at the end of a replay
whole-fair : {T A : Type 0} (cap : Option ℕ) (parties : ℕ) (events : List (Event T)) (r : Replay T A) (c : Conforms cap parties events r) → Fair parties events c.told (length events) r.skipped.items r.replies.items c.last
whole-fair cap parties events r c = rw (c.skipped, c.replies) (run-whole cap parties events c.told c.last c.run)

pub skipped_is_exact : {T A : Type 0} → SkippedIsExact T A
skipped_is_exact cap parties events r c n x at = (whole-fair cap parties events r c).exact n x at

-- where what is skipped is exact, a party is in one call at most
one-begin : {T : Type 0} (parties : ℕ) (events : List (Event T)) (S : List ℕ) (R : List (ℕ × ℕ × Reply T)) (p n : ℕ) (c d : IsInCall events S R p n) → ((m : ℕ) (y : Event T) → slice_get events m ≡ Some y → IsExact parties events S R m y) → c.first < d.first → ⊥
one-begin parties events S R p n c d exact lt = elim (exact d.first (Begin p d.call) d.begins.0) [
  | inl ran ↦ ran.0.1 (record { first = c.first; call = c.call; begins = c.begins; before = lt; unanswered = each-all _ _ R (λ y before same. elim (before same) [ inl less ↦ inl less | inr le ↦ let less = d.before in inr (omega arith) ]) c.unanswered })
  | inr skipped ↦ d.begins.1 skipped.1
]

less-or-same : (a b : ℕ) → (a ≡ b) ⊎ (a < b) ⊎ (b < a)
less-or-same a b = grind arith

one-first : {T : Type 0} (parties : ℕ) (events : List (Event T)) (S : List ℕ) (R : List (ℕ × ℕ × Reply T)) (p n : ℕ) (c d : IsInCall events S R p n) → ((m : ℕ) (y : Event T) → slice_get events m ≡ Some y → IsExact parties events S R m y) → c.first ≡ d.first
one-first parties events S R p n c d exact = elim (less-or-same c.first d.first) [
  | inl e ↦ e
  | inr (inl lt) ↦ absurd (one-begin parties events S R p n c d exact lt)
  | inr (inr lt) ↦ absurd (one-begin parties events S R p n d c exact lt)
]

begin-call : {T : Type 0} (p : ℕ) (a b : Call T) → Some (Begin p a) ≡ Some (Begin p b) → a ≡ b
begin-call p a b e = cc

pub some-open : {T : Type 0} (o : Option (Open T)) → (o ≡ None → ⊥) → (x : Open T) × (o ≡ Some x)
some-open None some = absurd (some refl)
some-open (Some x) some = (x, refl)

-- a party in a call at the end of a replay has an open call there, and is in no other
pub record InCallAtEnd {T : Type 0} (events : List (Event T)) (S : List ℕ) (R : List (ℕ × ℕ × Reply T)) (b : Book T) (p : ℕ) (c : IsInCall events S R p (length events)) : Type 0 where
  pub opened : Open T
  pub is_open : b.open_call p ≡ Some opened
  pub one : (d : IsInCall events S R p (length events)) → c.first ≡ d.first
  pub one_call : (d : IsInCall events S R p (length events)) → c.call ≡ d.call

pub in-call-at-end : {T A : Type 0} (cap : Option ℕ) (parties : ℕ) (events : List (Event T)) (r : Replay T A) (c : Conforms cap parties events r) (p : ℕ) (k : IsInCall events r.skipped.items r.replies.items p (length events))
    → InCallAtEnd events r.skipped.items r.replies.items c.last p k
in-call-at-end {T} cap parties events r c p k =
    let fair = whole-fair cap parties events r c in
    let is = some-open (c.last.open_call p) (λ none. fair.outside p none k) in
    let one : (d : IsInCall events r.skipped.items r.replies.items p (length events)) → k.first ≡ d.first = λ d. one-first parties events r.skipped.items r.replies.items p (length events) k d fair.exact in
    record {
      opened = is.0;
      is_open = is.1;
      one = one;
      one_call = λ d. begin-call p k.call d.call (sym k.begins.0 ∙ ap (slice_get events) (one d) ∙ d.begins.0);
    }
