-- Where the allocator refused nothing the events took place as they are.
use Rattle.std.proofs.Common.{◌≡◌, ◌∙◌, ◌&&◌, not, ℕ, ◌+◌, Bool, true, false, Some, None, List, [], ◌∷◌, ◌++◌, length, length-append, refl, sym, ap, subst, arith, append_assoc, slice_get}
use Rattle.std.specs.List.{AllByRecursion}
use Rattle.machine_steps.specs.Left.{left_of, opening_world}
use Rattle.machine_replay.specs.{Conforms.entries_from, Conforms.party_of, Conforms.reply_entry, Conforms.effect_entry, Conforms.skipped_entry, Peaks.peak_of, Played.as_told, Played.event_told, Played.is_no_memory, Played.told_of, Played.world_after, Served.IsAsRefused, Served.ServedIsExact}
use Rattle.machine_replay.specs.Vocabulary.{Event, Told, Begin, Step, Skipped, Ran}

there : {X : Type 0} (xs : List X) (x : X) (ys : List X) → slice_get (xs ++ x ∷ ys) (length xs) ≡ Some x
there [] x ys = refl
there (z ∷ zs) x ys = there zs x ys

all_parts : {X : Type 0} (P : X → Type 0) (xs ys : List X) → AllByRecursion P (xs ++ ys) → AllByRecursion P xs × AllByRecursion P ys
all_parts P [] ys all = (tt, all)
all_parts P (x ∷ xs) ys all = let rest = all_parts P xs ys all.1 in ((all.0, rest.0), rest.1)

and_yes : (b : Bool) → (b && true) ≡ b
and_yes true = refl
and_yes false = refl

-- one event took place as it is
one_as_told : {T : Type 0} (n : ℕ) (past es : List (Event T)) (e : Event T) (t : Told T) → n ≡ length past → AllByRecursion (IsAsRefused (past ++ e ∷ es)) (reply_entry n (party_of e) t) → event_told e t ≡ e
one_as_told n past es (Begin p c) t is all = refl
one_as_told n past es (Step p granted) Skipped is all = ap (λ g. Step p g) (and_yes granted)
one_as_told n past es (Step p granted) (Ran k None) is all = ap (λ g. Step p g) (and_yes granted)
one_as_told {T} n past es (Step p granted) (Ran k (Some r)) is all = by_reply (is_no_memory r) refl
  where
    Goal : Bool → Type 0
    Goal b = (let e : Event T = Step p (granted && not b) in e) ≡ Step p granted

    by_reply : (b : Bool) → is_no_memory r ≡ b → Goal (is_no_memory r)
    by_reply false plain = subst Goal (sym plain) (ap (λ g. Step p g) (and_yes granted))
    by_reply true lacks =
        let at : slice_get (past ++ Step p granted ∷ es) n ≡ Some (Step p granted) = rw is (there past (Step p granted) es) in
        let refused : Some (Step p granted) ≡ Some (Step p false) = sym at ∙ all.0 lacks in
        let none : granted ≡ false = cc in
        subst Goal (sym lacks) (rw none refl)

all_as_told : {T : Type 0} (n : ℕ) (past es : List (Event T)) (ts : List (Told T)) → n ≡ length past → AllByRecursion (IsAsRefused (past ++ es)) (entries_from reply_entry n es ts) → as_told es ts ≡ es
all_as_told n past (e ∷ es) (t ∷ ts) is all =
    let parts = all_parts (IsAsRefused (past ++ e ∷ es)) (reply_entry n (party_of e) t) (entries_from reply_entry (n + 1) es ts) all in
    let next : AllByRecursion (IsAsRefused ((past ++ e ∷ []) ++ es)) (entries_from reply_entry (n + 1) es ts) = rw (append_assoc past (e ∷ []) es) parts.1 in
    let more = length-append past (e ∷ []) in
    ap (λ x. x ∷ as_told es ts) (one_as_told n past es e t is parts.0) ∙ ap (λ l. e ∷ l) (all_as_told (n + 1) (past ++ e ∷ []) es ts (omega arith) next)
all_as_told n past es ts is all = refl

pub served_is_exact : {T A : Type 0} → ServedIsExact T A
served_is_exact k parties events r played served =
    let same : as_told events played.told ≡ events = all_as_told 0 [] events played.told refl (subst (λ l. AllByRecursion (IsAsRefused events) l) played.replies served) in
    let told : played.told ≡ told_of k (opening_world k parties) events = played.made ∙ ap (λ es. told_of k (opening_world k parties) es) same in
    record {
      replies = played.replies ∙ ap (λ ts. entries_from reply_entry 0 events ts) told;
      effects = played.effects ∙ ap (λ ts. entries_from effect_entry 0 events ts) told;
      skipped = played.skipped ∙ ap (λ ts. entries_from skipped_entry 0 events ts) told;
      left = played.left ∙ ap (λ es. left_of k (world_after k (opening_world k parties) es)) same;
      peak = played.peak ∙ ap (λ es. peak_of k parties es) same;
    }
