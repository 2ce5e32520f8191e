-- What the calls of a ring do to the log that it keeps.
use Rattle.std.proofs.Common.{◌≡◌, ℕ, ◌+◌, ◌<◌, ◌≤◌, true, false, List, [], ◌∷◌, ◌++◌, length, Option, Some, None, refl, ap, sym, subst, ◌∙◌, arith, length-append, append-nil, append_assoc, add-zero}
use Rattle.std.specs.Prelude.{IfSome}
use Rattle.std.specs.Option.{option_to_list, unwrap_or}
use Rattle.queue_steps.specs.declared.{sizes.TheConstants.LIMIT}
use Rattle.queue_steps.specs.{State.is_slot_cap, Sequential.Owned, Sequential.counted, Legal.IsSound, Legal.IsSoundOwned, Legal.IsWithin}
use Rattle.use_owner.specs.{Log.Held, Log.newest, Log.with_all, Log.Appends, LogRings.capacity_of, LogRings.held_by, LogRings.IsLog}
use Rattle.use_owner.proofs.Newest.{newest_all, newest_on, newest_one}

module _ {T : Type 0} where
  abbrev log_of : ℕ → List T → ℕ → Held T
  log_of c xs n = record { capacity = c; entries = xs; appended = n }

  same_log : (c m n : ℕ) (xs ys : List T) → xs ≡ ys → m ≡ n → log_of c xs m ≡ log_of c ys n
  same_log c m n xs ys e f = λ i. log_of c (e i) (f i)

  -- how many items there are
  within : (P : Owned T) → IsLog P → IsSound P.queue → length P.queue.items ≤ capacity_of P
  within P log sound = (subst (λ cap. IsWithin cap (length P.queue.items)) log.capped sound.within).1

  -- a log without more entries is itself
  pub log_itself : (P : Owned T) → IsLog P → IsSound P.queue → held_by P ≡ with_all (held_by P) []
  log_itself P log sound =
      let all : P.queue.items ++ [] ≡ P.queue.items = append-nil P.queue.items in
      let le = within P log sound in
      same_log (capacity_of P) _ _ _ _ (sym (ap (newest (capacity_of P)) all ∙ newest_all (capacity_of P) P.queue.items le)) (sym (add-zero P.queue.accepted))

  -- one entry more behind some
  pub log_on : (old log new : Held T) (gone : Option T) (xs ys : List T) (x : T) → log ≡ with_all old xs → Appends log x gone new → ys ≡ xs ++ x ∷ [] → new ≡ with_all old ys
  log_on old log new out xs ys x before next more =
      let many = length-append xs (x ∷ []) in
      let n : (old.appended + length xs) + 1 ≡ old.appended + length (xs ++ x ∷ []) = omega arith in
      let items : newest old.capacity (newest old.capacity (old.entries ++ xs) ++ x ∷ []) ≡ newest old.capacity (old.entries ++ (xs ++ x ∷ [])) =
      newest_on old.capacity (old.entries ++ xs) x ∙ ap (newest old.capacity) (append_assoc old.entries xs (x ∷ [])) in
      next.0 ∙ (ap (λ (l : Held T). with_all l (x ∷ [])) before ∙ (same_log old.capacity _ _ _ _ items n ∙ ap (with_all old) (sym more)))

  -- a capacity of two or more is not one
  counts : (P : Owned T) → IsLog P → counted P.queue ≡ P.queue.accepted + 1
  counts P log =
      let single : is_slot_cap P.queue.cap ≡ false = rw log.capped (let many = log.many in grind arith) in
      rw single refl

  -- the ring as a call leaves it keeps a log too
  kept : (P R : Owned T) → IsLog P → R.queue.cap ≡ P.queue.cap → (R.queue.closed ≡ true → R.queue.accepted ≡ LIMIT) → (capacity_of R ≡ capacity_of P) × IsLog R
  kept P R log cap spent =
      let same : capacity_of R ≡ capacity_of P = ap (λ c. unwrap_or c 0) cap in
      (same, record { capped = cap ∙ (log.capped ∙ ap Some (sym same)); many = subst (λ (n : ℕ). 1 < n) (sym same) log.many; shut_when_spent = spent })

  -- a forced push that is accepted
  pub appends : (P R : Owned T) (v : T) (gone : Option T) → IsLog P → IsSoundOwned R → R.queue.cap ≡ P.queue.cap
      → (option_to_list gone ++ R.queue.items ≡ P.queue.items ++ v ∷ []) × (R.queue.accepted ≡ counted P.queue) × (R.queue.closed ≡ false)
      → IfSome gone (λ front. P.queue.cap ≡ Some (length P.queue.items)) → IsLog R × Appends (held_by P) v gone (held_by R)
  appends P R v gone log sound cap ok full =
      let stays = kept P R log cap (λ e. absurd (let open_still = ok.2 in cc)) in
      let most = within R stays.1 sound.0 in
      let items = newest_one (capacity_of R) R.queue.items (P.queue.items ++ v ∷ []) gone ok.0 most (fills gone ok.0 full stays.0) in
      (stays.1, (λ i. log_of (stays.0 i) ((items ∙ ap (λ (n : ℕ). newest n (P.queue.items ++ v ∷ [])) stays.0) i) ((ok.1 ∙ counts P log) i), ok.0))
    where
      fills : (gone : Option T) → option_to_list gone ++ R.queue.items ≡ P.queue.items ++ v ∷ [] → IfSome gone (λ front. P.queue.cap ≡ Some (length P.queue.items)) → capacity_of R ≡ capacity_of P
          → IfSome gone (λ front. length R.queue.items ≡ capacity_of R)
      fills None is full same = tt
      fills (Some x) is full same =
          let many : length (x ∷ R.queue.items) ≡ length (P.queue.items ++ v ∷ []) = ap length is in
          let more = length-append P.queue.items (v ∷ []) in
          let cap : capacity_of P ≡ length P.queue.items = ap (λ c. unwrap_or c 0) full in
          omega arith
