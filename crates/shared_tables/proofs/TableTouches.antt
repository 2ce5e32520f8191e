-- A seat whose slot is touched is at the same call as before.
use Rattle.std.proofs.Common.{◌≡◌, ℕ, List, [], ◌∷◌, Option, refl, ap, sym, ◌∙◌, subst, inl, inr}
use Rattle.atomic_table.specs.Table.{rest}
use Rattle.queue_laws.specs.Common.Vocabulary.{Call, Op, Touch, Local}
use Rattle.shared_parties.specs.{declared.known.InCall.InCall, declared.known.Work.Work as work, Calling.touched_list, Calling.handed_by, Calling.lies_in, CallsAt.Ready, Called.call_of_work}
use Rattle.shared_tables.specs.{Seats.Seated, TableRule.TableOf, AtTable.CanTouch, AtTable.Touched, AtTable.Swapped, TableTurns.CanDo, TableTurns.CanOperate, TableTurns.call_at}

module _ {T : Type 0} (K : TableOf T) where
  pub can_touch : (m : Seated T) (l : Local ℕ) (u : Touch) (o : Op ℕ) (x : Option T) (c : InCall T) → CanDo K m l u o x c → CanTouch u m
  can_touch m l Touch.Nothing o x c can = tt
  can_touch m l (Touch.Put k) o x c can = let h = can.touched k refl in (h.0, (can.lends ∙ h.1) ∙ ap (λ z. (k, h.0) ∷ z) (sym (ap rest (can.lends ∙ h.1))))
  can_touch m l (Touch.Swap k) o x c can = let h = can.touched k refl in (h.0, (can.lends ∙ h.1) ∙ ap (λ z. (k, h.0) ∷ z) (sym (ap rest (can.lends ∙ h.1))))
  can_touch m l (Touch.Take k) o x c can = let h = can.touched k refl in (h.0, (can.lends ∙ h.1) ∙ ap (λ z. (k, h.0) ∷ z) (sym (ap rest (can.lends ∙ h.1))))

  -- a seat that has a slot is in the middle of its call
  in_call : (m : Seated T) (c : InCall T) (k : ℕ) (y : Option T) → Ready K.calls m.0 c → c.lends ≡ (k, y) ∷ [] → m.0.work ≡ work.Calls c
  in_call m c k y (inl is) lends = is
  in_call m c k y (inr first) lends = absurd (let f : [] ≡ (k, y) ∷ [] = sym first.lends ∙ lends in cc)

  head_or : ℕ × Option T → List (ℕ × Option T) → ℕ × Option T
  head_or d [] = d
  head_or d (x ∷ xs) = x

  -- what is so once the slot is touched
  pub record TouchedAt (k : Call Unit) (l : Local ℕ) (u : Touch) (o : Op ℕ) (x : Option T) (m m' : Seated T) (y : Option T) : Type 0 where
    pub same : call_at m' k l u o y ≡ call_at m k l u o x
    pub can : CanOperate K m' o (call_at m' k l u o y)
    pub handed : y ≡ handed_by u x (call_at m k l u o x).lends

  pub touched_at : (k : Call Unit) (l : Local ℕ) (u : Touch) (o : Op ℕ) (x : Option T) (m m' : Seated T) (y : Option T) → CanDo K m l u o x (call_at m k l u o x) → Touched u m x m' y → TouchedAt k l u o x m m' y
  unfolding head_or
  touched_at k l u o x m m' y can touched = by u can touched
    where
      swapped : (v : Touch) (i : ℕ) (z : Option T) → CanDo K m l v o x (call_at m k l v o x) → (call_at m k l v o x).lends ≡ (i, z) ∷ [] → ((xs : List (ℕ × Option T)) → touched_list v x xs ≡ (i, x) ∷ rest xs)
          → ((xs : List (ℕ × Option T)) → handed_by v x xs ≡ lies_in xs) → Swapped i m x m' y → TouchedAt k l v o x m m' y
      swapped v i z can lends list hand swap =
          let c = call_at m k l v o x in
          let at : m.0.work ≡ work.Calls c = in_call m c i z can.ready lends in
          let at' : m'.0.work ≡ work.Calls c = ap (λ (q : Seated T). q.0.work) swap.1 ∙ at in
          let same : call_at m' k l v o y ≡ c = ap (call_of_work (record { call = _; local = _; touch = _; op = _; carried = _; effects = _; places = _; since = _; before = _; share = _; lends = _ })) at' in
          let out : m'.1 ≡ (i, x) ∷ rest m.1 = ap (λ (q : Seated T). q.1) swap.1 in record {
            same = same;
            can = subst (CanOperate K m' o) (sym same) (
              inl at',
              out ∙ (ap (λ q. (i, x) ∷ rest q) can.lends ∙ (sym (list c.lends) ∙ sym (λ j. touched_list (can.touch j) (can.carried j) c.lends))),
              can.op,
              can.word,
            );
            handed = ap (λ (w : ℕ × Option T). w.1) (ap (head_or (i, z)) (sym swap.0 ∙ (can.lends ∙ lends))) ∙ (ap lies_in (sym lends) ∙ sym (hand c.lends));
          }

      by : (v : Touch) → CanDo K m l v o x (call_at m k l v o x) → Touched v m x m' y → TouchedAt k l v o x m m' y
      by Touch.Nothing can (same, kept) =
          let c = call_at m k l Touch.Nothing o x in
          let is : call_at m' k l Touch.Nothing o y ≡ c = λ i. call_at (same i) k l Touch.Nothing o (kept i) in record {
            same = is;
            can = subst (λ (z : Seated T × InCall T). CanOperate K z.0 o z.1) (λ i. (sym same i, sym is i))
                (can.ready, can.lends ∙ sym (ap (λ w. touched_list w c.carried c.lends) can.touch), can.op, can.word);
            handed = kept;
          }
      by (Touch.Put i) can swap = let h = can.touched i refl in swapped (Touch.Put i) i h.0 can h.1 (λ xs. refl) (λ xs. refl) swap
      by (Touch.Swap i) can swap = let h = can.touched i refl in swapped (Touch.Swap i) i h.0 can h.1 (λ xs. refl) (λ xs. refl) swap
      by (Touch.Take i) can swap = let h = can.touched i refl in swapped (Touch.Take i) i h.0 can h.1 (λ xs. refl) (λ xs. refl) swap
