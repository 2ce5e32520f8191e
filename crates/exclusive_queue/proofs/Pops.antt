-- What pops do to the number of items.
use Rattle.std.proofs.Common.{◌≡◌, ◌<◌, Bool, List, [], ◌∷◌, length, Result, Ok, Err, refl, arith, sym, ap, ◌∙◌, subst, inl, inr}
use Rattle.queue_steps.specs.{Effect.rest, Sequential.Owned, Sequential.Sequential, Sequential.pop_result, declared.errors.PopError.PopError, declared.model.Call.Call as call, declared.model.Reply.Reply as reply}

module _ {T : Type 0} where
  fewer : (closed : Bool) (items : List T) (x : T) → pop_result closed items ≡ Ok x → length (rest items) < length items
  fewer closed [] x is = cc
  fewer closed (y ∷ ys) x is = omega arith

  none : (closed : Bool) (items : List T) (e : PopError) → pop_result closed items ≡ Err e → rest items ≡ []
  none closed [] e is = refl
  none closed (y ∷ ys) e is = cc

  -- one that gives an item leaves fewer
  pub pop-fewer : (P R : Owned T) (result : Result T PopError) (x : T) → result ≡ Ok x → Sequential P call.Pop (reply.Pop result) R → length R.queue.items < length P.queue.items
  pop-fewer P R result x is (inl s) =
      let same : result ≡ pop_result P.queue.closed P.queue.items = cc in
      subst (λ xs. length xs < length P.queue.items) (sym (ap (λ o. o.queue.items) s.1)) (fewer P.queue.closed P.queue.items x (sym same ∙ is))
  pop-fewer P R result x is (inr s) = absurd s.0

  -- one that gives none leaves none
  pub pop-none : (P R : Owned T) (result : Result T PopError) (e : PopError) → result ≡ Err e → Sequential P call.Pop (reply.Pop result) R → R.queue.items ≡ []
  pop-none P R result e is (inl s) =
      let same : result ≡ pop_result P.queue.closed P.queue.items = cc in
      ap (λ o. o.queue.items) s.1 ∙ none P.queue.closed P.queue.items e (sym same ∙ is)
  pop-none P R result e is (inr s) = absurd s.0
