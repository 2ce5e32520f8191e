-- A split that is done, and one that is refused.
use Rattle.std.proofs.Common.{◌≡◌, ℕ, true, sym, subst}
use Rattle.std.{specs.Prelude.Option, specs.Prelude.Some, specs.Prelude.None, specs.Prelude.Ok, specs.Prelude.Err, specs.Option.is_none, proofs.lemmas.Bool.false≢true}
use Rattle.queue_c.specs.{declared.end.End.End, declared.end.Refusal.Refusal, Ends.SplitsEnd, Handles.refusal_number, Handles.split_number, Handles.Splits}

pub refused : (party out out' after : Option End) (n : ℕ) (e f : End) (why : Refusal)
    → party ≡ Some e → is_none out ≡ true → out' ≡ out → after ≡ Some f → SplitsEnd e (Err why) f → n ≡ refusal_number why → Splits party out n after out'
refused party None out' after n e f why p_is vacant out_is after_is parts n_is =
    subst (λ (p : Option End). Splits p None n after out') (sym p_is) (subst (λ (a : Option End). Splits (Some e) None n a out') (sym after_is) (Err why, parts, n_is, out_is))
refused party (Some o) out' after n e f why p_is vacant out_is after_is parts n_is = absurd (false≢true vacant)

pub done : (party out out' after : Option End) (n : ℕ) (e f g : End)
    → party ≡ Some e → is_none out ≡ true → out' ≡ Some g → after ≡ Some f → SplitsEnd e (Ok g) f → n ≡ split_number (Ok g) → Splits party out n after out'
done party None out' after n e f g p_is vacant out_is after_is parts n_is =
    subst (λ (p : Option End). Splits p None n after out') (sym p_is) (subst (λ (a : Option End). Splits (Some e) None n a out') (sym after_is) (Ok g, parts, n_is, out_is))
done party (Some o) out' after n e f g p_is vacant out_is after_is parts n_is = absurd (false≢true vacant)
