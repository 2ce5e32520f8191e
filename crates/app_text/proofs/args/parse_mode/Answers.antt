use Rattle.std.proofs.Common.{◌≡◌, ℕ, List, [], ◌∷◌, map, string_bytes, subst, arith}
use Rattle.app_text.{specs.Reading.IsReading, specs.KindNames.mode_words, specs.KindNames.IsMode, proofs.ReadArgs.five}
use Rattle.app_text.proofs.args.parse_mode.Goals as goal

pub returns-in-len5 : goal.returns-in-len5
returns-in-len5 c =
    let args = five c.args.args.now c.mode-item-then-args-lt6.result c.kind-item-then-args-lt6.result c.pushers-item.result c.poppers-item.result c.items-item.result
    (omega (arith, c.in-len5.len_at_least, c.in-len5.len_below)) c.mode-item-then-args-lt6.is c.kind-item-then-args-lt6.is c.pushers-item.is c.poppers-item.is c.items-item.is in
    let words : c.as_str-in-len5.result.now ∷ c.as_str-in-len5-2.result.now ∷ c.as_str-in-len5-3.result.now ∷ c.as_str-in-len5-4.result.now ∷ c.as_str-in-len5-5.result.now ∷ [] ≡ map string_bytes c.args.args.now
    = rw args (cc (c.as_str-in-len5.ensures.value, c.as_str-in-len5-2.ensures.value, c.as_str-in-len5-3.ensures.value, c.as_str-in-len5-4.ensures.value, c.as_str-in-len5-5.ensures.value)) in
    subst {A = List (List ℕ)} (λ ws. IsReading IsMode mode_words ws c.load_mode.result) words c.load_mode.ensures
