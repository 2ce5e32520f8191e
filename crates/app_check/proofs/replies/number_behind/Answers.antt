use Rattle.std.proofs.Common.{◌∙◌, ◌≡◌, ◌++◌, ℕ, List, Option, Some, None, ap, sym}
use Rattle.std.{specs.Fmt.decimal, proofs.lemmas.Bool.Decides.Decides-eqb, proofs.lemmas.Slice.Eq.strip_prefix_is, proofs.lemmas.List.append_cancel_left}
use Rattle.app_text.specs.Reading.{IsReading, IsWord}
use Rattle.app_check.proofs.replies.number_behind.Goals as goal

-- a number is read behind these words as it is read alone
number_read : (words text rest : List ℕ) (found : Option ℕ) → text ≡ words ++ rest → IsReading IsWord decimal rest found → IsReading IsWord (λ n. words ++ decimal n) text found
number_read words text rest None is none = λ n word same. none n word (append_cancel_left words (decimal n) rest (same ∙ is))
number_read words text rest (Some n) is (word, same) = (word, ap (λ (l : List ℕ). words ++ l) same ∙ sym is)

pub returns-in_err-strip_prefix : goal.returns-in_err-strip_prefix
returns-in_err-strip_prefix c =
    let cut = strip_prefix_is Decides-eqb c.args.text.now c.args.words.now _ c.strip_prefix.ensures.cases in
    let none = rw c.in_err-strip_prefix.was at cut in
    rw c.from_residual.ensures (λ n word same. none (decimal n) (sym same))

pub returns : goal.returns
returns c =
    let cut = strip_prefix_is Decides-eqb c.args.text.now c.args.words.now _ c.strip_prefix.ensures.cases in
    number_read c.args.words.now c.args.text.now c.in_ok-strip_prefix.field-0.now _ (rw c.in_ok-strip_prefix.was at cut) c.parse_number.ensures
