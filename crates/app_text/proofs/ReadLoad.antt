-- A load of threads is read back.
use Rattle.std.proofs.Common.{◌≡◌, ◌≢◌, ℕ, ◌*◌, ◌%◌, List, [], get_or, ap, subst, sym, ◌∙◌, arith}
use Rattle.std.{specs.Fmt.decimal, proofs.lemmas.Fmt.decimal_injective}
use Rattle.app_text.specs.{Reading.IsWord, KindNames.IsThreadCount, KindNames.IsItemCount, KindNames.IsLoad, KindNames.IsEvenLoad, KindNames.load_words, declared.load.Load.Load}

-- digits spell no number of this sort if the number that they spell is not of it
pub other_number : (P : ℕ → Type 0) (n : ℕ) (digits : List ℕ) → ((m : ℕ) → P m → IsWord m) → IsWord n → decimal n ≡ digits → (P n → ⊥) → (m : ℕ) → P m → decimal m ≢ digits
other_number P n digits words word spelled wrong m is same =
    let e : m ≡ n = decimal_injective m n (words m is) word (same ∙ sym spelled) in
    wrong (subst {A = ℕ} P e is)

pub thread_word : (n : ℕ) → IsThreadCount n → IsWord n
thread_word n is = omega (arith, is)

pub item_word : (n : ℕ) → IsItemCount n → IsWord n
item_word n is = omega (arith, is)

-- words that spell a load spell no even one if its poppers cannot share evenly
pub uneven : (read : Load) → IsLoad read → read.pushers * read.items % read.poppers ≢ 0 → (l : Load) → IsEvenLoad l → load_words l ≢ load_words read
uneven read is odd l even same =
    let e : l.pushers ≡ read.pushers = decimal_injective l.pushers read.pushers (thread_word _ even.0.1) (thread_word _ is.1) (ap (λ ws. get_or ws 1 []) same) in
    let f : l.poppers ≡ read.poppers = decimal_injective l.poppers read.poppers (thread_word _ even.0.2) (thread_word _ is.2) (ap (λ ws. get_or ws 2 []) same) in
    let g : l.items ≡ read.items = decimal_injective l.items read.items (item_word _ even.0.3) (item_word _ is.3) (ap (λ ws. get_or ws 3 []) same) in
    odd (rw e at (rw f at (rw g at even.1)))
