use Rattle.std.proofs.Common.{◌≡◌, ◌≢◌, ◌∙◌, ◌++◌, ℕ, List, ap, codes, drop, length, sym}
use Rattle.std.{specs.Fmt.decimal, proofs.lemmas.Bool.Decides.Decides-eqb, proofs.lemmas.Slice.Eq.starts_is, proofs.lemmas.Str.Pattern.starts_text}
use Rattle.app_text.specs.{KindNames.IsCapacity, KindNames.IsKindName, KindNames.kind_text, declared.args.KindName.KindName, declared.args.KindName.KindName as kind}
use Rattle.app_explore.proofs.args.kind_of.Goals as goal

no_capacity : (word digits : List ℕ) → ((k : KindName) → IsKindName k → kind_text k ≢ word) → word ≡ codes "bounded:" ++ digits → (n : ℕ) → IsCapacity n → decimal n ≢ digits
no_capacity word digits none is n cap same = none (kind.Bounded n) cap (ap (λ d. codes "bounded:" ++ d) same ∙ sym is)

pub returns-in-None : goal.returns-in-None
returns-in-None c =
    let p : List ℕ = codes "bounded:" in
    let begins = starts_is Decides-eqb c.args.text.now p c.starts_with.result (starts_text c.starts_with.result p c.args.text.now c.starts_with.ensures.cases) in
    let is = begins.0 c.if-starts_with.true in
    (c.in-None.ensures, (drop (length p) c.args.text.now, is, no_capacity c.args.text.now (drop (length p) c.args.text.now) c.in-None.ensures is))

pub returns-in-None-2 : goal.returns-in-None-2
returns-in-None-2 c =
    let p : List ℕ = codes "bounded:" in
    let begins = starts_is Decides-eqb c.args.text.now p c.starts_with.result (starts_text c.starts_with.result p c.args.text.now c.starts_with.ensures.cases) in
    (c.in-None.ensures, ((λ digits is. let yes = begins.1 digits is in cc (yes, c.if-starts_with.false)), (λ is. c.in-None.ensures kind.Single tt (sym is)), (λ is. c.in-None.ensures kind.Unbounded tt (sym is))))
