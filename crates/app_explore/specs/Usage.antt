-- Why the arguments ask for nothing, and what is written of it.
use Rattle.std.specs.Prelude.{◌≡◌, ◌≢◌, ℕ, List, ◌++◌, codes}
use Rattle.std.specs.Fmt.{decimal}
use Rattle.app_text.specs.KindNames.{IsCapacity}
use Rattle.app_explore.specs.declared.usage.UsageFault.{UsageFault, UsageFault as usage}

abbrev pub usage_text : UsageFault → List ℕ
usage_text usage.WordCount = codes "words: too few or too many"
usage_text usage.Kind = codes "kind: single, bounded:CAP or unbounded"
usage_text usage.Capacity = codes "capacity: 1 to 576460752303423488"
usage_text usage.Refusal = codes "refuse: with unbounded alone"
usage_text usage.Wanted = codes "after the kind: refuse, schedule N, lanes N or waits [N]"
usage_text usage.Number = codes "number: 1 to 18446744073709551615"

-- the word is the text of no number of this sort
abbrev pub IsNoNumber : (ℕ → Type 0) → List ℕ → Type 0
IsNoNumber IsNumber word = (n : ℕ) → IsNumber n → decimal n ≢ word

-- why the word names no kind: what follows `bounded:` is no capacity, or no kind has the name
abbrev pub IsKindFault : List ℕ → UsageFault → Type 0
IsKindFault word usage.Capacity = (digits : List ℕ) × (word ≡ codes "bounded:" ++ digits) × IsNoNumber IsCapacity digits
IsKindFault word usage.Kind = ((digits : List ℕ) → word ≢ codes "bounded:" ++ digits) × (word ≢ codes "single") × (word ≢ codes "unbounded")
IsKindFault word _ = ⊥
