-- The words that ask for something.
use Rattle.std.specs.Prelude.{◌≡◌, ◌⊎◌, ℕ, ◌<◌, List, [], ◌∷◌, ◌++◌, codes, Bool, true, false, get_or}
use Rattle.std.specs.Fmt.{decimal}
use Rattle.app_text.specs.{KindNames.kind_text, KindNames.IsKindName, Reading.IsWord, declared.args.KindName.KindName, declared.args.KindName.KindName as kind}
use Rattle.app_explore.specs.{Usage.IsKindFault, Usage.IsNoNumber, declared.args.Request.Request, declared.args.Wanted.Wanted, declared.args.Wanted.Wanted as wanted, declared.usage.UsageFault.UsageFault, declared.usage.UsageFault.UsageFault as usage}

-- the word behind the kind that lets blocks be refused
abbrev pub refuse_words : Bool → List (List ℕ)
refuse_words true = codes "refuse" ∷ []
refuse_words false = []

abbrev pub wanted_words : Wanted → List (List ℕ)
wanted_words wanted.Outcomes = []
wanted_words (wanted.Schedule n) = codes "schedule" ∷ decimal n ∷ []
wanted_words (wanted.Lanes n) = codes "lanes" ∷ decimal n ∷ []
wanted_words wanted.Waits = codes "waits" ∷ []
wanted_words (wanted.Wait n) = codes "waits" ∷ decimal n ∷ []

abbrev pub request_words : Request → List (List ℕ)
request_words r = kind_text r.kind ∷ refuse_words r.refuses ++ wanted_words r.wanted

-- outcomes and waits are counted from 1
abbrev pub IsOutcomeNumber : ℕ → Type 0
IsOutcomeNumber n = IsWord n × (0 < n)

abbrev pub IsWanted : Wanted → Type 0
IsWanted wanted.Outcomes = Unit {0}
IsWanted (wanted.Schedule n) = IsOutcomeNumber n
IsWanted (wanted.Lanes n) = IsOutcomeNumber n
IsWanted wanted.Waits = Unit {0}
IsWanted (wanted.Wait n) = IsOutcomeNumber n

-- whether a queue of this kind asks for blocks while it runs
abbrev pub asks_for_blocks : KindName → Bool
asks_for_blocks kind.Unbounded = true
asks_for_blocks _ = false

-- where blocks may be refused, they are asked for
abbrev pub IsRequest : Request → Type 0
IsRequest r = IsKindName r.kind × (r.refuses ≡ true → asks_for_blocks r.kind ≡ true) × IsWanted r.wanted

-- the word is the name of something that is shown of a program
abbrev pub IsWantedName : List ℕ → Type 0
IsWantedName word = (word ≡ codes "schedule") ⊎ (word ≡ codes "lanes") ⊎ (word ≡ codes "waits")

-- why the word, with others behind it, asks for nothing: it is no such name, or the others are too few or too many
abbrev pub IsWantedNameFault : List ℕ → UsageFault → Type 0
IsWantedNameFault word usage.Wanted = IsWantedName word → ⊥
IsWantedNameFault word usage.WordCount = IsWantedName word
IsWantedNameFault word _ = ⊥

-- why the word is the number of no outcome and of no wait
abbrev pub IsOutcomeFault : List ℕ → UsageFault → Type 0
IsOutcomeFault word why = (why ≡ usage.Number) × IsNoNumber IsOutcomeNumber word

-- why the words ask for nothing
abbrev pub IsWantedFault : List (List ℕ) → UsageFault → Type 0
IsWantedFault words usage.Number = IsNoNumber IsOutcomeNumber (get_or words 1 [])
IsWantedFault words why = IsWantedNameFault (get_or words 0 []) why

-- the word names a kind of queue that asks for no block
abbrev pub NamesNoAsking : List ℕ → Type 0
NamesNoAsking word = (k : KindName) × IsKindName k × (kind_text k ≡ word) × (asks_for_blocks k ≡ false)

-- why the words are no request
abbrev pub IsRequestFault : List (List ℕ) → UsageFault → Type 0
IsRequestFault [] why = why ≡ usage.WordCount
IsRequestFault (word ∷ rest) usage.Kind = IsKindFault word usage.Kind
IsRequestFault (word ∷ rest) usage.Capacity = IsKindFault word usage.Capacity
IsRequestFault (word ∷ rest) usage.Refusal = NamesNoAsking word × (get_or rest 0 [] ≡ codes "refuse")
IsRequestFault (word ∷ rest) why = (refuses : Bool) × (words : List (List ℕ)) × (rest ≡ refuse_words refuses ++ words) × IsWantedFault words why
