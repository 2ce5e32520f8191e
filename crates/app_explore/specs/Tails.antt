-- What is printed of an outcome behind its text, and of all outcomes.
use Rattle.std.specs.Prelude.{ℕ, ◌+◌, ◌==◌, if◌then◌else◌, List, [], ◌∷◌, ◌++◌, codes, flat_map, Option, Some, None, Vec}
use Rattle.machine_explore.specs.declared.search.figures.Figure.{Figure}
use Rattle.std.specs.Fmt.{decimal}

-- a number of schedules; at 2^128 and above there is none
abbrev pub count_text : Option ℕ → List ℕ
count_text (Some n) = decimal n
count_text None = codes "many"

abbrev pub with_space : ℕ → List ℕ
with_space n = 32 ∷ decimal n

-- the items of a vector, if there is one
abbrev pub items_in : {A : Type 0} → Option (Vec ℕ A) → Option (List ℕ)
items_in None = None
items_in (Some v) = Some v.items

-- the parties of an order of whole calls, if there is one
abbrev pub order_text : Option (List ℕ) → List ℕ
order_text (Some parties) = flat_map with_space parties
order_text None = codes " none"

abbrev pub tail_text : Option ℕ → ℕ → Option (List ℕ) → List ℕ
tail_text schedules steps order = codes " | schedules " ++ count_text schedules ++ codes " | steps " ++ decimal steps ++ codes " | order" ++ order_text order

-- what is told of an outcome beside its text
pub record Tail : Type 0 where
  pub schedules : Option ℕ
  pub steps : ℕ
  pub order : Option (List ℕ)

abbrev pub tail_line : Tail → List ℕ
tail_line t = tail_text t.schedules t.steps t.order

-- the same, of the figures that were found of it
abbrev pub figure_tail : {A : Type 0} → Figure A → Tail
figure_tail f = record { schedules = f.schedules; steps = f.steps; order = items_in f.order }

-- 1 where there is no order
abbrev pub none_of : Option (List ℕ) → ℕ
none_of None = 1
none_of (Some parties) = 0

-- how many of these have no order
abbrev pub without_order : List Tail → ℕ
without_order [] = 0
without_order (t ∷ ts) = none_of t.order + without_order ts

abbrev pub outcomes_text : ℕ → List ℕ
outcomes_text n = if n == 1 then codes "all " ++ decimal n ++ codes " outcome, " else codes "all " ++ decimal n ++ codes " outcomes, "

abbrev pub schedule_word : Option ℕ → List ℕ
schedule_word (Some n) = if n == 1 then codes " schedule" else codes " schedules"
schedule_word None = codes " schedules"

abbrev pub schedules_text : Option ℕ → List ℕ
schedules_text count = count_text count ++ schedule_word count

abbrev pub alone_text : ℕ → List ℕ
alone_text alone = codes ", most steps alone " ++ decimal alone

abbrev pub unordered_text : ℕ → List ℕ
unordered_text count = codes ", " ++ decimal count ++ codes " with order none" ++ 10 ∷ []

abbrev pub last_text : ℕ → Option ℕ → ℕ → ℕ → List ℕ
last_text outcomes schedules alone unordered = outcomes_text outcomes ++ schedules_text schedules ++ alone_text alone ++ unordered_text unordered
