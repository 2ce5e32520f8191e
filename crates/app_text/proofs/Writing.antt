-- A text is written piece by piece.
use Rattle.std.proofs.Common.{◌≡◌, ◌∙◌, ℕ, ◌-◌, List, [], ◌++◌, length, take, drop, Option, Some, None, Result, Ok, Err, MatchResult, OnErr, refl, sym, ap, arith, append_assoc, append-nil}
use Rattle.std.proofs.lemmas.List.{take-append-drop, take_all, length-drop}
use Rattle.std.specs.Io.KnownBytes.{Appends, Keeps}
use Rattle.app_text.specs.{declared.faults.Fault.Fault, declared.faults.Fault.Fault as fault, Streams.IsBegun, Streams.LeavesRest, Streams.Puts}

Appends-none : (known : Option (List ℕ)) → Appends known known []
Appends-none None = tt
Appends-none (Some xs) = sym (append-nil xs)

Appends-more : (old mid new : Option (List ℕ)) (xs ys : List ℕ) → Appends old mid xs → Appends mid new ys → Appends old new (xs ++ ys)
Appends-more None mid new xs ys a b = tt
Appends-more (Some o) None new xs ys a b = absurd a
Appends-more (Some o) (Some m) None xs ys a b = absurd b
Appends-more (Some o) (Some m) (Some n) xs ys a b = b ∙ ap (λ l. l ++ ys) a ∙ append_assoc o xs ys

pub Appends-kept : (old mid new : Option (List ℕ)) (xs : List ℕ) → Appends old mid xs → Keeps mid new → Appends old new xs
Appends-kept None mid new xs a k = tt
Appends-kept (Some o) None new xs a k = absurd a
Appends-kept (Some o) (Some m) None xs a k = absurd k
Appends-kept (Some o) (Some m) (Some n) xs a k = k ∙ a

pub writes-first : (old : Option (List ℕ)) (text : List ℕ) → LeavesRest old old text text
writes-first old text = record { begun = []; text_is = refl; appends = Appends-none old }

pub writes-more : (old mid new : Option (List ℕ)) (text rest : List ℕ) (n : ℕ) → LeavesRest old mid text rest → Appends mid new (take n rest) → LeavesRest old new text (drop n rest)
writes-more old mid new text rest n w a = record {
  begun = w.begun ++ take n rest;
  text_is = w.text_is ∙ ap (λ l. w.begun ++ l) (sym (take-append-drop n rest)) ∙ sym (append_assoc w.begun (take n rest) (drop n rest));
  appends = Appends-more old mid new w.begun (take n rest) w.appends a;
}

pub writes-kept : (old mid new : Option (List ℕ)) (text rest : List ℕ) → LeavesRest old mid text rest → Keeps mid new → LeavesRest old new text rest
writes-kept old mid new text rest w k = record { begun = w.begun; text_is = w.text_is; appends = Appends-kept old mid new w.begun w.appends k }

-- a slice from a place on
pub slice_from : (n : ℕ) (xs : List ℕ) → take (length xs - n) (drop n xs) ≡ drop n xs
slice_from n xs = take_all (length xs - n) (drop n xs) (omega (arith, length-drop n xs))

-- so far a beginning of the text is written
pub writes-begun : (old now : Option (List ℕ)) (text rest : List ℕ) → LeavesRest old now text rest → IsBegun old now text
writes-begun old now text rest w = record { begun = w.begun; rest = rest; text_is = w.text_is; appends = w.appends }

-- what was held could not be written
pub put-failed : (old new : Option (List ℕ)) (held text : List ℕ) → IsBegun old new held → IsBegun old new (held ++ text)
put-failed old new held text b = record {
  begun = b.begun;
  rest = b.rest ++ text;
  text_is = ap (λ l. l ++ text) b.text_is ∙ append_assoc b.begun b.rest text;
  appends = b.appends;
}

-- behind what is written, a beginning of a text was
pub begun-behind : (old mid new : Option (List ℕ)) (done text : List ℕ) → Appends old mid done → IsBegun mid new text → IsBegun old new (done ++ text)
begun-behind old mid new done text a b = record {
  begun = done ++ b.begun;
  rest = b.rest;
  text_is = ap (λ l. done ++ l) b.text_is ∙ sym (append_assoc done b.begun b.rest);
  appends = Appends-more old mid new done b.begun a b.appends;
}

-- what was held was written, and then a text that is too long to be held
pub put-long : (old mid new : Option (List ℕ)) (held text kept : List ℕ) (r : Result Unit Fault) → Appends old mid held → kept ≡ []
    → MatchResult r (λ u. Appends mid new text) (λ why. why ≡ fault.OutputFailed) → OnErr r (IsBegun mid new text) → Puts held text kept old new r
put-long old mid new held text kept (Ok u) a none wrote begun = rw none (record { begun = held ++ text; text_is = sym (append-nil (held ++ text)); appends = Appends-more old mid new held text a wrote })
put-long old mid new held text kept (Err why) a none failed begun = (failed, begun-behind old mid new held text a begun)

-- a text was put behind another, and then a third behind both
pub rest-then : (old mid new : Option (List ℕ)) (done held text kept : List ℕ) → LeavesRest old mid done held → LeavesRest mid new (held ++ text) kept → LeavesRest old new (done ++ text) kept
rest-then old mid new done held text kept a b = record {
  begun = a.begun ++ b.begun;
  text_is = ap (λ l. l ++ text) a.text_is ∙ append_assoc a.begun held text ∙ ap (λ l. a.begun ++ l) b.text_is ∙ sym (append_assoc a.begun b.begun kept);
  appends = Appends-more old mid new a.begun b.begun a.appends b.appends;
}

pub begun-then : (old mid new : Option (List ℕ)) (done held text : List ℕ) → LeavesRest old mid done held → IsBegun mid new (held ++ text) → IsBegun old new (done ++ text)
begun-then old mid new done held text a b =
    let both : IsBegun old new (a.begun ++ (held ++ text)) = begun-behind old mid new a.begun (held ++ text) a.appends b in
    let same : done ++ text ≡ a.begun ++ (held ++ text) = ap (λ l. l ++ text) a.text_is ∙ append_assoc a.begun held text in
    rw same both

-- a beginning of a text is one of a longer text
pub begun-more : (old new : Option (List ℕ)) (text more : List ℕ) → IsBegun old new text → IsBegun old new (text ++ more)
begun-more old new text more b = put-failed old new text more b

-- two texts are put, one behind the other
pub puts-both : (held first second mid kept : List ℕ) (old now new : Option (List ℕ)) (r : Result Unit Fault) → LeavesRest old now (held ++ first) mid → Puts mid second kept now new r → Puts held (first ++ second) kept old new r
puts-both held first second mid kept old now new (Ok u) a b = rw (← append_assoc held first second) (rest-then old now new (held ++ first) mid second kept a b)
puts-both held first second mid kept old now new (Err why) a b = (b.0, rw (← append_assoc held first second) (begun-then old now new (held ++ first) mid second a b.1))

-- of two texts the first could not be put
pub puts-first : (held first second : List ℕ) (old new : Option (List ℕ)) → IsBegun old new (held ++ first) → IsBegun old new (held ++ (first ++ second))
puts-first held first second old new b = rw (← append_assoc held first second) (begun-more old new (held ++ first) second b)

-- what was left is written: the text is
pub rest-all : (old mid new : Option (List ℕ)) (text held : List ℕ) → LeavesRest old mid text held → Appends mid new held → Appends old new text
rest-all old mid new text held a wrote = rw a.text_is (Appends-more old mid new a.begun held a.appends wrote)

-- of what was left a beginning is written
pub rest-begun : (old mid new : Option (List ℕ)) (text held : List ℕ) → LeavesRest old mid text held → IsBegun mid new held → IsBegun old new text
rest-begun old mid new text held a begun = rw a.text_is (begun-behind old mid new a.begun held a.appends begun)

-- nothing is put
pub put_nothing : (old : Option (List ℕ)) (held : List ℕ) → LeavesRest old old (held ++ []) held
put_nothing old held = rw (append-nil held) (writes-first old held)

-- three texts are put
pub puts-three : (held first second third mid next kept : List ℕ) (old now later new : Option (List ℕ)) (r : Result Unit Fault) → LeavesRest old now (held ++ first) mid → LeavesRest now later (mid ++ second) next → Puts next third kept later new r
    → Puts held ((first ++ second) ++ third) kept old new r
puts-three held first second third mid next kept old now later new r a b p =
    puts-both held (first ++ second) third next kept old later new r (rw (← append_assoc held first second) (rest-then old now later (held ++ first) mid second next a b)) p

-- of three texts the first could not be put
pub first-of-three : (held first second third : List ℕ) (old new : Option (List ℕ)) → IsBegun old new (held ++ first) → IsBegun old new (held ++ ((first ++ second) ++ third))
first-of-three held first second third old new b = puts-first held (first ++ second) third old new (puts-first held first second old new b)

-- of three texts the second could not be put
pub second-of-three : (held first second third mid : List ℕ) (old now new : Option (List ℕ)) → LeavesRest old now (held ++ first) mid → IsBegun now new (mid ++ second) → IsBegun old new (held ++ ((first ++ second) ++ third))
second-of-three held first second third mid old now new a b = puts-first held (first ++ second) third old new (rw (← append_assoc held first second) (begun-then old now new (held ++ first) mid second a b))
