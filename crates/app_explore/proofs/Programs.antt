-- The lines of a program, read back.
use Rattle.std.proofs.Common.{◌≡◌, ◌≢◌, ℕ, ◌+◌, ◌<◌, ◌≤◌, List, [], ◌∷◌, ◌++◌, codes, length, get_or, refl, sym, ◌∙◌, ap, subst, arith, append_assoc, length-append, IfOk, Result, Ok, Err}
use Rattle.std.{proofs.lemmas.List.append-nil, proofs.lemmas.Fmt.decimal_digit, specs.Fmt.decimal, specs.List.AllByRecursion}
use Rattle.queue_steps.specs.declared.model.Call.{Call, Call as call}
use Rattle.app_text.specs.Lines.{lines_of}
use Rattle.app_explore.specs.{Parsing.IsParsing, Faults.IsCallsFault, Faults.IsPartyFault, Reads.BeginsProgram, Reads.IsFirstWrong, Reads.HasNoBefore}
use Rattle.app_explore.specs.declared.{limits.TheConstants.MOST_PARTIES, limits.TheConstants.MOST_CALLS, limits.TheConstants.MOST_CALLS_BEFORE, read_faults.LineFault.LineFault, read_faults.LineFault.LineFault as reason}
use Rattle.app_explore.specs.Programs.{calls_text, before_line, before_lines, party_line, party_lines, program_lines, IsCalls, IsPartyCalls, IsBefore, IsProgram}

-- why the text behind the party's number is that of no calls is why the line is not the party's
party_fault : (n : ℕ) (line spelled : List ℕ) (why : LineFault) → line ≡ decimal n ++ codes ":" ++ spelled → IsCallsFault MOST_CALLS spelled why → IsPartyFault n line why
party_fault n line spelled reason.Party is fault = absurd fault
party_fault n line spelled reason.TooManyParties is fault = absurd fault
party_fault n line spelled (reason.TooManyCalls most) is fault = (spelled, is, fault)
party_fault n line spelled reason.Call is fault = (spelled, is, fault)

-- a line that begins with the party's number is read by what is behind it
party_read : (n : ℕ) (line spelled : List ℕ) (found : Result (List (Call ℕ)) LineFault) → n < MOST_PARTIES → line ≡ (48 + n) ∷ 58 ∷ spelled → IsParsing (IsCalls MOST_CALLS) calls_text (IsCallsFault MOST_CALLS) spelled found → IsParsing (IsPartyCalls n) (party_line n) (IsPartyFault n) line found
party_read n line spelled (Err why) below is fault = ((λ calls p same. fault.0 calls p.1 (behind calls same)), party_fault n line spelled why front fault.1)
  where
    digit : decimal n ≡ (48 + n) ∷ []
    digit = decimal_digit n (omega arith)

    front : line ≡ decimal n ++ codes ":" ++ spelled
    front = rw digit is

    behind : (calls : List (Call ℕ)) → party_line n calls ≡ line → calls_text calls ≡ spelled
    behind calls same = let front : (48 + n) ∷ 58 ∷ calls_text calls ≡ line = rw digit at same in let both : (48 + n) ∷ 58 ∷ calls_text calls ≡ (48 + n) ∷ 58 ∷ spelled = front ∙ is in cc
party_read n line spelled (Ok calls) below is read = ((below, read.0), rw (decimal_digit n (omega arith)) (ap (λ t. (48 + n) ∷ 58 ∷ t) read.1 ∙ sym is))

pub party_found : {E : Type 0} (n : ℕ) (line spelled : List ℕ) (r : Result (Result (List (Call ℕ)) LineFault) E) → n < MOST_PARTIES → line ≡ (48 + n) ∷ 58 ∷ spelled
    → IfOk r (IsParsing (IsCalls MOST_CALLS) calls_text (IsCallsFault MOST_CALLS) spelled) → IfOk r (IsParsing (IsPartyCalls n) (party_line n) (IsPartyFault n) line)
party_found n line spelled (Ok found) below is read = party_read n line spelled found below is read
party_found n line spelled (Err e) below is read = tt

-- a line that does not begin so is no line of the party
pub party_missing : (n : ℕ) (line : List ℕ) → n < MOST_PARTIES → ((rest : List ℕ) → line ≢ (48 + n) ∷ 58 ∷ rest) → ((calls : List (Call ℕ)) → IsPartyCalls n calls → party_line n calls ≢ line) × IsPartyFault n line reason.Party
party_missing n line below none = (no_calls, λ spelled same. none spelled (rw (decimal_digit n (omega arith)) at same))
  where
    no_calls : (calls : List (Call ℕ)) → IsPartyCalls n calls → party_line n calls ≢ line
    no_calls calls is same = none (calls_text calls) (sym (rw (decimal_digit n (omega arith)) at same))

-- the parties so far, and the lines that are left
pub record IsReadTo (text rest : List ℕ) (parties : List (List (Call ℕ))) : Type 0 where
  pub each : AllByRecursion (IsCalls MOST_CALLS) parties
  pub few : length parties ≤ MOST_PARTIES
  pub lines : lines_of text ≡ party_lines 0 parties ++ lines_of rest

each_more : (ps : List (List (Call ℕ))) (p : List (Call ℕ)) → AllByRecursion (IsCalls MOST_CALLS) ps → IsCalls MOST_CALLS p → AllByRecursion (IsCalls MOST_CALLS) (ps ++ p ∷ [])
each_more [] p each is = (is, tt)
each_more (q ∷ qs) p each is = (each.0, each_more qs p each.1 is)

lines_more : (n k : ℕ) (ps : List (List (Call ℕ))) (p : List (Call ℕ)) (more : List (List ℕ)) → k ≡ n + length ps → party_lines n (ps ++ p ∷ []) ++ more ≡ party_lines n ps ++ party_line k p ∷ more
lines_more n k [] p more at = let same : n ≡ k = omega (arith, at) in ap (λ i. party_line i p ∷ more) same
lines_more n k (q ∷ qs) p more at = ap (λ ls. party_line n q ∷ ls) (lines_more (n + 1) k qs p more (omega (arith, at)))

-- one party more is read
pub read_more : (text rest line after : List ℕ) (parties : List (List (Call ℕ))) (p : List (Call ℕ)) → IsReadTo text rest parties → lines_of rest ≡ line ∷ lines_of after → IsPartyCalls (length parties) p × (party_line (length parties) p ≡ line) → IsReadTo text after (parties ++ p ∷ [])
read_more text rest line after parties p so_far first read = record {
  each = each_more parties p so_far.each read.0.1;
  few = let count = length-append parties (p ∷ []) in omega (arith, count, read.0.0);
  lines = so_far.lines ∙ ap (λ ls. party_lines 0 parties ++ ls) (first ∙ ap (λ l. l ∷ lines_of after) (sym read.1)) ∙ sym (lines_more 0 (length parties) parties p (lines_of after) (omega arith));
}

length-party_lines : (n : ℕ) (ps : List (List (Call ℕ))) → length (party_lines n ps) ≡ length ps
length-party_lines n [] = refl
length-party_lines n (p ∷ ps) = let rest = length-party_lines (n + 1) ps in omega (arith, rest)

-- some program begins with these lines
begins : (before : List (Call ℕ)) (parties : List (List (Call ℕ))) → IsBefore before → length parties ≤ MOST_PARTIES → AllByRecursion (IsCalls MOST_CALLS) parties → BeginsProgram (before_lines before ++ party_lines 0 parties)
begins before [] is few each = record {
  before = before;
  parties = (call.Pop ∷ []) ∷ [];
  is_program = record { is_before = is; some = omega arith; few = omega arith; each = ((omega arith, omega arith, (tt, tt)), tt) };
  more = party_lines 0 ((call.Pop ∷ []) ∷ []);
  lines_are = ap (λ ls. ls ++ party_lines 0 ((call.Pop ∷ []) ∷ [])) (sym (append-nil (before_lines before)));
}
begins before (p ∷ ps) is few each = record {
  before = before;
  parties = p ∷ ps;
  is_program = record { is_before = is; some = omega arith; few = few; each = each };
  more = [];
  lines_are = sym (append-nil (program_lines before (p ∷ ps)));
}

-- the line of the first party is no line of calls before
first_party : (p : List (Call ℕ)) (spelled : List ℕ) → party_line 0 p ≢ codes "before:" ++ spelled
first_party p spelled same =
    let front : 48 ∷ 58 ∷ calls_text p ≡ codes "before:" ++ spelled = rw (decimal_digit 0 (omega arith)) at same in
    let first : ◌≡◌ {A = ℕ} 48 98 = ap (λ t. get_or t 0 0) front in
    absurd (omega arith)

-- programs with the same lines, and with the same line of calls before or none, have the same lines behind
same_behind : (b before : List (Call ℕ)) (ps : List (List (Call ℕ))) (lines : List (List ℕ)) → (before ≡ [] → HasNoBefore lines) → program_lines b ps ≡ before_lines before ++ lines → party_lines 0 ps ≡ lines
same_behind [] [] ps lines single same = same
same_behind [] (c ∷ cs) [] lines single same = cc
same_behind [] (c ∷ cs) (p ∷ ps) lines single same = let head : party_line 0 p ≡ before_line (c ∷ cs) = cc in absurd (first_party p (calls_text (c ∷ cs)) head)
same_behind (d ∷ ds) [] ps [] single same = cc
same_behind (d ∷ ds) [] ps (line ∷ lines) single same =
    let head : before_line (d ∷ ds) ≡ line = cc (same) in absurd (single refl (calls_text (d ∷ ds)) (sym head))
same_behind (d ∷ ds) (c ∷ cs) ps lines single same = cc (same)

-- no program has the line behind those of these parties
no_party : (n k : ℕ) (ps parties : List (List (Call ℕ))) (line : List ℕ) (more : List (List ℕ)) → k ≡ n + length parties → n + length ps ≤ MOST_PARTIES → AllByRecursion (IsCalls MOST_CALLS) ps → party_lines n ps ≡ party_lines n parties ++ line ∷ more
    → ((calls : List (Call ℕ)) → IsPartyCalls k calls → party_line k calls ≢ line) → ⊥
no_party n k [] [] line more at few each same none = cc (same)
no_party n k [] (q ∷ qs) line more at few each same none = cc (same)
no_party n k (p ∷ ps) [] line more at few each same none =
    let here : party_line n p ≡ line = cc (same) in
    let number : n ≡ k = omega (arith, at) in
    none p (omega (arith, at, few), each.0) (subst {A = ℕ} (λ i. party_line i p ≡ line) number here)
no_party n k (p ∷ ps) (q ∷ qs) line more at few each same none =
    let behind : party_lines (n + 1) ps ≡ party_lines (n + 1) qs ++ line ∷ more = cc (same) in
    no_party (n + 1) k ps qs line more (omega (arith, at)) (omega (arith, few)) each.1 behind none

-- whether the first line is one of calls before does not hang on what is behind it
first_alike : (parties : List (List (Call ℕ))) (line : List ℕ) (after more : List (List ℕ)) → HasNoBefore (party_lines 0 parties ++ line ∷ after) → HasNoBefore (party_lines 0 parties ++ line ∷ more)
first_alike [] line after more h = h
first_alike (p ∷ ps) line after more h = h

-- a line that is not that of the next party is the first that is wrong
pub wrong_line : (text rest line after : List ℕ) (before : List (Call ℕ)) (parties : List (List (Call ℕ))) (n : ℕ) → IsBefore before → (before ≡ [] → HasNoBefore (lines_of text)) → IsReadTo text rest parties → lines_of rest ≡ line ∷ lines_of after
    → ((calls : List (Call ℕ)) → IsPartyCalls (length parties) calls → party_line (length parties) calls ≢ line) → n ≡ length (before_lines before) + length parties + 1 → IsFirstWrong (before_lines before ++ lines_of text) n
wrong_line text rest line after before parties n is single so_far first none number = record {
  begun = before_lines before ++ party_lines 0 parties;
  rest = line ∷ lines_of after;
  lines_are = ap (λ ls. before_lines before ++ ls) lines ∙ sym (append_assoc (before_lines before) (party_lines 0 parties) (line ∷ lines_of after));
  number = let count = length-append (before_lines before) (party_lines 0 parties) in let each = length-party_lines 0 parties in omega (arith, number, count, each);
  begins = begins before parties is so_far.few so_far.each;
  wrong = wrong;
}
  where
    lines : lines_of text ≡ party_lines 0 parties ++ line ∷ lines_of after
    lines = so_far.lines ∙ ap (λ ls. party_lines 0 parties ++ ls) first

    wrong : BeginsProgram ((before_lines before ++ party_lines 0 parties) ++ line ∷ []) → ⊥
    wrong b =
        let more : List (List ℕ) = party_lines 0 parties ++ line ∷ b.more in
        let same : program_lines b.before b.parties ≡ before_lines before ++ more
        = b.lines_are ∙ append_assoc (before_lines before ++ party_lines 0 parties) (line ∷ []) b.more ∙ append_assoc (before_lines before) (party_lines 0 parties) (line ∷ b.more) in
        let behind = same_behind b.before before b.parties more (λ e. first_alike parties line (lines_of after) b.more (subst {A = List (List ℕ)} HasNoBefore lines (single e))) same in
        no_party 0 (length parties) b.parties parties line b.more (omega arith) (let few = b.is_program.few in omega (arith, few)) b.is_program.each behind none

-- where no party's line is there, the one behind the last is missing
pub missing_line : (text rest : List ℕ) (before : List (Call ℕ)) (parties : List (List (Call ℕ))) (n : ℕ) → IsBefore before → IsReadTo text rest parties → lines_of rest ≡ [] → length parties ≡ 0 → n ≡ length (before_lines before) + 1 → IsFirstWrong (before_lines before ++ lines_of text) n
missing_line text rest before (p ∷ ps) n is so_far end none number = absurd (omega (arith, none))
missing_line text rest before [] n is so_far end none number = record {
  begun = before_lines before ++ [];
  rest = [];
  lines_are = ap (λ ls. before_lines before ++ ls) (so_far.lines ∙ end) ∙ sym (append-nil (before_lines before ++ []));
  number = let empty : List (List ℕ) = [] in let count = length-append (before_lines before) empty in omega (arith, number, count);
  begins = begins before [] is so_far.few so_far.each;
  wrong = λ b ps program same. let none : party_lines 0 ps ≡ [] = same_behind b before ps [] (λ e. tt) same in nothing ps program.some none;
}
  where
    nothing : (ps : List (List (Call ℕ))) → 0 < length ps → party_lines 0 ps ≡ [] → ⊥
    nothing [] some h = omega (arith, some)
    nothing (p ∷ ps) some h = cc (h)

-- the calls before are those of no program
pub wrong_before : (lines : List (List ℕ)) (line spelled : List ℕ) (after : List (List ℕ)) → lines ≡ line ∷ after → line ≡ codes "before:" ++ spelled → ((calls : List (Call ℕ)) → IsCalls MOST_CALLS_BEFORE calls → calls_text calls ≢ spelled) → IsFirstWrong lines 1
wrong_before lines line spelled after are is none = record {
  begun = [];
  rest = line ∷ after;
  lines_are = are;
  number = refl;
  begins = begins [] [] (omega arith, tt) (omega arith) tt;
  wrong = wrong;
}
  where
    no_calls : (b : List (Call ℕ)) (ps : List (List (Call ℕ))) (more : List (List ℕ)) → IsProgram b ps → program_lines b ps ≡ line ∷ more → ⊥
    no_calls [] [] more program same = cc (same)
    no_calls [] (p ∷ ps) more program same = let head : party_line 0 p ≡ line = cc (same) in first_party p spelled (head ∙ is)
    no_calls (c ∷ cs) ps more program same =
        let head : codes "before:" ++ calls_text (c ∷ cs) ≡ codes "before:" ++ spelled = let one : before_line (c ∷ cs) ≡ line = cc (same) in one ∙ is in
        let text : calls_text (c ∷ cs) ≡ spelled = cc (head) in
        none (c ∷ cs) (omega arith, program.is_before.0, program.is_before.1) text

    wrong : BeginsProgram (line ∷ []) → ⊥
    wrong b = no_calls b.before b.parties b.more b.is_program b.lines_are
