-- What calls, partings and joinings add to the jobs that a party took.
use Rattle.std.proofs.Common.{◌≡◌, ℕ, zero, suc, ◌+◌, ◌<◌, ◌≤◌, ◌==◌, Bool, true, false, cond, None, List, [], ◌∷◌, ◌++◌, Ok, Err, refl, ap, sym, subst, ◌∙◌, inl, inr, append_assoc, append-nil, length, map, arith}
use Rattle.std.specs.List.{All, count_by}
use Rattle.std.proofs.lemmas.{Bool.Decides.eqb_tells, List.length-map, List.Elements.All-head, List.Elements.All-tail, List.Sums.sum_by-cons, List.Sums.sum_by-append}
use lib.ListN.{get_elem?}
use Rattle.queue_steps.specs.{declared.model.Effect.Effect, declared.model.Effect.Effect as effect, declared.model.Call.Call as call, declared.model.Reply.Reply as reply, declared.errors.PopError.PopError, Effect.after, Legal.IsSoundOwned, Sequential.Owned, Parties.IsView}
use Rattle.concurrent_queue.specs.Shared.{QueueId, PartyView, IsPartyOf, Calls, Finishes}
use Rattle.law_parties.specs.Doings.{passes, done_by, hands_in, hands_out, Acts, SawDrained}
use Rattle.law_parties.proofs.{Doings.acts, Doings.acts_on, Doings.single, Drained.still_drained, Drained.is_drained, Whole.all_there}
use Rattle.queue_crew.specs.{Work.Piece, Work.EachReports, Work.IsPartOf, Work.done_by_all, Work.HasWorked, declared.refusal.OnRefusal.OnRefusal as refusal}
use Rattle.use_shared.specs.{Work.times, Work.all_handed, Work.appended, Work.Took, Work.HasTaken, Work.Hauled, declared.work.Haul.Haul}

one_more : {X : Type 0} (test : X → Bool) (es : List X) (e : X) → count_by test (es ++ e ∷ []) ≡ count_by test es + cond (test e) 1 0
one_more test es e = sum_by-append (λ f. cond (test f) 1 0) es (e ∷ []) ∙ ap (λ k. count_by test es + k) (single test e)

-- a party that did these effects took and appended by them
took_by : (v w : PartyView ℕ) (es : List (Effect ℕ)) (jobs : List ℕ) → Acts v w es → ((job : ℕ) → (count_by (hands_out job) es ≡ times job jobs) × (count_by (hands_in job) es ≡ 0)) → Took v w jobs
took_by v w es jobs did are job =
    let out = did.did (hands_out job) in let came = did.did (hands_in job) in let one = (are job).0 in let none = (are job).1 in (omega (arith, out, one), omega (arith, came, none))

pub took_then : (u v w : PartyView ℕ) (jobs more : List ℕ) → Took u v jobs → Took v w more → Took u w (jobs ++ more)
took_then u v w jobs more a b job =
    let one = a job in let two = b job in
    let both : times job (jobs ++ more) ≡ times job jobs + times job more = sum_by-append (λ j. cond (j == job) 1 0) jobs more in
    (omega (arith, one.0, two.0, both), omega (arith, one.1, two.1))

pub took_one : (u v w : PartyView ℕ) (jobs more : List ℕ) (job : ℕ) → IsView v.queue.cap v.view → Took u v jobs → Calls v call.Pop (reply.Pop (Ok job)) w → more ≡ jobs ++ job ∷ [] → Took u w more
took_one u v w jobs more job is before popped noted =
    subst {A = List ℕ} (Took u w) (sym noted)
    (took_then u v w jobs (job ∷ []) before
    (took_by v w (effect.Take job ∷ []) (job ∷ []) (acts v w call.Pop (reply.Pop (Ok job)) (effect.Take job ∷ []) is popped popped.1.tells)
    (λ x. (single (hands_out x) (effect.Take job) ∙ sym (single (λ j. j == x) job), single (hands_in x) (effect.Take job)))))

pub took_no_more : (u v w : PartyView ℕ) (jobs : List ℕ) (why : PopError) → IsView v.queue.cap v.view → Took u v jobs → Calls v call.Pop (reply.Pop (Err why)) w → Took u w jobs
took_no_more u v w jobs why is before popped job =
    let did = acts v w call.Pop (reply.Pop (Err why)) [] is popped popped.1.tells in
    let one = before job in let out : done_by (hands_out job) w.view ≡ done_by (hands_out job) v.view + 0 = did.did (hands_out job) in
    let came : done_by (hands_in job) w.view ≡ done_by (hands_in job) v.view + 0 = did.did (hands_in job) in
    (omega (arith, one.0, out), omega (arith, one.1, came))

-- a close takes and appends nothing
pub close_takes_none : (v w : PartyView ℕ) (b : Bool) → IsView v.queue.cap v.view → Calls v call.Close (reply.Close b) w → Took v w []
close_takes_none v w true is closed =
    took_by v w (effect.Close ∷ []) [] (acts v w call.Close (reply.Close true) (effect.Close ∷ []) is closed closed.1.tells) (λ x. (single (hands_out x) effect.Close, single (hands_in x) effect.Close))
close_takes_none v w false is closed = took_by v w [] [] (acts v w call.Close (reply.Close false) [] is closed closed.1.tells) (λ x. (refl, refl))

-- the jobs of one worker more
pub handed_on : (hauls : List Haul) (haul : Haul) → all_handed (hauls ++ haul ∷ []) ≡ all_handed hauls ++ haul.handed.items
handed_on [] haul = append-nil haul.handed.items
handed_on (h ∷ hs) haul = ap (λ jobs. h.handed.items ++ jobs) (handed_on hs haul) ∙ sym (append_assoc h.handed.items (all_handed hs) haul.handed.items)

-- a party with no place has done nothing
nothing_done : (v : PartyView ℕ) → v.view.mine ≡ [] → (test : Effect ℕ → Bool) → done_by test v.view ≡ 0
nothing_done v fresh test = ap (λ (ps : List ℕ). count_by (λ p. passes test (get_elem? v.view.seen p)) ps) fresh

-- a party that had done nothing has taken what it took since
pub has_taken : (v w : PartyView ℕ) (jobs : List ℕ) → v.view.mine ≡ [] → Took v w jobs → HasTaken w jobs
has_taken v w jobs fresh took job =
    let t = took job in let out = nothing_done v fresh (hands_out job) in let came = nothing_done v fresh (hands_in job) in (omega (arith, t.0, out), omega (arith, t.1, came))

-- what the workers' parties did, from one worker on, where each haul is finished: they took the jobs of all hauls
hauled : (n : ℕ) (pieces : List (Piece ℕ Haul)) → EachReports Hauled n pieces → All (λ haul. haul.finished ≡ true) (map (λ p. p.post) pieces) → (job : ℕ)
    → (done_by_all (hands_out job) pieces ≡ times job (all_handed (map (λ p. p.post) pieces))) × (done_by_all (hands_in job) pieces ≡ 0)
hauled n [] told all job = (refl, refl)
hauled n (p ∷ ps) told all job =
    let one = (told.0 (All-head (λ haul. haul.finished ≡ true) p.post (map (λ x. x.post) ps) all)).0 job in
    let others = hauled (n + 1) ps told.1 (All-tail (λ haul. haul.finished ≡ true) p.post (map (λ x. x.post) ps) all) job in
    let outs = sum_by-cons (λ (x : Piece ℕ Haul). done_by (hands_out job) x.party.view) p ps in
    let ins = sum_by-cons (λ (x : Piece ℕ Haul). done_by (hands_in job) x.party.view) p ps in
    let lists : times job (p.post.handed.items ++ all_handed (map (λ x. x.post) ps)) ≡ times job p.post.handed.items + times job (all_handed (map (λ x. x.post) ps)) =
    sum_by-append (λ j. cond (j == job) 1 0) p.post.handed.items (all_handed (map (λ x. x.post) ps)) in
    (omega (arith, one.0, others.0, outs, lists), omega (arith, one.1, others.1, ins))

-- so the party that all have become took these, beside what the first party did
pub all_took : (q : QueueId) (started : Bool) (v all : PartyView ℕ) (hauls : List Haul) → HasWorked Hauled q refusal.GoOn started v all hauls → All (λ haul. haul.finished ≡ true) hauls → Took v all (all_handed hauls)
all_took q started v all hauls worked finished job =
    let each = hauled 0 worked.pieces worked.reported (subst (All (λ haul. haul.finished ≡ true)) worked.posts_are finished) job in
    let jobs : times job (all_handed hauls) ≡ times job (all_handed (map (λ p. p.post) worked.pieces)) = ap (λ hs. times job (all_handed hs)) worked.posts_are in
    let outs = worked.did (hands_out job) in let ins = worked.did (hands_in job) in
    let out_before : done_by (hands_out job) worked.kept.view ≡ done_by (hands_out job) v.view + 0 = worked.is_kept.did (hands_out job) in
    let in_before : done_by (hands_in job) worked.kept.view ≡ done_by (hands_in job) v.view + 0 = worked.is_kept.did (hands_in job) in
    (omega (arith, each.0, jobs, outs, out_before), omega (arith, each.1, ins, in_before))

-- and it has seen the queue closed and empty, as the first worker has
drained_by : (q : QueueId) (all : PartyView ℕ) (pieces : List (Piece ℕ Haul)) → IsPartyOf all q → EachReports Hauled 0 pieces → All (λ haul. haul.finished ≡ true) (map (λ p. p.post) pieces)
    → All (λ p. IsPartOf q p.party all) pieces → 0 < length pieces → SawDrained all
drained_by q all [] of told finished within some = absurd (omega (arith, some))
drained_by q all (p ∷ ps) of told finished within some =
    let drained = (told.0 (All-head (λ haul. haul.finished ≡ true) p.post (map (λ x. x.post) ps) finished)).1 in
    let part = All-head (λ (x : Piece ℕ Haul). IsPartOf q x.party all) p ps within in
    still_drained p.party all (of ∙ sym part.0) part.1 drained

pub all_drained : (q : QueueId) (started : Bool) (v all : PartyView ℕ) (hauls : List Haul) → HasWorked Hauled q refusal.GoOn started v all hauls → All (λ haul. haul.finished ≡ true) hauls → 0 < length hauls
    → SawDrained all
all_drained q started v all hauls worked finished some =
    let posts = worked.posts_are in
    let many : length hauls ≡ length worked.pieces = ap length posts ∙ length-map worked.pieces (λ p. p.post) in
    drained_by q all worked.pieces worked.queue worked.reported (subst (All (λ haul. haul.finished ≡ true)) posts finished) worked.within (omega (arith, some, many))

cond_one : (b : Bool) → b ≡ true → cond {A = ℕ} b 1 0 ≡ 1
cond_one true e = refl
cond_one false e = cc

cond_none : (b : Bool) → b ≡ false → cond {A = ℕ} b 1 0 ≡ 0
cond_none true e = cc
cond_none false e = refl

-- how often a job is appended
in_above : (n job : ℕ) → n ≤ job → count_by (hands_in job) (appended n) ≡ 0
in_above zero job le = refl
in_above (suc n) job le =
    let before = in_above n job (omega (arith, le)) in let more = one_more (hands_in job) (appended n) (effect.Append n) in
    elim (eqb_tells n job) [ inl h ↦ absurd (omega (arith, le, h.1)) | inr h ↦ let none = cond_none (n == job) h.0 in omega (arith, before, more, none) ]

in_below : (n job : ℕ) → job < n → count_by (hands_in job) (appended n) ≡ 1
in_below zero job lt = absurd (omega (arith, lt))
in_below (suc n) job lt =
    let more = one_more (hands_in job) (appended n) (effect.Append n) in
    elim (eqb_tells n job) [
      | inl h ↦ let one = cond_one (n == job) h.0 in let before = in_above n job (omega (arith, h.1)) in omega (arith, before, more, one)
      | inr h ↦ let none = cond_none (n == job) h.0 in
          let before = in_below n job (let ne = h.1 in omega (arith, lt, ne)) in omega (arith, before, more, none)
    ]

none_out : (n job : ℕ) → count_by (hands_out job) (appended n) ≡ 0
none_out zero job = refl
none_out (suc n) job = let before = none_out n job in let more = one_more (hands_out job) (appended n) (effect.Append n) in omega (arith, before, more)

-- a party that had done nothing appended the jobs, closed the queue, and is whole again after the workers have taken theirs
pub each_once : (n : ℕ) (first full closed all : PartyView ℕ) (handed : List ℕ) (left : Owned ℕ) → first.view.mine ≡ [] → Acts first full (appended n) → Took full closed [] → Took closed all handed
    → IsView all.queue.cap all.view → Finishes all left → IsSoundOwned left → (job : ℕ) → job < n → times job handed + times job left.queue.items ≡ 1
each_once n first full closed all handed left fresh put shut took is ended sound job lt =
    let put_in = put.did (hands_in job) in let put_out = put.did (hands_out job) in
    let zero_in = nothing_done first fresh (hands_in job) in let zero_out = nothing_done first fresh (hands_out job) in
    let one = in_below n job lt in let none = none_out n job in
    let s = shut job in let t = took job in
    let calm : (after all.queue.cap all.view.seen).coming ≡ None = sym ended.2.coming ∙ sound.0.none_coming in
    let kept = all_there all.queue.cap all.view job is ended.1 calm in
    let items : times job left.queue.items ≡ times job (after all.queue.cap all.view.seen).items = ap (times job) ended.2.items in
    let empty : times job [] ≡ 0 = refl in
    omega (arith, put_in, put_out, zero_in, zero_out, one, none, s.0, s.1, t.0, t.1, kept, items, empty)

-- one job more is appended
pub append_more : (v u w : PartyView ℕ) (n : ℕ) (done : Unit {0}) → IsView u.queue.cap u.view → Acts v u (appended n) → Calls u (call.Push n) (reply.Push (Ok done)) w → Acts v w (appended (n + 1))
append_more v u w n done is before pushed =
    let one : n + 1 ≡ suc n = omega arith in
    subst {A = ℕ} (λ k. Acts v w (appended k)) (sym one)
    (acts_on v u w (appended n) (effect.Append n ∷ []) before (acts u w (call.Push n) (reply.Push (Ok done)) (effect.Append n ∷ []) is pushed pushed.1.tells))

-- then no job is left
pub none_left : (p : PartyView ℕ) (left : Owned ℕ) → IsView p.queue.cap p.view → SawDrained p → Finishes p left → left.queue.items ≡ []
none_left p left is drained ended = ended.2.items ∙ (is_drained p is.legal drained).0
