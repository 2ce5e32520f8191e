-- Workers that part and are joined, and what is there when all is done.
use Rattle.std.proofs.Common.{◌≡◌, ◌≢◌, ◌⊎◌, ℕ, zero, suc, ◌+◌, ◌<◌, ◌≤◌, ◌==◌, Bool, cond, List, [], refl, ap, sym, subst, ◌∙◌, inl, inr, arith}
use Rattle.std.{specs.List.count_by, proofs.lemmas.Bool.Decides.eqb_tells}
use lib.ListN.{get_elem?}
use Rattle.queue_steps.specs.{declared.model.Effect.Effect, Effect.after, Legal.IsSoundOwned, Shares.Share, Shares.SamePart, Shares.IsEntire, Sequential.Owned, Parties.IsView}
use Rattle.queue_steps.proofs.ShareLaws.{same_sym, same_trans, same_refl, halves_joined, entire_same}
use Rattle.concurrent_queue.specs.Shared.{QueueId, PartyView, Parts, Joins, Finishes}
use Rattle.law_parties.specs.Doings.{passes, done_by, hands_in_such, hands_out_such}
use Rattle.law_parties.proofs.{Doings.unchanged, Doings.did_both, Whole.all_kept}
use Rattle.use_shared.specs.Sharing.{none, one, below, Moves, IsFresh, AreParts, AreJoined, SeesNone, IsDone}
use Rattle.use_shared.specs.declared.tasks.executor.Worker.{Worker}

-- one of each number below n, and none of the others
one_of : (n i : ℕ) → ((n ≡ i) × (one n i ≡ 1)) ⊎ ((n ≢ i) × (one n i ≡ 0))
one_of n i =
    elim (eqb_tells n i) [
      | inl h ↦ inl (h.1, ap (λ t. cond {A = ℕ} t 1 0) h.0)
      | inr h ↦ inr (h.1, ap (λ t. cond {A = ℕ} t 1 0) h.0)
    ]

none_above : (n i : ℕ) → n ≤ i → below n i ≡ 0
none_above zero i le = refl
none_above (suc n) i le =
    let before = none_above n i (omega (arith, le)) in elim (one_of n i) [ inl h ↦ absurd (let same = h.0 in omega (arith, le, same)) | inr h ↦ let no = h.1 in omega (arith, before, no) ]

pub one_below : (n i : ℕ) → i < n → below n i ≡ 1
one_below zero i lt = absurd (omega (arith, lt))
one_below (suc n) i lt =
    elim (one_of n i) [
      | inl h ↦ let same = h.0 in let yes = h.1 in let before = none_above n i (omega (arith, same)) in omega (arith, before, yes)
      | inr h ↦ let other = h.0 in let no = h.1 in let before = one_below n i (omega (arith, lt, other)) in omega (arith, before, no)
    ]

module _ {T : Type 0} where
  -- a party that has done nothing
  idle : (v : PartyView T) (test : Effect T → Bool) → v.view.mine ≡ [] → done_by test v.view ≡ 0
  idle v test none = ap (λ (ps : List ℕ). count_by (λ p. passes test (get_elem? v.view.seen p)) ps) none

  -- what a party did before it was parted, the first of the two did, and the second did nothing
  kept : (v x y : PartyView T) (test : Effect T → Bool) → IsView v.queue.cap v.view → Parts v x y → done_by test x.view ≡ done_by test v.view
  kept v x y test is parts = unchanged v.queue.cap v.view x.view is parts.2.begins parts.2.mine.0 test

  fresh : (v x y : PartyView T) (test : Effect T → Bool) → Parts v x y → done_by test y.view ≡ 0
  fresh v x y test parts = idle y test parts.2.mine.1

  joined : (x y w : PartyView T) (test : Effect T → Bool) → y.queue ≡ x.queue → IsView x.queue.cap x.view → IsView y.queue.cap y.view → Joins x y w → done_by test w.view ≡ done_by test x.view + done_by test y.view
  joined x y w test same is_x is_y joins = did_both x.queue.cap x.view y.view w.view is_x (subst {A = QueueId} (λ z. IsView z.cap y.view) same is_y) joins.1 test

  -- the halves of a share, joined
  whole_share : (v x y ours theirs w : PartyView T) → Parts v x y → SamePart ours.view.share x.view.share → SamePart theirs.view.share y.view.share → Joins ours theirs w → SamePart w.view.share v.view.share
  whole_share v x y ours theirs w parts our their joins =
      subst {A = Share} (λ s. SamePart s v.view.share) (sym joins.1.share)
      (halves_joined v.view.share ours.view.share theirs.view.share
      (subst {A = Share} (SamePart ours.view.share) parts.2.share.0 our) (subst {A = Share} (SamePart theirs.view.share) parts.2.share.1 their))

module _ {A B : Type 0} (a : A → ℕ) (b : B → ℕ) where
  -- the shifts of both parts of a worker, joined
  pub joined_shift : (v x y ours theirs w : Worker A B) → AreParts v x y → Moves a b x ours none none → Moves a b y theirs none none → AreJoined ours theirs w → Moves a b v w none none
  joined_shift v x y ours theirs w parts our their joins = record {
    queues = (joins.tasks.0 ∙ our.queues.0 ∙ parts.tasks.0, joins.outputs.0 ∙ our.queues.1 ∙ parts.outputs.0);
    shares = (
      whole_share v.tasks x.tasks y.tasks ours.tasks theirs.tasks w.tasks parts.tasks our.shares.0 their.shares.0 joins.tasks,
      whole_share v.outputs x.outputs y.outputs ours.outputs theirs.outputs w.outputs parts.outputs our.shares.1 their.shares.1 joins.outputs,
    );
    moved = λ i.
        let one = our.moved i in let two = their.moved i in
        let t_in = at_tasks (hands_in_such (λ t. a t == i)) in let t_out = at_tasks (hands_out_such (λ t. a t == i)) in
        let o_in = at_outputs (hands_in_such (λ d. b d == i)) in let o_out = at_outputs (hands_out_such (λ d. b d == i)) in
        omega (arith, one, two, t_in.0, t_in.1, t_in.2, t_out.0, t_out.1, t_out.2, o_in.0, o_in.1, o_in.2, o_out.0, o_out.1, o_out.2);
  }
    where
      same_tasks : theirs.tasks.queue ≡ ours.tasks.queue
      same_tasks = their.queues.0 ∙ (parts.tasks.1 ∙ (sym parts.tasks.0 ∙ sym our.queues.0))

      same_outputs : theirs.outputs.queue ≡ ours.outputs.queue
      same_outputs = their.queues.1 ∙ (parts.outputs.1 ∙ (sym parts.outputs.0 ∙ sym our.queues.1))

      at_tasks : (test : Effect A → Bool) → (done_by test w.tasks.view ≡ done_by test ours.tasks.view + done_by test theirs.tasks.view) × (done_by test x.tasks.view ≡ done_by test v.tasks.view) × (done_by test y.tasks.view ≡ 0)
      at_tasks test = (joined ours.tasks theirs.tasks w.tasks test same_tasks joins.tasks_views.0 joins.tasks_views.1 joins.tasks, kept v.tasks x.tasks y.tasks test parts.views.0 parts.tasks, fresh v.tasks x.tasks y.tasks test parts.tasks)

      at_outputs : (test : Effect B → Bool) → (done_by test w.outputs.view ≡ done_by test ours.outputs.view + done_by test theirs.outputs.view) × (done_by test x.outputs.view ≡ done_by test v.outputs.view) × (done_by test y.outputs.view ≡ 0)
      at_outputs test = (joined ours.outputs theirs.outputs w.outputs test same_outputs joins.outputs_views.0 joins.outputs_views.1 joins.outputs, kept v.outputs x.outputs y.outputs test parts.views.1 parts.outputs, fresh v.outputs x.outputs y.outputs test parts.outputs)

  -- the party of the outputs was parted and is joined again
  pub rejoined : (v : Worker A B) (p : PartyView A) (x y w : PartyView B) → p ≡ v.tasks → Parts v.outputs x y → Joins x y w → IsView v.outputs.queue.cap v.outputs.view → IsView x.queue.cap x.view → IsView y.queue.cap y.view
      → Moves a b v (record { tasks = p; outputs = w }) none none
  rejoined v p x y w is parts joins is_v is_x is_y =
      subst {A = PartyView A} (λ q. Moves a b v (record { tasks = q; outputs = w }) none none) (sym is) (record {
        queues = (refl, joins.0 ∙ parts.0);
        shares = (same_refl v.tasks.view.share, whole_share v.outputs x y x y w parts (same_refl x.view.share) (same_refl y.view.share) joins);
        moved = λ i.
            let into = both (hands_in_such (λ d. b d == i)) in let out = both (hands_out_such (λ d. b d == i)) in omega (arith, into.0, into.1, into.2, out.0, out.1, out.2);
      })
    where
      both : (test : Effect B → Bool) → (done_by test w.view ≡ done_by test x.view + done_by test y.view) × (done_by test x.view ≡ done_by test v.outputs.view) × (done_by test y.view ≡ 0)
      both test = (joined x y w test (parts.1 ∙ sym parts.0) is_x is_y joins, kept v.outputs x y test is_v parts, fresh v.outputs x y test parts)

  -- a worker that had done nothing has put n tasks into the queue, and all shifts are over. The last pop finds no task, and the worker has all of the share then
  pub all_done : (n : ℕ) (first begun last : Worker A B) → IsFresh first → Moves a b first begun (below n) none → Moves a b begun last none none → SeesNone last.tasks → IsDone a b n last
  all_done n first begun last (tasks, outputs, all_tasks, all_outputs) begin shift none_left = record {
    whole = (whole_tasks, whole_outputs);
    empty = none_left whole_tasks;
    each = λ i lt.
        let one = begin.moved i in let two = shift.moved i in let here = one_below n i lt in
        let t_in = idle first.tasks (hands_in_such (λ t. a t == i)) tasks in let t_out = idle first.tasks (hands_out_such (λ t. a t == i)) tasks in
        let o_in = idle first.outputs (hands_in_such (λ d. b d == i)) outputs in let o_out = idle first.outputs (hands_out_such (λ d. b d == i)) outputs in
        omega (arith, one, two, here, t_in, t_out, o_in, o_out);
  }
    where
      whole_tasks : IsEntire last.tasks.view.share
      whole_tasks =
          entire_same first.tasks.view.share last.tasks.view.share
          (same_sym last.tasks.view.share first.tasks.view.share (same_trans last.tasks.view.share begun.tasks.view.share first.tasks.view.share shift.shares.0 begin.shares.0)) all_tasks

      whole_outputs : IsEntire last.outputs.view.share
      whole_outputs =
          entire_same first.outputs.view.share last.outputs.view.share
          (same_sym last.outputs.view.share first.outputs.view.share (same_trans last.outputs.view.share begun.outputs.view.share first.outputs.view.share shift.shares.1 begin.shares.1)) all_outputs

  -- then each number below n is that of one output
  pub outputs_once : (n : ℕ) (w : Worker A B) (tasks : Owned A) (outputs : Owned B) → IsDone a b n w → IsView w.tasks.queue.cap w.tasks.view → IsView w.outputs.queue.cap w.outputs.view → Finishes w.tasks tasks → IsSoundOwned tasks → Finishes w.outputs outputs → IsSoundOwned outputs
      → (i : ℕ) → i < n → count_by (λ d. b d == i) outputs.queue.items ≡ 1
  outputs_once n w tasks outputs done is_tasks is_outputs tasks_ended tasks_sound outputs_ended outputs_sound i lt =
      let t = all_kept w.tasks.queue.cap w.tasks.view (λ t. a t == i) is_tasks tasks_ended.1 (sym tasks_ended.2.coming ∙ tasks_sound.0.none_coming) in
      let empty : count_by (λ t. a t == i) (after w.tasks.queue.cap w.tasks.view.seen).items ≡ 0 = ap (count_by (λ t. a t == i)) done.empty in
      let o = all_kept w.outputs.queue.cap w.outputs.view (λ d. b d == i) is_outputs outputs_ended.1 (sym outputs_ended.2.coming ∙ outputs_sound.0.none_coming) in
      let items : count_by (λ d. b d == i) outputs.queue.items ≡ count_by (λ d. b d == i) (after w.outputs.queue.cap w.outputs.view.seen).items = ap (count_by (λ d. b d == i)) outputs_ended.2.items in
      let each = done.each i lt in omega (arith, t, empty, o, items, each)
