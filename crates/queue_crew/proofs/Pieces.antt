-- What each thread of a crew adds to what its party has become.
use Rattle.std.proofs.Common.{◌≡◌, ℕ, ◌+◌, Bool, true, false, List, [], ◌∷◌, ◌++◌, length, reverse, refl, ap, sym, subst, ◌∙◌, arith, add-zero, length-append}
use Rattle.std.proofs.lemmas.List.{reverse-append, Elements.All-nil, Elements.All-cons, Elements.All-weaker, Sums.sum_by-cons}
use Rattle.queue_steps.specs.{Shares.Share, Shares.SamePart, Parties.IsView}
use Rattle.queue_steps.proofs.ShareLaws.{halves_joined}
use Rattle.shared_parties.proofs.Histories.{prefix_trans}
use Rattle.concurrent_queue.specs.Shared.{QueueId, PartyView, IsPartyOf, Parts, Joins}
use Rattle.law_parties.specs.Doings.{done_by}
use Rattle.law_parties.proofs.Doings.{unchanged, did_both}
use Rattle.queue_crew.specs.{Work.Piece, Work.IsPartOf, Work.IsParted, Work.IsKept, Work.HasWorked, Coming.Came, declared.refusal.OnRefusal.OnRefusal, declared.refusal.OnRefusal.OnRefusal as refusal}

module _ {T : Type 0} where
  -- of the two that a party is parted into the first goes on with what it had done
  parted_first : (v a b : PartyView T) → IsView v.queue.cap v.view → Parts v a b → IsParted v a
  parted_first v a b is parts = record {
    queue = parts.0;
    begins = parts.2.begins;
    mine = parts.2.mine.0;
    did = λ test. unchanged v.queue.cap v.view a.view is parts.2.begins parts.2.mine.0 test ∙ sym (add-zero (done_by test v.view));
  }

  parted_on : (u v w : PartyView T) → IsParted u v → IsParted v w → IsParted u w
  parted_on u v w a b = record {
    queue = b.queue ∙ a.queue;
    begins = prefix_trans u.view.seen v.view.seen w.view.seen a.begins b.begins;
    mine = b.mine ∙ a.mine;
    did = λ test. let one = a.did test in let two = b.did test in omega (arith, one, two);
  }

  kept_on : (on_refusal : OnRefusal) (all_started : Bool) (u v w : PartyView T) → IsParted u v → IsKept on_refusal all_started v w → IsKept on_refusal all_started u w
  kept_on refusal.CloseQueue false u v w a (m, b, closed) = (m, parted_on u v m a b, closed)
  kept_on refusal.CloseQueue true u v w a b = parted_on u v w a b
  kept_on refusal.GoOn started u v w a b = parted_on u v w a b

module _ {T Post : Type 0} (reports : ℕ → PartyView T → Post → Type 0) (q : QueueId) (on_refusal : OnRefusal) (all_started : Bool) where
  -- before any thread
  pub came_none : (n : ℕ) (v kept : PartyView T) (posts : List Post)
      → IsPartyOf kept q → SamePart kept.view.share v.view.share → IsKept on_refusal all_started v kept → posts ≡ [] → Came reports q on_refusal all_started n 0 v kept posts
  came_none n v kept posts of share is_kept none = record {
    queue = of;
    share = share;
    kept = kept;
    is_kept = is_kept;
    pieces = [];
    made_are = ap length none;
    posts_are = ap reverse none;
    reported = tt;
    did = λ test. sym (add-zero (done_by test kept.view));
    joined = refl;
    within = All-nil (λ (p : Piece T Post). IsPartOf q p.party kept);
  }

  -- a thread's party, which had done nothing, is joined, and what the thread brought is added
  pub came_more : (n made : ℕ) (v a b all back new : PartyView T) (post : Post) (posts more : List Post)
      → IsView v.queue.cap v.view → Parts v a b → Came reports q on_refusal all_started (n + 1) made a all posts
      → IsPartyOf back q → SamePart back.view.share b.view.share → reports n back post
      → IsView all.queue.cap all.view → IsView back.queue.cap back.view → Joins all back new → more ≡ posts ++ post ∷ [] → Came reports q on_refusal all_started n (made + 1) v new more
  came_more n made v a b all back new post posts more is parts came of share told is_all is_back joins added = record {
    queue = joins.0 ∙ came.queue;
    share =
        subst {A = Share} (λ s. SamePart s v.view.share) (sym joins.1.share)
        (halves_joined v.view.share all.view.share back.view.share
        (subst {A = Share} (SamePart all.view.share) parts.2.share.0 came.share) (subst {A = Share} (SamePart back.view.share) parts.2.share.1 share));
    kept = came.kept;
    is_kept = kept_on on_refusal all_started v a came.kept (parted_first v a b is parts) came.is_kept;
    pieces = piece ∷ came.pieces;
    made_are = ap length added ∙ (length-append posts (post ∷ []) ∙ ap (λ (k : ℕ). k + 1) came.made_are);
    posts_are = ap reverse added ∙ (reverse-append posts (post ∷ []) ∙ ap (λ (l : List Post). post ∷ l) came.posts_are);
    reported = (told, came.reported);
    did = λ test.
        let both = did_both all.queue.cap all.view back.view new.view is_all (subst {A = QueueId} (λ z. IsView z.cap back.view) (of ∙ sym came.queue) is_back) joins.1 test in
        let before = came.did test in
        let sum = sum_by-cons (λ (p : Piece T Post). done_by test p.party.view) piece came.pieces in omega (arith, both, before, sum);
    joined = (all, came.joined, joins);
    within =
        All-cons (λ (p : Piece T Post). IsPartOf q p.party new) piece came.pieces (of, joins.1.begins.1)
        (All-weaker (λ (p : Piece T Post). IsPartOf q p.party all) (λ (p : Piece T Post). IsPartOf q p.party new)
        (λ p is_part. (is_part.0, prefix_trans p.party.view.seen all.view.seen new.view.seen is_part.1 joins.1.begins.0)) came.pieces came.within);
  }
    where
      piece : Piece T Post
      piece = record { party = back; post = post }

  -- all threads, with the posts in their order
  pub has_worked : (made : ℕ) (v all : PartyView T) (posts turned : List Post)
      → Came reports q on_refusal all_started 0 made v all posts → turned ≡ reverse posts → HasWorked reports q on_refusal all_started v all turned
  has_worked made v all posts turned came is = record {
    queue = came.queue;
    share = came.share;
    kept = came.kept;
    is_kept = came.is_kept;
    pieces = came.pieces;
    posts_are = is ∙ came.posts_are;
    reported = came.reported;
    did = came.did;
    joined = came.joined;
    within = came.within;
  }
