-- A call that has had no effect, and whose party has no part in the cells, is given up: its seat is at nothing again, and all other calls stand as they stood.
use Rattle.std.proofs.Common.{◌≡◌, ◌≢◌, ℕ, List, [], ◌∷◌, ◌++◌, map, length, set, refl, ap, sym, ◌∙◌, subst, ⊎_elim}
use Rattle.std.proofs.lemmas.List.{append-nil}
use mathlib.Core.{Option.some, Logic.dite, List.IsPrefix}
use lib.{ListN.get_elem?, Seq.map-set}
use native.Mathlib.Decide.{ℕ_discrete}
use Rattle.atomic_table.proofs.Lists.{at_set, at_map, set_else, set_again}
use Rattle.queue_laws.specs.Common.Vocabulary.{Call, Reply, Effect}
use Rattle.queue_steps.specs.Parties.{View, StandAt, SharedCall}
use Rattle.queue_laws.proofs.Common.Runs.{cap_after, history_before}
use Rattle.shared_parties.specs.declared.known.{Known.Known, InCall.InCall, Work.Work as work, CallState.CallState}
use Rattle.shared_parties.specs.{Known.party, Known.view_of, Known.Kept, CallStates.idle, CallStates.known_by, CallsAt.CallsAt, CallsAt.begun_at, Quitting.Quit, Calling.CallsOf, Calling.cap_of, Calling.Standing}
use Rattle.shared_parties.proofs.{Alone.alone, Histories.prefix_self, SharedCalls.quiet}

-- no effects stand at no places
pub places_none : {T : Type 0} (t : List (Effect T)) (n : ℕ) (ps : List ℕ) (es : List (Effect T)) → es ≡ [] → StandAt t n ps es → ps ≡ []
places_none t n [] es none s = refl
places_none t n (p ∷ ps) [] none s = absurd s
places_none t n (p ∷ ps) (e ∷ es) none s = absurd (let f : e ∷ es ≡ [] = none in cc)

-- to a party whose call was given up it is as if it had asked for the capacity
pub quit_looks : {T : Type 0} (K : CallsOf T) (c : InCall T) (w : CallState T) (v : View T) → begun_at c ≡ v → Quit K c w → SharedCall (cap_of K) v (view_of w.known) Call.Capacity (Reply.Capacity (cap_of K))
quit_looks K c w v is q = subst (λ (z : View _). SharedCall (cap_of K) z (view_of w.known) Call.Capacity (Reply.Capacity (cap_of K))) is
    (quiet (cap_of K) (begun_at c) (view_of w.known) c.since Call.Capacity (Reply.Capacity (cap_of K)) (prefix_self c.since) q.later q.legal q.mine q.share refl (sym (cap_after (cap_of K) c.since)))

module _ {T : Type 0} (K : CallsOf T) (g : K.Cells) (h : List (Effect T)) (n : ℕ) (vs : List (CallState T)) (i : ℕ) (d : CallState T) (all : CallsAt K g h n vs) (at : get_elem? vs i ≡ some d) where
  -- the party of a call without effects has what it had when that began
  pub quit : (c : InCall T) → d.work ≡ work.Calls c → c.effects ≡ [] → Quit K c (idle d.known)
  quit c busy none = record {
    rests = λ j. idle (rests' j);
    cap = ap (λ (z : Known T). z.cap) there;
    legal = history_before (cap_of K) d.known.seen h (all.kept.true_of i d.known (at_map known_by vs i d at)).begins all.kept.legal;
    later = stands.since;
    mine = ap (λ (z : Known T). z.mine) there ∙ (ap (λ (ps : List ℕ). c.before ++ ps) (places_none h (length c.since) c.places c.effects none stands.stand) ∙ append-nil c.before);
    share = ap (λ (z : Known T). z.share) there;
    owns = λ entire. (alone (cap_of K) (cap_of K) h d.known.seen n (map known_by vs) i d.known (c.before ++ c.places) c.share all.kept (at_map known_by vs i d at) there entire).whole;
  }
    where
      stands : Standing K g h i d.known c
      stands = all.calls i d c at busy

      there : d.known ≡ party (cap_of K) d.known.seen (c.before ++ c.places) c.share
      there = stands.knows

      rests' : d.known ≡ party d.known.cap d.known.seen d.known.mine d.known.share
      rests' = there ∙ (λ j. party (sym there j).cap d.known.seen (sym there j).mine (sym there j).share)

  -- the seat is at nothing, and the cells are s, where all others stand as they stood
  pub quits : (s : K.Cells) → K.Ok s → K.queue_of s ≡ K.queue_of g → ((j : ℕ) (k : Known T) (c : InCall T) → j ≢ i → IsPrefix k.seen h → Standing K g h j k c → Standing K s h j k c)
      → ((j : ℕ) → j ≢ i → K.Idle g j → K.Idle s j) → K.Idle s i → CallsAt K s h n (set vs i (idle d.known))
  quits s ok same others frees free_at = record {
    ok = ok;
    state = same ∙ all.state;
    calls = λ j e k found works. ⊎_elim
        (λ (t : (j ≡ i) × (idle d.known ≡ e)). absurd (let no : work.Nothing ≡ work.Calls k = ap (λ (z : CallState T). z.work) t.1 ∙ works in cc))
        (λ (t : (j ≢ i) × (get_elem? vs j ≡ some e)). others j e.known k t.0 (all.kept.true_of j e.known (at_map known_by vs j e t.1)).begins (all.calls j e k t.1 works))
        (at_set vs i j (idle d.known) e found);
    free = λ j quiet. dite (ℕ_discrete j i)
        (λ eq. subst (λ k. K.Idle s k) (sym eq) free_at)
        (λ ne. frees j ne (all.free j (λ e found. quiet e (set_else vs i j (idle d.known) ne ∙ found))));
    kept = subst (Kept (cap_of K) h n) (sym (map-set known_by vs i (idle d.known) ∙ set_again (map known_by vs) i d.known (at_map known_by vs i d at))) all.kept;
  }
