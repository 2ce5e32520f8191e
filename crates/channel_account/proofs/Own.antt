-- What calls, partings and joinings add to what a party has sent and received.
use Rattle.std.proofs.Common.{◌≡◌, ℕ, zero, suc, ◌+◌, ◌<◌, Bool, true, false, List, [], ◌∷◌, ◌++◌, length, Option, Result, Ok, Err, MatchResult, refl, ap, sym, subst, ◌∙◌, ⊎_elim, append-nil, arith}
use Rattle.std.{specs.List.All, proofs.lemmas.List.Elements.All-head, proofs.lemmas.List.Elements.All-tail}
use mathlib.Core.{List.IsPrefix, Option.none, Option.some}
use lib.ListN.{get_elem?}
use Rattle.queue_laws.specs.{Common.Vocabulary.Effect, History.Histories.handed_in, History.Histories.handed_out}
use Rattle.queue_steps.specs.{declared.model.Call.Call, declared.model.Reply.Reply, declared.model.Call.Call as call, declared.model.Reply.Reply as reply, Shares.entire, Parties.View, Parties.IsView, Parties.StandAt}
use Rattle.law_parties.{proofs.Drained.saw_drained, proofs.Drained.still_drained, specs.Doings.SawDrained}
use Rattle.concurrent_queue.specs.Shared.{PartyView, Calls, Parts, Joins}
use Rattle.counted_channel.specs.{declared.calls.errors.SendError.SendError, declared.calls.errors.SendError.SendError as send, declared.calls.errors.Disconnected.Disconnected, Channel.End, Channel.ChannelCall, Channel.EndParts, Channel.GivenBack, Channel.Ends, Channel.sent, Channel.received}
use Rattle.channel_handle.specs.Ends.{AreEnds, IsPair}
use Rattle.channel_account.specs.{Own.found_before, Own.at_places, Own.own, Told.told, Told.HasDone, Told.HasSent, Told.HasReceived, Told.PartsTold, Told.JoinsTold, Told.AreNew, Told.SawEnd}

module _ {T : Type 0} where
  -- what stands in a history stands in a longer one
  at_longer : (s d : List (Effect T)) (p : ℕ) → p < length s → get_elem? (s ++ d) p ≡ get_elem? s p
  at_longer [] d p lt = absurd (omega arith)
  at_longer (x ∷ s) d zero lt = refl
  at_longer (x ∷ s) d (suc p) lt = at_longer s d p (omega (arith, lt))

  at_prefix : (s t : List (Effect T)) (p : ℕ) → IsPrefix s t → p < length s → get_elem? t p ≡ get_elem? s p
  at_prefix s t p (d, is) lt = ap (λ (l : List (Effect T)). get_elem? l p) (sym is) ∙ at_longer s d p lt

  -- what was handed in by one list of effects and then another
  in_append : (es fs : List (Effect T)) → handed_in (es ++ fs) ≡ handed_in es ++ handed_in fs
  in_append [] fs = refl
  in_append (Effect.Append v ∷ es) fs = ap (λ (l : List T). v ∷ l) (in_append es fs)
  in_append (Effect.Take v ∷ es) fs = in_append es fs
  in_append (Effect.Replace old v ∷ es) fs = ap (λ (l : List T). v ∷ l) (in_append es fs)
  in_append (Effect.Front old v ∷ es) fs = ap (λ (l : List T). v ∷ l) (in_append es fs)
  in_append (Effect.Arrive ∷ es) fs = in_append es fs
  in_append (Effect.Close ∷ es) fs = in_append es fs
  in_append (Effect.SelfClose ∷ es) fs = in_append es fs

  -- and handed out
  out_append : (es fs : List (Effect T)) → handed_out (es ++ fs) ≡ handed_out es ++ handed_out fs
  out_append [] fs = refl
  out_append (Effect.Append v ∷ es) fs = out_append es fs
  out_append (Effect.Take v ∷ es) fs = ap (λ (l : List T). v ∷ l) (out_append es fs)
  out_append (Effect.Replace old v ∷ es) fs = ap (λ (l : List T). old ∷ l) (out_append es fs)
  out_append (Effect.Front old v ∷ es) fs = ap (λ (l : List T). old ∷ l) (out_append es fs)
  out_append (Effect.Arrive ∷ es) fs = out_append es fs
  out_append (Effect.Close ∷ es) fs = out_append es fs
  out_append (Effect.SelfClose ∷ es) fs = out_append es fs

  -- the effects at some places stay where a history grows
  places_longer : (s t : List (Effect T)) (ps : List ℕ) → IsPrefix s t → All (λ p. p < length s) ps → at_places t ps ≡ at_places s ps
  places_longer s t [] begins inside = refl
  places_longer s t (p ∷ ps) begins inside =
      let here = at_prefix s t p begins (All-head (λ q. q < length s) p ps inside) in
      let there = places_longer s t ps begins (All-tail (λ q. q < length s) p ps inside) in λ i. found_before (here i) (there i)

  found_append : (o : mathlib.Core.Option.Option (Effect T)) (es fs : List (Effect T)) → found_before o (es ++ fs) ≡ found_before o es ++ fs
  found_append none es fs = refl
  found_append (some e) es fs = refl

  places_append : (t : List (Effect T)) (ps qs : List ℕ) → at_places t (ps ++ qs) ≡ at_places t ps ++ at_places t qs
  places_append t [] qs = refl
  places_append t (p ∷ ps) qs = ap (found_before (get_elem? t p)) (places_append t ps qs) ∙ found_append (get_elem? t p) (at_places t ps) (at_places t qs)

  -- effects that stand at some places
  places_effects : (t : List (Effect T)) (n : ℕ) (ps : List ℕ) (es : List (Effect T)) → StandAt t n ps es → at_places t ps ≡ es
  places_effects t n [] [] s = refl
  places_effects t n (p ∷ ps) (e ∷ es) s = let there = places_effects t (p + 1) ps es s.2 in λ i. found_before (s.1 i) (there i)
  places_effects t n [] (e ∷ es) s = absurd s
  places_effects t n (p ∷ ps) [] s = absurd s

  -- a party that has seen more and has its places has done what it had
  own_stays : (cap : Option ℕ) (v w : View T) → IsView cap v → IsPrefix v.seen w.seen → w.mine ≡ v.mine → own w ≡ own v
  own_stays cap v w is begins mine = ap (at_places w.seen) mine ∙ places_longer v.seen w.seen v.mine begins is.inside

  pub done : (v w : PartyView T) → IsView v.queue.cap v.view → w.queue ≡ v.queue → IsPrefix v.view.seen w.view.seen → w.view.mine ≡ v.view.mine → HasDone (told v) (told w)
  done v w is queue begins mine = let same = own_stays v.queue.cap v.view w.view is begins mine in record {
    queue = queue;
    sent = ap handed_in same;
    came = ap handed_out same;
    saw = still_drained v w queue begins;
  }

  -- a call adds its effects
  adds : (v w : PartyView T) (c : Call T) (r : Reply T) (es : List (Effect T)) → IsView v.queue.cap v.view → (made : Calls v c r w) → made.1.effects ≡ es → own w.view ≡ own v.view ++ es
  adds v w c r es is made are =
      ap (at_places w.view.seen) made.1.mine ∙ (places_append w.view.seen v.view.mine made.1.places
      ∙ (λ i. places_longer v.view.seen w.view.seen v.view.mine made.1.begins is.inside i ++ (places_effects w.view.seen (length v.view.seen) made.1.places made.1.effects made.1.stand ∙ are) i))

  -- one that hands nothing in or out
  idle : (v w : PartyView T) (c : Call T) (r : Reply T) (es : List (Effect T)) → IsView v.queue.cap v.view → (made : Calls v c r w) → made.1.effects ≡ es → handed_in es ≡ [] → handed_out es ≡ [] → HasDone (told v) (told w)
  idle v w c r es is made are ins outs = let more = adds v w c r es is made are in record {
    queue = made.0;
    sent = ap handed_in more ∙ (in_append (own v.view) es ∙ (ap (λ (l : List T). handed_in (own v.view) ++ l) ins ∙ append-nil (handed_in (own v.view))));
    came = ap handed_out more ∙ (out_append (own v.view) es ∙ (ap (λ (l : List T). handed_out (own v.view) ++ l) outs ∙ append-nil (handed_out (own v.view))));
    saw = still_drained v w made.0 made.1.begins;
  }

  pub sends : (d e : End T) (x : T) (answer : Result (Unit {0}) (SendError T)) → IsView d.party.queue.cap d.party.view → ChannelCall d (call.Push x) (sent answer) e
      → MatchResult answer (λ _. HasSent (told d.party) (x ∷ []) (told e.party)) (λ _. HasDone (told d.party) (told e.party))
  sends d e x (Ok done) is made = let more = adds d.party e.party (call.Push x) (sent (Ok done)) (Effect.Append x ∷ []) is made.0 made.0.1.tells in record {
    queue = made.0.0;
    sent = ap handed_in more ∙ in_append (own d.party.view) (Effect.Append x ∷ []);
    came = ap handed_out more ∙ (out_append (own d.party.view) (Effect.Append x ∷ []) ∙ append-nil (handed_out (own d.party.view)));
  }
  sends d e x (Err (send.Closed back)) is made =
      ⊎_elim (λ closed. idle d.party e.party (call.Push x) (sent (Err (send.Closed back))) (Effect.SelfClose ∷ []) is made.0 closed refl refl)
      (λ nothing_done. idle d.party e.party (call.Push x) (sent (Err (send.Closed back))) [] is made.0 nothing_done refl refl) made.0.1.tells.1
  sends d e x (Err (send.NoMemory back)) is made = idle d.party e.party (call.Push x) (sent (Err (send.NoMemory back))) [] is made.0 made.0.1.tells.1 refl refl

  pub receives : (d e : End T) (answer : Result T Disconnected) → IsView d.party.queue.cap d.party.view → ChannelCall d call.Pop (received answer) e
      → MatchResult answer (λ x. HasReceived (told d.party) (x ∷ []) (told e.party)) (λ _. HasDone (told d.party) (told e.party) × SawEnd (told e.party))
  receives d e (Ok x) is made = let more = adds d.party e.party call.Pop (received (Ok x)) (Effect.Take x ∷ []) is made.0 made.0.1.tells in record {
    queue = made.0.0;
    sent = ap handed_in more ∙ (in_append (own d.party.view) (Effect.Take x ∷ []) ∙ append-nil (handed_in (own d.party.view)));
    came = ap handed_out more ∙ out_append (own d.party.view) (Effect.Take x ∷ []);
  }
  receives d e (Err why) is made = (idle d.party e.party call.Pop (received (Err why)) [] is made.0 made.0.1.tells refl refl, saw_drained d.party e.party made.0)

  pub ends : (v w : PartyView T) (last : Bool) → IsView v.queue.cap v.view → Ends v w last → HasDone (told v) (told w)
  ends v w true is ended = closes v w ended.0.0 is ended.0.1
    where
      closes : (v w : PartyView T) (closed : Bool) → IsView v.queue.cap v.view → Calls v call.Close (reply.Close closed) w → HasDone (told v) (told w)
      closes v w true is made = idle v w call.Close (reply.Close true) (Effect.Close ∷ []) is made made.1.tells refl refl
      closes v w false is made = idle v w call.Close (reply.Close false) [] is made made.1.tells refl refl
  ends v w false is same = record {
    queue = ap (λ (p : PartyView T). p.queue) same;
    sent = ap (λ (p : PartyView T). handed_in (own p.view)) same;
    came = ap (λ (p : PartyView T). handed_out (own p.view)) same;
    saw = λ saw. subst {A = PartyView T} SawDrained (sym same) saw;
  }

  nothing : (v : View T) → v.mine ≡ [] → own v ≡ []
  nothing v mine = ap (at_places v.seen) mine

  pub parted : (v a b : PartyView T) → IsView v.queue.cap v.view → Parts v a b → PartsTold (told v) (told a) (told b)
  parted v a b is parts = let bare = nothing b.view parts.2.mine.1 in record {
    kept = done v a is parts.0 parts.2.begins parts.2.mine.0;
    queue = parts.1;
    sent = ap handed_in bare;
    came = ap handed_out bare;
  }

  pub parts : (d a b : End T) → IsView d.party.queue.cap d.party.view → EndParts d a b → PartsTold (told d.party) (told a.party) (told b.party)
  parts d a b is both = parted d.party a.party b.party is both.0

  pub stays : (d e : End T) → IsView d.party.queue.cap d.party.view → GivenBack d e → HasDone (told d.party) (told e.party)
  stays d e is back = done d.party e.party is back.queue back.begins back.mine

  pub joins : (a b c : PartyView T) → b.queue ≡ a.queue → IsView a.queue.cap a.view → IsView b.queue.cap b.view → Joins a b c → JoinsTold (told a) (told b) (told c)
  joins a b c same is_a is_b joined =
      let both : own c.view ≡ own a.view ++ own b.view =
      ap (at_places c.view.seen) joined.1.mine ∙ (places_append c.view.seen a.view.mine b.view.mine
      ∙ (λ i. places_longer a.view.seen c.view.seen a.view.mine joined.1.begins.0 is_a.inside i ++ places_longer b.view.seen c.view.seen b.view.mine joined.1.begins.1 is_b.inside i)) in
      record {
        queue = joined.0;
        sent = ap handed_in both ∙ in_append (own a.view) (own b.view);
        came = ap handed_out both ∙ out_append (own a.view) (own b.view);
        saw = (still_drained a c joined.0 joined.1.begins.0, still_drained b c (joined.0 ∙ sym same) joined.1.begins.1);
      }

  new_ends : (cap : Option ℕ) (v : PartyView T) (s r : End T) → v.view.mine ≡ [] → s.party.queue.cap ≡ cap → AreEnds v s r → AreNew cap (told s.party) (told r.party)
  new_ends cap v s r empty capped (sent_by, came_by, counts, stake, other, parts) =
      let first = nothing s.party.view (parts.2.mine.0 ∙ empty) in let second = nothing r.party.view parts.2.mine.1 in record {
        capped = capped;
        queue = came_by ∙ sym sent_by;
        sent = (ap handed_in first, ap handed_in second);
        came = (ap handed_out first, ap handed_out second);
      }

  pub news : (cap : Option ℕ) (s r : End T) → IsPair cap s r → AreNew cap (told s.party) (told r.party)
  news cap s r (capped, ends) = new_ends cap (record { queue = s.party.queue; view = record { seen = []; mine = []; share = entire } }) s r refl capped ends
