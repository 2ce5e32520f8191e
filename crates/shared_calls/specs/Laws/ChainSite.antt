-- The laws of `Site` for a shared chain: where a call stands after a step is what the step told.
use Rattle.std.proofs.Common.{◌≡◌, ℕ, suc, Option, Some, None, refl, sym, ap, subst}
use Rattle.queue_laws.specs.Common.Vocabulary.{Call, Kind, Answer, Local, Next, STEPS_ALONE}
use Rattle.queue_steps.specs.{Kinds.call_kind, Kinds.call_value, Next.next_of, Next.first_local}
use Rattle.mem_blocks.specs.{Web.sitter, declared.block.BlockPtr.BlockPtr as Place, declared.web.Seat.Seat}
use Rattle.shared_parties.specs.declared.known.CallState.{CallState}
use Rattle.shared_chain.specs.{declared.web.ChainWeb.ChainWeb, Turning.SitsAt, Turning.ChainCan, Turning.ChainDoes, Turning.ChainRests, Turning.ChainStands, Turning.ChainEnded, Turning.GaveUp, Turning.ChainLeads}
use Rattle.shared_chain.proofs.Leading as steps
use Rattle.call_driver.{specs.Leads.Leads, specs.Leads.GoesOn, proofs.LeadsThrough.leads-through}
use Rattle.shared_calls.specs.ChainSite.{ChainSpares, ChainGives, ChainOnWay}

module _ {T A : Type 0} (left : ℕ) where
  abbrev SiteLeads : ChainWeb T A → Seat T (CallState T) A → Call T → Next (Place T) → Seat T (CallState T) A → Option T → Type 0
  SiteLeads = Leads ChainCan (λ w s k l u o x a q y. ChainDoes s k l u o x a q y) ChainSpares ChainGives ChainOnWay ChainEnded left

  -- what leads on for a chain does so for the driver
  leads : (w : ChainWeb T A) (p : Seat T (CallState T) A) (c : Call T) (n : Next (Place T)) (s : Seat T (CallState T) A) (x : Option T) → SitsAt w s → ChainLeads w p c n s x → SiteLeads w p c n s x
  leads w p c (Next.Step l t o) s x sits h = h
  leads w p c (Next.Reply r None) s x sits h = (tt, λ q same. (h.1.0, h.1.1, h.1.2 q (subst (λ z. GaveUp s z) (sym same) ((refl, refl, refl), ap (λ spare. sitter s.sitter.view s.sitter.hand spare) h.0))))
  leads w p c (Next.Reply r (Some b)) s x sits h = ((sits, h.0), λ q gave. (h.1.0, h.1.1, h.1.2 q gave))

  chain_goes_on : (w : ChainWeb T A) (p : Seat T (CallState T) A) (c : Call T) (l : Local (Place T)) (a : Answer (Place T)) (s : Seat T (CallState T) A) (x : Option T) → ChainStands w p c l a s x
      → GoesOn ChainCan (λ w s k l u o x a q y. ChainDoes s k l u o x a q y) ChainSpares ChainGives ChainOnWay ChainEnded left Kind.Unbounded w p c l a s x
  chain_goes_on w p c l a s x stands = let g = steps.chain_goes_on w p c l a s x stands in (g.0, leads w p c (next_of Kind.Unbounded l a) s x stands.0 g.1)

  chain_begins : (w : ChainWeb T A) (s : Seat T (CallState T) A) (c : Call T) → ChainRests w s
      → GoesOn ChainCan (λ w s k l u o x a q y. ChainDoes s k l u o x a q y) ChainSpares ChainGives ChainOnWay ChainEnded left Kind.Unbounded w s c (first_local (call_kind c)) Answer.Start s (call_value c)
  chain_begins w s c rests = let b = steps.chain_begins w s c rests in (b.0, leads w s c (next_of Kind.Unbounded (first_local (call_kind c)) Answer.Start) s (call_value c) rests.0 b.1)

-- the same for what does the calls: it shows a chain, and its seat
module _ {T A M S : Type 0} (chain : M → ChainWeb T A) (seat : S → Seat T (CallState T) A) where
  abbrev SiteGoesOn : ℕ → M → S → Call T → Local (Place T) → Answer (Place T) → S → Option T → Type 0
  SiteGoesOn n = GoesOn {M = M} {S = S} (λ m s. ChainCan (chain m) (seat s)) (λ m s k l u o x a q y. ChainDoes (seat s) k l u o x a (seat q) y) (λ m s. ChainSpares (chain m) (seat s)) (λ m s b q. ChainGives (chain m) (seat s) b (seat q))
      (λ n m s c l a q. ChainOnWay n (chain m) (seat s) c l a (seat q)) (λ m s c r q. ChainEnded (chain m) (seat s) c r (seat q)) n Kind.Unbounded

  through : (n : ℕ) (m : M) (first s : S) (c : Call T) (l : Local (Place T)) (a : Answer (Place T)) (x : Option T)
      → GoesOn ChainCan (λ w s k l u o x a q y. ChainDoes s k l u o x a q y) ChainSpares ChainGives ChainOnWay ChainEnded n Kind.Unbounded (chain m) (seat first) c l a (seat s) x → SiteGoesOn n m first c l a s x
  through n m first s c l a x g = (g.0, leads-through ChainCan (λ w s k l u o x a q y. ChainDoes s k l u o x a q y) ChainSpares ChainGives ChainOnWay ChainEnded chain seat n m first s c (next_of Kind.Unbounded l a) x g.1)

  pub site_goes_on : (n : ℕ) (m : M) (first : S) (c : Call T) (l : Local (Place T)) (a : Answer (Place T)) (s : S) (x : Option T) → ChainOnWay (suc n) (chain m) (seat first) c l a (seat s) x → SiteGoesOn n m first c l a s x
  site_goes_on n m first c l a s x h = through n m first s c l a x (chain_goes_on n (chain m) (seat first) c l a (seat s) x h)

  pub site_begins : (m : M) (s : S) (c : Call T) → ChainRests (chain m) (seat s) → (n : ℕ) → suc n ≡ STEPS_ALONE → SiteGoesOn n m s c (first_local (call_kind c)) Answer.Start s (call_value c)
  site_begins m s c rests n all = through n m s s c (first_local (call_kind c)) Answer.Start (call_value c) (chain_begins n (chain m) (seat s) c rests)
