-- The shared memory at each step of a call on a chain, wherever the call stands.
use Rattle.std.proofs.Common.{ℕ, inl, inr, Bool, true, false, List, length, refl, ap, arith}
use Rattle.queue_steps.specs.State.{State}
use Rattle.queue_laws.specs.{Common.Stand.Stand, Chain.ChainCells.Chain, Chain.ChainCells.ChainOk}
use Rattle.queue_laws.specs.Chain.ChainAt.{At, asking, installing, laying, opening, chaining, writing, following, peeking, awaiting, walking, destroying, reading, beginning}
use Rattle.queue_laws.proofs.Chain.ChainAnswers.{tail_small}
use Rattle.machine_memory.specs.SharedMemory.{MemoryState}
use Rattle.machine_replay.proofs.Chain.{Coded.CodesShared, Coded.Coded, Coded.coded_by, Coded.coded_ends, CodesPush.codes_granted, CodedPush.coded_installing, CodedPush.coded_laying, CodedPush.coded_chaining, CodedPush.coded_writing}
use Rattle.machine_replay.proofs.Chain.{CodedPop.coded_following, CodedPop.coded_peeking, CodedPop.coded_awaiting, CodedRead.coded_walking, CodedRead.coded_destroying, CodedRead.coded_reading, CodedRead.coded_beginning}

pub coded : {A : Type 0} {c : Chain A} {who : ℕ} {ms : List (State A)} {k : Stand A} (ok : Bool) (s : MemoryState A) (at : At c who ms k)
    → ChainOk c → CodesShared s c → Coded c who ms ok s at
coded false s (asking d v q block none saw asked) right codes = coded_by (asking d v q block none saw asked) tt tt (inl refl) refl codes
coded {who = who} true s (asking d v q block none saw asked) right codes = coded_by (asking d v q block none saw asked) tt tt (inr (length s.blocks, refl, codes.unused (length s.blocks) (omega arith))) refl (codes_granted who codes)
coded {c = c} {who = who} {ms = ms} ok s (installing d v f none saw fresh) right codes = coded_installing c who ms ok s d v f none saw fresh right codes
coded {c = c} {who = who} {ms = ms} ok s (laying d v n name f holds mine lays fresh) right codes = coded_laying c who ms ok s d v n name f holds mine lays fresh right codes
coded {c = c} ok s (opening d v n name f holds mine opens links named) right codes =
    coded_ends (opening d v n name f holds mine opens links named) (tt, (let low = tail_small c right in let is = ap (λ e. e.tail) codes.ends in omega arith)) refl refl refl refl refl refl right codes
coded {c = c} {who = who} {ms = ms} ok s (chaining d v n name f holds mine links named) right codes = coded_chaining c who ms ok s d v n name f holds mine links named right codes
coded {c = c} {who = who} {ms = ms} ok s (writing d v n name spare holds mine spare_is) right codes = coded_writing c who ms ok s d v n name spare holds mine spare_is right codes
coded {c = c} {who = who} {ms = ms} ok s (following x n name more holds got pass) right codes = coded_following c who ms ok s x n name more holds got pass right codes
coded {c = c} {who = who} {ms = ms} ok s (peeking x n name after more holds got pass behind_it) right codes = coded_peeking c who ms ok s x n name after more holds got pass behind_it right codes
coded {c = c} {who = who} {ms = ms} ok s (awaiting x n name more holds got) right codes = coded_awaiting c who ms ok s x n name more holds got right codes
coded {c = c} {who = who} {ms = ms} ok s (walking x b name slot holds is named) right codes = coded_walking c who ms ok s x b name slot holds is named right codes
coded {c = c} {who = who} {ms = ms} ok s (destroying x b name slot holds is named) right codes = coded_destroying c who ms ok s x b name slot holds is named right codes
coded {c = c} {who = who} {ms = ms} ok s (reading x n name more holds got wrote inner) right codes = coded_reading c who ms ok s x n name more holds got wrote right codes inner
coded {c = c} {who = who} {ms = ms} ok s (beginning x n name more holds got wrote last_is) right codes = coded_beginning c who ms ok s x n name more holds got wrote right codes last_is
coded ok s at right codes = coded_ends at tt refl refl refl refl refl refl right codes
