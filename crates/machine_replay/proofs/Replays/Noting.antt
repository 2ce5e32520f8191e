-- What is noted of a run, one event after another.
use Rattle.std.proofs.Common.{◌≡◌, ◌∙◌, ℕ, List, [], ◌∷◌, ◌++◌, length, ap}
use Rattle.machine_replay.specs.{Vocabulary.Kind, Vocabulary.Event, Vocabulary.Told, Vocabulary.Replay, declared.machine_run.MachineRun.MachineRun, declared.machine_run.RunEnd.RunEnd, declared.run.Lists.Lists, Conforms.Conforms, Conforms.capacity_of, Conforms.party_of, Conforms.entries_from}
use Rattle.machine_replay.specs.{Conforms.reply_entry, Conforms.effect_entry, Conforms.skipped_entry, Peaks.peak_of, Played.IsPlayed, Played.as_told, MachineRuns.Continues, MachineRuns.IsMachineRun, MachineRuns.IsSomeMachineRun, MachineRuns.Leaves}
use Rattle.machine_steps.specs.{Left.left_of, Machine.world_of}
use Rattle.machine_replay.proofs.{Engine.AllKinds.known-length, Engine.MachineRuns.machine_run-known, Replays.Played.run-made, Engine.SoFar.noted}

-- the lists have what is told of the events of the run
pub record Notes {T A B : Type 0} (k : Kind) (parties : ℕ) (past : List (Event T)) (l : Lists T A) (c : MachineRun T B) : Type 0 where
  pub told : List (Told T)
  pub on : IsMachineRun k parties past told c
  pub replies : l.replies.items ≡ entries_from reply_entry 0 past told
  pub effects : l.effects.items ≡ entries_from effect_entry 0 past told
  pub skipped : l.skipped.items ≡ entries_from skipped_entry 0 past told

module _ {T A B : Type 0} (k : Kind) (parties : ℕ) where
  pub notes-first : (l : Lists T A) (c : MachineRun T B) → IsMachineRun k parties [] [] c → l.replies.items ≡ [] → l.effects.items ≡ [] → l.skipped.items ≡ [] → Notes k parties [] l c
  notes-first l c on replies effects skipped = record { told = []; on = on; replies = replies; effects = effects; skipped = skipped }

  pub notes-on : (past : List (Event T)) (l : Lists T A) (c : MachineRun T B) → Notes k parties past l c → IsSomeMachineRun c
  notes-on past l c n = (k, parties, past, n.told, n.on)

  -- one event more is noted
  pub notes-next : (past : List (Event T)) (l m : Lists T A) (c d : MachineRun T B) (e : Event T) (t : Told T) (n p : ℕ) → Notes k parties past l c → n ≡ length past → p ≡ party_of e → Continues c e t d
      → m.replies.items ≡ l.replies.items ++ reply_entry n p t → m.effects.items ≡ l.effects.items ++ effect_entry n p t → m.skipped.items ≡ l.skipped.items ++ skipped_entry n p t
      → Notes k parties (past ++ e ∷ []) m d
  notes-next past l m c d e t n p notes number party goes_on replies effects skipped =
      let same = known-length k parties past notes.told (world_of c.machine) c.peak (machine_run-known k parties past notes.told c notes.on) in
      record {
        told = notes.told ++ t ∷ [];
        on = goes_on k parties past notes.told notes.on;
        replies = noted reply_entry n p past notes.told e t l.replies.items m.replies.items same number party notes.replies replies;
        effects = noted effect_entry n p past notes.told e t l.effects.items m.effects.items same number party notes.effects effects;
        skipped = noted skipped_entry n p past notes.told e t l.skipped.items m.skipped.items same number party notes.skipped skipped;
      }

-- the whole run conforms
pub notes-end : {T A : Type 0} (k : Kind) (parties : ℕ) (events : List (Event T)) (l : Lists T A) (c : MachineRun T A) (r : RunEnd T A) → Notes k parties events l c → Leaves c r
    → Conforms (capacity_of k) parties events (record { replies = l.replies; effects = l.effects; skipped = l.skipped; left = r.left; peak = r.peak })
notes-end k parties events l c r notes leaves =
    let ends = leaves k parties events notes.told notes.on in
    record {
      told = notes.told;
      last = ends.last;
      run = ends.run;
      replies = notes.replies;
      effects = notes.effects;
      skipped = notes.skipped;
      left = ends.left;
      peak = ends.peak;
    }

-- and its lists and its peak are what the events make
pub notes-played : {T A B : Type 0} (k : Kind) (parties : ℕ) (events : List (Event T)) (l : Lists T A) (c : MachineRun T B) (r : Replay T A) (notes : Notes k parties events l c)
    → r.replies.items ≡ l.replies.items → r.effects.items ≡ l.effects.items → r.skipped.items ≡ l.skipped.items → r.left.items ≡ left_of c.machine.kind (world_of c.machine)
    → r.peak ≡ peak_of k parties (as_told events notes.told) → IsPlayed k parties events r
notes-played k parties events l c r notes replies effects skipped left peak =
    let all = run-made k parties events notes.told c notes.on in
    let here : r.left.items ≡ left_of k (world_of c.machine) = rw notes.on.kind_is at left in
    record {
      told = notes.told;
      made = all.told;
      replies = replies ∙ notes.replies;
      effects = effects ∙ notes.effects;
      skipped = skipped ∙ notes.skipped;
      left = here ∙ ap (λ w. left_of k w) all.world;
      peak = peak;
    }
