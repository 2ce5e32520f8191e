use Rattle.std.proofs.Common.{◌≡◌, ◌∙◌, ◌<◌, ◌+◌, ◌++◌, ◌∷◌, [], ℕ, List, ap, append_assoc, length, string_bytes, sym, take}
use Rattle.std.{proofs.lemmas.List.flat_map_more, proofs.lemmas.List.take_more, specs.Prelude.slice_index_or}
use Rattle.queue_steps.specs.declared.model.Call.{Call, Call as call}
use Rattle.app_text.specs.{Actions.replay_line_text, declared.actions.Action.Action as action, declared.actions.ReplayLine.ReplayLine}
use Rattle.app_explore.specs.Schedules.{before_lines, lines_text}
use Rattle.app_explore.proofs.schedules.write_before.Goals as goal

-- the two lines of one call more are written
more : (calls : List (Call ℕ)) (i : ℕ) (d : Call ℕ) (one two : ReplayLine) (start old mid new : List ℕ) → i < length calls
    → one ≡ record { party = 0; action = action.Call (slice_index_or calls i d) } → two ≡ record { party = 0; action = action.Run }
    → old ≡ start ++ lines_text (before_lines (take i calls)) → mid ≡ old ++ replay_line_text one ++ 10 ∷ [] → new ≡ mid ++ replay_line_text two ++ 10 ∷ []
    → new ≡ start ++ lines_text (before_lines (take (i + 1) calls))
more calls i d one two start old mid new inside one_is two_is before first second =
    let c : Call ℕ = slice_index_or calls i d in
    let begins : ReplayLine = record { party = 0; action = action.Call c } in
    let runs : ReplayLine = record { party = 0; action = action.Run } in
    let text : ReplayLine → List ℕ = λ l. replay_line_text l ++ 10 ∷ [] in
    let lines : List ReplayLine = before_lines (take i calls) in
    second ∙ append_assoc mid (replay_line_text two) (10 ∷ []) ∙ ap (λ l. mid ++ text l) two_is
    ∙ ap (λ l. l ++ text runs) (first ∙ append_assoc old (replay_line_text one) (10 ∷ []) ∙ ap (λ l. old ++ text l) one_is ∙ ap (λ l. l ++ text begins) before ∙ flat_map_more text start lines begins)
    ∙ flat_map_more text start (lines ++ begins ∷ []) runs
    ∙ ap (λ l. start ++ lines_text l) (append_assoc lines (begins ∷ []) (runs ∷ []) ∙ flat_map_more (λ (x : Call ℕ). let b : ReplayLine = record { party = 0; action = action.Call x } in b ∷ runs ∷ []) [] (take i calls) c ∙ ap before_lines (sym (take_more calls i d inside)))

pub loop-call-preserved : goal.loop-call-preserved
loop-call-preserved g c =
    more c.args.before.now c.loop-call.call-index (call.Push 0) c.line_of.result c.line_of-in-loop-call.result (string_bytes c.args.text.now) (string_bytes c.loop-call.text) (string_bytes c.write_line.new.text) (string_bytes c.write_line-in-loop-call.new.text)
    c.loop-call-test.true c.line_of.ensures c.line_of-in-loop-call.ensures c.loop-call.invariant c.in_ok-write_line.ensures c.in_ok-write_line-2.ensures
