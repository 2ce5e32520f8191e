use Rattle.std.proofs.Common.{◌∙◌, ◌<◌, ◌≤◌, ◌++◌, length, take, string_bytes, sym, ap, arith}
use Rattle.std.proofs.lemmas.List.{append-nil}
use Rattle.app_explore.specs.Outcomes.{party_text, parties_text}
use Rattle.app_explore.proofs.Replying.{parties_more, piece_more, party_pieces, outcome_ends}
use Rattle.app_explore.proofs.outcomes.write_outcome.Goals as goal

pub loop-party-init : goal.loop-party-init
loop-party-init g c = sym (append-nil (string_bytes c.args.text.now))

pub loop-party-preserved : goal.loop-party-preserved
loop-party-preserved g c =
    let within : c.loop-party.party-counter < length c.args.replies.now = omega (arith, c.loop-party-test.true) in
    let replied = rw c.as_slice.ensures at c.in_ok-write_replies.ensures in
    let wrote = party_pieces (string_bytes c.loop-party.text) (string_bytes c.write.new.self) (string_bytes c.write_replies.new.text) (string_bytes c.push_str.new.self) c.loop-party.party-counter c.index-replies-party.result c.in_ok-write.ensures.bytes replied c.in_ok-push_str.ensures.bytes in
    let more = parties_more c.args.replies.now c.loop-party.party-counter c.index-replies-party.result within ∙ ap (λ r. parties_text 0 (take c.loop-party.party-counter c.args.replies.now) ++ party_text c.loop-party.party-counter r) (sym c.index-replies-party.is) in
    piece_more (string_bytes c.push_str.new.self) (string_bytes c.loop-party.text) (string_bytes c.args.text.now) _ _ _ wrote c.loop-party.invariant more

pub returns : goal.returns
returns g c =
    let past : length c.args.replies.now ≤ c.loop-party.party-counter = omega (arith, c.loop-party-test.false) in
    outcome_ends c.write_items.result (string_bytes c.args.text.now) (string_bytes c.loop-party.text) _ (string_bytes c.write_items.new.text) c.loop-party.party-counter c.args.replies.now c.args.left.now c.loop-party.invariant past c.in_ok-push_str-2.ensures.bytes c.write_items.ensures
