-- Each step of a call on a chain leaves words, links and blocks that stand for the chain after it.
use Rattle.queue_laws.proofs.Chain.{ChainStep.step_good, ChainRight.step_right}
use Rattle.machine_steps.specs.Steps.{answer_to}
use Rattle.machine_replay.proofs.Chain.{CodedAll.coded, Laws.StepsStand}

pub steps_stand : (A : Type 0) → StepsStand A
steps_stand A ok s Q g p ms x k es holds at spares =
    let step = coded ok s at holds.ok holds.codes in
    record {
      touches = step.touches;
      operates = step.operates;
      found = step.answers;
      carried = step.carried;
      codes = step.codes (step_good at (answer_to ok s x) holds.ok step.answers).ok (step_right at (answer_to ok s x) holds.ok step.answers spares).gives;
    }
