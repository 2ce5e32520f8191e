use denote.{RattleType.RattleType, Param.Send.IsSync, Param.Send.part_keyless}
use Rattle.mem_blocks.{specs.contracts.web.Rested.the_row, proofs.web.Rested.TheSendSync.Send.send}

pub sync : (V : RattleType) → IsSync (the_row V)
sync V = record { shared = λ w b o ν q. part_keyless (the_row V) (send V) q w b o }
