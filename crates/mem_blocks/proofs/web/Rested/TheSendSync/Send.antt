use denote.{RattleType.RattleType, Param.Send.IsSend}
use Rattle.mem_blocks.{specs.contracts.web.Rested.the_row, proofs.Sent.rested_sent}

pub send : (V : RattleType) → IsSend (the_row V)
send V = record { owned = λ r vs. ((λ vss. (tt, ((λ uss. (tt, tt)), tt))), rested_sent V.coded.code r.web r.id r.asleep r.view); leaving = λ k x vs. tt }
