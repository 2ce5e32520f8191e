use Rattle.history_check.proofs.stage.Stage.may_make.Goals as goal

pub returns-in-See : goal.returns-in-See
returns-in-See g c = rw c.in-See.is c.may_see.ensures

pub returns-in-Act : goal.returns-in-Act
returns-in-Act g c = rw c.in-Act.is c.may_act.ensures

pub returns-in-Part : goal.returns-in-Part
returns-in-Part g c = rw c.in-Part.is c.may_part.ensures

pub returns-in-Displace : goal.returns-in-Displace
returns-in-Displace g c = rw c.in-Displace.is c.may_displace.ensures
