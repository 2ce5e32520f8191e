use Rattle.history_check.proofs.stage.Stage.make.Goals as goal

pub returns-in-See-clause-exact : goal.returns-in-See-clause-exact
returns-in-See-clause-exact g c = rw c.in-See.is c.see.ensures.exact

pub returns-in-Act-clause-exact : goal.returns-in-Act-clause-exact
returns-in-Act-clause-exact g c = rw c.in-Act.is c.act.ensures.exact

pub returns-in-Part-clause-exact : goal.returns-in-Part-clause-exact
returns-in-Part-clause-exact g c = rw c.in-Part.is c.part.ensures.exact

pub returns-in-Arrive-clause-exact : goal.returns-in-Arrive-clause-exact
returns-in-Arrive-clause-exact g c = rw c.in-Arrive.is c.arrive.ensures.exact

pub returns-in-Displace-clause-exact : goal.returns-in-Displace-clause-exact
returns-in-Displace-clause-exact g c = rw c.in-Displace.is c.displace.ensures.exact
