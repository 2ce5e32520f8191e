use denote.Exit.{no}
use denote.Param.Send.{IsSend, arg_send, param_send, sendable}
use denote.Param.SendFields.{declared_send, variants_send}
use Rattle.std.proofs.Crossing.{crosses}
use Rattle.test_futures.specs.contracts.tasks.{Sends.the_row as sends_row, Sends.the_type as sends_type, Work.the_row as work_row, Work.enum as work_enum, Task.the_row as task_row, Task.the_type as task_type}
use Rattle.test_futures.proofs.Sent.{incoming_send, outgoing_send}
use Rattle.test_futures.proofs.pools.work.Goals as goal

-- a task may go to another thread
sends_send : IsSend sends_row
sends_send = declared_send sends_type (outgoing_send, (search sendable, (search sendable, (search sendable, (search sendable, tt)))))

work_send : IsSend work_row
work_send = variants_send work_enum ((sends_send, tt), ((incoming_send, tt), ((incoming_send, (search sendable, tt)), (tt, tt))))

task_send : IsSend task_row
task_send = declared_send task_type (work_send, (search (crosses, sendable) depth 20, tt))

pub work_in_four-requires-send-F : goal.work_in_four-requires-send-F
work_in_four-requires-send-F g c κs within = param_send 1 _ (arg_send _ no _ task_send)
