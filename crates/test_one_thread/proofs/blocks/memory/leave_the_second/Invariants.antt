use Rattle.test_one_thread.proofs.blocks.memory.leave_the_second.Given as goal

-- the block that was lifted
abbrev pub ghost-forget : goal.ghost-forget
ghost-forget g a = 1
