use native.Mathlib.Omega.{arith}
use lib.ListN.{length-set}
use Rattle.running_threads.specs.Queues.{queue_fits, queue_clear, queue_one}
use Rattle.running_threads.proofs.queue.Goals as goal

pub overflow_mul-queued : goal.overflow_mul-queued
overflow_mul-queued c = omega (arith, queue_fits c.requires.laid.0 c.requires.clear.1)

pub overflow_add-spot : goal.overflow_add-spot
overflow_add-spot c = omega (arith, queue_fits c.requires.laid.0 c.requires.clear.1)

pub copy-requires : goal.copy-requires
copy-requires c =
    let fits = queue_fits c.requires.laid.0 c.requires.clear.1 in
    let clear = queue_clear c.requires.laid.0 c.requires.clear.1 c.requires.clear.0 in
    (simp length-set (omega arith), simp length-set (omega arith), clear)

pub shape_of-work : goal.shape_of-work
shape_of-work c = simp length-set at c.copy.auto.work

pub returns : goal.returns
returns c =
    queue_one c.requires.laid.0 c.requires.laid.1 c.requires.clear.0 c.requires.clear.1 (simp length-set at c.copy.auto.work) c.copy.ensures
