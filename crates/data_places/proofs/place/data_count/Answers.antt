use Rattle.std.proofs.Common.{◌*◌, ap, arith}
use Rattle.data_places.proofs.Counting.{count_all}
use Rattle.data_places.proofs.place.data_count.Goals as goal

pub overflow_sub-result : goal.overflow_sub-result
overflow_sub-result c = omega (arith, count_all c.args.shape.now c.args.extents c.requires.shape, ap (λ n. n * c.args.shape.now.extent) c.from.ensures, c.head_count.ensures)

pub returns-clause-value : goal.returns-clause-value
returns-clause-value c = omega (arith, count_all c.args.shape.now c.args.extents c.requires.shape, ap (λ n. n * c.args.shape.now.extent) c.from.ensures, c.head_count.ensures)
