-- `printout::print::print_tick` is safe: the bytes counted lie within the line. Assumes nothing.
use Rattle.decimals.proofs.Lines.{put_counts_lem}
use Rattle.printout.proofs.print.print_tick.Goals as goal

pub slice_bounds-line-end : goal.slice_bounds-line-end
slice_bounds-line-end c = (put_counts_lem _ _ _ _ c.put_line-n.ensures).0

pub slice_bounds-write_all-end : goal.slice_bounds-write_all-end
slice_bounds-write_all-end c = (put_counts_lem _ _ _ _ c.put_line-n.ensures).1
