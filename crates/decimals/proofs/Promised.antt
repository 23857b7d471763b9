-- All that is promised of texts read and lines printed. Assumes nothing.
use Rattle.decimals.specs.Promises.{Promised}
use Rattle.decimals.proofs.Parts.{text_parts_lem}
use Rattle.decimals.proofs.Whole.{read_whole_lem}
use Rattle.decimals.proofs.Back.{reads_back_lem, line_reads_back_lem}

pub promised : Promised
promised =
    record {
      text_parts = text_parts_lem;
      read_whole = read_whole_lem;
      reads_back = reads_back_lem;
      line_reads_back = line_reads_back_lem;
    }
