-- What the adapters of standard input and output hold.
use Rattle.std.specs.Prelude.{ℕ}
use Rattle.io_edge.specs.declared.standard.StdinSource.{StdinSource}
use Rattle.io_edge.specs.declared.standard.StdoutSink.{StdoutSink}

abbrev pub reader_of : {R : Type 0} → StdinSource R → R
reader_of s = s.reader

abbrev pub failed_reads : {R : Type 0} → StdinSource R → ℕ
failed_reads s = s.faults

abbrev pub writer_of : {W : Type 0} → StdoutSink W → W
writer_of s = s.writer

abbrev pub failed_writes : {W : Type 0} → StdoutSink W → ℕ
failed_writes s = s.faults
