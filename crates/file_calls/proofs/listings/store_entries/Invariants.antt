-- the records from here on give what all of them give
use Rattle.std.proofs.Common.{◌≡◌, ◌≤◌, ◌-◌}
use Rattle.native_kernel.specs.Operations.{listing}
use Rattle.file_calls.specs.Listings.{listed_records}
use Rattle.file_calls.proofs.listings.store_entries.Given as goal

abbrev pub invariant-loop-entry : goal.invariant-loop-entry
invariant-loop-entry l = record {
  within : l.listed.bytes ≤ l.buffer.room;
  same : listed_records l.buffer.wide l.buffer.at l.buffer.room (record { bytes = 0; position = l.position }) (listing l.kernel l.fd l.position) l.initial.memory
      ≡ listed_records l.buffer.wide l.buffer.at l.buffer.room l.listed (listing l.kernel l.fd l.listed.position) l.memory;
}

abbrev pub decreases-loop-entry : goal.decreases-loop-entry
decreases-loop-entry l = l.buffer.room - l.listed.bytes
