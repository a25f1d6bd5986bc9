-- A law of the control messages that are told.
use Rattle.std.specs.Prelude.{◌≡◌, ℕ, ◌<◌, ◌≤◌, ◌^◌, Some}
use Rattle.kernel_values.specs.declared.sockets.Received.{Received}
use Rattle.message_layouts.specs.Controls.{controls_of, spelled_size}
use Rattle.control_repack.specs.Outgoing.{all_controls, controls_out_bytes, is_cut}

-- Where there is room for all messages, the bytes are those of the credentials and of the descriptors, and nothing is cut but what was
-- dropped before.
abbrev pub AmpleRoomTellsAll : Type 0
AmpleRoomTellsAll = (r : Received) (room : ℕ) → room < 2 ^ 32 → spelled_size 4 (all_controls r) ≤ room → record {
  told : controls_of 4 (controls_out_bytes r room) ≡ Some (all_controls r);
  cut : is_cut r room ≡ r.dropped;
}
