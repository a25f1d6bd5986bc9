-- A name that bind puts on a socket changes nothing of what sockets hold.
use Rattle.std.proofs.Common.{◌≡◌, ℕ, List, length, true, Some, arith}
use Rattle.std.specs.BTreeMap.{is_at}
use Rattle.std.specs.Ordering.{nat_cmp}
use Rattle.std.proofs.lemmas.Map.Entries.{sum_by-set_value}
use Rattle.number_maps.specs.NumberMap.{at, changed}
use Rattle.socket_tables.specs.Sockets.{holds, total_held}
use Rattle.socket_tables.specs.declared.state.Socket.{Socket}

-- as much is held as before
pub total_named : (entries : List (ℕ × Socket)) (serial : ℕ) (socket : Socket) (name : List ℕ) → at entries serial ≡ Some socket
    → total_held (changed entries serial (record socket { status = record socket.status { bound = true }; name = name })) ≡ total_held entries
total_named entries serial socket name some =
    let all = sum_by-set_value (λ (k : Socket). length (holds k)) (is_at (nat_cmp serial)) entries socket (record socket { status = record socket.status { bound = true }; name = name }) some in
    omega (arith, all)
