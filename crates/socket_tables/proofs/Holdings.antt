-- How many open files sockets hold.
use Rattle.std.proofs.Common.{◌≡◌, ◌≤◌, ℕ, ◌+◌, List, [], ◌∷◌, ◌++◌, length, Option, Some, None, refl, arith, length-append, zero-add, ap}
use Rattle.std.specs.BTreeMap.{is_at}
use Rattle.std.specs.Ordering.{nat_cmp}
use Rattle.std.proofs.lemmas.Cmp.{nat_cmp_total}
use Rattle.std.proofs.lemmas.Map.Entries.{sum_by-insert_entry, sum_by-remove_entry, sum_by-set_value}
use Rattle.std.proofs.lemmas.List.Concat.{flat_map-append}
use Rattle.number_maps.specs.NumberMap.{IsAscending, at, changed, put, removed}
use Rattle.socket_queues.specs.Queues.{rights_in}
use Rattle.socket_queues.specs.declared.message.Message.{Message}
use Rattle.socket_tables.specs.Sockets.{SocketsState, held_by, holds, total_held, without}
use Rattle.socket_tables.specs.declared.state.Socket.{Socket}
use Rattle.socket_tables.specs.declared.state.SocketStatus.{SocketStatus}

-- the same with one socket less
pub total_without : (s : SocketsState) (serial : ℕ) → length (held_by s.entries serial) + total_held (without s serial).entries ≡ total_held s.entries
unfolding without
total_without s serial = go (at s.entries serial) refl
  where
    go : (found : Option Socket) → at s.entries serial ≡ found → length (held_by s.entries serial) + total_held (without s serial).entries ≡ total_held s.entries
    go None none = rw none (zero-add _)
    go (Some socket) some =
        let all = rw some at (sum_by-remove_entry (λ (k : Socket). length (holds k)) (is_at (nat_cmp serial)) s.entries) in
        rw some (omega (arith, all))

-- a new socket holds nothing
pub total_with_new : (entries : List (ℕ × Socket)) (serial : ℕ) (socket : Socket) → IsAscending entries → holds socket ≡ []
    → total_held (put entries serial socket) + length (held_by entries serial) ≡ total_held entries
total_with_new entries serial socket ascending empty = go (at entries serial) refl
  where
    go : (found : Option Socket) → at entries serial ≡ found → total_held (put entries serial socket) + length (held_by entries serial) ≡ total_held entries
    go None none =
        let all = rw (none, empty) at (sum_by-insert_entry (λ (k : Socket). length (holds k)) nat_cmp_total entries serial socket ascending) in
        rw none (omega (arith, all))
    go (Some old) some =
        let all = rw (some, empty) at (sum_by-insert_entry (λ (k : Socket). length (holds k)) nat_cmp_total entries serial socket ascending) in
        rw some (omega (arith, all))

held_more : (waiting : List ℕ) (queue : List Message) (m : Message) → length (waiting ++ rights_in (queue ++ m ∷ [])) ≡ length (waiting ++ rights_in queue) + length m.rights
held_more waiting queue m = simp (flat_map-append, length-append) (omega arith)

-- a message more
pub total_with_message : (entries : List (ℕ × Socket)) (serial : ℕ) (socket : Socket) (m : Message) → at entries serial ≡ Some socket
    → total_held (changed entries serial (record socket { queue = socket.queue ++ m ∷ [] })) ≡ total_held entries + length m.rights
total_with_message entries serial socket m some =
    let all = sum_by-set_value (λ (k : Socket). length (holds k)) (is_at (nat_cmp serial)) entries socket (record socket { queue = socket.queue ++ m ∷ [] }) some in
    let more = held_more socket.waiting socket.queue m in
    omega (arith, all, more)

-- what one socket holds is no more than what all hold
pub few_held : (entries : List (ℕ × Socket)) (serial : ℕ) (socket : Socket) → at entries serial ≡ Some socket → length (holds socket) ≤ total_held entries
few_held entries serial socket some =
    let all = rw some at (sum_by-remove_entry (λ (k : Socket). length (holds k)) (is_at (nat_cmp serial)) entries) in
    omega (arith, all)

-- without one of the sockets
pub total_removed : (entries : List (ℕ × Socket)) (serial : ℕ) (socket : Socket) → at entries serial ≡ Some socket → length (holds socket) + total_held (removed entries serial) ≡ total_held entries
total_removed entries serial socket some =
    let all = rw some at (sum_by-remove_entry (λ (k : Socket). length (holds k)) (is_at (nat_cmp serial)) entries) in
    omega (arith, all)

-- with the same socket in its own place
pub total_same : (entries : List (ℕ × Socket)) (serial : ℕ) (socket : Socket) → at entries serial ≡ Some socket → total_held (changed entries serial socket) ≡ total_held entries
total_same entries serial socket some =
    let all = sum_by-set_value (λ (k : Socket). length (holds k)) (is_at (nat_cmp serial)) entries socket socket some in
    omega (arith, all)

-- open files are taken of the messages of one socket
pub total_taken : (entries : List (ℕ × Socket)) (serial : ℕ) (socket : Socket) (queue : List Message) (rights : List ℕ) → at entries serial ≡ Some socket
    → length rights + length (rights_in queue) ≡ length (rights_in socket.queue) → length rights + total_held (changed entries serial (record socket { queue = queue })) ≡ total_held entries
total_taken entries serial socket queue rights some left =
    let all = sum_by-set_value (λ (k : Socket). length (holds k)) (is_at (nat_cmp serial)) entries socket (record socket { queue = queue }) some in
    let before = length-append socket.waiting (rights_in socket.queue) in
    let after = length-append socket.waiting (rights_in queue) in
    omega (arith, all, before, after, left)

-- the messages of one socket carry no more than all sockets hold
pub few_carried : (entries : List (ℕ × Socket)) (serial : ℕ) (socket : Socket) → at entries serial ≡ Some socket → length (rights_in socket.queue) ≤ total_held entries
few_carried entries serial socket some =
    let few = few_held entries serial socket some in
    let parts = length-append socket.waiting (rights_in socket.queue) in
    omega (arith, few, parts)

-- what is set of a socket holds nothing
pub total_with_status : (entries : List (ℕ × Socket)) (serial : ℕ) (socket : Socket) (status : SocketStatus) → at entries serial ≡ Some socket
    → total_held (changed entries serial (record socket { status = status })) ≡ total_held entries
total_with_status entries serial socket status some =
    let all = sum_by-set_value (λ (k : Socket). length (holds k)) (is_at (nat_cmp serial)) entries socket (record socket { status = status }) some in
    omega (arith, all)

-- a connection more
pub total_with_waiting : (entries : List (ℕ × Socket)) (serial : ℕ) (socket : Socket) (connection : ℕ) → at entries serial ≡ Some socket
    → total_held (changed entries serial (record socket { waiting = socket.waiting ++ connection ∷ [] })) ≡ total_held entries + 1
total_with_waiting entries serial socket connection some =
    let all = sum_by-set_value (λ (k : Socket). length (holds k)) (is_at (nat_cmp serial)) entries socket (record socket { waiting = socket.waiting ++ connection ∷ [] }) some in
    let before = length-append socket.waiting (rights_in socket.queue) in
    let after = length-append (socket.waiting ++ connection ∷ []) (rights_in socket.queue) in
    let more = length-append socket.waiting (connection ∷ []) in
    omega (arith, all, before, after, more)

-- the first connection less
pub total_without_first : (entries : List (ℕ × Socket)) (serial : ℕ) (socket : Socket) (first : ℕ) (others : List ℕ) → at entries serial ≡ Some socket → socket.waiting ≡ first ∷ others
    → total_held (changed entries serial (record socket { waiting = others })) + 1 ≡ total_held entries
total_without_first entries serial socket first others some front =
    let all = sum_by-set_value (λ (k : Socket). length (holds k)) (is_at (nat_cmp serial)) entries socket (record socket { waiting = others }) some in
    let before = length-append socket.waiting (rights_in socket.queue) in
    let after = length-append others (rights_in socket.queue) in
    let count : length socket.waiting ≡ length (first ∷ others) = ap length front in
    omega (arith, all, before, after, count)

-- where none waits, the same without the first
pub total_without_none : (entries : List (ℕ × Socket)) (serial : ℕ) (socket : Socket) → at entries serial ≡ Some socket → socket.waiting ≡ []
    → total_held (changed entries serial (record socket { waiting = [] })) ≡ total_held entries
total_without_none entries serial socket some none =
    let all = sum_by-set_value (λ (k : Socket). length (holds k)) (is_at (nat_cmp serial)) entries socket (record socket { waiting = [] }) some in
    let count : length socket.waiting ≡ 0 = ap length none in
    let before = length-append socket.waiting (rights_in socket.queue) in
    omega (arith, all, before, count)
