-- A source and a sink in memory: what they hold, and one call as a function of that.
use Rattle.std.specs.Prelude.{Bool, ℕ, ◌+◌, ◌-◌, ◌^◌, min, max, ◌==◌, ◌&&◌, ◌||◌, nat_lt, List, ◌++◌, length, take, drop, slice_get, Option, Some, None, Result, Ok, Err, if◌then◌else◌}
use Rattle.std.specs.List.{list_any}
use Rattle.io_edge.specs.declared.traits.Failed.{Failed}

pub record SourceState : Type 0 where
  -- the bytes not given yet
  pub left : List ℕ
  -- item i, from 1: the most bytes of read i
  pub pieces : List ℕ
  -- the numbers of the reads that fail
  pub failing : List ℕ
  -- how many reads there were
  pub calls : ℕ
  -- how many of them failed
  pub faults : ℕ

pub record SinkState : Type 0 where
  -- the bytes taken
  pub taken : List ℕ
  -- how many it can take in all
  pub room : ℕ
  -- the numbers of the writes that fail
  pub failing : List ℕ
  -- how many writes there were
  pub calls : ℕ
  -- how many of them failed
  pub faults : ℕ

-- a count after one more; it stops at 2^64 - 1
abbrev pub next_count : ℕ → ℕ
next_count n = min (n + 1) (2 ^ 64 - 1)

-- the call with this number, from 1, is to fail
abbrev pub is_failing : List ℕ → ℕ → Bool
is_failing failing call = list_any (λ number. number == call) failing

-- how many of n bytes a read gives by its item of `pieces`: 0 counts as 1, and no item is no bound
abbrev pub given_count : Option ℕ → ℕ → ℕ
given_count (Some item) n = min (max item 1) n
given_count None n = n

abbrev pub failed : Failed
failed = record {}

-- A read into a piece of so many bytes: how many it gives, or that it failed, and the state after it.
abbrev pub read_of : SourceState → ℕ → Result ℕ Failed × SourceState
read_of s size =
    let call = next_count s.calls in
    let n = given_count (slice_get s.pieces (call - 1)) (min size (length s.left)) in
    if is_failing s.failing call then (Err failed, record s { calls = call; faults = next_count s.faults })
    else (Ok n, record s { calls = call; left = drop n s.left })

-- A write of a piece: how many bytes of its front it takes, or that it failed, and the state after it.
abbrev pub write_of : SinkState → List ℕ → Result ℕ Failed × SinkState
write_of s piece =
    let call = next_count s.calls in
    let left = s.room - length s.taken in
    let n = min left (length piece) in
    if is_failing s.failing call || (left == 0 && nat_lt 0 (length piece))
    then (Err failed, record s { calls = call; faults = next_count s.faults })
    else (Ok n, record s { calls = call; taken = s.taken ++ take n piece })
