-- One definition for each call of the kernel: its answer, and the state after it. A row opens none, but the seek that ends a listing.
use Rattle.std.specs.Prelude.{Bool, true, false, ℕ, ℤ, List, Option, Some, None, Result, Err, ⊤}
use Rattle.kernel_values.specs.declared.errno.Errno.{Errno}
use Rattle.kernel_values.specs.declared.errno.Errno.TheVariants.{BrokenPipe}
use Rattle.kernel_values.specs.declared.errno.KernelFault.{KernelFault}
use Rattle.kernel_values.specs.declared.errno.KernelFault.TheVariants as fault
use Rattle.kernel_values.specs.declared.status.FileTimes.{FileTimes}
use Rattle.kernel_values.specs.declared.times.Limit.{Limit}
use Rattle.kernel_values.specs.declared.times.Usage.{Usage}
use Rattle.kernel_values.specs.declared.times.TimeSpec.{TimeSpec}
use Rattle.kernel_values.specs.declared.times.TimerValue.{TimerValue}
use Rattle.kernel_values.specs.declared.signals.Action.{Action}
use Rattle.kernel_values.specs.declared.signals.AltStack.{AltStack}
use Rattle.kernel_values.specs.declared.signals.SigInfo.{SigInfo}
use Rattle.kernel_values.specs.declared.signals.SignalSet.{SignalSet}
use Rattle.kernel_values.specs.declared.identity.Credentials.{Credentials}
use Rattle.kernel_values.specs.declared.listing.DirEntry.{DirEntry}
use Rattle.kernel_values.specs.declared.locks.Lock.{Lock}
use Rattle.kernel_values.specs.declared.status.Stat.{Stat}
use Rattle.kernel_values.specs.declared.open_flags.OpenFlags.{OpenFlags}
use Rattle.kernel_values.specs.Bounds.{at_fdcwd}
use Rattle.kernel_values.specs.Outcome.{marked}
use Rattle.kernel_values.specs.Times.{time_of}
use Rattle.signal_clock.specs.declared.state.Signals.{Signals}
use Rattle.signal_clock.specs.declared.values.Slept.{Slept}
use Rattle.signal_clock.specs.declared.values.Taken.{Taken}
use Rattle.signal_clock.specs.ClockState.{ClockState}
use Rattle.signal_clock.specs.Actions as actions
use Rattle.signal_clock.specs.Clocks as clocks
use Rattle.signal_clock.specs.Masks as masks
use Rattle.signal_clock.specs.Posting as posting
use Rattle.signal_clock.specs.Sleeping as sleeping
use Rattle.signal_clock.specs.Stacks as stacks
use Rattle.signal_clock.specs.Taking as taking
use Rattle.signal_clock.specs.Taking.{fresh_signals}
use Rattle.signal_clock.specs.Timers as timers
use Rattle.file_tree.specs.declared.state.Maker.{Maker}
use Rattle.open_files.specs.declared.state.Place.{Place}
use Rattle.file_tree.specs.Working as working_text
use Rattle.open_files.specs.Accepting as accepting
use Rattle.open_files.specs.Descriptors as positions
use Rattle.open_files.specs.Flags as flags_of
use Rattle.open_files.specs.Numbers as numbers
use Rattle.open_files.specs.Readiness as readiness
use Rattle.open_files.specs.Sockets as unix_sockets
use Rattle.open_files.specs.Sockets.{sends_datagrams}
use Rattle.open_files.specs.declared.accepting.Accepted.{Accepted}
use Rattle.open_files.specs.declared.readiness.Ready.{Ready}
use Rattle.file_store.specs.Closing as closing
use Rattle.file_store.specs.Connecting as connecting
use Rattle.file_store.specs.Descriptors as descriptors
use Rattle.file_store.specs.Image as image
use Rattle.file_store.specs.Image.{fresh_files}
use Rattle.file_store.specs.Lengths as lengths
use Rattle.file_store.specs.Listing as listing_of
use Rattle.file_store.specs.Locks as locks
use Rattle.file_store.specs.NewDirectory as new_directory
use Rattle.file_store.specs.Opening as opening
use Rattle.file_store.specs.Piping as piping
use Rattle.file_store.specs.Removing as removing
use Rattle.file_store.specs.Renaming as renaming
use Rattle.file_store.specs.Retiming as retiming
use Rattle.file_store.specs.Seeking as seeking
use Rattle.file_store.specs.Sending as sending
use Rattle.file_store.specs.State.{on_open_files}
use Rattle.file_store.specs.Status as status_of
use Rattle.file_store.specs.Transfers as transfers
use Rattle.file_store.specs.Working as working
use Rattle.native_kernel.specs.declared.state.Kernel.{Kernel}
use Rattle.kernel_values.specs.declared.process_end.End.{End}
use Rattle.native_kernel.specs.declared.state.Identity.{Identity}
use Rattle.native_kernel.specs.declared.state.Process.{Process}
use Rattle.native_kernel.specs.Limits as limits
use Rattle.native_kernel.specs.Usages as usages
use Rattle.native_kernel.specs.Limits.{soft_limit, starting_limits}
use Rattle.native_kernel.specs.State.{on_clocks, on_files, on_limits, on_signals, on_time}

unfoldable pub clock : Kernel → ℤ → Result ℕ Errno
clock k id = clocks.clock k.clocks id

unfoldable pub set_clock : Kernel → ℤ → TimeSpec → Result ⊤ Errno × Kernel
set_clock k id time = on_clocks k (clocks.set_clock k.clocks k.process.privileged id time)

abbrev pub slept : Kernel → Result Slept Errno × (ClockState × Signals) → Result Slept Errno × Kernel
slept k outcome = (outcome.0, on_time k outcome.1)

unfoldable pub sleep : Kernel → ℤ → Bool → TimeSpec → Result Slept Errno × Kernel
sleep k id absolute time = slept k (sleeping.sleep k.clocks k.signals id absolute time)

-- the interval timer, and what is left of it
unfoldable pub timer : Kernel → ℤ → Result TimerValue Errno
timer k which = timers.tell_timer k.clocks which

unfoldable pub set_timer : Kernel → ℤ → TimerValue → Result TimerValue Errno × Kernel
set_timer k which value = on_clocks k (timers.set_timer k.clocks which value)

unfoldable pub limit : Kernel → ℕ → Result Limit Errno
limit k resource = limits.limit k.limits resource

unfoldable pub set_limit : Kernel → ℕ → Limit → Result ⊤ Errno × Kernel
set_limit k resource new = on_limits k (limits.set_limit k.limits k.process.privileged resource new)

-- time passes: both clocks move, and the timer may fire
unfoldable pub advanced : Kernel → ℕ → Kernel
advanced k nanos = on_time k (sleeping.clock_moved k.clocks k.signals nanos)

unfoldable pub usage : Kernel → ℤ → Result Usage Errno
usage k who = usages.usage k.process.usage who

-- the numbers of the process, its user and its group
unfoldable pub credentials : Kernel → Credentials
credentials k = record { pid = k.process.pid; uid = k.process.uid; gid = k.process.gid }

-- how the process ended, if it has
abbrev pub end_of : Kernel → Option End
end_of k = k.ended

-- a process ends: its descriptors are closed, ascending, and its timer stops
unfoldable pub finish : Kernel → End → Kernel
finish k end = record k { clocks = timers.stopped k.clocks; files = closing.close_all k.files; ended = Some end }

unfoldable pub kill : Kernel → ℤ → ℤ → Result ⊤ Errno × Kernel
kill k pid signal = on_signals k (posting.kill k.signals (credentials k) pid signal)

unfoldable pub queue : Kernel → ℤ → ℤ → SigInfo → Result ⊤ Errno × Kernel
queue k pid signal info = on_signals k (posting.queue k.signals (credentials k) pid signal info)

unfoldable pub change_action : Kernel → ℤ → Option Action → Result Action Errno × Kernel
change_action k signal new = on_signals k (actions.change_action k.signals signal new)

unfoldable pub change_mask : Kernel → ℤ → Option SignalSet → Bool → Result SignalSet Errno × Kernel
change_mask k how set narrow = on_signals k (masks.change_mask k.signals how set narrow)

unfoldable pub alt_stack : Kernel → ℕ → Option AltStack → ℤ → Result AltStack Errno × Kernel
alt_stack k sp new flags = on_signals k (stacks.alt_stack k.signals sp new flags)

-- the signals that wait and are blocked
unfoldable pub pending : Kernel → SignalSet
pending k = masks.pending k.signals

-- what a return from a handler sets
unfoldable pub with_mask : Kernel → ℕ → Kernel
with_mask k set = record k { signals = masks.with_mask k.signals set }

-- a signal is posted from outside, and nobody hears of a full queue
unfoldable pub posted : Kernel → SigInfo → Kernel
posted k info = record k { signals = posting.posted k.signals info }

abbrev pub taken_of : Kernel → Option Taken × Signals → Option Taken × Kernel
taken_of k taken = (taken.0, record k { signals = taken.1 })

-- of a process that has ended no signal is taken
abbrev pub next_unless : Kernel → Option End → Option Taken × Kernel
next_unless k (Some end) = (None, k)
next_unless k None = taken_of k (taking.next_signal k.signals)

unfoldable pub next_signal : Kernel → Option Taken × Kernel
next_signal k = next_unless k k.ended

-- the soft limit of descriptors, RLIMIT_NOFILE
unfoldable pub most_descriptors : Kernel → ℕ
most_descriptors k = soft_limit k.limits 7

-- who makes a file, and when: the owner of the process, and the real clock
unfoldable pub maker : Kernel → Maker
maker k = record { uid = k.process.uid; gid = k.process.gid; time = time_of k.clocks.real }

unfoldable pub can_use : Kernel → ℤ → Bool → Bool → Bool
can_use k fd read write = flags_of.can_use k.files.open_files fd read write

unfoldable pub open_path : Kernel → ℤ → List ℕ → OpenFlags → ℕ → Result ℕ Errno × Kernel
open_path k from path flags mode = on_files k (opening.open_path k.files (most_descriptors k) (maker k) from path flags mode)

unfoldable pub close : Kernel → ℤ → Result ⊤ Errno × Kernel
close k fd = on_files k (descriptors.close k.files fd)

unfoldable pub read : Kernel → ℤ → ℕ → ℕ → Place → Result (List ℕ) Errno × Kernel
read k fd wanted room place = on_files k (transfers.read k.files fd wanted room place)

-- SIGPIPE, 13, as the process itself sends it
abbrev pub pipe_signal : Kernel → SigInfo
pipe_signal k = posting.own_info (credentials k) 13

-- who writes to a pipe without a reader, or to a stream whose peer reads no more, gets SIGPIPE
abbrev pub pipe_signalled : Errno → Kernel → Kernel
pipe_signalled BrokenPipe k = posted k (pipe_signal k)
pipe_signalled e k = k

-- a datagram socket that can't send posts nothing
abbrev pub signalled_unless : Bool → Errno → Kernel → Kernel
signalled_unless true e k = k
signalled_unless false e k = pipe_signalled e k

-- what refused a write to a descriptor
abbrev pub signalled_at : ℤ → Errno → Kernel → Kernel
signalled_at fd e k = signalled_unless (sends_datagrams k.files.open_files fd) e k

-- the same by an answer
abbrev pub signalled_by : ℤ → Result ℕ KernelFault → Kernel → Kernel
signalled_by fd (Err (fault.Errno e)) k = signalled_at fd e k
signalled_by fd answer k = k

unfoldable pub write : Kernel → ℤ → ℕ → List ℕ → Place → Result ℕ Errno × Kernel
write k fd wanted piece place =
    marked (signalled_at fd) (on_files k (transfers.write k.files (time_of k.clocks.real) (credentials k) fd wanted piece place))

unfoldable pub seek : Kernel → ℤ → ℤ → ℕ → Result ℤ Errno × Kernel
seek k fd offset whence = on_files k (seeking.seek k.files fd offset whence)

-- bytes of a file sent to what another descriptor has open
unfoldable pub send_file : Kernel → ℤ → ℤ → Place → ℕ → Bool → Result ℕ Errno × Kernel
send_file k target source place count narrow =
    marked (signalled_at target) (on_files k (sending.send_file k.files (time_of k.clocks.real) (credentials k) target source place count narrow))

-- what a descriptor is ready for
unfoldable pub ready : Kernel → ℤ → Result Ready Errno
ready k fd = readiness.ready k.files.open_files fd

-- how many bytes wait in a pipe or a socket
unfoldable pub waiting_bytes : Kernel → ℤ → Result ℕ Errno
waiting_bytes k fd = readiness.waiting_bytes k.files.open_files fd

unfoldable pub duplicate : Kernel → ℤ → ℤ → Bool → Result ℕ Errno × Kernel
duplicate k fd least cloexec = on_files k (on_open_files k.files (numbers.duplicate k.files.open_files (most_descriptors k) fd least cloexec))

unfoldable pub duplicate_to : Kernel → ℤ → ℤ → ℕ → Bool → Result ℕ Errno × Kernel
duplicate_to k fd new flags three = on_files k (descriptors.duplicate_to k.files (most_descriptors k) fd new flags three)

-- both ends of a pipe
unfoldable pub pipe : Kernel → ℕ → Result (ℕ × ℕ) Errno × Kernel
pipe k flags = on_files k (piping.pipe k.files (most_descriptors k) flags)

-- sockets; a type stands in a word with flags
unfoldable pub socket : Kernel → ℤ → ℕ → ℤ → Result ℕ Errno × Kernel
socket k domain word protocol = on_files k (connecting.socket k.files (most_descriptors k) domain word protocol)

unfoldable pub socket_pair : Kernel → ℤ → ℕ → ℤ → Result (ℕ × ℕ) Errno × Kernel
socket_pair k domain word protocol = on_files k (connecting.socket_pair k.files (most_descriptors k) domain word protocol)

unfoldable pub connect : Kernel → ℤ → List ℕ → Result ⊤ Errno × Kernel
connect k fd name = on_files k (connecting.connect k.files fd name)

unfoldable pub bind : Kernel → ℤ → List ℕ → Result ⊤ Errno × Kernel
bind k fd name = on_files k (on_open_files k.files (unix_sockets.bind k.files.open_files fd name))

unfoldable pub listen : Kernel → ℤ → ℤ → Result ⊤ Errno × Kernel
listen k fd backlog = on_files k (on_open_files k.files (unix_sockets.listen k.files.open_files fd backlog))

unfoldable pub accept : Kernel → ℤ → ℕ → Result Accepted Errno × Kernel
accept k fd flags = on_files k (on_open_files k.files (accepting.accept k.files.open_files (most_descriptors k) fd flags))

unfoldable pub shut : Kernel → ℤ → ℤ → Result ⊤ Errno × Kernel
shut k fd how = on_files k (on_open_files k.files (unix_sockets.shut k.files.open_files fd how))

unfoldable pub own_name : Kernel → ℤ → Result (List ℕ) Errno
own_name k fd = unix_sockets.own_name k.files.open_files fd

unfoldable pub peer_name : Kernel → ℤ → Result (List ℕ) Errno
peer_name k fd = unix_sockets.peer_name k.files.open_files fd

unfoldable pub fd_flags : Kernel → ℤ → Result ℕ Errno
fd_flags k fd = flags_of.fd_flags k.files.open_files fd

unfoldable pub set_fd_flags : Kernel → ℤ → ℕ → Result ⊤ Errno × Kernel
set_fd_flags k fd word = on_files k (on_open_files k.files (flags_of.set_fd_flags k.files.open_files fd word))

unfoldable pub open_flags : Kernel → ℤ → Result OpenFlags Errno
open_flags k fd = flags_of.open_flags k.files.open_files fd

unfoldable pub set_open_flags : Kernel → ℤ → OpenFlags → Result ⊤ Errno × Kernel
set_open_flags k fd flags = on_files k (on_open_files k.files (flags_of.set_open_flags k.files.open_files fd flags))

unfoldable pub status : Kernel → ℤ → Result Stat Errno
status k fd = status_of.status k.files (maker k) fd

unfoldable pub status_at : Kernel → ℤ → List ℕ → ℤ → Result Stat Errno
status_at k from path flags = status_of.status_at k.files (maker k) from path flags

unfoldable pub make_directory : Kernel → ℤ → List ℕ → ℕ → Result ⊤ Errno × Kernel
make_directory k from path mode = on_files k (new_directory.make_directory k.files (maker k) from path mode)

unfoldable pub remove : Kernel → ℤ → List ℕ → ℤ → Result ⊤ Errno × Kernel
remove k from path flags = on_files k (removing.remove k.files (time_of k.clocks.real) from path flags)

unfoldable pub rename : Kernel → List ℕ → List ℕ → Result ⊤ Errno × Kernel
rename k old new = on_files k (renaming.rename k.files (time_of k.clocks.real) old new)

unfoldable pub listing : Kernel → ℤ → ℕ → Result (List DirEntry) Errno
listing k fd position = listing_of.listing k.files fd position

unfoldable pub position : Kernel → ℤ → Result ℕ Errno
position k fd = positions.position k.files.open_files fd

unfoldable pub truncate : Kernel → List ℕ → ℤ → Result ⊤ Errno × Kernel
truncate k path wanted = on_files k (lengths.truncate k.files (time_of k.clocks.real) path wanted)

unfoldable pub truncate_open : Kernel → ℤ → ℤ → Result ⊤ Errno × Kernel
truncate_open k fd wanted = on_files k (lengths.truncate_open k.files (time_of k.clocks.real) fd wanted)

unfoldable pub allocate : Kernel → ℤ → ℤ → ℤ → ℤ → Result ⊤ Errno × Kernel
allocate k fd mode offset count = on_files k (lengths.allocate k.files fd mode offset count)

unfoldable pub set_times : Kernel → ℤ → Option (List ℕ) → Option FileTimes → ℤ → Result ⊤ Errno × Kernel
set_times k from path times flags = on_files k (retiming.set_times k.files (time_of k.clocks.real) from path times flags)

unfoldable pub find_lock : Kernel → ℤ → Lock → Result Lock Errno
find_lock k fd wanted = locks.find_lock k.files fd wanted

unfoldable pub set_lock : Kernel → ℤ → Lock → Result ⊤ Errno × Kernel
set_lock k fd wanted = on_files k (locks.set_lock k.files fd wanted)

unfoldable pub change_directory : Kernel → List ℕ → Result ⊤ Errno × Kernel
change_directory k path = on_files k (working.change_directory k.files at_fdcwd path)

unfoldable pub current_directory : Kernel → ℕ → Result (List ℕ) Errno
current_directory k size = working_text.current_directory k.files.tree size

-- what lines of the image make
unfoldable pub image_directory : Kernel → List ℕ → ℕ → Result ⊤ Errno × Kernel
image_directory k path inode = on_files k (image.image_directory k.files path inode)

unfoldable pub image_file : Kernel → List ℕ → ℕ → ℕ → Result ⊤ Errno × Kernel
image_file k path inode size = on_files k (image.image_file k.files path inode size)

unfoldable pub image_bytes : Kernel → List ℕ → ℕ → List ℕ → Result ⊤ Errno × Kernel
image_bytes k path offset bytes = on_files k (image.image_bytes k.files path offset bytes)

unfoldable pub image_lock : Kernel → List ℕ → Bool → ℕ → ℕ → ℕ → Result ⊤ Errno × Kernel
image_lock k path write start count pid = on_files k (image.image_lock k.files path write start count pid)

abbrev pub process_of : Identity → Process
process_of i = record { pid = i.pid; uid = i.uid; gid = i.gid; privileged = i.privileged; usage = i.usage }

-- the state at the start
unfoldable pub started : Identity → Kernel
started i = record {
  process = process_of i;
  clocks = record { real = i.real; monotonic = i.monotonic; timer = None };
  signals = fresh_signals;
  limits = starting_limits;
  files = fresh_files;
  ended = None;
}

-- the same with both clocks set, and no timer
unfoldable pub with_clocks : Kernel → ℕ → ℕ → Kernel
with_clocks k real monotonic = record k { clocks = record { real = real; monotonic = monotonic; timer = None } }

-- the same for the process of another owner; what it has used stays
unfoldable pub with_owner : Kernel → Credentials → Bool → Kernel
with_owner k owner privileged = record k {
  process = record k.process {
    pid = owner.pid;
    uid = owner.uid;
    gid = owner.gid;
    privileged = privileged;
  };
}

-- the same for a process that has used something else
unfoldable pub with_usage : Kernel → Usage → Kernel
with_usage k used = record k { process = record k.process { usage = used } }
