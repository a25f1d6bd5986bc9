-- The lines of the call tables: arch/x86/entry/syscalls/syscall_32.tbl and arch/arm/tools/syscall.tbl number and name the
-- calls, include/linux/syscalls.h has their arguments. Each call has one line, among those of its kind.
use Rattle.std.specs.Prelude.{ℕ, List, [], ◌∷◌, ◌++◌, codes}
use Rattle.abi_registers.specs.declared.arguments.Form.{Form}
use Rattle.abi_registers.specs.declared.arguments.Form.TheVariants.{Word, Signed, Pair}
use Rattle.call_tables.specs.declared.operation.Operation.{Operation}
use Rattle.call_tables.specs.declared.operation.Operation.TheVariants.{Files, Readiness, Sockets, Times, Limits, Identity, Signals, Returns}
use Rattle.call_tables.specs.declared.operation.FileOperation.TheVariants.{Paths, Names, Descriptors, Pipes, Transfers, Vectors, Sending, Listings, Status, Retiming, Lengths}
use Rattle.call_tables.specs.declared.operation.PathOperation.TheVariants as path
use Rattle.call_tables.specs.declared.operation.NameOperation.TheVariants as name
use Rattle.call_tables.specs.declared.operation.DescriptorOperation.TheVariants as descriptor
use Rattle.call_tables.specs.declared.operation.PipeOperation.TheVariants as pipe
use Rattle.call_tables.specs.declared.operation.TransferOperation.TheVariants as transfer
use Rattle.call_tables.specs.declared.operation.VectorOperation.TheVariants as vector
use Rattle.call_tables.specs.declared.operation.SendingOperation.TheVariants as sending
use Rattle.call_tables.specs.declared.operation.ListingOperation.TheVariants as listing
use Rattle.call_tables.specs.declared.operation.StatusOperation.TheVariants as status
use Rattle.call_tables.specs.declared.operation.RetimingOperation.TheVariants as retiming
use Rattle.call_tables.specs.declared.operation.LengthOperation.TheVariants as lengths
use Rattle.call_tables.specs.declared.operation.ReadinessOperation.TheVariants as readiness
use Rattle.call_tables.specs.declared.operation.SocketOperation.TheVariants as sockets
use Rattle.call_tables.specs.declared.operation.TimeOperation.TheVariants as time
use Rattle.call_tables.specs.declared.operation.LimitOperation.TheVariants as limit
use Rattle.call_tables.specs.declared.operation.IdentityOperation.TheVariants as identity
use Rattle.call_tables.specs.declared.operation.SignalOperation.TheVariants as signals
use Rattle.call_tables.specs.declared.operation.ReturnOperation.TheVariants as returns
use Rattle.call_tables.specs.declared.table.Numbers.{Numbers}
use Rattle.call_tables.specs.declared.table.Numbers.TheVariants.{ArmAlone, Both, By}

-- a call, its name in ASCII, its numbers, and the forms of its arguments: Signed for a signed number and a descriptor,
-- Pair for a 64-bit number in two words, Word for all else
pub record Line : Type 0 where
  pub operation : Operation
  pub name : List ℕ
  pub numbers : Numbers
  pub forms : List Form

abbrev pub line : Operation → List ℕ → Numbers → List Form → Line
line call text numbers forms = record { operation = call; name = text; numbers = numbers; forms = forms }

abbrev pub path_calls : List Line
path_calls =
    line (Files (Paths path.Chdir)) (codes "chdir") (Both 12) (Word ∷ []) ∷  -- chdir(path)
    line (Files (Paths path.Getcwd)) (codes "getcwd") (Both 183) (Word ∷ Word ∷ []) ∷  -- getcwd(buf, size)
    line (Files (Paths path.Open)) (codes "open") (Both 5) (Word ∷ Word ∷ Word ∷ []) ∷  -- open(path, flags, mode)
    line (Files (Paths path.Openat)) (codes "openat") (By 295 322) (Signed ∷ Word ∷ Word ∷ Word ∷ []) ∷  -- openat(dirfd, path, flags, mode)
    []

abbrev pub name_calls : List Line
name_calls =
    line (Files (Names name.Mkdir)) (codes "mkdir") (Both 39) (Word ∷ Word ∷ []) ∷  -- mkdir(path, mode)
    line (Files (Names name.Mkdirat)) (codes "mkdirat") (By 296 323) (Signed ∷ Word ∷ Word ∷ []) ∷  -- mkdirat(dirfd, path, mode)
    line (Files (Names name.Rename)) (codes "rename") (Both 38) (Word ∷ Word ∷ []) ∷  -- rename(from, to)
    line (Files (Names name.Rmdir)) (codes "rmdir") (Both 40) (Word ∷ []) ∷  -- rmdir(path)
    line (Files (Names name.Unlink)) (codes "unlink") (Both 10) (Word ∷ []) ∷  -- unlink(path)
    line (Files (Names name.Unlinkat)) (codes "unlinkat") (By 301 328) (Signed ∷ Word ∷ Signed ∷ []) ∷  -- unlinkat(dirfd, path, flag)
    []

abbrev pub descriptor_calls : List Line
descriptor_calls =
    line (Files (Descriptors descriptor.Close)) (codes "close") (Both 6) (Signed ∷ []) ∷  -- close(fd)
    line (Files (Descriptors descriptor.Dup)) (codes "dup") (Both 41) (Signed ∷ []) ∷  -- dup(fd)
    line (Files (Descriptors descriptor.Dup2)) (codes "dup2") (Both 63) (Signed ∷ Signed ∷ []) ∷  -- dup2(fd, to)
    line (Files (Descriptors descriptor.Dup3)) (codes "dup3") (By 330 358) (Signed ∷ Signed ∷ Word ∷ []) ∷  -- dup3(fd, to, flags)
    line (Files (Descriptors descriptor.Fcntl)) (codes "fcntl") (Both 55) (Signed ∷ Word ∷ Word ∷ []) ∷  -- fcntl(fd, command, argument)
    line (Files (Descriptors descriptor.Fcntl64)) (codes "fcntl64") (Both 221) (Signed ∷ Word ∷ Word ∷ []) ∷  -- fcntl64(fd, command, argument)
    []

abbrev pub pipe_calls : List Line
pipe_calls =
    line (Files (Pipes pipe.Ioctl)) (codes "ioctl") (Both 54) (Signed ∷ Word ∷ Word ∷ []) ∷  -- ioctl(fd, command, argument)
    line (Files (Pipes pipe.Pipe)) (codes "pipe") (Both 42) (Word ∷ []) ∷  -- pipe(fds)
    line (Files (Pipes pipe.Pipe2)) (codes "pipe2") (By 331 359) (Word ∷ Word ∷ []) ∷  -- pipe2(fds, flags)
    []

abbrev pub transfer_calls : List Line
transfer_calls =
    line (Files (Transfers transfer.Llseek)) (codes "_llseek") (Both 140) (Signed ∷ Word ∷ Word ∷ Word ∷ Word ∷ []) ∷  -- _llseek(fd, high, low, result, whence)
    line (Files (Transfers transfer.Lseek)) (codes "lseek") (Both 19) (Signed ∷ Signed ∷ Word ∷ []) ∷  -- lseek(fd, offset, whence)
    line (Files (Transfers transfer.Pread64)) (codes "pread64") (Both 180) (Signed ∷ Word ∷ Word ∷ Pair ∷ []) ∷  -- pread64(fd, buf, count, offset)
    line (Files (Transfers transfer.Pwrite64)) (codes "pwrite64") (Both 181) (Signed ∷ Word ∷ Word ∷ Pair ∷ []) ∷  -- pwrite64(fd, buf, count, offset)
    line (Files (Transfers transfer.Read)) (codes "read") (Both 3) (Signed ∷ Word ∷ Word ∷ []) ∷  -- read(fd, buf, count)
    line (Files (Transfers transfer.Write)) (codes "write") (Both 4) (Signed ∷ Word ∷ Word ∷ []) ∷  -- write(fd, buf, count)
    []

abbrev pub vector_calls : List Line
vector_calls =
    line (Files (Vectors vector.Preadv)) (codes "preadv") (By 333 361) (Signed ∷ Word ∷ Word ∷ Word ∷ Word ∷ []) ∷  -- preadv(fd, vec, vlen, pos_l, pos_h)
    line (Files (Vectors vector.Pwritev)) (codes "pwritev") (By 334 362) (Signed ∷ Word ∷ Word ∷ Word ∷ Word ∷ []) ∷  -- pwritev(fd, vec, vlen, pos_l, pos_h)
    line (Files (Vectors vector.Readv)) (codes "readv") (Both 145) (Signed ∷ Word ∷ Word ∷ []) ∷  -- readv(fd, vec, vlen)
    line (Files (Vectors vector.Writev)) (codes "writev") (Both 146) (Signed ∷ Word ∷ Word ∷ []) ∷  -- writev(fd, vec, vlen)
    []

abbrev pub sending_calls : List Line
sending_calls =
    line (Files (Sending sending.Sendfile)) (codes "sendfile") (Both 187) (Signed ∷ Signed ∷ Word ∷ Word ∷ []) ∷  -- sendfile(out_fd, in_fd, offset, count)
    line (Files (Sending sending.Sendfile64)) (codes "sendfile64") (Both 239) (Signed ∷ Signed ∷ Word ∷ Word ∷ []) ∷  -- sendfile64(out_fd, in_fd, offset, count)
    []

abbrev pub listing_calls : List Line
listing_calls =
    line (Files (Listings listing.Getdents)) (codes "getdents") (Both 141) (Signed ∷ Word ∷ Word ∷ []) ∷  -- getdents(fd, buf, count)
    line (Files (Listings listing.Getdents64)) (codes "getdents64") (By 220 217) (Signed ∷ Word ∷ Word ∷ []) ∷  -- getdents64(fd, buf, count)
    []

abbrev pub status_calls : List Line
status_calls =
    line (Files (Status status.Fstat)) (codes "fstat") (Both 108) (Signed ∷ Word ∷ []) ∷  -- fstat(fd, status)
    line (Files (Status status.Fstat64)) (codes "fstat64") (Both 197) (Signed ∷ Word ∷ []) ∷  -- fstat64(fd, status)
    line (Files (Status status.Fstatat64)) (codes "fstatat64") (By 300 327) (Signed ∷ Word ∷ Word ∷ Signed ∷ []) ∷  -- fstatat64(dirfd, path, status, flag)
    line (Files (Status status.Stat)) (codes "stat") (Both 106) (Word ∷ Word ∷ []) ∷  -- stat(path, status)
    line (Files (Status status.Stat64)) (codes "stat64") (Both 195) (Word ∷ Word ∷ []) ∷  -- stat64(path, status)
    []

abbrev pub retiming_calls : List Line
retiming_calls =
    line (Files (Retiming retiming.Utimensat)) (codes "utimensat") (By 320 348) (Signed ∷ Word ∷ Word ∷ Signed ∷ []) ∷  -- utimensat(dirfd, path, times, flags)
    []

abbrev pub length_calls : List Line
length_calls =
    line (Files (Lengths lengths.Fallocate)) (codes "fallocate") (By 324 352) (Signed ∷ Signed ∷ Pair ∷ Pair ∷ []) ∷  -- fallocate(fd, mode, offset, length)
    line (Files (Lengths lengths.Ftruncate)) (codes "ftruncate") (Both 93) (Signed ∷ Signed ∷ []) ∷  -- ftruncate(fd, length)
    line (Files (Lengths lengths.Ftruncate64)) (codes "ftruncate64") (Both 194) (Signed ∷ Pair ∷ []) ∷  -- ftruncate64(fd, length)
    line (Files (Lengths lengths.Truncate)) (codes "truncate") (Both 92) (Word ∷ Signed ∷ []) ∷  -- truncate(path, length)
    line (Files (Lengths lengths.Truncate64)) (codes "truncate64") (Both 193) (Word ∷ Pair ∷ []) ∷  -- truncate64(path, length)
    []

abbrev pub readiness_calls : List Line
readiness_calls =
    line (Readiness readiness.Newselect) (codes "_newselect") (Both 142) (Signed ∷ Word ∷ Word ∷ Word ∷ Word ∷ []) ∷  -- _newselect(n, inp, outp, exp, tvp)
    line (Readiness readiness.Poll) (codes "poll") (Both 168) (Word ∷ Word ∷ Signed ∷ []) ∷  -- poll(ufds, nfds, timeout)
    []

abbrev pub socket_calls : List Line
socket_calls =
    line (Sockets sockets.Accept) (codes "accept") (ArmAlone 285) (Signed ∷ Word ∷ Word ∷ []) ∷  -- accept(fd, address, length)
    line (Sockets sockets.Accept4) (codes "accept4") (By 364 366) (Signed ∷ Word ∷ Word ∷ Signed ∷ []) ∷  -- accept4(fd, address, length, flags)
    line (Sockets sockets.Bind) (codes "bind") (By 361 282) (Signed ∷ Word ∷ Signed ∷ []) ∷  -- bind(fd, address, length)
    line (Sockets sockets.Connect) (codes "connect") (By 362 283) (Signed ∷ Word ∷ Signed ∷ []) ∷  -- connect(fd, address, length)
    line (Sockets sockets.Getpeername) (codes "getpeername") (By 368 287) (Signed ∷ Word ∷ Word ∷ []) ∷  -- getpeername(fd, address, length)
    line (Sockets sockets.Getsockname) (codes "getsockname") (By 367 286) (Signed ∷ Word ∷ Word ∷ []) ∷  -- getsockname(fd, address, length)
    line (Sockets sockets.Listen) (codes "listen") (By 363 284) (Signed ∷ Signed ∷ []) ∷  -- listen(fd, backlog)
    line (Sockets sockets.Shutdown) (codes "shutdown") (By 373 293) (Signed ∷ Signed ∷ []) ∷  -- shutdown(fd, how)
    line (Sockets sockets.Socket) (codes "socket") (By 359 281) (Signed ∷ Signed ∷ Signed ∷ []) ∷  -- socket(domain, type, protocol)
    line (Sockets sockets.Socketpair) (codes "socketpair") (By 360 288) (Signed ∷ Signed ∷ Signed ∷ Word ∷ []) ∷  -- socketpair(domain, type, protocol, place)
    []

abbrev pub time_calls : List Line
time_calls =
    line (Times time.ClockGetres) (codes "clock_getres") (By 266 264) (Signed ∷ Word ∷ []) ∷  -- clock_getres(clock, time)
    line (Times time.ClockGettime) (codes "clock_gettime") (By 265 263) (Signed ∷ Word ∷ []) ∷  -- clock_gettime(clock, time)
    line (Times time.ClockNanosleep) (codes "clock_nanosleep") (By 267 265) (Signed ∷ Signed ∷ Word ∷ Word ∷ []) ∷  -- clock_nanosleep(clock, flags, time, rest)
    line (Times time.ClockSettime) (codes "clock_settime") (By 264 262) (Signed ∷ Word ∷ []) ∷  -- clock_settime(clock, time)
    line (Times time.Gettimeofday) (codes "gettimeofday") (Both 78) (Word ∷ Word ∷ []) ∷  -- gettimeofday(time, zone)
    line (Times time.Nanosleep) (codes "nanosleep") (Both 162) (Word ∷ Word ∷ []) ∷  -- nanosleep(time, rest)
    []

abbrev pub limit_calls : List Line
limit_calls =
    line (Limits limit.Prlimit64) (codes "prlimit64") (By 340 369) (Signed ∷ Word ∷ Word ∷ Word ∷ []) ∷  -- prlimit64(pid, resource, limit, old)
    line (Limits limit.Setrlimit) (codes "setrlimit") (Both 75) (Word ∷ Word ∷ []) ∷  -- setrlimit(resource, limit)
    line (Limits limit.Ugetrlimit) (codes "ugetrlimit") (Both 191) (Word ∷ Word ∷ []) ∷  -- ugetrlimit(resource, limit)
    []

abbrev pub identity_calls : List Line
identity_calls =
    line (Identity identity.Exit) (codes "exit") (Both 1) (Signed ∷ []) ∷  -- exit(status)
    line (Identity identity.ExitGroup) (codes "exit_group") (By 252 248) (Signed ∷ []) ∷  -- exit_group(status)
    line (Identity identity.Getgid32) (codes "getgid32") (Both 200) [] ∷  -- getgid32()
    line (Identity identity.Getpid) (codes "getpid") (Both 20) [] ∷  -- getpid()
    line (Identity identity.Getrusage) (codes "getrusage") (Both 77) (Signed ∷ Word ∷ []) ∷  -- getrusage(who, usage)
    line (Identity identity.Getuid32) (codes "getuid32") (Both 199) [] ∷  -- getuid32()
    []

abbrev pub signal_calls : List Line
signal_calls =
    line (Signals signals.Getitimer) (codes "getitimer") (Both 105) (Signed ∷ Word ∷ []) ∷  -- getitimer(which, value)
    line (Signals signals.Kill) (codes "kill") (Both 37) (Signed ∷ Signed ∷ []) ∷  -- kill(pid, sig)
    line (Signals signals.RtSigaction) (codes "rt_sigaction") (Both 174) (Signed ∷ Word ∷ Word ∷ Word ∷ []) ∷  -- rt_sigaction(sig, act, oact, sigsetsize)
    line (Signals signals.RtSigpending) (codes "rt_sigpending") (Both 176) (Word ∷ Word ∷ []) ∷  -- rt_sigpending(set, sigsetsize)
    line (Signals signals.RtSigprocmask) (codes "rt_sigprocmask") (Both 175) (Signed ∷ Word ∷ Word ∷ Word ∷ []) ∷  -- rt_sigprocmask(how, set, oset, sigsetsize)
    line (Signals signals.RtSigqueueinfo) (codes "rt_sigqueueinfo") (Both 178) (Signed ∷ Signed ∷ Word ∷ []) ∷  -- rt_sigqueueinfo(pid, sig, uinfo)
    line (Signals signals.Setitimer) (codes "setitimer") (Both 104) (Signed ∷ Word ∷ Word ∷ []) ∷  -- setitimer(which, in, out)
    line (Signals signals.Sigaction) (codes "sigaction") (Both 67) (Signed ∷ Word ∷ Word ∷ []) ∷  -- sigaction(sig, act, oact)
    line (Signals signals.Sigaltstack) (codes "sigaltstack") (Both 186) (Word ∷ Word ∷ []) ∷  -- sigaltstack(uss, uoss)
    line (Signals signals.Sigprocmask) (codes "sigprocmask") (Both 126) (Signed ∷ Word ∷ Word ∷ []) ∷  -- sigprocmask(how, nset, oset)
    []

abbrev pub return_calls : List Line
return_calls =
    line (Returns returns.RtSigreturn) (codes "rt_sigreturn") (Both 173) [] ∷  -- rt_sigreturn()
    line (Returns returns.Sigreturn) (codes "sigreturn") (Both 119) [] ∷  -- sigreturn()
    []

-- the calls on files
unfoldable pub file_calls : List Line
file_calls =
    path_calls ++ name_calls ++ descriptor_calls ++ pipe_calls ++ transfer_calls ++ vector_calls ++ sending_calls ++ listing_calls ++ status_calls ++ retiming_calls ++ length_calls

-- all other calls
unfoldable pub other_calls : List Line
other_calls = readiness_calls ++ socket_calls ++ time_calls ++ limit_calls ++ identity_calls ++ signal_calls ++ return_calls

abbrev pub calls : List Line
calls = file_calls ++ other_calls
