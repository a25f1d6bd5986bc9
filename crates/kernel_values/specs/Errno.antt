-- The error numbers of include/uapi/asm-generic/errno-base.h and errno.h.
use Rattle.std.specs.Prelude.{ℕ, ◌-◌, ◌^◌}
use Rattle.kernel_values.specs.declared.errno.Errno.{Errno}
use Rattle.kernel_values.specs.declared.errno.Errno.TheVariants.{NotPermitted, NoEntry, NoProcess, Interrupted, BadDescriptor, TryAgain, NoMemory, BadAddress, Busy, Exists, NoDevice, NotDirectory, IsDirectory, InvalidArgument, TableFull, TooManyDescriptors, NotTerminal, FileTooLarge, IllegalSeek, BrokenPipe, OutOfDomain, OutOfRange, NameTooLong, NoCall, NotEmpty, Loop, Overflow, NotSocket, MessageTooLong, WrongSocketType, NoProtocolOption, ProtocolNotSupported, SocketTypeNotSupported, OperationNotSupported, FamilyNotSupported, AddressInUse, NoBufferSpace, AlreadyConnected, NotConnected, ConnectionRefused}

abbrev pub number : Errno → ℕ
number NotPermitted = 1
number NoEntry = 2
number NoProcess = 3
number Interrupted = 4
number BadDescriptor = 9
number TryAgain = 11
number NoMemory = 12
number BadAddress = 14
number Busy = 16
number Exists = 17
number NoDevice = 19
number NotDirectory = 20
number IsDirectory = 21
number InvalidArgument = 22
number TableFull = 23
number TooManyDescriptors = 24
number NotTerminal = 25
number FileTooLarge = 27
number IllegalSeek = 29
number BrokenPipe = 32
number OutOfDomain = 33
number OutOfRange = 34
number NameTooLong = 36
number NoCall = 38
number NotEmpty = 39
number Loop = 40
number Overflow = 75
number NotSocket = 88
number MessageTooLong = 90
number WrongSocketType = 91
number NoProtocolOption = 92
number ProtocolNotSupported = 93
number SocketTypeNotSupported = 94
number OperationNotSupported = 95
number FamilyNotSupported = 97
number AddressInUse = 98
number NoBufferSpace = 105
number AlreadyConnected = 106
number NotConnected = 107
number ConnectionRefused = 111

-- the result word of a call that answers this number: its two's complement in 32 bits
unfoldable pub errno_word : Errno → ℕ
errno_word e = 2 ^ 32 - number e
