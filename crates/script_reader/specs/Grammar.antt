-- The lines of a script: the header, and what each other line says by itself.
use Rattle.std.specs.Prelude.{◌≡◌, ◌<◌, ◌≤◌, ⊤, ℕ, pos, negsuc, ◌+◌, ◌%◌, ◌^◌, ◌==◌, ◌&&◌, nat_le, if◌then◌else◌, Bool, true, false, List, [], length, count_by, codes, Option, Some, None, Result, Ok, Err}
use Rattle.std.specs.Option.{unwrap_or, ok_or}
use Rattle.abi_registers.specs.declared.registers.Registers.{Registers}
use Rattle.abi_registers.specs.declared.registers.Registers.TheVariants.{Ia32, Arm}
use Rattle.kernel_values.specs.declared.abi.AbiKind.{AbiKind}
use Rattle.kernel_values.specs.declared.abi.AbiKind.TheVariants as abi
use Rattle.kernel_values.specs.declared.identity.Credentials.{Credentials}
use Rattle.kernel_values.specs.declared.signals.SigInfo.{SigInfo}
use Rattle.kernel_values.specs.declared.times.Usage as times
use Rattle.script_reader.specs.declared.fault.LineCause.{LineCause}
use Rattle.script_reader.specs.declared.fault.LineCause.TheVariants as causes
use Rattle.script_reader.specs.declared.grammar.Keyword.{Keyword}
use Rattle.script_reader.specs.declared.grammar.Keyword.TheVariants as keywords
use Rattle.script_reader.specs.declared.grammar.Said.{Said}
use Rattle.script_reader.specs.declared.grammar.Said.TheVariants as answers
use Rattle.script_reader.specs.declared.record.Record.{Record}
use Rattle.script_reader.specs.declared.record.Record.TheVariants as records
use Rattle.script_reader.specs.Fields.{◌>>=◌, same, first_field, after_field, two_fields, three_fields, four_fields, five_fields, number, word, clock, count, fields_in, data_of, path_of, inode_of, size_of, number_below}

-- what a line says
pub data Line : Type 0 where
  Header : (abi : AbiKind) → Line
  Clock : (real monotonic : ℕ) → Line
  Who : (owner : Credentials) (privileged : Bool) → Line
  Usage : (usage : times.Usage) → Line
  Restorer : (address : ℕ) → Line
  Page : (at : ℕ) (writable : Bool) (bytes : List ℕ) → Line
  Dir : (path : List ℕ) (inode : ℕ) → Line
  File : (path : List ℕ) (inode size : ℕ) → Line
  Bytes : (path : List ℕ) (offset : ℕ) (bytes : List ℕ) → Line
  Lock : (path : List ℕ) (write : Bool) (start count pid : ℕ) → Line
  Poke : (at : ℕ) (bytes : List ℕ) → Line
  Call : (registers : Registers) → Line
  Advance : (nanos : ℕ) → Line
  Post : (info : SigInfo) → Line
  Show : Line

-- a record without where its bytes lie in memory
abbrev pub line_of : Record → Line
line_of (records.Header abi) = Header abi
line_of (records.Clock real monotonic) = Clock real monotonic
line_of (records.Who owner privileged) = Who owner privileged
line_of (records.Usage usage) = Usage usage
line_of (records.Restorer address) = Restorer address
line_of (records.Page at writable bytes) = Page at writable bytes.items
line_of (records.Dir path inode) = Dir path inode
line_of (records.File path inode size) = File path inode size
line_of (records.Bytes path offset bytes) = Bytes path offset bytes
line_of (records.Lock path write start count pid) = Lock path write start count pid
line_of (records.Poke at bytes) = Poke at bytes.items
line_of (records.Call registers) = Call registers
line_of (records.Advance nanos) = Advance nanos
line_of (records.Post info) = Post info
line_of records.Show = Show

-- two clocks
unfoldable pub clock_line : List ℕ → Option Line
clock_line rest =
    two_fields rest >>= λ f.
    clock f.0 >>= λ real.
    clock f.1 >>= λ monotonic.
    Some (Clock real monotonic)

-- the number of a process: at least 1, and below the greatest that Linux gives, 2^22
abbrev pub pid_of : List ℕ → Option ℕ
pid_of cs = word cs >>= λ pid. if nat_le 1 pid && nat_le pid 0x3fffff then Some pid else None

-- a privilege is one digit
abbrev pub privilege_of : List ℕ → Option Bool
privilege_of cs = if same cs (codes "0") then Some false else (if same cs (codes "1") then Some true else None)

-- a process, its user and its group, and the privilege
unfoldable pub who_line : List ℕ → Option Line
who_line rest =
    four_fields rest >>= λ f.
    pid_of f.0 >>= λ pid.
    word f.1 >>= λ uid.
    word f.2 >>= λ gid.
    privilege_of f.3 >>= λ privileged.
    Some (Who (record { pid = pid; uid = uid; gid = gid }) privileged)

-- the 18 numbers of a usage
unfoldable pub usage_line : List ℕ → Option Line
usage_line rest = fields_in count 18 (Some rest) >>= λ words. Some (Usage (record { words = words }))

-- an address
unfoldable pub restorer_line : List ℕ → Option Line
restorer_line rest = word rest >>= λ address. Some (Restorer address)

-- whether a page may be written
abbrev pub rights_of : List ℕ → Option Bool
rights_of cs = if same cs (codes "r") then Some false else (if same cs (codes "rw") then Some true else None)

abbrev pub page_of : ℕ → Bool → List ℕ → Option Line
page_of at writable bytes = if (at % 4096 == 0) && nat_le (length bytes) 4096 then Some (Page at writable bytes) else None

-- an address, rights and bytes
unfoldable pub page_line : List ℕ → Option Line
page_line rest =
    three_fields rest >>= λ f.
    word f.0 >>= λ at.
    rights_of f.1 >>= λ writable.
    data_of f.2 >>= λ bytes.
    page_of at writable bytes

-- a path and an inode
unfoldable pub dir_line : List ℕ → Option Line
dir_line rest =
    two_fields rest >>= λ f.
    path_of f.0 >>= λ path.
    inode_of f.1 >>= λ inode.
    Some (Dir path inode)

-- a path, an inode and a size
unfoldable pub file_line : List ℕ → Option Line
file_line rest =
    three_fields rest >>= λ f.
    path_of f.0 >>= λ path.
    inode_of f.1 >>= λ inode.
    size_of f.2 >>= λ size.
    Some (File path inode size)

-- a path, an offset and bytes
unfoldable pub bytes_line : List ℕ → Option Line
bytes_line rest =
    three_fields rest >>= λ f.
    path_of f.0 >>= λ path.
    number f.1 >>= λ offset.
    data_of f.2 >>= λ bytes.
    Some (Bytes path offset bytes)

-- whether a lock is one of writers
abbrev pub lock_kind_of : List ℕ → Option Bool
lock_kind_of cs = if same cs (codes "r") then Some false else (if same cs (codes "w") then Some true else None)

-- the process that has a lock
abbrev pub holder_of : List ℕ → Option ℕ
holder_of cs = number_below (2 ^ 31) cs

-- no lock reaches past byte 2^63 - 1
abbrev pub lock_of : List ℕ → Bool → ℕ → ℕ → ℕ → Option Line
lock_of path write start count pid = if nat_le (start + count) (2 ^ 63) then Some (Lock path write start count pid) else None

-- a path, a kind, a first byte, a length and a process
unfoldable pub lock_line : List ℕ → Option Line
lock_line rest =
    five_fields rest >>= λ f.
    path_of f.0 >>= λ path.
    lock_kind_of f.1 >>= λ write.
    number f.2 >>= λ start.
    number f.3 >>= λ count.
    holder_of f.4 >>= λ pid.
    lock_of path write start count pid

-- an address and bytes
unfoldable pub poke_line : List ℕ → Option Line
poke_line rest =
    two_fields rest >>= λ f.
    word f.0 >>= λ at.
    data_of f.1 >>= λ bytes.
    Some (Poke at bytes)

-- all registers
abbrev pub registers_in : AbiKind → List ℕ → Option Registers
registers_in abi.Ia32 rest = fields_in word 10 (Some rest) >>= λ words. Some (Ia32 words)
registers_in abi.ArmEabi rest = fields_in word 17 (Some rest) >>= λ words. Some (Arm words)

unfoldable pub call_line : AbiKind → List ℕ → Option Line
call_line kind rest = registers_in kind rest >>= λ registers. Some (Call registers)

-- how long both clocks move
unfoldable pub advance_line : List ℕ → Option Line
advance_line rest = clock rest >>= λ nanos. Some (Advance nanos)

-- the number of a signal
abbrev pub signal_of : List ℕ → Option ℕ
signal_of cs = number cs >>= λ n. if nat_le 1 n && nat_le n 64 then Some n else None

-- a signal with the code 0, the process that sends it and its user
unfoldable pub post_line : List ℕ → Option Line
post_line rest =
    three_fields rest >>= λ f.
    signal_of f.0 >>= λ signal.
    word f.1 >>= λ pid.
    word f.2 >>= λ uid.
    Some (Post (record { signal = signal; errno = pos 0; code = pos 0; pid = pid; uid = uid; value = 0 }))

-- the same with the code -1, and a value
unfoldable pub queue_line : List ℕ → Option Line
queue_line rest =
    four_fields rest >>= λ f.
    signal_of f.0 >>= λ signal.
    word f.1 >>= λ pid.
    word f.2 >>= λ uid.
    word f.3 >>= λ value.
    Some (Post (record { signal = signal; errno = pos 0; code = negsuc 0; pid = pid; uid = uid; value = value }))

-- the ABI that a header names
unfoldable pub abi_of : List ℕ → Option AbiKind
abi_of line = if same line (codes "abi ia32 1") then Some abi.Ia32 else (if same line (codes "abi arm 1") then Some abi.ArmEabi else None)

-- what a line is about, by its first field
unfoldable pub keyword_of : List ℕ → Option Keyword
keyword_of name =
    if same name (codes "call") then Some keywords.Call
    else (if same name (codes "advance") then Some keywords.Advance
    else (if same name (codes "poke") then Some keywords.Poke
    else (if same name (codes "page") then Some keywords.Page
    else (if same name (codes "dir") then Some keywords.Dir
    else (if same name (codes "file") then Some keywords.File
    else (if same name (codes "data") then Some keywords.Bytes
    else (if same name (codes "lock") then Some keywords.Lock
    else (if same name (codes "clock") then Some keywords.Clock
    else (if same name (codes "who") then Some keywords.Who
    else (if same name (codes "usage") then Some keywords.Usage
    else (if same name (codes "restorer") then Some keywords.Restorer
    else (if same name (codes "show") then Some keywords.Show
    else (if same name (codes "post") then Some keywords.Post
    else (if same name (codes "queue") then Some keywords.Queue
    else None))))))))))))))

-- how many fields a line has, its first one among them
abbrev pub fields_of : AbiKind → Keyword → ℕ
fields_of kind keywords.Clock = 3
fields_of kind keywords.Who = 5
fields_of kind keywords.Usage = 19
fields_of kind keywords.Restorer = 2
fields_of kind keywords.Page = 4
fields_of kind keywords.Dir = 3
fields_of kind keywords.File = 4
fields_of kind keywords.Bytes = 4
fields_of kind keywords.Lock = 6
fields_of kind keywords.Poke = 3
fields_of abi.Ia32 keywords.Call = 11
fields_of abi.ArmEabi keywords.Call = 18
fields_of kind keywords.Advance = 2
fields_of kind keywords.Post = 4
fields_of kind keywords.Queue = 5
fields_of kind keywords.Show = 1

-- fields have one space between them
abbrev pub field_count : List ℕ → ℕ
field_count line = count_by (λ b. b == 32) line + 1

-- what a line says, from the fields behind its first one
unfoldable pub line_about : AbiKind → Keyword → List ℕ → Option Line
line_about kind keywords.Clock rest = clock_line rest
line_about kind keywords.Who rest = who_line rest
line_about kind keywords.Usage rest = usage_line rest
line_about kind keywords.Restorer rest = restorer_line rest
line_about kind keywords.Page rest = page_line rest
line_about kind keywords.Dir rest = dir_line rest
line_about kind keywords.File rest = file_line rest
line_about kind keywords.Bytes rest = bytes_line rest
line_about kind keywords.Lock rest = lock_line rest
line_about kind keywords.Poke rest = poke_line rest
line_about kind keywords.Call rest = call_line kind rest
line_about kind keywords.Advance rest = advance_line rest
line_about kind keywords.Post rest = post_line rest
line_about kind keywords.Queue rest = queue_line rest
line_about kind keywords.Show rest = Some Show

-- the fields are as many as the line has, and each is of its spelling and range
abbrev pub read_about : AbiKind → Option Keyword → List ℕ → Result Line LineCause
read_about kind None line = Err causes.Word
read_about kind (Some keyword) line =
    if field_count line == fields_of kind keyword
    then ok_or (line_about kind keyword (unwrap_or (after_field line) [])) causes.Field
    else Err causes.Count

-- what a line other than the header says, or its first cause by itself
unfoldable pub read_line : AbiKind → List ℕ → Result Line LineCause
read_line kind line = read_about kind (keyword_of (first_field line)) line

-- what was read, without where its bytes lie in memory
abbrev pub said_by : Said → Result Line LineCause
said_by (answers.Record r) = Ok (line_of r)
said_by (answers.Bad cause) = Err cause

-- clocks are below their end; a page stands at a multiple of its size, and has no more bytes; a file has at most 2^40;
-- a signal is 1 to 64
abbrev pub IsInRange : Line → Type 0
IsInRange (Header kind) = ⊤
IsInRange (Clock real monotonic) = (real < 2 ^ 62) × (monotonic < 2 ^ 62)
IsInRange (Who owner privileged) = ⊤
IsInRange (Usage usage) = ⊤
IsInRange (Restorer address) = ⊤
IsInRange (Page at writable bytes) = (at % 4096 ≡ 0) × (length bytes ≤ 4096)
IsInRange (Dir path inode) = ⊤
IsInRange (File path inode size) = size ≤ 2 ^ 40
IsInRange (Bytes path offset bytes) = ⊤
IsInRange (Lock path write start count pid) = ⊤
IsInRange (Poke at bytes) = ⊤
IsInRange (Call registers) = ⊤
IsInRange (Advance nanos) = nanos < 2 ^ 62
IsInRange (Post info) = (1 ≤ info.signal) × (info.signal ≤ 64)
IsInRange Show = ⊤
