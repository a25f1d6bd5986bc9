-- What a record of a script does to the machine, and what it writes.
use Rattle.std.specs.Prelude.{◌≡◌, ℕ, ◌+◌, ◌/◌, ◌||◌, nat_le, if◌then◌else◌, Bool, false, List, [], ◌++◌, length, codes, Option, Some, None}
use Rattle.kernel_values.specs.declared.abi.AbiKind.{AbiKind}
use Rattle.kernel_values.specs.declared.abi.AbiKind.TheVariants.{Ia32}
use Rattle.kernel_values.specs.declared.identity.Credentials.{Credentials}
use Rattle.kernel_values.specs.declared.signals.SigInfo.{SigInfo}
use Rattle.kernel_values.specs.declared.times.Usage.{Usage}
use Rattle.user_memory.specs.Pages.{PageState, page_at, is_page, with_page, marked}
use Rattle.user_memory.specs.Memory.{is_readable, with_bytes}
use Rattle.user_memory.specs.Changes.{changes}
use Rattle.abi_registers.specs.declared.registers.Registers.{Registers}
use Rattle.abi_registers.specs.Places.{all_in, kind_in, number_in}
use Rattle.kernel_values.specs.declared.process_end.End.{End}
use Rattle.native_kernel.specs.declared.state.Identity.{Identity}
use Rattle.native_kernel.specs.declared.state.Kernel.{Kernel}
use Rattle.native_kernel.specs.Usages.{nothing_used}
use Rattle.native_kernel.specs.Operations.{advanced, end_of, image_bytes, image_directory, image_file, image_lock, posted, with_clocks, with_owner, with_usage}
use Rattle.call_tables.specs.Rows.{CallRow, row}
use Rattle.compat_calls.specs.World.{started_world}
use Rattle.compat_calls.specs.Trap.{Trapped, trapped}
use Rattle.script_reader.specs.Grammar as lines
use Rattle.script_reader.specs.Grammar.{Line}
use Rattle.replay_command.specs.declared.machine.Machine.{Machine}
use Rattle.report_text.specs.Report.{call_text, changes_text, end_text, gone_text}
use Rattle.replay_command.specs.StateText.{state_text}

-- the machine afterwards, and what was written
pub record Done : Type 0 where
  pub machine : Machine
  pub text : List ℕ

-- nothing is written
abbrev pub silent : Machine → Done
silent m = record { machine = m; text = [] }

-- the name of the call of these registers
abbrev pub row_name : Option CallRow → List ℕ
row_name None = codes "unknown"
row_name (Some row) = row.name

-- what a call writes
abbrev pub event_text : ℕ → Registers → Trapped → List ℕ
event_text k registers after =
    call_text k (row_name (row (kind_in registers) (number_in registers))) (all_in after.0) ++ changes_text (changes after.1.memory 0) ++ end_text (end_of after.1.kernel)

abbrev pub called : Machine → Registers → Trapped → Done
called m registers after = record { machine = record m { calls = m.calls + 1; world = after.1 }; text = event_text (m.calls + 1) registers after }

-- a process that has ended serves no call
abbrev pub called_where : Machine → Registers → Option End → Done
called_where m registers None = called m registers (trapped registers (record m.world { memory = marked m.world.memory }))
called_where m registers (Some end) = record { machine = record m { calls = m.calls + 1 }; text = gone_text (m.calls + 1) }

-- a call: changes are told from here on
unfoldable pub call : Machine → Registers → Done
call m registers = called_where m registers (end_of m.world.kernel)

abbrev pub with_kernel : Machine → Kernel → Machine
with_kernel m k = record m { world = record m.world { kernel = k } }

-- both clocks move, also after the end of the process
unfoldable pub advance : Machine → ℕ → Machine
advance m nanos = with_kernel m (advanced m.world.kernel nanos)

-- a process that has ended gets no signal
abbrev pub post_where : Machine → SigInfo → Option End → Machine
post_where m info None = with_kernel m (posted m.world.kernel info)
post_where m info (Some end) = m

-- a signal that another process sends; it waits until a call was served, and nothing is told of it where it is lost
unfoldable pub post : Machine → SigInfo → Machine
post m info = post_where m info (end_of m.world.kernel)

unfoldable pub set_clock : Machine → ℕ → ℕ → Machine
set_clock m real monotonic = with_kernel m (with_clocks m.world.kernel real monotonic)

-- whose process it is
unfoldable pub set_who : Machine → Credentials → Bool → Machine
set_who m owner privileged = with_kernel m (with_owner m.world.kernel owner privileged)

-- what the process has used
unfoldable pub set_usage : Machine → Usage → Machine
set_usage m usage = with_kernel m (with_usage m.world.kernel usage)

-- the return address of signal handlers
unfoldable pub set_restorer : Machine → ℕ → Machine
set_restorer m address = record m { world = record m.world { restorer = address } }

abbrev pub with_memory : Machine → List PageState → Machine
with_memory m pages = record m { world = record m.world { memory = pages } }

-- no further page can be mapped with this number
abbrev pub is_refused : List PageState → ℕ → Bool
is_refused pages number = is_page (page_at pages number) || nat_le 16384 (length pages)

-- a page with its first bytes, where it can be mapped
unfoldable pub set_page : Machine → ℕ → Bool → List ℕ → Machine
set_page m at writable bytes =
    if is_refused m.world.memory (at / 4096) then m else with_memory m (with_bytes (with_page m.world.memory (at / 4096) writable) at bytes)

-- bytes in mapped pages, whatever their rights
unfoldable pub poke : Machine → ℕ → List ℕ → Machine
poke m at bytes = if is_readable m.world.memory at (length bytes) then with_memory m (with_bytes m.world.memory at bytes) else m

-- the kind of process that the script is of
unfoldable pub set_kind : Machine → AbiKind → Machine
set_kind m kind = record m { kind = kind }

-- a directory of the image, where the path can have it
unfoldable pub set_directory : Machine → List ℕ → ℕ → Machine
set_directory m path inode = with_kernel m (image_directory m.world.kernel path inode).1

-- a file of the image
unfoldable pub set_file : Machine → List ℕ → ℕ → ℕ → Machine
set_file m path inode size = with_kernel m (image_file m.world.kernel path inode size).1

-- bytes in a file of the image
unfoldable pub set_bytes : Machine → List ℕ → ℕ → List ℕ → Machine
set_bytes m path offset bytes = with_kernel m (image_bytes m.world.kernel path offset bytes).1

-- a lock of another process on a file of the image
unfoldable pub set_lock : Machine → List ℕ → Bool → ℕ → ℕ → ℕ → Machine
set_lock m path write start count pid = with_kernel m (image_lock m.world.kernel path write start count pid).1

-- What a record does. The reader tells a page that can't be mapped, a poke outside the pages,
-- and a name, bytes or a lock that a path can't have, as a bad line.
abbrev pub applied : Machine → Line → Done
applied m (lines.Header abi) = silent (set_kind m abi)
applied m (lines.Clock real monotonic) = silent (set_clock m real monotonic)
applied m (lines.Who owner privileged) = silent (set_who m owner privileged)
applied m (lines.Usage usage) = silent (set_usage m usage)
applied m (lines.Restorer address) = silent (set_restorer m address)
applied m (lines.Page at writable bytes) = silent (set_page m at writable bytes)
applied m (lines.Dir path inode) = silent (set_directory m path inode)
applied m (lines.File path inode size) = silent (set_file m path inode size)
applied m (lines.Bytes path offset bytes) = silent (set_bytes m path offset bytes)
applied m (lines.Lock path write start count pid) = silent (set_lock m path write start count pid)
applied m (lines.Poke at bytes) = silent (poke m at bytes)
applied m (lines.Call registers) = call m registers
applied m (lines.Advance nanos) = silent (advance m nanos)
applied m (lines.Post info) = silent (post m info)
applied m lines.Show = record { machine = m; text = state_text m.kind m.world }

-- whose process it is where a script doesn't say
abbrev pub owner : Identity
owner = record {
  pid = 0x3e8;
  uid = 0x3e8;
  gid = 0x3e8;
  privileged = false;
  real = 0;
  monotonic = 0;
  usage = nothing_used;
}

-- at the start of a script, before its header
unfoldable pub start : Machine
start = record { calls = 0; kind = Ia32; world = started_world owner 0 }

-- what was to be done was done, and its text stands behind the others
pub record Did (done : Done) (now : Machine) (before after : List ℕ) : Type 0 where
  pub machine : now ≡ done.machine
  pub text : after ≡ before ++ done.text
