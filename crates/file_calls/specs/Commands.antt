-- The commands of fcntl and fcntl64, by include/uapi/asm-generic/fcntl.h and include/uapi/linux/fcntl.h.
use Rattle.std.specs.Prelude.{◌≡◌, ℕ, ℤ, pos, ◌==◌, ◌||◌, Bool, true, false, Result, Ok, Err, if◌then◌else◌}
use Rattle.kernel_values.specs.OpenFlags.{from_word, to_word}
use Rattle.kernel_values.specs.declared.abi.AbiKind.{AbiKind}
use Rattle.kernel_values.specs.declared.errno.Errno.{Errno}
use Rattle.kernel_values.specs.declared.errno.Errno.TheVariants.{BadDescriptor, InvalidArgument}
use Rattle.kernel_values.specs.declared.errno.KernelFault.{KernelFault}
use Rattle.kernel_values.specs.declared.errno.KernelFault.TheVariants as fault
use Rattle.native_kernel.specs.declared.state.Kernel.{Kernel}
use Rattle.native_kernel.specs.Operations as native
use Rattle.file_calls.specs.declared.commands.Command.{Command}
use Rattle.file_calls.specs.declared.commands.Command.TheVariants as command
use Rattle.file_calls.specs.declared.commands.DescriptorCommand.{DescriptorCommand}
use Rattle.file_calls.specs.declared.commands.DescriptorCommand.TheVariants as commands
use Rattle.file_calls.specs.declared.commands.LockCommand.TheVariants as locks

-- F_DUPFD 0, F_GETFD 1, F_SETFD 2, F_GETFL 3, F_SETFL 4, F_DUPFD_CLOEXEC 1030
abbrev pub descriptor_command : ℕ → DescriptorCommand
descriptor_command n =
    if n == 0 then commands.Duplicate
    else (if n == 1 then commands.DescriptorFlags
    else (if n == 2 then commands.SetDescriptorFlags
    else (if n == 3 then commands.OpenFlags
    else (if n == 4 then commands.SetOpenFlags
    else (if n == 1030 then commands.DuplicateCloseOnExec else commands.Other)))))

-- of fcntl also F_GETLK 5, F_SETLK 6 and F_SETLKW 7
unfoldable pub command_of : ℕ → Command
command_of n =
    if n == 5 then command.Lock locks.Find
    else (if (n == 6) || (n == 7) then command.Lock locks.Set else command.Descriptor (descriptor_command n))

-- and of fcntl64 besides these F_GETLK64 12, F_SETLK64 13 and F_SETLKW64 14
unfoldable pub command_64_of : ℕ → Command
command_64_of n =
    if n == 12 then command.Lock locks.Find64
    else (if (n == 13) || (n == 14) then command.Lock locks.Set64 else command_of n)

-- a command on a descriptor may take memory where it copies the descriptor
abbrev pub copy_takes_memory : DescriptorCommand → Bool
copy_takes_memory commands.Duplicate = true
copy_takes_memory commands.DescriptorFlags = false
copy_takes_memory commands.SetDescriptorFlags = false
copy_takes_memory commands.OpenFlags = false
copy_takes_memory commands.SetOpenFlags = false
copy_takes_memory commands.DuplicateCloseOnExec = true
copy_takes_memory commands.Other = false

-- and one on locks where it sets them
abbrev pub command_takes_memory : Command → Bool
command_takes_memory (command.Descriptor c) = copy_takes_memory c
command_takes_memory (command.Lock locks.Find) = false
command_takes_memory (command.Lock locks.Set) = true
command_takes_memory (command.Lock locks.Find64) = false
command_takes_memory (command.Lock locks.Set64) = true

-- a command gave the answer and the kernel of its definition; memory was wanting only where it may take some
abbrev pub GivesBy : Bool → Result ℕ KernelFault → Kernel → Result ℕ Errno × Kernel → Type 0
GivesBy takes (Ok n) after defined = defined ≡ (Ok n, after)
GivesBy takes (Err (fault.Errno e)) after defined = defined ≡ (Err e, after)
GivesBy takes (Err fault.OutOfMemory) after defined = takes ≡ true

-- an answer in another form
abbrev pub answering : {A B S : Type 0} → (A → B) → Result A Errno × S → Result B Errno × S
answering f (Ok x, s) = (Ok (f x), s)
answering f (Err e, s) = (Err e, s)

-- what a command asks of the kernel; one that there isn't is refused behind the test of the descriptor
unfoldable pub asked : AbiKind → Kernel → ℤ → DescriptorCommand → ℕ → Result ℕ Errno × Kernel
asked kind k fd commands.Duplicate argument = native.duplicate k fd (pos argument) false
asked kind k fd commands.DescriptorFlags argument = (native.fd_flags k fd, k)
asked kind k fd commands.SetDescriptorFlags argument = answering (λ _. 0) (native.set_fd_flags k fd argument)
asked kind k fd commands.OpenFlags argument = answering (to_word kind) (native.open_flags k fd, k)
asked kind k fd commands.SetOpenFlags argument = answering (λ _. 0) (native.set_open_flags k fd (from_word kind argument))
asked kind k fd commands.DuplicateCloseOnExec argument = native.duplicate k fd (pos argument) true
asked kind k fd commands.Other argument = (if native.can_use k fd false false then Err InvalidArgument else Err BadDescriptor, k)
